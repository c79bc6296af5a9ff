-- [01 Numbers and the other kinds] Bit strings, money, temporal texts, charset names. Assumes nothing.
use Rattle.std.specs.Prelude.{Bool, true, false, ◌&&◌, not, List, [], ◌∷◌, ℕ, zero, suc, ◌+◌, ◌-◌, eqb, ltb, length, take, drop}
use Prim.Native.Char.{code}
use Rattle.meaning.specs.declared.Settings.{Settings}
use Rattle.meaning.specs.Bytes.{◌!◌, part, ascii, has, starts, span, quote, in_tag, all_digits}
use Rattle.std.specs.Prelude.{if◌then◌else◌}
use Rattle.meaning.specs.Walk.{Trace, ended, stopped, kept, gave}
use Rattle.meaning.specs.Cutting.{opening, cut}
use Rattle.meaning.specs.Spelling.{delimiter}
use Rattle.meaning.specs.Reading.{Answer, borrowed, written, refused, Value, means, fails, onward, both, each, as_written, read}

-- BITS. The body of a segment whose opening has n bytes, if `right` and its bytes are digits of base β
unfoldable pub bit_body : ℕ → ℕ → Bool → List ℕ → Value
bit_body β n right s = if right && all_digits β (part n (length s - 1) s) then means (part n (length s - 1) s) else fails 0

-- "B or X segment, then only ' segments; digits by the kind's radix, not the letter"
abbrev pub first_bits : ℕ → List ℕ → Value
first_bits β s = bit_body β 2 (has (s ! 0) (ascii "BbXx")) s

abbrev pub later_bits : ℕ → List ℕ → Value
later_bits β s = bit_body β 1 (eqb (s ! 0) quote) s

abbrev pub borrowed_as : ℕ → ℕ → Value → Answer
borrowed_as f u (means v) = borrowed f u
borrowed_as f u (fails p) = refused p

-- "written if more than the first segment". (A cut keeps no byte)
abbrev pub bits_by : ℕ → List ℕ → Trace → Answer
bits_by β t (gave n s r) =
    if eqb (length s) (length t) then borrowed_as 2 (length t - 1) (first_bits β s)
    else as_written (both (first_bits β s) (onward (suc n) (each (later_bits β) r)))
bits_by β t ended = refused 0
bits_by β t stopped = refused 0
bits_by β t (kept b r) = refused 0

unfoldable pub bits : Settings → ℕ → List ℕ → Answer
bits σ β t = bits_by β t (cut σ t)

-- MONEY. "the text after $, unchecked"
unfoldable pub money : List ℕ → Answer
money t = if eqb (t ! 0) (code "$") then borrowed 1 (length t) else refused 0

-- TEMPORAL. The place of the first byte q, the length if there is none; one past the place of the last, 0 if there is none
abbrev pub first_place_of : ℕ → List ℕ → ℕ
first_place_of q t = span (λ b. not (eqb b q)) t

abbrev pub last_by : Bool → ℕ → ℕ
last_by true zero = 1
last_by false zero = 0
last_by x (suc n) = suc (suc n)

abbrev pub past_last : ℕ → List ℕ → ℕ
past_last q [] = 0
past_last q (b ∷ t) = last_by (eqb b q) (past_last q t)

-- one more than the place where p first stands; 0 if it does not
abbrev pub place_by : Bool → ℕ → ℕ
place_by true n = 1
place_by false zero = 0
place_by false (suc n) = suc (suc n)

abbrev pub found : List ℕ → List ℕ → ℕ
found p [] = 0
found p (b ∷ t) = place_by (starts p (b ∷ t)) (found p t)

pub data Token : Type 0 where
  token : ℕ → ℕ → Token
  no_token : Token

-- a dollar token at place d, "to its first close": its delimiter has n bytes, and stands again k - 1 bytes behind itself
abbrev pub closed_token : ℕ → ℕ → ℕ → Token
closed_token d n zero = no_token
closed_token d n (suc k) = token d (d + n + k + n)

abbrev pub dollar_token : ℕ → List ℕ → ℕ → Token
dollar_token d u zero = no_token
dollar_token d u (suc n) = closed_token d (suc n) (found (take (suc n) u) (drop (suc n) u))

-- "first ' to last, with a preceding E unless a tag byte stands before that E"
unfoldable pub token_start : ℕ → List ℕ → ℕ
token_start q t = if ltb 0 q && has (t ! (q - 1)) (ascii "Ee") && not (ltb 1 q && in_tag (t ! (q - 2))) then q - 1 else q

unfoldable pub quote_token : ℕ → List ℕ → Token
quote_token q t = if ltb q (length t) then token (token_start q t) (past_last quote t) else no_token

-- "a dollar token .. if $ precedes any '"
unfoldable pub temporal_token : List ℕ → Token
temporal_token t =
    if ltb (first_place_of (code "$") t) (first_place_of quote t)
    then dollar_token (first_place_of (code "$") t) (drop (first_place_of (code "$") t) t) (delimiter (drop (first_place_of (code "$") t) t))
    else quote_token (first_place_of quote t) t

-- an answer on a part of a text, as one on the text: f bytes stand before the part
abbrev pub behind : ℕ → Answer → Answer
behind f (borrowed g u) = borrowed (f + g) (f + u)
behind f (written v) = written v
behind f (refused p) = refused (f + p)

-- what stands in a token is read as a string, at a setting
abbrev pub read_token : Settings → List ℕ → Token → Answer
read_token σ t (token f u) = behind f (read σ (part f u t))
read_token σ t no_token = refused 0

unfoldable pub temporal : Settings → List ℕ → Answer
temporal σ t = read_token σ t (temporal_token t)

-- CHARSET. One past the name that stands between the first _ and a mark; 0 if none does. Nothing is asked of what follows
unfoldable pub charset_end : List ℕ → ℕ
charset_end t = if eqb (t ! 0) (code "_") then opening t - 1 else 0
