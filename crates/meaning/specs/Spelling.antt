-- [01 One segment] How a text that is read as one is spelled, and from where to where its body goes. Assumes nothing.
use Rattle.std.specs.Prelude.{Bool, false, ◌&&◌, not, List, [], ◌∷◌, map, ℕ, zero, suc, ◌+◌, ◌-◌, eqb, leb, ltb, length, take, drop}
use Prim.Native.Char.{code}
use Rattle.meaning.specs.Bytes.{◌!◌, part, ascii, has, same, span, within, quote, dquote, backslash, starts_tag, in_tag, digit}
use Rattle.std.specs.Prelude.{if◌then◌else◌}
use Rattle.meaning.specs.Chars.{Due, due, broken, space, lead, laters}
use Rattle.meaning.specs.Walk.{Trace, walk, size, stops, value}
use Rattle.meaning.specs.Steps.{standard_step, closing_step, trim}
use Rattle.meaning.specs.Cutting.{opening}

-- standard: its mark; unicode: its escape character's bytes; then the body's place and end
pub data Spelling : Type 0 where
  standard : ℕ → ℕ → ℕ → Spelling
  escape : ℕ → ℕ → Spelling
  unicode : List ℕ → ℕ → ℕ → Spelling
  dollar : ℕ → ℕ → Spelling
  unspelt : Spelling

-- the mark q stands at place n and, as another byte, at the end
unfoldable pub encloses : ℕ → ℕ → List ℕ → Bool
encloses n q t = ltb (suc n) (length t) && eqb (t ! n) q && eqb (t ! (length t - 1)) q

-- UESCAPE. "the escape is one character, not a hex digit, `+`, a quote mark or white space"
abbrev pub is_one : Due → List ℕ → Bool
is_one broken t = false
is_one (due n lo hi) t = laters n t

abbrev pub legal_escape : List ℕ → Bool
legal_escape [] = false
legal_escape (b ∷ t) = is_one (lead b) t && ltb 15 (digit b) && not (has b (ascii "+'\"")) && eqb (space (b ∷ t)) 0

abbrev pub argument_by : Trace → List ℕ
argument_by r = if not (stops r) && legal_escape (value r) then value r else []

-- the escape character's bytes by a quoted argument, which is read with the setting off; []: it is no legal argument
unfoldable pub argument : List ℕ → List ℕ
argument a = if encloses 0 quote a then argument_by (walk (standard_step false quote) 0 (part 1 (length a - 1) a)) else []

unfoldable pub upper : ℕ → ℕ
upper b = if within 97 122 b then b - 32 else b

-- the escape character by what follows the closing mark and white space: a backslash at the text's end, or a UESCAPE clause;
-- []: nothing that may follow
abbrev pub chosen : List ℕ → List ℕ
chosen [] = backslash ∷ []
chosen (b ∷ t) = if same (map upper (take 7 (b ∷ t))) (ascii "UESCAPE") then argument (trim (drop 7 (b ∷ t))) else []

abbrev pub unicode_by : List ℕ → ℕ → Spelling
unicode_by [] n = unspelt
unicode_by (b ∷ e) n = unicode (b ∷ e) 3 n

-- U& and the mark q, closed by the first undoubled mark, no backslash hiding one
abbrev pub closed_unicode : List ℕ → Trace → Spelling
closed_unicode t r = if stops r then unicode_by (chosen (trim (drop (4 + size r) t))) (3 + size r) else unspelt

unfoldable pub is_unicode : ℕ → List ℕ → Bool
is_unicode q t = has (t ! 0) (ascii "Uu") && eqb (t ! 1) (code "&") && eqb (t ! 2) q

unfoldable pub unicode_spelling : ℕ → List ℕ → Spelling
unicode_spelling q t = if is_unicode q t then closed_unicode t (walk (closing_step false q) 0 (drop 3 t)) else unspelt

-- DOLLAR [PostgreSQL manual 4.1.2.4]. The bytes of a delimiter at the front; 0: none
abbrev pub tag_length : List ℕ → ℕ
tag_length t = if starts_tag (t ! 0) then span in_tag t else 0

unfoldable pub delimiter : List ℕ → ℕ
delimiter t = if eqb (t ! 0) (code "$") && eqb (t ! suc (tag_length (drop 1 t))) (code "$") then suc (suc (tag_length (drop 1 t))) else 0

-- "equal delimiters at both ends, not overlapping"
abbrev pub dollar_by : List ℕ → ℕ → Spelling
dollar_by t zero = unspelt
dollar_by t (suc n) =
    if leb (suc n + suc n) (length t) && same (take (suc n) t) (drop (length t - suc n) t)
    then dollar (suc n) (length t - suc n) else unspelt

-- "Tried in this order"
unfoldable pub spelling : List ℕ → Spelling
spelling t =
    if encloses 0 quote t then standard quote 1 (length t - 1)
    else if encloses 0 dquote t then standard dquote 1 (length t - 1)
    else if has (t ! 0) (ascii "Ee") && encloses 1 quote t then escape 2 (length t - 1)
    else if has (t ! 0) (ascii "Nn") && encloses 1 quote t then standard quote 2 (length t - 1)
    else if eqb (t ! 0) (code "_") && ltb 0 (opening t) && encloses (opening t - 1) (t ! (opening t - 1)) t
    then standard (t ! (opening t - 1)) (opening t) (length t - 1)
    else if is_unicode quote t then unicode_spelling quote t
    else dollar_by t (delimiter t)
