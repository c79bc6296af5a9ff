-- [01 The writer; 02 T-02] Plain literals at a setting, whole or in parts. "Writing tests 12, 4, 11, 9." Assumes nothing.
use Rattle.std.specs.Prelude.{Bool, true, false, ◌&&◌, ◌||◌, not, List, [], ◌∷◌, ◌++◌, ℕ, ◌-◌, eqb, ltb, length}
use Prim.Native.Char.{code}
use Rattle.meaning.specs.declared.Settings.{Settings}
use Rattle.meaning.specs.declared.PartSize.{PartSize}
use Rattle.meaning.specs.declared.PartSize.TheVariants.{Whole, AtMost}
use Rattle.meaning.specs.declared.WritingError.{WritingError}
use Rattle.meaning.specs.declared.WritingError.TheVariants.{OverLimit, NotUtf8, HoldsNul, NoRoom}
use Rattle.meaning.specs.Bytes.{has, quote, backslash}
use Rattle.std.specs.Prelude.{if◌then◌else◌}
use Rattle.meaning.specs.Chars.{utf8, width}
use Rattle.meaning.specs.Answers.{Outcome, by_room, filled}
use Rattle.std.specs.Prelude.{Result, Ok, Err}

-- "Doubles '. Setting on: doubles backslash, NUL becomes \0." How one byte of the value is spelled
unfoldable pub spell : Bool → ℕ → List ℕ
spell bs b =
    if eqb b quote then quote ∷ quote ∷ []
    else if bs && eqb b backslash then backslash ∷ backslash ∷ []
    else if bs && eqb b 0 then backslash ∷ code "0" ∷ []
    else b ∷ []

abbrev pub spells : Bool → List ℕ → List ℕ
spells bs [] = []
spells bs (b ∷ v) = spell bs b ++ spells bs v

-- a value as one literal; "The empty value is ''"
abbrev pub literal : Bool → List ℕ → List ℕ
literal bs v = quote ∷ spells bs v ++ (quote ∷ [])

-- PARTS. "fills each part with as many whole characters as fit that many value bytes": the part at hand, which may take n bytes
-- more, and the parts behind it, of w bytes each at the most. There is always one at hand: `on_first` is asked of no empty list
abbrev pub on_first : ℕ → List (List ℕ) → List (List ℕ)
on_first b [] = (b ∷ []) ∷ []
on_first b (p ∷ ps) = (b ∷ p) ∷ ps

abbrev pub parts_from : ℕ → ℕ → List ℕ → List (List ℕ)
parts_from w n [] = [] ∷ []
parts_from w n (b ∷ v) = elim (ltb n (width b)) [ true ↦ [] ∷ on_first b (parts_from w (w - 1) v) | false ↦ on_first b (parts_from w (n - 1) v) ]

abbrev pub parts_of : PartSize → List ℕ → List (List ℕ)
parts_of Whole v = v ∷ []
parts_of (AtMost w) v = parts_from w w v

-- "puts one space between parts"; [02 T-02] "The writer now puts one LF." (There is always a part)
abbrev pub between : List ℕ
between = code "\n" ∷ []

abbrev pub literals : Bool → List (List ℕ) → List ℕ
literals bs [] = []
literals bs (p ∷ []) = literal bs p
literals bs (p ∷ (q ∷ ps)) = literal bs p ++ (between ++ literals bs (q ∷ ps))

unfoldable pub written_text : Settings → PartSize → List ℕ → List ℕ
written_text σ size v = literals σ.backslash (parts_of size v)

-- "value over 268,435,456 bytes, or part size below 4"
abbrev pub part_too_small : PartSize → Bool
part_too_small Whole = false
part_too_small (AtMost w) = ltb w 4

unfoldable pub over_limit : PartSize → List ℕ → Bool
over_limit size v = ltb 268435456 (length v) || part_too_small size

-- a NUL with the setting off
unfoldable pub unwritable_nul : Settings → List ℕ → Bool
unwritable_nul σ v = not σ.backslash && has 0 v

abbrev pub writes : List ℕ → List ℕ → Outcome (Result ℕ WritingError)
writes t out = record { answer = by_room Ok (λ n. Err (NoRoom n)) (length t) (length out); buffer = filled t out }

unfoldable pub write_question : Settings → PartSize → List ℕ → List ℕ → Outcome (Result ℕ WritingError)
write_question σ size v out =
    if over_limit size v then record { answer = Err OverLimit; buffer = out }
    else if not (utf8 v) then record { answer = Err NotUtf8; buffer = out }
    else if unwritable_nul σ v then record { answer = Err HoldsNul; buffer = out }
    else writes (written_text σ size v) out
