-- [02 T-01] E and U& spellings from the writer. A value is walked as a text is when it is read: a byte stands for itself, or a character is spelled by others.
-- "Refusals: 12, 4, 11 (any NUL, at either setting), 9, in that order." Assumes nothing.
use Rattle.std.specs.Prelude.{Bool, not, List, [], ◌∷◌, ◌++◌, ℕ, zero, suc, ◌+◌, ◌-◌, ◌/◌, ◌%◌, ◌^◌, eqb, leb, ltb}
use Prim.Native.Char.{code}
use Rattle.meaning.specs.declared.Form.{Form}
use Rattle.meaning.specs.declared.Form.TheVariants.{Escape, Unicode}
use Rattle.meaning.specs.declared.PartSize.TheVariants.{Whole}
use Rattle.meaning.specs.declared.WritingError.{WritingError}
use Rattle.meaning.specs.declared.WritingError.TheVariants.{OverLimit, NotUtf8, HoldsNul}
use Rattle.meaning.specs.Bytes.{ascii, has, within, quote, backslash}
use Rattle.std.specs.Prelude.{if◌then◌else◌}
use Rattle.meaning.specs.Chars.{Due, due, broken, lead, base, gather, utf8}
use Rattle.meaning.specs.Walk.{Step, keep, give, stop, walk, value}
use Rattle.meaning.specs.Steps.{escape_table}
use Rattle.meaning.specs.Answers.{Outcome}
use Rattle.meaning.specs.Writer.{over_limit, writes}
use Rattle.std.specs.Prelude.{Result, Err}

-- a digit below 16, in upper case; and a number by w digits of base β, the high ones first
unfoldable pub figure : ℕ → ℕ
figure d = if ltb d 10 then code "0" + d else code "A" + (d - 10)

abbrev pub figures : ℕ → ℕ → ℕ → List ℕ
figures β zero c = []
figures β (suc w) c = figure (c / β ^ w % β) ∷ figures β w c

-- the letter that means a byte, by the table that reading goes by; 256: none does
abbrev pub letter_of : List (ℕ × ℕ) → ℕ → ℕ
letter_of [] b = 256
letter_of (r ∷ rs) b = if eqb r.1 b then r.0 else letter_of rs b

-- "backslash and quote doubled", in both
unfoldable pub is_doubled : ℕ → Bool
is_doubled b = has b (backslash ∷ quote ∷ [])

-- E: "codes 08, 0C, 0A, 0D, 09 by their letters, other codes below 20 hex as three octal digits"
unfoldable pub escape_form : ℕ → Step
unfolding is_doubled
escape_form b =
    if is_doubled b then give 0 (b ∷ b ∷ [])
    else if ltb (letter_of escape_table b) 256 then give 0 (backslash ∷ letter_of escape_table b ∷ [])
    else if ltb b 0x20 then give 0 (backslash ∷ figures 8 3 b)
    else keep

-- U&: "everything outside 20 to 7E hex by four upper-case hex digits up to FFFF, above that by `+` and six"
unfoldable pub unicode_figures : ℕ → List ℕ
unicode_figures c = if leb c 0xFFFF then backslash ∷ figures 16 4 c else backslash ∷ code "+" ∷ figures 16 6 c

-- a character of n + 1 bytes, b its first. (A value that is refused by 4 is not written: there a byte may stand for anything)
abbrev pub unicode_form : Due → ℕ → List ℕ → Step
unicode_form broken b v = keep
unicode_form (due n lo hi) b v =
    if is_doubled b then give 0 (b ∷ b ∷ [])
    else if within 0x20 0x7E b then keep
    else give n (unicode_figures (gather n lo hi (b - base n) v))

-- how the character at a value's front is spelled. (No walk asks it of no bytes)
abbrev pub form_step : Form → List ℕ → Step
form_step f [] = stop
form_step Escape (b ∷ v) = escape_form b
form_step Unicode (b ∷ v) = unicode_form (lead b) b v

abbrev pub form_opening : Form → List ℕ
form_opening Escape = ascii "E'"
form_opening Unicode = ascii "U&'"

unfoldable pub form_text : Form → List ℕ → List ℕ
form_text f v = form_opening f ++ (value (walk (form_step f) 0 v) ++ (quote ∷ []))

-- "Their length limit is the plain writer's."
unfoldable pub form_question : Form → List ℕ → List ℕ → Outcome (Result ℕ WritingError)
form_question f v out =
    if over_limit Whole v then record { answer = Err OverLimit; buffer = out }
    else if not (utf8 v) then record { answer = Err NotUtf8; buffer = out }
    else if has 0 v then record { answer = Err HoldsNul; buffer = out }
    else writes (form_text f v) out
