-- A reading of a part of the source, told of the source. Assumes nothing.
use Rattle.std.specs.Prelude.{◌≡◌, Bool, true, false, ℕ, ◌+◌, ◌<◌, ◌^◌, eqb}
use Rattle.meaning.specs.declared.ReadText.{ReadText}
use Rattle.meaning.specs.declared.ReadRefusal.{ReadRefusal}
use Rattle.meaning.specs.declared.ReadText.TheVariants.{Borrowed, Written}
use Rattle.meaning.specs.declared.ReadRefusal.TheVariants.{At, NoRoom}
use Rattle.meaning.specs.declared.Refusal.{Refusal}
use Rattle.meaning.specs.declared.Refusal.TheVariants as Refusal'
use Rattle.meaning.specs.declared.Text.{Text}
use Rattle.meaning.specs.declared.Text.TheVariants as Text'
use Rattle.std.specs.Prelude.{if◌then◌else◌}
use Rattle.std.specs.Prelude.{Result, Ok, Err}
use Rattle.meaning.specs.declared.Part.{Part}
use Rattle.meaning.specs.Answers.{part_at}

-- the part begins at place s; `bad` is why a reading is refused that stops at a place
abbrev pub told_by : (ℕ → Refusal) → ℕ → Result ReadText ReadRefusal → Result Text Refusal
told_by bad s (Ok (Borrowed f u)) = Ok (Text'.Borrowed (s + f) (s + u))
told_by bad s (Ok (Written n)) = Ok (Text'.Written n)
told_by bad s (Err (At p)) = Err (bad p)
told_by bad s (Err (NoRoom n)) = Err (Refusal'.NoRoom n)

-- as a range. (No reading that is asked for one is written)
abbrev pub range_by : Refusal → ℕ → Result ReadText ReadRefusal → Result Part Refusal
range_by bad s (Ok (Borrowed f u)) = Ok (part_at (s + f) (s + u))
range_by bad s (Ok (Written n)) = Err bad
range_by bad s (Err (At p)) = Err bad
range_by bad s (Err (NoRoom n)) = Err bad

-- a borrowed range, moved on by s, still has its places in 64 bits
pub record InText (s : ℕ) (q : Result ReadText ReadRefusal) : Type 0 where
  pub first : (f u : ℕ) → q ≡ Ok (Borrowed f u) → s + f < 2 ^ 64
  pub last : (f u : ℕ) → q ≡ Ok (Borrowed f u) → s + u < 2 ^ 64
