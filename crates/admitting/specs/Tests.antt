-- What the tests 1 to 4 tell. Assumes nothing.
use Rattle.std.specs.Prelude.{◌≡◌, Bool, ◌&&◌, not, List, ℕ, ◌≤◌, length, Result, Ok, Err}
use Rattle.meaning.specs.declared.Span.{Span}
use Rattle.meaning.specs.declared.Literal.{Literal}
use Rattle.meaning.specs.declared.Refusal.{Refusal}
use Rattle.meaning.specs.declared.Refusal.TheVariants.{MissingSource, InvalidSourceRange, NotUtf8}
use Rattle.meaning.specs.Bytes.{part}
use Rattle.std.specs.Prelude.{if◌then◌else◌}
use Rattle.meaning.specs.Chars.{utf8}
use Rattle.meaning.specs.Questions.{passes, barred, bad_span}
use Rattle.meaning.specs.Questions as Definition
use Rattle.meaning.specs.declared.Part.{Part}

-- the tests 2 and 3, and which of them a literal fails
unfoldable pub is_placed : Literal → List ℕ → Bool
is_placed l source = not l.synthetic && not (bad_span l.span source)

abbrev pub misplaced_of : Literal → Refusal
misplaced_of l = if l.synthetic then MissingSource l.span else InvalidSourceRange l.span

-- the text in a source that a range stands for
abbrev pub tested_of : List ℕ → Result Part Refusal → Definition.Tested
tested_of source (Ok π) = passes (part π.start π.end source)
tested_of source (Err r) = barred r

-- the same before the text is tested to be UTF-8
abbrev pub located_of : Literal → List ℕ → Result Part Refusal → Definition.Tested
located_of l source (Ok π) = if utf8 (part π.start π.end source) then passes (part π.start π.end source) else barred (NotUtf8 l.span)
located_of l source (Err r) = barred r

-- a range is the literal's span, and lies in the source
abbrev pub SpanInside : Literal → ℕ → Result Part Refusal → Type 0
SpanInside l n (Ok π) = (π.start ≡ l.span.start) × (π.end ≡ l.span.end) × (π.start ≤ π.end) × (π.end ≤ n)
SpanInside l n (Err r) = Unit {0}

pub record Tests (l : Literal) (source : List ℕ) (r : Result Part Refusal) (x : Definition.Tested) : Type 0 where
  pub means : tested_of source r ≡ x
  pub inside : SpanInside l (length source) r

-- it tells nothing of test 4
pub record Locates (l : Literal) (source : List ℕ) (r : Result Part Refusal) (x : Definition.Tested) : Type 0 where
  pub means : located_of l source r ≡ x
  pub inside : SpanInside l (length source) r
  pub silent : (s : Span) → r ≡ Err (NotUtf8 s) → ⊥
