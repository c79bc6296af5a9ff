-- Where the pass over a body stands, what a turn of it does, and what all of it says. Assumes nothing.
use Rattle.std.specs.Prelude.{◌≡◌, Bool, false, ◌&&◌, List, ◌++◌, ℕ, ◌+◌, ◌^◌, ◌≤◌, ◌<◌, length, drop, Option, Some, None, Result}
use Rattle.meaning.specs.Chars.{broken}
use Rattle.meaning.specs.Walk.{Step, Trace, stops, value}
use Rattle.laws.proofs.walking.Passes.{Measuring, StopsAt, Unbroken}
use Rattle.utf8.specs.Tails.{due_of}
use Rattle.escapes.specs.declared.passing.Pass.{Pass}
use Rattle.escapes.specs.Families.{due_by, course_by, measured_of}

-- what is counted so far, over the body l, by a step and whether UTF-8 is checked
abbrev pub Counted : (List ℕ → Step) → Bool → List ℕ → Pass → Type 0
Counted st ck l p = Measuring st ck l p.at p.n p.plain (due_of p.tail)

-- and, in a buffer that held d, what is written so far, where there is room for it
pub record Passing (st : List ℕ → Step) (ck : Bool) (l d out : List ℕ) (p : Pass) : Type 0 where
  pub counted : Counted st ck l p
  pub put : p.n ≤ length d → out ≡ value counted.so_far.course ++ drop p.n d
  pub same : length out ≡ length d
  pub short : length l < 2 ^ 64

-- PAST A UNIT that stands for v, takes m bytes behind its first, and is a byte that stands for itself if y says so
pub record Near (p : Pass) (m : ℕ) (v : List ℕ) : Type 0 where
  pub place : p.at + 1 + m < 2 ^ 64
  pub count : p.n + length v < 2 ^ 64

pub record Moved (ck : Bool) (p : Pass) (y : Bool) (m : ℕ) (v out : List ℕ) (q : Pass) (after : List ℕ) : Type 0 where
  pub place : q.at ≡ p.at + 1 + m
  pub count : q.n ≡ p.n + length v
  pub plainly : q.plain ≡ (p.plain && y)
  pub state : due_of q.tail ≡ due_by ck (due_of p.tail) v
  pub unbroken : Unbroken (due_of q.tail)
  -- behind c, which stands so far in a buffer that held d
  pub put : (c d : List ℕ) → length c ≡ p.n → out ≡ c ++ drop p.n d → length out ≡ length d → p.n + length v ≤ length d
      → after ≡ (c ++ v) ++ drop (p.n + length v) d
  pub same : length after ≡ length out

abbrev pub Moves : Bool → Pass → Bool → ℕ → List ℕ → List ℕ → Option Pass → List ℕ → Type 0
Moves ck p y m v out None after = broken ≡ due_by ck (due_of p.tail) v
Moves ck p y m v out (Some q) after = Moved ck p y m v out q after

-- A TURN at a place inside the body: the course stops here, or goes on
pub record Ready (st : List ℕ → Step) (ck : Bool) (l : List ℕ) (p : Pass) : Type 0 where
  pub counted : Counted st ck l p
  pub inside : p.at < length l
  pub short : length l < 2 ^ 64

pub record GoesOn (st : List ℕ → Step) (ck : Bool) (l out : List ℕ) (p q : Pass) (after : List ℕ) : Type 0 where
  pub further : p.at < q.at
  pub passes : (d : List ℕ) → Passing st ck l d out p → Passing st ck l d after q

abbrev pub Turns : (List ℕ → Step) → Bool → List ℕ → List ℕ → Pass → Option Pass → List ℕ → Type 0
Turns st ck l out p None after = StopsAt (course_by st ck l) p.at
Turns st ck l out p (Some q) after = GoesOn st ck l out p q after

-- ALL OF IT: what the course is, and what it means at the buffer's start, where there is room for it
pub record Passes (c : Trace) (out : List ℕ) (r : Result (Option ℕ) ℕ) (after : List ℕ) : Type 0 where
  pub answer : r ≡ measured_of c
  pub buffer : stops c ≡ false → length (value c) ≤ length out → after ≡ value c ++ drop (length (value c)) out
