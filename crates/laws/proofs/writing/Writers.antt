-- [01 The writer; 02 T-01] What all writers have in common: they test 12, 4, 11 in this order, and then put a text where there is room. So what differs is
-- which tests, and which text. Assumes nothing.
use mathlib.Core.Path.{◌≡◌, refl, ap}
use mathlib.Core.Bool.{Bool, true, false, not}
use mathlib.Core.List.{List, ◌++◌}
use Prim.Native.Nat.{ℕ, ◌≤◌, ◌<◌}
use native.Mathlib.Omega.{arith}
use lib.Dec.{leb}
use lib.ListN.{length, take, drop}
use lib.Seq.{take-append_seam}
use borrow.Author.Tests.{le-leb, lt-leb}
use Rattle.meaning.specs.declared.WritingError.{WritingError}
use Rattle.meaning.specs.declared.WritingError.TheVariants.{OverLimit, NotUtf8, HoldsNul, NoRoom}
use Rattle.std.specs.Prelude.{if◌then◌else◌}
use Rattle.meaning.specs.Answers.{Outcome, writing_number, by_room, filled}
use Rattle.meaning.specs.Writer.{writes}
use Rattle.std.specs.Prelude.{Result, Ok, Err}

-- x: over the limit; y: UTF-8; z: a NUL that may not be written; and the text t
abbrev pub tried : Bool → Bool → Bool → List ℕ → List ℕ → Outcome (Result ℕ WritingError)
tried x y z t out =
    if x then record { answer = Err OverLimit; buffer = out }
    else if not y then record { answer = Err NotUtf8; buffer = out }
    else if z then record { answer = Err HoldsNul; buffer = out }
    else writes t out

-- the first test that fails answers, and the buffer stays; where none does, the text is put
module _ (x y z : Bool) (t out : List ℕ) where
  pub tried_limit : x ≡ true → tried x y z t out ≡ record { answer = Err OverLimit; buffer = out }
  tried_limit ex = rw ex

  pub tried_utf8 : x ≡ false → y ≡ false → tried x y z t out ≡ record { answer = Err NotUtf8; buffer = out }
  tried_utf8 ex ey = rw (ex, ey)

  pub tried_nul : x ≡ false → y ≡ true → z ≡ true → tried x y z t out ≡ record { answer = Err HoldsNul; buffer = out }
  tried_nul ex ey ez = rw (ex, ey, ez)

  pub tried_writes : x ≡ false → y ≡ true → z ≡ false → tried x y z t out ≡ writes t out
  tried_writes ex ey ez = rw (ex, ey, ez)

-- put where there is room; where there is none, its length is asked for
module _ {A : Type 0} (written short : ℕ → A) (t out : List ℕ) where
  abbrev pub placed : Outcome A
  placed = record { answer = by_room written short (length t) (length out); buffer = filled t out }

  pub placed_all : length t ≤ length out → placed ≡ record { answer = written (length t); buffer = t ++ drop (length t) out }
  unfolding filled
  placed_all h = rw (le-leb (length t) (length out) h)

  pub placed_none : length out < length t → placed ≡ record { answer = short (length t); buffer = out }
  unfolding filled
  placed_none h = rw (lt-leb (length t) (length out) h)

module _ (t out : List ℕ) where
  pub writes_all : length t ≤ length out → writes t out ≡ record { answer = Ok (length t); buffer = t ++ drop (length t) out }
  writes_all h = placed_all Ok (λ n. Err (NoRoom n)) t out h

  pub writes_none : length out < length t → writes t out ≡ record { answer = Err (NoRoom (length t)); buffer = out }
  writes_none h = placed_none Ok (λ n. Err (NoRoom n)) t out h

-- one that wrote has passed the tests
pub record Passed (x y z : Bool) : Type 0 where
  pub limit : x ≡ false
  pub valid : y ≡ true
  pub nul : z ≡ false

pub written_passed : (x y z : Bool) (t out : List ℕ) (n : ℕ) → (tried x y z t out).answer ≡ Ok n → Passed x y z
written_passed true y z t out n e = absurd (omega (arith, ap writing_number e))
written_passed false false z t out n e = absurd (omega (arith, ap writing_number e))
written_passed false true true t out n e = absurd (omega (arith, ap writing_number e))
written_passed false true false t out n e = record { limit = refl; valid = refl; nul = refl }

-- the text t was written: n is its length, and the buffer begins with it
pub record Wrote (t : List ℕ) (n : ℕ) (after : List ℕ) : Type 0 where
  pub size : n ≡ length t
  pub text : take n after ≡ t

pub writes_wrote : (t out : List ℕ) (n : ℕ) → (writes t out).answer ≡ Ok n → Wrote t n (writes t out).buffer
unfolding filled
writes_wrote t out n e = go (leb (length t) (length out)) e
  where
    go : (x : Bool) → (if x then Ok (length t) else Err (NoRoom (length t))) ≡ Ok n → Wrote t n (if x then t ++ drop (length t) out else out)
    go true e = let z : n ≡ length t = cc in record { size = z; text = rw z (take-append_seam t (drop (length t) out)) }
    go false e = absurd (omega (arith, ap writing_number e))
