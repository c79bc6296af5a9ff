-- What reading a body owes, by what the pass said of its course. Assumes nothing.
use mathlib.Core.Path.{◌≡◌, refl, ap, sym, ◌∙◌}
use mathlib.Core.Bool.{Bool, true, false}
use mathlib.Core.List.{List}
use Prim.Native.Nat.{ℕ, ◌+◌, ◌≤◌, ◌<◌}
use native.Mathlib.Omega.{arith}
use lib.ListN.{length}
use Rattle.meaning.specs.declared.ReadText.TheVariants as ReadText'
use Rattle.meaning.specs.declared.ReadRefusal.TheVariants as ReadRefusal'
use Rattle.std.specs.Prelude.{if◌then◌else◌}
use Rattle.meaning.specs.Walk.{Trace, size, stops, plain, value}
use Rattle.meaning.specs.Reading.{Answer, borrowed, written, refused, answer}
use Rattle.meaning.specs.Reads.{Reads}
use Rattle.laws.proofs.questions.Owed.{reads_short, reads_written, reads_refused, reads_borrowed}
use Rattle.std.specs.Prelude.{Option, Some, None, Result, Ok, Err}
use Rattle.escapes.specs.Families.{measured_of}
use Rattle.escapes.specs.Passing.{Passes}

-- what a course means, by what was said of it
abbrev Means : ℕ → Trace → Bool → Answer → Result (Option ℕ) ℕ → Type 0
Means u c y a (Ok None) = a ≡ borrowed 0 u
Means u c y a (Ok (Some n)) = (a ≡ written (value c)) × (y ≡ false) × (length (value c) ≡ n)
Means u c y a (Err p) = a ≡ refused p

means : (u : ℕ) (c : Trace) → Means u c (stops c) (answer 0 u c) (measured_of c)
unfolding answer
means u c = go (plain c) (stops c)
  where
    go : (x y : Bool) → Means u c y (if x then borrowed 0 u else if y then refused (0 + size c) else written (value c))
        (if x then (Ok None) else if y then Err (size c) else Ok (Some (length (value c))))
    go true y = refl
    go false true = ap refused (omega arith)
    go false false = (refl, refl, refl)

module _ (u : ℕ) (c : Trace) (out none left : List ℕ) (m : Result (Option ℕ) ℕ) (p : Passes c none m left) where
  said : (k : Result (Option ℕ) ℕ) → m ≡ k → Means u c (stops c) (answer 0 u c) k
  said k q = rw (sym p.answer ∙ q) at (means u c)

  pub reads_plain : m ≡ (Ok None) → Reads (answer 0 u c) out (Ok (ReadText'.Borrowed 0 u)) out
  reads_plain q = reads_borrowed (answer 0 u c) out 0 u (said (Ok None) q)

  pub reads_stop : (k : ℕ) → m ≡ Err k → Reads (answer 0 u c) out (Err (ReadRefusal'.At k)) out
  reads_stop k q = reads_refused (answer 0 u c) out k (said (Err k) q)

  module _ (n : ℕ) (q : m ≡ Ok (Some n)) where
    pub reads_long : length out < n → Reads (answer 0 u c) out (Err (ReadRefusal'.NoRoom n)) out
    reads_long h = let s = said (Ok (Some n)) q in reads_short (answer 0 u c) (value c) out n s.0 s.2 h

    pub reads_all : n ≤ length out → (m' : Result (Option ℕ) ℕ) (after : List ℕ) → Passes c out m' after → Reads (answer 0 u c) out (Ok (ReadText'.Written n)) after
    reads_all h m' after w =
        let s = said (Ok (Some n)) q in
        reads_written (answer 0 u c) (value c) out after n s.0 s.2 h (w.buffer s.1 (omega (arith, s.2)))
