-- What is shown of an answer: its bytes, and where they stand. Assumes nothing.
use Rattle.std.specs.Prelude.{Result, Ok, Err}
use Rattle.std.proofs.Common.{◌≡◌, ℕ, ◌+◌, ◌-◌, ◌<◌, ◌≤◌, leb, List, [], length, take, drop, sym, ap, ◌∙◌, subst, add-zero, add_comm, Bor, le-leb}
use mathlib.Core.Bool.{and-false}
use borrow.Author.Tests.{lt-leb}
use Rattle.meaning.specs.declared.ReadText.{ReadText}
use Rattle.meaning.specs.declared.ReadRefusal.{ReadRefusal}
use Rattle.meaning.specs.declared.ReadText.TheVariants as ReadText'
use Rattle.meaning.specs.declared.ReadRefusal.TheVariants as ReadRefusal'
use Rattle.meaning.specs.Answers.{IsPart, part_shown, part_place}
use Rattle.meaning.specs.Reads.{read_shown, read_place}

-- PARTS of a lent slice
module _ (f u : ℕ) (lent r : Bor (List ℕ)) where
  pub part_fits : f ≤ u → u ≤ length lent.now → r.now ≡ take (u - f) (drop f lent.now) → r.ref_ptr ≡ (lent.ref_ptr.0, f + lent.ref_ptr.1)
      → IsPart (part_shown f u lent.now) (part_place f u lent) r
  unfolding part_shown
  part_fits h i b p =
      rw (le-leb f u h, le-leb u (length lent.now) i)
      (record { bytes = b; place = p ∙ ap (λ (n : ℕ). (lent.ref_ptr.0, n)) (add_comm f lent.ref_ptr.1) })

  at_start : r.ref_ptr ≡ lent.ref_ptr → r.ref_ptr ≡ (lent.ref_ptr.0, lent.ref_ptr.1 + 0)
  at_start p = p ∙ ap (λ (n : ℕ). (lent.ref_ptr.0, n)) (sym (add-zero lent.ref_ptr.1))

  pub part_backwards : u < f → r.now ≡ [] → r.ref_ptr ≡ lent.ref_ptr → IsPart (part_shown f u lent.now) (part_place f u lent) r
  unfolding part_shown
  part_backwards h b p = rw (lt-leb f u h) (record { bytes = b; place = at_start p })

  pub part_past : length lent.now < u → r.now ≡ [] → r.ref_ptr ≡ lent.ref_ptr → IsPart (part_shown f u lent.now) (part_place f u lent) r
  unfolding part_shown
  part_past h b p = rw (lt-leb u (length lent.now) h, and-false (leb f u)) (record { bytes = b; place = at_start p })

-- THE VIEW, by the answer
module _ (text out r : Bor (List ℕ)) (a : Result ReadText ReadRefusal) where
  abbrev Shown : Result ReadText ReadRefusal → Type 0
  Shown b = IsPart (read_shown text.now out.now b) (read_place text out b) r

  pub shown_borrowed : (f u : ℕ) → a ≡ Ok (ReadText'.Borrowed f u) → IsPart (part_shown f u text.now) (part_place f u text) r → Shown a
  shown_borrowed f u q p = subst Shown (sym q) p

  pub shown_written : (n : ℕ) → a ≡ Ok (ReadText'.Written n) → IsPart (part_shown 0 n out.now) (part_place 0 n out) r → Shown a
  shown_written n q p = subst Shown (sym q) p

  pub shown_refused : (n : ℕ) → a ≡ Err (ReadRefusal'.At n) → r.now ≡ [] → r.ref_ptr ≡ text.ref_ptr → Shown a
  shown_refused n q b p = subst Shown (sym q) (record { bytes = b; place = p })

  pub shown_short : (n : ℕ) → a ≡ Err (ReadRefusal'.NoRoom n) → r.now ≡ [] → r.ref_ptr ≡ text.ref_ptr → Shown a
  shown_short n q b p = subst Shown (sym q) (record { bytes = b; place = p })
