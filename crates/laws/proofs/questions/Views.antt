-- [01 What is carried over; Where each language form goes] "returned as slices of the lent source, proved to be that range": what the contract of a shown part
-- says where the range fits its slice, and where it does not. Assumes nothing.
use mathlib.Core.Logic.{◌⊎◌, inl, inr}
use mathlib.Core.Path.{◌≡◌}
use mathlib.Core.Bool.{false, ◌&&◌, and-false}
use mathlib.Core.List.{List, []}
use Prim.Native.Nat.{ℕ, ◌+◌, ◌≤◌, ◌<◌}
use native.Mathlib.Omega.{arith}
use lib.Dec.{leb}
use lib.ListN.{length}
use borrow.Author.Tests.{le-leb, lt-leb}
use denote.Ref.{Bor}
use Rattle.meaning.specs.Bytes.{part}
use Rattle.meaning.specs.Answers.{part_shown, part_place, IsPart}

module _ (f u : ℕ) (lent r : Bor (List ℕ)) (h : IsPart (part_shown f u lent.now) (part_place f u lent) r) where
  -- the range's bytes, as many behind the slice's start as the range begins
  pub shown_fits : f ≤ u → u ≤ length lent.now → IsPart (part f u lent.now) (lent.ref_ptr.0, lent.ref_ptr.1 + f) r
  unfolding part_shown
  shown_fits p q =
      let a = le-leb f u p in let b = le-leb u (length lent.now) q in
      record { bytes = rw (a, b) at h.bytes; place = rw (a, b) at h.place }

  -- an empty part at the slice's start
  pub shown_none : (u < f) ⊎ (length lent.now < u) → IsPart [] lent.ref_ptr r
  unfolding part_shown
  shown_none o =
      let e = misfits o in let z : lent.ref_ptr.1 + 0 ≡ lent.ref_ptr.1 = omega arith in
      record { bytes = rw e at h.bytes; place = rw (e, z) at h.place }
    where
      misfits : (u < f) ⊎ (length lent.now < u) → (leb f u && leb u (length lent.now)) ≡ false
      misfits (inl l) = rw (lt-leb f u l)
      misfits (inr l) = rw (lt-leb u (length lent.now) l) (and-false (leb f u))
