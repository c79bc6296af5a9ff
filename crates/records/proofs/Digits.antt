-- The decimal digits of a number of 64 bits, from the end of 21 bytes back. Assumes nothing.
use mathlib.Core.Path.{◌≡◌, ap, sym, ◌∙◌}
use mathlib.Core.List.{List, [], ◌∷◌, ◌++◌, append_assoc, append-nil}
use Prim.Native.Nat.{ℕ, suc, ◌+◌, ◌-◌, ◌/◌, ◌%◌, ◌≤◌, ◌<◌}
use native.Mathlib.Nat.{lt_of_lt_of_le}
use native.Mathlib.Omega.{arith}
use mir.Syntax.{w64}
use mir.Val.{Fits}
use lib.Dec.{lit≤}
use lib.ListN.{length, drop, set, length-append, length-set, drop_of_length-le}
use Rattle.meaning.specs.Numbers.{digits_of}
use Rattle.laws.proofs.basics.Halves.{small_or, digits_of_small, digits_of_step, digits_of_more, digits_of_length}
use Rattle.laws.proofs.basics.Lists.{drop_set_here}
use Rattle.records.specs.Adding.{EndsIn}

some : (n : ℕ) → 1 ≤ length (digits_of n)
some n =
    small_or n (λ h. rw (digits_of_small n h) (omega arith))
    (λ h. rw (digits_of_step n h, length-append) (omega arith))

-- the digits of `left` are still to come, up to place i
pub record Printing (value left i : ℕ) (digits : List ℕ) : Type 0 where
  pub long : length digits ≡ 21
  pub inside : i ≤ 20
  pub room : length (digits_of left) ≤ i
  pub same : digits_of left ++ drop (suc i) digits ≡ digits_of value

pub printing_start : (value : ℕ) → Fits w64 value → (digits : List ℕ) → length digits ≡ 21 → Printing value value 20 digits
printing_start value f digits l = record {
  long = l;
  inside = omega arith;
  room = digits_of_length 19 value (lt_of_lt_of_le f.fits (lit≤ tt));
  same = ap (digits_of value ++◌) (drop_of_length-le digits {i = 21} (omega arith)) ∙ append-nil (digits_of value);
}

module _ {value left i : ℕ} {digits : List ℕ} (c : Printing value left i digits) where
  pub printing_place : 10 ≤ left → 2 ≤ i
  printing_place h = let s = some (left / 10) in let m = digits_of_more left h in omega (arith, c.room)

  pub printing_first : 1 ≤ i
  printing_first = let s = some left in omega (arith, c.room)

  pub printing_turn : 10 ≤ left → Printing value (left / 10) (i - 1) (set digits i (48 + left % 10))
  printing_turn h =
      let p = printing_place h in
      let m = digits_of_more left h in
      let k : i < length digits = omega (arith, c.long, c.inside) in
      let s : suc (i - 1) ≡ i = omega arith in
      record {
        long = length-set digits i (48 + left % 10) ∙ c.long;
        inside = omega (arith, c.inside);
        room = omega (arith, c.room);
        same =
            rw (s, drop_set_here digits i (48 + left % 10) k)
            (sym (append_assoc (digits_of (left / 10)) ((48 + left % 10) ∷ []) (drop (suc i) digits))
            ∙ ap (◌++ drop (suc i) digits) (sym (digits_of_step left h)) ∙ c.same);
      }

  pub printing_end : left < 10 → EndsIn (digits_of value) 1 i (set digits i (48 + left))
  printing_end h =
      let k : i < length digits = omega (arith, c.long, c.inside) in
      record {
        above = printing_first;
        inside = omega (arith, c.inside);
        long = length-set digits i (48 + left) ∙ c.long;
        bytes = drop_set_here digits i (48 + left) k ∙ sym (ap (◌++ drop (suc i) digits) (digits_of_small left h)) ∙ c.same;
      }
