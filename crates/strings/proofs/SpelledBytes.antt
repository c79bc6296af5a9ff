-- Bytes that E spells by digits, one after the other: a turn over one, and a character's end. Assumes nothing.
use mathlib.Core.Path.{◌≡◌, refl, ap, sym, ◌∙◌, subst}
use mathlib.Core.Bool.{Bool, true, false, and-false}
use mathlib.Core.List.{List, [], ◌∷◌, ◌++◌}
use Prim.Native.Nat.{ℕ, ◌+◌, ◌-◌, ◌≤◌, ◌<◌}
use native.Mathlib.Numerals.{add-one}
use native.Mathlib.Omega.{arith}
use borrow.Author.Tests.{ne_eqb}
use lib.Dec.{eqb}
use lib.ListN.{length, take, drop, set, length-set}
use lib.Seq.{take-add, take-suc-set, length-take-le}
use Rattle.meaning.specs.Chars.{fresh, push, pushes, whole, utf8}
use Rattle.meaning.specs.Steps.{escape_step}
use Rattle.laws.proofs.basics.Lists.{part_tail}
use Rattle.laws.proofs.utf8.Utf8.{pushes_append}
use Rattle.laws.proofs.utf8.Abreast.{Lows, lows_append}
use Rattle.laws.proofs.walking.Fronts.{Front, front_none, front_more}
use Rattle.utf8.specs.declared.tail.Utf8Tail.{Utf8Tail}
use Rattle.utf8.specs.declared.tail.Utf8Tail.TheVariants.{Start}
use Rattle.utf8.specs.Tails.{due_of}
use Rattle.escapes.specs.declared.units.Family.TheVariants.{Escape}
use Rattle.strings.specs.declared.taking.Raw.{Raw}
use Rattle.strings.specs.Quick.{Takes, Raws}
use Rattle.strings.proofs.TakenUnits.{abreast_low}

-- n bytes, by the first `at` of the text
pub record Spelled (text bytes : List ℕ) (tail : Utf8Tail) (at n : ℕ) : Type 0 where
  pub few : n ≤ 4
  pub some : n ≤ at
  pub four : length bytes ≡ 4
  pub front : Front escape_step text at (take n bytes) (eqb n 0)
  pub inside : at ≤ length text
  pub lows : Lows (take at text)
  pub dues : due_of tail ≡ pushes fresh (take n bytes)

pub spelled_none : (text : List ℕ) → Spelled text (0 ∷ 0 ∷ 0 ∷ 0 ∷ []) Start 0 0
spelled_none text = record { few = omega arith; some = omega arith; four = refl; front = front_none escape_step text; inside = omega arith; lows = tt; dues = refl }

-- one byte more
module _ {text bytes : List ℕ} {tail : Utf8Tail} {at n : ℕ} (s : Spelled text bytes tail at n) (h : n < 4) (raw : Raw)
    (r' : Raws (take (length text - at) (drop at text)) raw) (z : raw.len ≡ 0 → ⊥) where
  p : 0 < raw.len
  p = omega arith

  r : Raws (drop at text) raw
  r = subst (λ (t : List ℕ). Raws t raw) (part_tail text at) r'

  spelled_front : Front escape_step text (at + raw.len) (take n bytes ++ (raw.byte ∷ [])) false
  spelled_front = rw (and-false (eqb n 0)) at (front_more s.front raw.len (raw.byte ∷ []) false (r.front p))

  pub spelled_there : at + raw.len ≤ length text
  spelled_there = spelled_front.so_far.inside

  module _ (tail' : Utf8Tail) (d : due_of tail' ≡ push (due_of tail) raw.byte) where
    pub spelled_more : Spelled text (set bytes n raw.byte) tail' (at + raw.len) (n + 1)
    spelled_more =
        let i : n < length bytes = omega (arith, s.four) in
        let e : take (n + 1) (set bytes n raw.byte) ≡ take n bytes ++ (raw.byte ∷ []) = rw add-one (take-suc-set bytes n raw.byte i) in
        let o : n + 1 ≡ 0 → ⊥ = λ k. omega arith in
        record {
          few = omega arith;
          some = omega (arith, s.some);
          four = length-set bytes n raw.byte ∙ s.four;
          front = rw (e, ne_eqb (n + 1) 0 o) spelled_front;
          inside = spelled_there;
          lows = rw take-add (lows_append (take at text) (take raw.len (drop at text)) s.lows (r.lows p));
          dues = d ∙ ap (λ x. push x raw.byte) s.dues ∙ sym (ap (pushes fresh) e ∙ pushes_append fresh (take n bytes) (raw.byte ∷ []));
        }

    -- and a character ends
    pub spelled_takes : (x : Bool) → x ≡ whole (due_of tail') → x ≡ true
        → Takes Escape text (record { len = at + raw.len; put = n + 1; bytes = set bytes n raw.byte })
    unfolding utf8
    spelled_takes x ex e =
        let m = spelled_more in
        let o : n + 1 ≡ 0 → ⊥ = λ k. omega arith in
        let u : utf8 (take (n + 1) (set bytes n raw.byte)) ≡ true = ap whole (sym m.dues) ∙ sym ex ∙ e in
        let l : length (take (at + raw.len) text) ≡ at + raw.len = length-take-le (at + raw.len) text spelled_there in
        record {
          few = m.few;
          four = m.four;
          front = λ _. rw (ne_eqb (n + 1) 0 o) at m.front;
          abreast = λ _ _. abreast_low (take (at + raw.len) text) (take (n + 1) (set bytes n raw.byte)) (omega (arith, p)) m.lows u;
        }
