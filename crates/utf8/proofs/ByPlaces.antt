-- UTF-8 BY PLACES: a text is UTF-8 if and only if each of its bytes may stand behind the three before it and none is due at its end (`by_places`). What is
-- due behind a front of the text is told by the front's last three bytes (`Seen`). Assumes nothing.
use Rattle.std.proofs.Common.{◌≡◌, ℕ, zero, suc, ◌≤◌, Bool, true, false, not, ◌&&◌, ◌||◌, eqb, leb, List, [], ◌∷◌, length, sym, refl, ap, ◌∙◌, arith, leb-false}
use mathlib.Core.Bool.{and-false}
use borrow.Author.Tests.{lt-leb}
use Rattle.std.specs.Prelude.{if◌then◌else◌}
use Rattle.meaning.specs.Chars.{due, broken, push, pushes, whole, utf8}
use Rattle.laws.proofs.basics.Tests.{or_left, or_right, within_bounds}
use Rattle.laws.proofs.utf8.Utf8.{pushes_broken}
use Rattle.leaves.specs.Blocks.{passes}
use Rattle.utf8.specs.Places.{low_of, high_of, is_due, follows, fits, fitted, is_one}
use Rattle.utf8.proofs.Leading.{low_plain, high_plain, high_most, above, above_few, Leading, leading, leading_none}

-- n bytes are due behind p₃, p₂ and p₁
record Seen (n p₃ p₂ p₁ : ℕ) : Type 0 where
  few : n ≤ 3
  some : (leb 0xC0 p₁ || leb 0xE0 p₂ || leb 0xF0 p₃) ≡ above 0 n
  two : (leb 0xE0 p₁ || leb 0xF0 p₂) ≡ above 1 n
  three : leb 0xF0 p₁ ≡ above 2 n

seen_none : Seen 0 0 0 0
seen_none = record { few = omega arith; some = refl; two = refl; three = refl }

-- A BYTE MORE, one that is due or one that begins a character
module _ {p₃ p₂ p₁ : ℕ} (b : ℕ) where
  seen_later : {n : ℕ} → Seen (suc n) p₃ p₂ p₁ → b ≤ 0xBF → Seen n p₂ p₁ b
  seen_later {n} v h = record {
    few = omega (arith, v.few);
    some = rw (lt-leb 0xC0 b (omega arith)) v.two;
    two = rw (lt-leb 0xE0 b (omega arith)) v.three;
    three = lt-leb 0xF0 b (omega arith) ∙ sym (above_few 2 n (omega (arith, v.few)));
  }

  seen_first : Seen 0 p₃ p₂ p₁ → (l : Leading b) → Seen l.n p₂ p₁ b
  seen_first v l =
      let c = or_left (leb 0xC0 p₁ || leb 0xE0 p₂) (leb 0xF0 p₃) v.some in
      let p = leb-false 0xC0 p₁ (or_left (leb 0xC0 p₁) (leb 0xE0 p₂) c) in
      let q = leb-false 0xE0 p₂ (or_right (leb 0xC0 p₁) (leb 0xE0 p₂) c) in
      record {
        few = l.few;
        some = rw (l.some, lt-leb 0xE0 p₁ (omega arith), lt-leb 0xF0 p₂ (omega arith)) (go (above 0 l.n));
        two = rw (l.two, lt-leb 0xF0 p₁ (omega arith)) (one (above 1 l.n));
        three = l.three;
      }
    where
      go : (x : Bool) → (x || false || false) ≡ x
      go true = refl
      go false = refl

      one : (x : Bool) → (x || false) ≡ x
      one true = refl
      one false = refl

-- what is due behind a byte that follows, and that nothing is behind one that does not
record Turned (n p₃ p₂ p₁ b : ℕ) (x : Bool) : Type 0 where
  goes : x ≡ true → (m : ℕ) × (push (due n (low_of p₁) (high_of p₁)) b ≡ due m (low_of b) (high_of b)) × Seen m p₂ p₁ b
  breaks : x ≡ false → push (due n (low_of p₁) (high_of p₁)) b ≡ broken

turned : (n p₃ p₂ p₁ b : ℕ) → Seen n p₃ p₂ p₁ → Turned n p₃ p₂ p₁ b (follows p₃ p₂ p₁ b)
unfolding follows is_due
turned zero p₃ p₂ p₁ b v = rw v.some (record { goes = λ e. let l = leading b e in (l.n, l.makes, seen_first b v l); breaks = leading_none b })
turned (suc n) p₃ p₂ p₁ b v =
    rw v.some (record {
      goes = λ e.
          let k : b ≤ 0xBF = omega (arith, (within_bounds (low_of p₁) (high_of p₁) b e).1, high_most p₁) in
          (n, rw (e, low_plain b (omega arith), high_plain b (omega arith)), seen_later b v (omega arith));
      breaks = λ e. rw e;
    })

-- A TEXT: none below the least, and UTF-8 from what is due on
abbrev pub due_behind : ℕ → ℕ → ℕ → List ℕ → Bool
due_behind p₃ p₂ p₁ [] = is_due p₃ p₂ p₁
due_behind p₃ p₂ p₁ (b ∷ t) = due_behind p₂ p₁ b t

module _ (least : ℕ) where
  glue : (x k w a o d : Bool) → (x ≡ true → (w && a) ≡ (o && d)) → (x ≡ false → w ≡ false)
      → (w && (k && a)) ≡ (eqb (if k && x then 1 else 0) 1 && o && d)
  glue true true w a o d f g = f refl
  glue true false w a o d f g = and-false w
  glue false true w a o d f g = rw (g refl)
  glue false false w a o d f g = and-false w

  by_places_from : (t : List ℕ) (n p₃ p₂ p₁ : ℕ) → Seen n p₃ p₂ p₁
      → (whole (pushes (due n (low_of p₁) (high_of p₁)) t) && passes (leb least) (length t) t)
      ≡ (passes is_one (length t) (fitted least p₃ p₂ p₁ t) && not (due_behind p₃ p₂ p₁ t))
  unfolding is_due fits
  by_places_from [] zero p₃ p₂ p₁ v = rw v.some
  by_places_from [] (suc n) p₃ p₂ p₁ v = rw v.some
  by_places_from (b ∷ t) n p₃ p₂ p₁ v =
      let u = turned n p₃ p₂ p₁ b v in
      glue (follows p₃ p₂ p₁ b) (leb least b) (whole (pushes (push (due n (low_of p₁) (high_of p₁)) b) t)) (passes (leb least) (length t) t)
      (passes is_one (length t) (fitted least p₂ p₁ b t)) (not (due_behind p₂ p₁ b t))
      (λ e. let g = u.goes e in rw g.1 (by_places_from t g.0 p₂ p₁ b g.2)) (λ e. rw (u.breaks e) (ap whole (pushes_broken t)))

  pub by_places : (t : List ℕ) → (utf8 t && passes (leb least) (length t) t) ≡ (passes is_one (length t) (fitted least 0 0 0 t) && not (due_behind 0 0 0 t))
  unfolding utf8 low_of high_of
  by_places t = by_places_from t 0 0 0 0 seen_none
