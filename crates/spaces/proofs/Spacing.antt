-- White space at a place, by the number of the character there; and a loop that steps from one white-space character to the next. Assumes nothing.
use mathlib.Core.Path.{◌≡◌, refl, ap, sym, ◌∙◌}
use mathlib.Core.Bool.{Bool, true, false, ◌&&◌, ◌||◌}
use mathlib.Core.List.{List, [], ◌∷◌}
use Prim.Native.Nat.{ℕ, zero, suc, ◌+◌, ◌-◌, ◌≤◌, ◌<◌}
use native.Mathlib.Omega.{arith}
use native.Mathlib.Decide.{dec_lt}
use mir.Val.{bool_byte}
use lib.Dec.{eqb, leb}
use lib.ListN.{length, drop, get_or, length-drop, drop_of_length-le}
use lib.Seq.{drop-cons, drop-drop}
use Rattle.meaning.specs.Bytes.{within}
use Rattle.std.specs.Prelude.{if◌then◌else◌}
use Rattle.meaning.specs.Chars.{Due, due, broken, lead, width, width_by, is_space, space, space_at}
use Rattle.meaning.specs.Steps.{space_step, space_by, gap}
use Rattle.laws.proofs.walking.Walks.{FitsIn}
use borrow.Author.Tests.{leb-true, eqb-true, eqb-false}
use Rattle.laws.proofs.basics.Tests.{and_right, or_left, or_right, within_below, within_above}
use Rattle.laws.proofs.utf8.Utf8.{low_lead}
use Rattle.laws.proofs.cutting.Gaps.{no_space, space_fits}
use Rattle.laws.proofs.walking.Courses.{SoFar, so_far_none, so_far_give, size_here, size_end}
use Rattle.spaces.specs.Blanks.{is_blank}
use Rattle.scalars.specs.Scalars.{scalar_from, scalar_of}

pub space_none : (text : List ℕ) (at : ℕ) → length text ≤ at → 0 ≡ space (drop at text)
space_none text at h = rw (drop_of_length-le text h)

space_scalar : (d : Due) (b : ℕ) (t : List ℕ) → space_at d b t ≡ (if is_space (scalar_from d b t) then width_by d else 0)
space_scalar broken b t = rw no_space
space_scalar (due n lo hi) b t = refl

-- what is at hand: the character's number s, whether that is white space, and how wide its first byte says that it is
module _ (text : List ℕ) (at : ℕ) (h : at < length text) (s : ℕ) (p : s ≡ scalar_of (drop at text)) (x : Bool) (q : x ≡ is_space s) where
  here : space (drop at text) ≡ (if x then width (get_or text at 0) else 0)
  unfolding width
  here = rw (q, p, drop-cons text at 0 h) (space_scalar (lead (get_or text at 0)) (get_or text at 0) (drop (suc at) text))

  pub space_yes : x ≡ true → (w : ℕ) → w ≡ width (get_or text at 0) → w ≡ space (drop at text)
  space_yes y w e = e ∙ sym (rw y at here)

  pub space_no : x ≡ false → 0 ≡ space (drop at text)
  space_no y = sym (rw y at here)

-- white space lies inside its text
space_short : (b : ℕ) (t : List ℕ) → space (b ∷ t) ≤ suc (length t)
space_short b t = go (space (b ∷ t)) (space_fits b t)
  where
    go : (n : ℕ) → FitsIn (space_by n) (length t) → n ≤ suc (length t)
    go zero f = omega arith
    go (suc n) f = omega arith

-- THE LOOP: what lies between the place and i is walked
pub record Spacing (text : List ℕ) (at i : ℕ) : Type 0 where
  pub above : at ≤ i
  pub far : SoFar space_step (drop at text) (i - at)

pub spacing_start : (text : List ℕ) (at : ℕ) → Spacing text at at
spacing_start text at =
    let z : at - at ≡ 0 = omega arith in record { above = omega arith; far = rw z (so_far_none space_step (drop at text)) }

module _ {text : List ℕ} {at i : ℕ} (v : Spacing text at i) where
  pub spacing_end : length text ≤ i → i - at ≡ gap (drop at text)
  spacing_end h = sym (size_end v.far (omega (arith, length-drop at text)))

  module _ (h : i < length text) (k : ℕ) (e : k ≡ space (drop i text)) where
    inside : i - at < length (drop at text)
    inside = omega (arith, length-drop at text, v.above)

    step : space_step (drop (i - at) (drop at text)) ≡ space_by k
    step =
        let z : at + (i - at) ≡ i = omega (arith, v.above) in
        ap space_step (drop-drop (i - at) at text ∙ ap (λ (n : ℕ). drop n text) z) ∙ ap space_by (sym e)

    pub spacing_room : i + k ≤ length text
    spacing_room =
        let f : k ≤ suc (length (drop (suc i) text)) = rw (e, drop-cons text i 0 h) (space_short (get_or text i 0) (drop (suc i) text)) in
        omega (arith, length-drop (suc i) text)

    pub spacing_stop : k ≡ 0 → i - at ≡ gap (drop at text)
    spacing_stop z = sym (size_here v.far inside (step ∙ ap space_by z))

    pub spacing_on : (k ≡ 0 → ⊥) → Spacing text at (i + k)
    spacing_on z = go k step spacing_room z
      where
        go : (k : ℕ) → space_step (drop (i - at) (drop at text)) ≡ space_by k → i + k ≤ length text → (k ≡ 0 → ⊥) → Spacing text at (i + k)
        go zero s r z = absurd (z refl)
        go (suc j) s r z = record {
          above = omega (arith, v.above);
          far = so_far_give v.far j [] (i + suc j - at) (omega (arith, length-drop at text, v.above)) s (omega (arith, v.above));
        }

-- AN ASCII BYTE
module _ (b : ℕ) where
  ascii_controls : (leb 9 b && leb b 13) ≡ true → ◌≡◌ {A = ℕ} 1 (if is_space b then 1 else 0)
  unfolding is_space within
  ascii_controls h = rw h

  ascii_blank : b ≡ 32 → ◌≡◌ {A = ℕ} 1 (if is_space b then 1 else 0)
  unfolding is_space within
  ascii_blank e = rw e

  not_blank : (b ≡ 32 → ⊥) → within 0x20 0x20 b ≡ false
  not_blank n = go (dec_lt b 32)
    where
      go : Dec (b < 32) → within 0x20 0x20 b ≡ false
      go (yes p) = within_below 0x20 0x20 b p
      go (no p) = within_above 0x20 0x20 b (omega arith)

  not_controls : (leb 9 b && leb b 13) ≡ false → within 0x9 0xD b ≡ false
  unfolding within
  not_controls h = h

  not_space : b < 0x80 → (leb 9 b && leb b 13) ≡ false → (b ≡ 32 → ⊥) → is_space b ≡ false
  unfolding is_space
  not_space l h n =
      rw (
        not_controls h,
        not_blank n,
        within_below 0x85 0x85 b (omega arith),
        within_below 0xA0 0xA0 b (omega arith),
        within_below 0x1680 0x1680 b (omega arith),
        within_below 0x2000 0x200A b (omega arith),
        within_below 0x2028 0x2029 b (omega arith),
        within_below 0x202F 0x202F b (omega arith),
        within_below 0x205F 0x205F b (omega arith),
        within_below 0x3000 0x3000 b (omega arith),
      )

  -- as one test tells
  module _ (x : Bool) (e : x ≡ is_blank b) where
    pub blank_one : x ≡ true → ◌≡◌ {A = ℕ} 1 (if is_space b then 1 else 0)
    blank_one y = go (leb 9 b && leb b 13) refl (sym e ∙ y)
      where
        go : (c : Bool) → (leb 9 b && leb b 13) ≡ c → (c || eqb b 32) ≡ true → ◌≡◌ {A = ℕ} 1 (if is_space b then 1 else 0)
        go true k z = ascii_controls k
        go false k z = ascii_blank (eqb-true b 32 z)

    pub blank_low : x ≡ true → b < 0x80
    blank_low y = go (leb 9 b && leb b 13) refl (sym e ∙ y)
      where
        go : (c : Bool) → (leb 9 b && leb b 13) ≡ c → (c || eqb b 32) ≡ true → b < 0x80
        go true k z = let l = leb-true b 13 (and_right (leb 9 b) (leb b 13) k) in omega arith
        go false k z = let w = eqb-true b 32 z in omega arith

    pub solid_none : b < 0x80 → x ≡ false → ◌≡◌ {A = ℕ} 0 (if is_space b then 1 else 0)
    solid_none l y =
        let f = sym e ∙ y in
        rw (not_space l (or_left (leb 9 b && leb b 13) (eqb b 32) f) (eqb-false b 32 (or_right (leb 9 b && leb b 13) (eqb b 32) f)))

-- the same as a number
pub blank_told : (b : ℕ) (x : Bool) → x ≡ is_blank b → b < 0x80 → bool_byte x ≡ (if is_space b then 1 else 0)
blank_told b true e l = blank_one b true e refl
blank_told b false e l = solid_none b false e l refl

pub space_ascii : (text : List ℕ) (at : ℕ) → at < length text → get_or text at 0 < 0x80 → (r : ℕ) → r ≡ (if is_space (get_or text at 0) then 1 else 0)
    → r ≡ space (drop at text)
space_ascii text at h l r e =
    let z : get_or text at 0 - 0 ≡ get_or text at 0 = omega arith in
    e ∙ sym (ap space (drop-cons text at 0 h) ∙ rw (low_lead (get_or text at 0) l, z))

-- a blank of ASCII is white space of one byte
pub blank_on : {text : List ℕ} {at i : ℕ} → Spacing text at i → i < length text → (x : Bool) → x ≡ is_blank (get_or text i 0) → x ≡ true → Spacing text at (i + 1)
blank_on {text} {at} {i} v h x e y =
    spacing_on v h 1 (space_ascii text i h (blank_low (get_or text i 0) x e y) 1 (blank_one (get_or text i 0) x e y)) (λ z. omega arith)
