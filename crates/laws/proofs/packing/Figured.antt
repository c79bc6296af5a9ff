-- [02 T-07] The digits of bytes, once over k bits a digit and m digits a byte: a byte's bits are those of its digits, so bits that are gathered by k are the
-- digits; and whether bits behind a place are zeros. Assumes nothing.
use mathlib.Core.Path.{◌≡◌, refl, ap, ap₂, sym, ◌∙◌}
use mathlib.Core.Bool.{false, ◌&&◌, and-true}
use mathlib.Core.List.{List, [], ◌∷◌, ◌++◌, map, map-append}
use Prim.Native.Nat.{ℕ, zero, suc, ◌+◌, ◌*◌, ◌/◌, ◌%◌, ◌^◌, ◌<◌}
use native.Mathlib.Nat.{zero-add, add_comm, zero-mul, suc-mul, mod-lt, mod-one, pow-zero, pow-suc, mul-div_cancel, mul-mod_left}
use native.Mathlib.Omega.{arith}
use borrow.Author.Tests.{ne_eqb}
use lib.Dec.{eqb}
use lib.Pow.{pow-add, pow_pos, field, mod-mod-pow, mod-pow-add}
use lib.ListN.{length, take, drop}
use lib.Seq.{take-nil, drop-nil, take-append-add, drop-append-add, drop_at}
use Rattle.meaning.specs.Bytes.{all_zero}
use Rattle.meaning.specs.Forms.{figure, figures}
use Rattle.meaning.specs.Packing.{bits_of_number, spread, gather}
use Rattle.laws.proofs.packing.Gathered.{Below, below_append, length_bits_of_number, bits_of_number_add, spread_append, gather_spread}

-- BITS FROM A PLACE ON, and up to one: a place between two numbers
module _ (w : ℕ) where
  pub take_spread : (n : ℕ) (t : List ℕ) → take (n * w) (spread w t) ≡ spread w (take n t)
  take_spread zero t = rw (zero-mul w)
  take_spread (suc n) [] = take-nil (suc n * w)
  take_spread (suc n) (d ∷ t) =
      let e : suc n * w ≡ length (bits_of_number w d) + n * w = omega (arith, suc-mul n w, length_bits_of_number w d) in
      ap (λ (k : ℕ). take k (spread w (d ∷ t))) e ∙ take-append-add (bits_of_number w d) (spread w t) (n * w)
      ∙ ap (bits_of_number w d ++◌) (take_spread n t)

  pub drop_spread : (n : ℕ) (t : List ℕ) → drop (n * w) (spread w t) ≡ spread w (drop n t)
  drop_spread zero t = rw (zero-mul w)
  drop_spread (suc n) [] = drop-nil (suc n * w)
  drop_spread (suc n) (d ∷ t) =
      let e : suc n * w ≡ length (bits_of_number w d) + n * w = omega (arith, suc-mul n w, length_bits_of_number w d) in
      ap (λ (k : ℕ). drop k (spread w (d ∷ t))) e ∙ drop-append-add (bits_of_number w d) (spread w t) (n * w) ∙ drop_spread n t

-- DIGITS of base β as numbers, w of them; and those of one number after the other
abbrev in_base : ℕ → ℕ → ℕ → List ℕ
in_base β zero c = []
in_base β (suc w) c = (c / β ^ w % β) ∷ in_base β w c

in_base_below : (β w c : ℕ) → 0 < β → Below β (in_base β w c)
in_base_below β zero c h = tt
in_base_below β (suc w) c h = (mod-lt (c / β ^ w) h, in_base_below β w c h)

in_base_figures : (β w c : ℕ) → map figure (in_base β w c) ≡ figures β w c
in_base_figures β zero c = refl
in_base_figures β (suc w) c = ap (figure (c / β ^ w % β) ∷◌) (in_base_figures β w c)

abbrev all_in_base : ℕ → ℕ → List ℕ → List ℕ
all_in_base β w [] = []
all_in_base β w (c ∷ t) = in_base β w c ++ all_in_base β w t

all_in_base_below : (β w : ℕ) (t : List ℕ) → 0 < β → Below β (all_in_base β w t)
all_in_base_below β w [] h = tt
all_in_base_below β w (c ∷ t) h = below_append β (in_base β w c) (all_in_base β w t) (in_base_below β w c h) (all_in_base_below β w t h)

-- as text
abbrev pub figures_of : ℕ → ℕ → List ℕ → List ℕ
figures_of β w [] = []
figures_of β w (c ∷ t) = figures β w c ++ figures_of β w t

all_in_base_figures : (β w : ℕ) (t : List ℕ) → map figure (all_in_base β w t) ≡ figures_of β w t
all_in_base_figures β w [] = refl
all_in_base_figures β w (c ∷ t) = map-append figure (in_base β w c) (all_in_base β w t) ∙ ap₂ ◌++◌ (in_base_figures β w c) (all_in_base_figures β w t)

-- THEIR BITS are the number's: the low bits are not changed by what is above them
bits_of_number_mod : (k i d : ℕ) → bits_of_number k (d % 2 ^ (i + k)) ≡ bits_of_number k d
bits_of_number_mod zero i d = refl
bits_of_number_mod (suc k) i d =
    let e : i + suc k ≡ i + 1 + k = omega arith in
    rw (e, field d (i + 1) k, mod-mod-pow (d / 2 ^ k) i 1, bits_of_number_mod k (i + 1) d)

pow_pow : (k m : ℕ) → (2 ^ k) ^ m ≡ 2 ^ (m * k)
pow_pow k zero = rw (zero-mul k, pow-zero (2 ^ k))
pow_pow k (suc m) = rw (pow-suc (2 ^ k) m, pow_pow k m, ← pow-add 2 (m * k) k, suc-mul m k)

spread_in_base : (k m c : ℕ) → spread k (in_base (2 ^ k) m c) ≡ bits_of_number (m * k) c
spread_in_base k zero c = rw (zero-mul k)
spread_in_base k (suc m) c =
    rw (suc-mul m k, add_comm (m * k) k, bits_of_number_add k (m * k) c, spread_in_base k m c, pow_pow k m)
    (ap (◌++ bits_of_number (m * k) c) (rw (zero-add k) at (bits_of_number_mod k 0 (c / 2 ^ (m * k)))))

spread_all_in_base : (k m : ℕ) (t : List ℕ) → spread k (all_in_base (2 ^ k) m t) ≡ spread (m * k) t
spread_all_in_base k m [] = refl
spread_all_in_base k m (c ∷ t) = spread_append k (in_base (2 ^ k) m c) (all_in_base (2 ^ k) m t) ∙ ap₂ ◌++◌ (spread_in_base k m c) (spread_all_in_base k m t)

-- THE LAW: the first n * k bits of numbers of m digits each, gathered by k, are their first n digits
below_take : (m n : ℕ) (t : List ℕ) → Below m t → Below m (take n t)
below_take m zero t h = tt
below_take m (suc n) [] h = tt
below_take m (suc n) (b ∷ t) h = (h.0, below_take m n t h.1)

map_take : (n : ℕ) (t : List ℕ) → map figure (take n t) ≡ take n (map figure t)
map_take zero t = refl
map_take (suc n) [] = refl
map_take (suc n) (b ∷ t) = ap (figure b ∷◌) (map_take n t)

pub gather_figures : (k m n : ℕ) (t : List ℕ) → 0 < k → map figure (gather k (take (n * k) (spread (m * k) t))) ≡ take n (figures_of (2 ^ k) m t)
gather_figures k m n t z =
    let u = all_in_base (2 ^ k) m t in
    ap (λ (s : List ℕ). map figure (gather k (take (n * k) s))) (sym (spread_all_in_base k m t))
    ∙ ap (λ (s : List ℕ). map figure (gather k s)) (take_spread k n u)
    ∙ ap (map figure) (gather_spread k z (take n u) (below_take (2 ^ k) n u (all_in_base_below (2 ^ k) m t (pow_pos k))))
    ∙ map_take n u ∙ ap (take n) (all_in_base_figures (2 ^ k) m t)

-- ZEROS. A sum is zero where both are; the low y bits are zeros where they are none; and they are what is left where the x bits above them are shifted out
zero_sum : (a m c : ℕ) → 0 < m → eqb (a * m + c) 0 ≡ (eqb a 0 && eqb c 0)
zero_sum zero m c h = rw (zero-mul m, zero-add c)
zero_sum (suc a) m c h =
    let e : eqb (suc a) 0 ≡ false = ne_eqb (suc a) 0 (λ z. omega arith) in
    rw e (ne_eqb (suc a * m + c) 0 (λ z. omega (arith, suc-mul a m)))

low_zero : (y d : ℕ) → all_zero (bits_of_number y d) ≡ eqb (d % 2 ^ y) 0
low_zero zero d = rw (mod-one d)
low_zero (suc y) d =
    let e : suc y ≡ 1 + y = omega arith in
    rw (e, mod-pow-add d 1 y, zero_sum (d / 2 ^ y % 2) (2 ^ y) (d % 2 ^ y) (pow_pos y), low_zero y d)

pub shifted_zero : (x y d : ℕ) → eqb (d * 2 ^ x % 2 ^ (y + x)) 0 ≡ all_zero (drop x (bits_of_number (x + y) d))
shifted_zero x y d =
    rw (
      bits_of_number_add x y d,
      drop_at (bits_of_number x (d / 2 ^ y)) (bits_of_number y d) x (length_bits_of_number x (d / 2 ^ y)),
      low_zero y d,
      mod-pow-add (d * 2 ^ x) y x,
      mul-div_cancel d (pow_pos x),
      mul-mod_left d (2 ^ x),
    )
    (zero_sum (d % 2 ^ y) (2 ^ x) 0 (pow_pos x) ∙ and-true (eqb (d % 2 ^ y) 0))
