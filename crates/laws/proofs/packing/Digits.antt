-- [02 T-07] Bits as bytes and as digits, on plain values: what is packed is unpacked, and what is unpacked is packed, once over the bits per digit.
-- Assumes nothing.
use mathlib.Core.Path.{◌≡◌, refl, ap, ap₂, sym, ◌∙◌}
use mathlib.Core.Bool.{Bool, true, false, false≢true}
use mathlib.Core.List.{List, [], ◌∷◌, ◌++◌, map, append-nil}
use Prim.Native.Nat.{ℕ, zero, suc, ◌+◌, ◌-◌, ◌*◌, ◌/◌, ◌%◌, ◌^◌, ◌≤◌, ◌<◌}
use Prim.Native.Char.{code}
use native.Mathlib.Nat.{lt_of_lt_of_le, add-zero, div-add-mod}
use native.Mathlib.Omega.{arith}
use borrow.Author.Tests.{eqb-true, lt-ltb, le-ltb, ltb-true}
use lib.Dec.{eqb, ltb}
use lib.Pow.{pow_mono}
use lib.ListN.{length, take, drop, replicate, length-drop, take-append-drop}
use lib.Seq.{length-take-le, take-append_seam, drop-append_seam}
use Rattle.meaning.specs.declared.BitStringRadix.{BitStringRadix}
use Rattle.meaning.specs.declared.BitStringRadix.TheVariants.{Binary, Hex}
use Rattle.meaning.specs.declared.LiteralKind.TheVariants as Kind
use Rattle.meaning.specs.Bytes.{◌!◌, within, digit, all_zero}
use Rattle.std.specs.Prelude.{if◌then◌else◌}
use Rattle.meaning.specs.Questions.{bit_base}
use Rattle.meaning.specs.Forms.{figure}
use Rattle.meaning.specs.Packing.{spread, gather, bits_per, bits_in, pack_bits, radix_bits, packed_length}
use Rattle.laws.proofs.basics.Tests.{and_left, and_right, within_yes, within_below, within_bounds}
use Rattle.laws.proofs.basics.Digits.{DigitsTo}
use Rattle.laws.proofs.writing.Figures.{figure_digit}
use Rattle.laws.proofs.packing.Gathered.{Below, units, length_spread, gather_spread, units_most, spread_gather, gather_below, gather_zeros}

-- THE KIND: its base, and its bits per digit
pub radix_base : (r : BitStringRadix) → bit_base (Kind.BitString r) ≡ 2 ^ radix_bits r
radix_base Binary = refl
radix_base Hex = refl

pub radix_bits_lem : (r : BitStringRadix) → bits_per (2 ^ radix_bits r) ≡ radix_bits r
radix_bits_lem Binary = refl
radix_bits_lem Hex = refl

pub radix_some : (r : BitStringRadix) → 0 < radix_bits r
radix_some Binary = omega arith
radix_some Hex = omega arith

pub radix_few : (r : BitStringRadix) → radix_bits r ≤ 4
radix_few Binary = omega arith
radix_few Hex = omega arith

-- ONE DIGIT. No lower-case letter
abbrev pub Upper : List ℕ → Type 0
Upper t = (i : ℕ) → i < length t → within 97 122 (t ! i) ≡ false

-- no byte below a is one
pub low_upper : (t : List ℕ) → Below 97 t → Upper t
low_upper [] h i k = absurd (omega arith)
low_upper (b ∷ t) h zero k = within_below 97 122 b h.0
low_upper (b ∷ t) h (suc i) k = low_upper t h.1 i (omega arith)

figure_low : (d : ℕ) → d < 16 → figure d < 97
unfolding figure
figure_low d h = go (ltb d 10) refl
  where
    go : (x : Bool) → ltb d 10 ≡ x → (if x then code "0" + d else code "A" + (d - 10)) < 97
    go true e = omega (arith, ltb-true d 10 e)
    go false e = omega arith

pub figures_low : (ns : List ℕ) → Below 16 ns → Below 97 (map figure ns)
figures_low [] h = tt
figures_low (d ∷ ns) h = (figure_low d h.0, figures_low ns h.1)

figure_of : (b : ℕ) → digit b < 16 → within 97 122 b ≡ false → figure (digit b) ≡ b
unfolding figure digit
figure_of b h u = go (within 48 57 b) (within 65 70 b) (within 97 102 b) refl refl refl h
  where
    go : (x y z : Bool) → within 48 57 b ≡ x → within 65 70 b ≡ y → within 97 102 b ≡ z
        → (if x then b - 48 else if y then b - 55 else if z then b - 87 else 16) < 16
        → figure (if x then b - 48 else if y then b - 55 else if z then b - 87 else 16) ≡ b
    go true y z e f g l =
        let k = within_bounds 48 57 b e in
        rw (lt-ltb (b - 48) 10 (omega arith)) (omega arith)
    go false true z e f g l =
        let k = within_bounds 65 70 b f in
        rw (le-ltb (b - 55) 10 (omega arith)) (omega arith)
    go false false true e f g l =
        let k = within_bounds 97 102 b g in
        absurd (false≢true (sym u ∙ within_yes 97 122 b k.0 (omega arith)))
    go false false false e f g l = absurd (omega arith)

-- digits that are written in upper case are their own figures
pub map_figure_digit : (ds : List ℕ) → DigitsTo 16 (length ds) ds → Upper ds → map figure (map digit ds) ≡ ds
map_figure_digit [] h u = refl
map_figure_digit (b ∷ ds) h u =
    ap₂ {B = List ℕ} (λ c t. c ∷ t) (figure_of b (h 0 (omega arith)) (u 0 (omega arith)))
    (map_figure_digit ds (λ i k. h (suc i) (omega arith)) (λ i k. u (suc i) (omega arith)))

pub map_digit_figure : (ns : List ℕ) → Below 16 ns → map digit (map figure ns) ≡ ns
map_digit_figure [] h = refl
map_digit_figure (d ∷ ns) h = ap₂ {B = List ℕ} (λ c t. c ∷ t) (figure_digit d h.0) (map_digit_figure ns h.1)

pub figures_at : (β : ℕ) → β ≤ 16 → (ns : List ℕ) → Below β ns → DigitsTo β (length (map figure ns)) (map figure ns)
figures_at β l [] h i k = absurd (omega arith)
figures_at β l (d ∷ ns) h zero k = rw (figure_digit d (lt_of_lt_of_le h.0 l)) h.0
figures_at β l (d ∷ ns) h (suc i) k = figures_at β l ns h.1 i (omega arith)

below_most : (m n : ℕ) → m ≤ n → (t : List ℕ) → Below m t → Below n t
below_most m n l [] h = tt
below_most m n l (b ∷ t) h = (lt_of_lt_of_le h.0 l, below_most m n l t h.1)

digits_below : (β : ℕ) (ds : List ℕ) → DigitsTo β (length ds) ds → Below β (map digit ds)
digits_below β [] h = tt
digits_below β (b ∷ ds) h = (h 0 (omega arith), digits_below β ds (λ i k. h (suc i) (omega arith)))

-- ZEROS
pub zeros_are : (t : List ℕ) → all_zero t ≡ true → t ≡ replicate (length t) 0
zeros_are [] h = refl
zeros_are (b ∷ t) h =
    ap₂ {B = List ℕ} (λ c s. c ∷ s) (eqb-true b 0 (and_left (eqb b 0) (all_zero t) h)) (zeros_are t (and_right (eqb b 0) (all_zero t) h))

pub zeros_all : (n : ℕ) → all_zero (replicate n 0) ≡ true
zeros_all zero = refl
zeros_all (suc n) = zeros_all n

-- BYTES. "The first bit is the top bit of the first byte; unused low bits of the last byte are zero"
pub packed_spread : (t : List ℕ) → Below 2 t → spread 8 (pack_bits t) ≡ t ++ replicate (8 * packed_length (length t) - length t) 0
unfolding pack_bits
packed_spread t h = spread_gather 8 (omega arith) t h

pub packed_front : (t : List ℕ) → Below 2 t → take (length t) (spread 8 (pack_bits t)) ≡ t
packed_front t h = rw (packed_spread t h) (take-append_seam t _)

pub packed_unused : (t : List ℕ) → Below 2 t → all_zero (drop (length t) (spread 8 (pack_bits t))) ≡ true
packed_unused t h = rw (packed_spread t h, drop-append_seam t) (zeros_all (8 * packed_length (length t) - length t))

-- and back: bytes with no unused bit set are their bits, packed
module _ (bytes : List ℕ) (n : ℕ) (size : length bytes ≡ packed_length n) where
  pub bytes_length : length (take n (spread 8 bytes)) ≡ n
  bytes_length = length-take-le n (spread 8 bytes) (omega (arith, length_spread 8 bytes, (units_most 8 (omega arith) n).0))

  pub bytes_packed : Below 256 bytes → all_zero (drop n (spread 8 bytes)) ≡ true → pack_bits (take n (spread 8 bytes)) ≡ bytes
  unfolding pack_bits
  bytes_packed b z =
      let m : length (drop n (spread 8 bytes)) ≡ 8 * length bytes - n = length-drop n (spread 8 bytes) ∙ ap (◌- n) (length_spread 8 bytes) in
      let e : take n (spread 8 bytes) ++ replicate (8 * length bytes - n) 0 ≡ spread 8 bytes =
      ap (λ (k : ℕ). take n (spread 8 bytes) ++ replicate k 0) (sym m) ∙ ap (take n (spread 8 bytes) ++◌) (sym (zeros_are (drop n (spread 8 bytes)) z))
      ∙ take-append-drop n (spread 8 bytes) in
      let u = (units_most 8 (omega arith) n).0 in
      sym (gather_zeros 8 (omega arith) (8 * length bytes - n) (take n (spread 8 bytes)) (rw bytes_length (omega (arith, size, u))))
      ∙ ap (gather 8) e ∙ gather_spread 8 (omega arith) bytes b

-- DIGITS. A count that is a multiple of w fills its numbers
units_whole : (w l : ℕ) → l % w ≡ 0 → w * units w l ≡ l
units_whole w l h = rw (h, add-zero (l / w)) (let e = div-add-mod l w in rw (h, add-zero (w * (l / w))) at e)

module _ (k : ℕ) (some : 0 < k) (few : k ≤ 4) where
  low : 2 ^ k ≤ 16
  low = pow_mono few

  -- the digits of bits are the bits again
  pub bits_in_figures : (t : List ℕ) → Below 2 t → length t % k ≡ 0 → bits_in k (map figure (gather k t)) ≡ t
  unfolding bits_in
  bits_in_figures t h m =
      let z : k * units k (length t) - length t ≡ 0 = omega (arith, units_whole k (length t) m) in
      rw (map_digit_figure (gather k t) (below_most (2 ^ k) 16 low (gather k t) (gather_below k some t h)), spread_gather k some t h, z)
      (append-nil t)

  -- and they are digits of the kind's base
  pub figures_digits : (t : List ℕ) → Below 2 t → DigitsTo (2 ^ k) (length (map figure (gather k t))) (map figure (gather k t))
  figures_digits t h = figures_at (2 ^ k) low (gather k t) (gather_below k some t h)

  pub figures_upper : (t : List ℕ) → Below 2 t → Below 97 (map figure (gather k t))
  figures_upper t h = figures_low (gather k t) (below_most (2 ^ k) 16 low (gather k t) (gather_below k some t h))

  -- the bits of digits are the digits again
  pub figures_bits_in : (ds : List ℕ) → DigitsTo (2 ^ k) (length ds) ds → Upper ds → map figure (gather k (bits_in k ds)) ≡ ds
  unfolding bits_in
  figures_bits_in ds h u =
      rw (gather_spread k some (map digit ds) (digits_below (2 ^ k) ds h)) (map_figure_digit ds (λ i l. lt_of_lt_of_le (h i l) low) u)
