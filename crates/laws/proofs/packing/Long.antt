-- [02 T-07] Bytes at the reverse's limit and one above it, too many to be computed: so by the laws, over every length; the request's own numbers follow. And
-- 32 bits hold the length of every literal that the reverse writes (D07-9). Assumes nothing.
use mathlib.Core.Path.{◌≡◌, ap, sym, ◌∙◌}
use mathlib.Core.List.{List, []}
use Prim.Native.Nat.{ℕ, zero, ◌+◌, ◌*◌, ◌/◌, ◌%◌, ◌≤◌, ◌<◌}
use native.Mathlib.Nat.{add-zero, mul-add, mul-div-le}
use native.Mathlib.Omega.{arith}
use lib.ListN.{length, replicate, length-replicate, drop_of_length-le}
use Rattle.meaning.specs.declared.BitStringRadix.{BitStringRadix}
use Rattle.meaning.specs.declared.BitStringRadix.TheVariants.{Binary, Hex}
use Rattle.meaning.specs.declared.BitWritingError.TheVariants.{OverLimit, NoRoom}
use Rattle.meaning.specs.Bytes.{all_zero}
use Rattle.meaning.specs.Packing.{spread, radix_bits, bit_literal, bit_write_question}
use Rattle.laws.proofs.packing.Gathered.{length_spread, units_most}
use Rattle.laws.proofs.packing.Reverse.{Fine, bit_over, bit_writes_lem, bit_writes_none, bit_literal_length}
use Rattle.std.specs.Prelude.{Err}

-- HOW LONG: no more than 2,147,483,651 bytes of B, and 536,870,915 of X
pub bit_literal_most : (r : BitStringRadix) (bytes : List ℕ) (n : ℕ) → length bytes ≤ 268435456 → Fine r bytes n
    → radix_bits r * length (bit_literal r bytes n) ≤ 2147483648 + radix_bits r * 3
bit_literal_most r bytes n h f =
    rw (bit_literal_length r bytes n f, mul-add (radix_bits r) (n / radix_bits r) 3)
    (omega (arith, mul-div-le n (radix_bits r), (units_most 8 (omega arith) n).0, f.size))

-- ZEROS: m bytes, and all their bits
zeros_fine : (r : BitStringRadix) (m : ℕ) → Fine r (replicate m 0) (8 * m)
zeros_fine r m =
    let l : length {A = ℕ} (replicate m 0) ≡ m = length-replicate m 0 in
    let z : 8 * m % 8 ≡ 0 = omega arith in
    let d : 8 * m / 8 ≡ m = omega arith in
    let none : length (spread 8 (replicate m 0)) ≤ 8 * m = omega (arith, length_spread 8 (replicate m 0)) in
    record { size = l ∙ rw (z, d) (sym (add-zero m)); whole = whole r; unused = ap all_zero (drop_of_length-le (spread 8 (replicate m 0)) none) }
  where
    whole : (r : BitStringRadix) → 8 * m % radix_bits r ≡ 0
    whole Binary = omega arith
    whole Hex = omega arith

-- with no buffer the literal's whole length is asked for; one byte more gives 12, whatever the count is
pub zeros_room : (r : BitStringRadix) (m : ℕ) → m ≤ 268435456
    → bit_write_question r (replicate m 0) (8 * m) [] ≡ record { answer = Err (NoRoom (8 * m / radix_bits r + 3)); buffer = [] }
zeros_room r m h =
    let f = zeros_fine r m in
    let l = bit_literal_length r (replicate m 0) (8 * m) f in
    bit_writes_lem r (replicate m 0) (8 * m) [] (omega (arith, length-replicate {A = ℕ} m 0)) f
    ∙ bit_writes_none (bit_literal r (replicate m 0) (8 * m)) [] (omega arith) ∙ ap (λ (k : ℕ). record { answer = Err (NoRoom k); buffer = [] }) l

pub many_limit : (r : BitStringRadix) (m b n : ℕ) (out : List ℕ) → 268435456 < m
    → bit_write_question r (replicate m b) n out ≡ record { answer = Err OverLimit; buffer = out }
many_limit r m b n out h = bit_over r (replicate m b) n out (omega (arith, length-replicate {A = ℕ} m b))

-- THE ROWS: 268,435,456 zero bytes and 2,147,483,648 bits, in binary and in hex; 268,435,457 bytes
pub row_binary : bit_write_question Binary (replicate 268435456 0) 2147483648 [] ≡ record { answer = Err (NoRoom 2147483651); buffer = [] }
row_binary = zeros_room Binary 268435456 (omega arith)

pub row_hex : bit_write_question Hex (replicate 268435456 0) 2147483648 [] ≡ record { answer = Err (NoRoom 536870915); buffer = [] }
row_hex = zeros_room Hex 268435456 (omega arith)

pub row_limit : (r : BitStringRadix) (b n : ℕ) (out : List ℕ) → bit_write_question r (replicate 268435457 b) n out ≡ record { answer = Err OverLimit; buffer = out }
row_limit r b n out = many_limit r 268435457 b n out (omega arith)
