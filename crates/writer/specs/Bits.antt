-- [02 T-07] The digits of packed bytes, and their literal. Assumes nothing.
use Rattle.std.specs.Prelude.{List, [], ◌∷◌, ◌++◌, ℕ, ◌^◌, take}
use Rattle.meaning.specs.declared.BitStringRadix.{BitStringRadix}
use Rattle.meaning.specs.declared.BitStringRadix.TheVariants.{Binary, Hex}
use Rattle.meaning.specs.Bytes.{quote}
use Rattle.meaning.specs.Forms.{figures}
use Rattle.meaning.specs.Packing.{radix_bits, radix_letter}
use Rattle.laws.proofs.packing.Figured.{figures_of}

-- how many digits a byte has; those of a byte, and those of one byte after the other
abbrev pub per_byte : BitStringRadix → ℕ
per_byte Binary = 8
per_byte Hex = 2

abbrev pub byte_digits : BitStringRadix → ℕ → List ℕ
byte_digits r b = figures (2 ^ radix_bits r) (per_byte r) b

abbrev pub digits_by : BitStringRadix → List ℕ → List ℕ
digits_by r t = figures_of (2 ^ radix_bits r) (per_byte r) t

-- the literal of the first n digits
unfoldable pub literal_by : BitStringRadix → ℕ → List ℕ → List ℕ
literal_by r n t = (radix_letter r ∷ quote ∷ []) ++ (take n (digits_by r t) ++ (quote ∷ []))
