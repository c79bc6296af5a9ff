-- [01 Numbers] Sign, radix prefix, separators; i64 and decimal text. Assumes nothing.
use Rattle.std.specs.Prelude.{Bool, true, false, ◌&&◌, ◌||◌, not, List, [], ◌∷◌, ◌++◌, ℕ, zero, suc, ◌+◌, ◌/◌, ◌%◌, ◌^◌, eqb, ltb, length, drop, ℤ, pos, negsuc, neg_ℤ}
use Prim.Native.Char.{code}
use Rattle.meaning.specs.declared.RadixPrefix.{RadixPrefix}
use Rattle.meaning.specs.Bytes.{◌!◌, ascii, has, digit, number, all_digits}
use Rattle.std.specs.Prelude.{if◌then◌else◌}
use Rattle.meaning.specs.Reading.{Answer, borrowed, written, refused}

-- "Sign, then 0x, 0o, 0b or decimal." The bytes of a sign at the front, and whether it is a minus
unfoldable pub sign_length : List ℕ → ℕ
sign_length t = if has (t ! 0) (ascii "+-") then 1 else 0

unfoldable pub is_minus : List ℕ → Bool
is_minus t = eqb (t ! 0) (code "-")

-- the base that the byte behind a 0 chooses, in either case
unfoldable pub base_by : ℕ → ℕ
base_by c = if has c (ascii "xX") then 16 else if has c (ascii "oO") then 8 else if has c (ascii "bB") then 2 else 10

-- `split_radix_prefix`: the base, and where the remainder begins; it looks at no sign
abbrev pub prefix_by : ℕ → RadixPrefix
prefix_by β = record { base = β; start = if eqb β 10 then 0 else 2 }

unfoldable pub radix_prefix : List ℕ → RadixPrefix
radix_prefix t = prefix_by (if eqb (t ! 0) (code "0") then base_by (t ! 1) else 10)

-- "`_` only between two digits of the base": p is the byte before
abbrev pub placed : ℕ → ℕ → List ℕ → Bool
placed β p [] = true
placed β p (b ∷ t) = (not (eqb b (code "_")) || (ltb (digit p) β && ltb (digit (t ! 0)) β)) && placed β b t

-- the text less `_`
abbrev pub strip : List ℕ → List ℕ
strip [] = []
strip (b ∷ t) = if eqb b (code "_") then strip t else b ∷ strip t

-- A number, or none
pub data Parsed : Type 0 where
  none : Parsed
  int : ℤ → Parsed

-- -2^k to 2^k - 1
abbrev pub fits : ℕ → ℤ → Bool
fits k (pos n) = ltb n (2 ^ k)
fits k (negsuc n) = ltb n (2 ^ k)

abbrev pub signed : Bool → ℕ → ℤ
signed true n = neg_ℤ (pos n)
signed false n = pos n

abbrev pub within_bits : ℕ → Parsed → Parsed
within_bits k none = none
within_bits k (int z) = if fits k z then int z else none

-- Rust's `from_str_radix`, of which `parse` is base ten: a sign or none, then one digit or more, and -2^k to 2^k - 1
unfoldable pub parsed : ℕ → ℕ → List ℕ → Parsed
parsed k β t =
    if ltb (sign_length t) (length t) && all_digits β (drop (sign_length t) t)
    then within_bits k (int (signed (is_minus t) (number β (length (drop (sign_length t) t)) 0 (drop (sign_length t) t)))) else none

abbrev pub negated_by : Bool → Parsed → Parsed
negated_by minus none = none
negated_by true (int z) = int (neg_ℤ z)
negated_by false (int z) = int z

-- behind the first sign: the base, and the body behind the prefix
abbrev pub unsigned : List ℕ → List ℕ
unsigned t = drop (sign_length t) t

abbrev pub base_of : List ℕ → ℕ
base_of t = (radix_prefix (unsigned t)).base

abbrev pub number_body : List ℕ → List ℕ
number_body t = drop (radix_prefix (unsigned t)).start (unsigned t)

unfoldable pub separated : List ℕ → Bool
separated t = placed (base_of t) 0 (number_body t)

-- "with a radix the value behind the first sign must fit before negation, and the result after it"; the second sign that is legal
-- after a prefix is `parsed`'s
unfoldable pub radix_value : ℕ → List ℕ → Parsed
radix_value k t = within_bits k (negated_by (is_minus t) (parsed k (base_of t) (strip (number_body t))))

-- i64
unfoldable pub i64_of : List ℕ → Parsed
i64_of t = if not (separated t) then none else if eqb (base_of t) 10 then parsed 63 10 (strip t) else radix_value 63 t

-- A number in decimal. `digits_by f n`: the digits of n, f or fewer behind the first
unfoldable pub digits_by : ℕ → ℕ → List ℕ
digits_by zero n = (48 + n) ∷ []
digits_by (suc f) n = elim (ltb n 10) [ true ↦ (48 + n) ∷ [] | false ↦ digits_by f (n / 10) ++ ((48 + n % 10) ∷ []) ]

-- the first digit is not 0 unless n is 0
unfoldable pub digits_of : ℕ → List ℕ
digits_of n = digits_by n n

abbrev pub printed : ℤ → List ℕ
printed (pos n) = digits_of n
printed (negsuc n) = code "-" ∷ digits_of (suc n)

abbrev pub printed_by : Parsed → Answer
printed_by none = refused 0
printed_by (int z) = written (printed z)

-- "Decimal text base ten is the text less `_`, unchecked and borrowed if it has none. With a radix .. a signed 128-bit number before
-- negation": and after it, so that a minus before exactly -2^127 is refused
unfoldable pub decimal_of : List ℕ → Answer
decimal_of t =
    if not (separated t) then refused 0
    else if eqb (base_of t) 10 then (if has (code "_") t then written (strip t) else borrowed 0 (length t))
    else printed_by (radix_value 127 t)
