-- [02 T-07] Bit strings as packed bytes, and back: a number's bits and bits as numbers, the question, and the reverse. Assumes nothing.
use Rattle.std.specs.Prelude.{Bool, ◌||◌, not, List, [], ◌∷◌, ◌++◌, map, ℕ, zero, suc, ◌+◌, ◌-◌, ◌*◌, ◌/◌, ◌%◌, ◌^◌, eqb, ltb, length, take, drop}
use Prim.Native.Char.{code}
use Rattle.meaning.specs.declared.BitStringRadix.{BitStringRadix}
use Rattle.meaning.specs.declared.BitStringRadix.TheVariants.{Binary, Hex}
use Rattle.meaning.specs.declared.PartSize.TheVariants.{Whole}
use Rattle.meaning.specs.declared.LiteralExpected.TheVariants as Expected
use Rattle.meaning.specs.declared.Span.{Span}
use Rattle.meaning.specs.declared.Literal.{Literal}
use Rattle.meaning.specs.declared.Refusal.TheVariants as Refusal'
use Rattle.meaning.specs.declared.BitWritingError.{BitWritingError}
use Rattle.meaning.specs.declared.BitWritingError.TheVariants.{OverLimit, BadBits, NoRoom}
use Rattle.meaning.specs.Bytes.{quote, digit, all_zero}
use Rattle.std.specs.Prelude.{if◌then◌else◌}
use Rattle.meaning.specs.Cutting.{off}
use Rattle.meaning.specs.Reading.{Value, means, fails, value_of}
use Rattle.meaning.specs.Kinds.{bits}
use Rattle.meaning.specs.Answers.{Outcome, by_room, filled}
use Rattle.meaning.specs.Questions.{Tested, passes, barred, tested, bit_base}
use Rattle.meaning.specs.Writer.{over_limit}
use Rattle.meaning.specs.Forms.{figure}
use Rattle.std.specs.Prelude.{Result, Ok, Err}
use Rattle.meaning.specs.declared.Refusal.{Refusal}
use Rattle.meaning.specs.declared.PackedBits.{PackedBits}
use Rattle.meaning.specs.Answers.{packed_at}

-- BITS. The w bits of a number, the high one first; and those of one number after the other
abbrev pub bits_of_number : ℕ → ℕ → List ℕ
bits_of_number zero d = []
bits_of_number (suc w) d = (d / 2 ^ w % 2) ∷ bits_of_number w d

abbrev pub spread : ℕ → List ℕ → List ℕ
spread w [] = []
spread w (d ∷ t) = bits_of_number w d ++ spread w t

-- back: bits as numbers of w bits each. Of the number at hand n bits are missing, and v is what it has so far; "unused low bits [..] are zero"
abbrev pub gathered : ℕ → ℕ → ℕ → List ℕ → List ℕ
gathered w n v [] = if eqb n w then [] else (v * 2 ^ n) ∷ []
gathered w n v (b ∷ t) = if eqb n 1 then (v * 2 + b) ∷ gathered w w 0 t else gathered w (n - 1) (v * 2 + b) t

abbrev pub gather : ℕ → List ℕ → List ℕ
gather w t = gathered w w 0 t

-- "A binary digit is one bit, a hex digit four": by the kind's base, not the letter; all segments' digits are one run
abbrev pub bits_per : ℕ → ℕ
bits_per β = if eqb β 2 then 1 else 4

unfoldable pub bits_in : ℕ → List ℕ → List ℕ
bits_in k v = spread k (map digit v)

-- "the first bit is the top bit of the first byte"
unfoldable pub pack_bits : List ℕ → List ℕ
pack_bits t = gather 8 t

-- THE QUESTION. "Refusals: packing as for bits, the needed length in 9 counting packed bytes": the digits are the bits question's. A packed answer is always
-- written
abbrev pub packs_as : Span → ℕ → List ℕ → Value → Outcome (Result PackedBits Refusal)
packs_as s k out (means v) =
    record {
      answer = by_room (λ n. Ok (packed_at n (length (bits_in k v)))) (λ n. Err (Refusal'.NoRoom n)) (length (pack_bits (bits_in k v))) (length out);
      buffer = filled (pack_bits (bits_in k v)) out;
    }
packs_as s k out (fails p) = record { answer = Err (Refusal'.InvalidBitString s); buffer = out }

abbrev pub packed_by : Span → ℕ → List ℕ → Tested → Outcome (Result PackedBits Refusal)
packed_by s β out (passes t) = packs_as s (bits_per β) out (value_of t (bits off β t))
packed_by s β out (barred r) = record { answer = Err r; buffer = out }

unfoldable pub packed_question : Literal → List ℕ → List ℕ → Outcome (Result PackedBits Refusal)
packed_question l source out =
    packed_by l.span (bit_base l.kind) out (tested (ltb 0 (bit_base l.kind)) Expected.BitString l source)

-- THE REVERSE, "bytes and a bit count to a B or X literal"
abbrev pub radix_bits : BitStringRadix → ℕ
radix_bits Binary = 1
radix_bits Hex = 4

abbrev pub radix_letter : BitStringRadix → ℕ
radix_letter Binary = code "B"
radix_letter Hex = code "X"

-- the first n bits of the bytes; "Digits are written in upper case"
unfoldable pub bit_digits : BitStringRadix → List ℕ → ℕ → List ℕ
bit_digits r bytes n = map figure (gather (radix_bits r) (take n (spread 8 bytes)))

unfoldable pub bit_literal : BitStringRadix → List ℕ → ℕ → List ℕ
bit_literal r bytes n = radix_letter r ∷ quote ∷ bit_digits r bytes n ++ (quote ∷ [])

-- "the bit count rounded up to bytes"
abbrev pub packed_length : ℕ → ℕ
packed_length n = n / 8 + (if eqb (n % 8) 0 then 0 else 1)

-- "16 if the byte count isn't the bit count rounded up to bytes, X has a wrong count, or an unused bit is set"; "X only when the count is a multiple of four"
unfoldable pub bad_bits : BitStringRadix → List ℕ → ℕ → Bool
bad_bits r bytes n =
    not (eqb (length bytes) (packed_length n)) || (not (eqb (n % radix_bits r) 0) || not (all_zero (drop n (spread 8 bytes))))

abbrev pub bit_writes : List ℕ → List ℕ → Outcome (Result ℕ BitWritingError)
bit_writes t out = record { answer = by_room Ok (λ n. Err (NoRoom n)) (length t) (length out); buffer = filled t out }

-- "The reverse's limit is the writer's, in packed bytes": of the bytes given. "reverse 12, then 16 [..] then 9"
unfoldable pub bit_write_question : BitStringRadix → List ℕ → ℕ → List ℕ → Outcome (Result ℕ BitWritingError)
bit_write_question r bytes n out =
    if over_limit Whole bytes then record { answer = Err OverLimit; buffer = out }
    else if bad_bits r bytes n then record { answer = Err BadBits; buffer = out }
    else bit_writes (bit_literal r bytes n) out
