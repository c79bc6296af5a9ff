-- [02 T-07] What the laws of packing ask for can be had: closed literals, bytes and counts, calls on them, and what the laws then say. Assumes nothing.
use mathlib.Core.Path.{◌≡◌, refl}
use mathlib.Core.List.{List, [], ◌∷◌, ◌++◌}
use Prim.Native.Nat.{ℕ, zero, suc, ◌<◌}
use native.Mathlib.Omega.{arith}
use lib.ListN.{replicate}
use Rattle.meaning.specs.declared.BitStringRadix.TheVariants.{Binary, Hex}
use Rattle.meaning.specs.declared.LiteralKind.TheVariants as Kind
use Rattle.meaning.specs.declared.Refusal.TheVariants.{InvalidBitString, NoRoom}
use Rattle.meaning.specs.declared.BitWritingError.TheVariants as BitWritingError'
use Rattle.meaning.specs.Bytes.{◌!◌, ascii, within, is_mark, digit, all_digits}
use Rattle.meaning.specs.Chars.{lead, utf8, is_space}
use Rattle.meaning.specs.Steps.{doubled}
use Rattle.meaning.specs.Cutting.{named, segment, segment_step, cut}
use Rattle.meaning.specs.Kinds.{bit_body, bits}
use Rattle.meaning.specs.Answers.{part_shown, filled}
use Rattle.meaning.specs.Questions.{cuts_character, bad_span, source_text, tested, bits_question}
use Rattle.meaning.specs.Writer.{over_limit}
use Rattle.meaning.specs.Forms.{figure}
use Rattle.meaning.specs.Packing.{bits_in, pack_bits, packed_question, bit_digits, bit_literal, bad_bits, bit_write_question}
use Rattle.laws.proofs.tables.Controls.{all_as}
use Rattle.laws.proofs.basics.Digits.{DigitsTo}
use Rattle.laws.proofs.questions.Determined.{Same}
use Rattle.laws.proofs.packing.Digits.{low_upper}
use Rattle.laws.proofs.packing.Segment.{bit_text}
use Rattle.laws.proofs.packing.Asked.{packed_refuses, packed_shown_lem}
use Rattle.laws.proofs.packing.Reverse.{Fine, fine_bits}
use Rattle.laws.proofs.packing.RoundTrip.{OneUpper}
use Rattle.laws.proofs.packing.Joined.{Run, runs, run_digits}
use Rattle.laws.proofs.packing.Called.{PackedCall, BitWriterCall, bytes_calls, literal_calls, run_calls}
use Rattle.std.specs.Prelude.{Ok}
use Rattle.std.specs.Prelude.{Err}
use Rattle.meaning.specs.Answers.{packed_at}

-- BYTES AND COUNT: AB C0 and 12 bits, written as X'ABC' by a call, and packed by another
abbrev pub twelve : List ℕ
twelve = 0xAB ∷ 0xC0 ∷ []

twelve_below : (i : ℕ) → twelve ! i < 256
twelve_below zero = omega arith
twelve_below (suc zero) = omega arith
twelve_below (suc (suc i)) = omega arith

pub twelve_fine : Fine Hex twelve 12
unfolding bad_bits
twelve_fine = (fine_bits Hex twelve 12).0 refl

unfoldable pub twelve_written : BitWriterCall Hex twelve 12
unfolding bit_write_question over_limit bad_bits bit_literal bit_digits figure filled
twelve_written = record {
  lent = replicate 7 0;
  result = Ok 6;
  after = ascii "X'ABC'" ++ (0 ∷ []);
  contract = record { answer = refl; buffer = refl };
}

-- a call of the packed question on X'ABC', all of its source
unfoldable pub twelve_packed : PackedCall Hex (ascii "X'ABC'")
unfolding packed_question tested source_text bad_span cuts_character within utf8 lead bits cut segment_step segment is_mark is_space doubled named bit_body all_digits
    digit bits_in pack_bits filled
twelve_packed = record {
  literal = all_as (Kind.BitString Hex) (ascii "X'ABC'");
  source = ascii "X'ABC'";
  lent = replicate 3 0;
  kind = refl;
  spans = record { real = refl; fits = refl; text = refl };
  result = Ok (packed_at 2 12);
  after = twelve ++ (0 ∷ []);
  contract = record { answer = refl; buffer = refl };
}

pub twelve_back : (twelve_packed.result ≡ Ok (packed_at 2 12)) × (twelve_packed.after ≡ twelve ++ (0 ∷ []))
unfolding twelve_written twelve_packed
twelve_back = bytes_calls Hex twelve 12 twelve_below twelve_written 6 refl twelve_packed (omega arith)

-- A LITERAL: X'ABC' is one segment in upper case, and comes back
pub abc_one : OneUpper Hex (ascii "X'ABC'")
unfolding segment is_mark doubled
abc_one = record { alone = refl; letter = refl; upper = low_upper (ascii "X'ABC'") (omega arith) }

pub abc_back : (twelve_written.result ≡ Ok 6) × (twelve_written.after ≡ ascii "X'ABC'" ++ (0 ∷ []))
unfolding twelve_written twelve_packed
abc_back = literal_calls Hex (ascii "X'ABC'") abc_one twelve_packed 2 12 refl (omega arith) twelve_written (omega arith)

-- of the binary kind: B'1', which is 80 and one bit
pub one_one : OneUpper Binary (ascii "B'1'")
unfolding segment is_mark doubled
one_one = record { alone = refl; letter = refl; upper = low_upper (ascii "B'1'") (omega arith) }

-- SEGMENTS RUN ON: B'1' '1' and B'11' are C0 and two bits
pub one_digit : DigitsTo 2 1 (ascii "1")
unfolding digit within
one_digit zero h = omega arith
one_digit (suc i) h = absurd (omega arith)

unfoldable pub second : Run 2
unfolding is_space lead within
second = record { gap = ascii " "; white = record { white = refl; some = omega arith }; digits = ascii "1"; are = one_digit }

unfoldable pub joined_call : PackedCall Binary (bit_text Binary (ascii "1") ++ runs (second ∷ []) [])
unfolding second packed_question tested source_text bad_span cuts_character within utf8 lead bits cut segment_step segment is_mark is_space doubled named bit_body
    all_digits digit bits_in pack_bits filled
joined_call = record {
  literal = all_as (Kind.BitString Binary) (ascii "B'1' '1'");
  source = ascii "B'1' '1'";
  lent = 0 ∷ [];
  kind = refl;
  spans = record { real = refl; fits = refl; text = refl };
  result = Ok (packed_at 1 2);
  after = 0xC0 ∷ [];
  contract = record { answer = refl; buffer = refl };
}

unfoldable pub lone_call : PackedCall Binary (bit_text Binary (ascii "1" ++ run_digits (second ∷ [])))
unfolding second packed_question tested source_text bad_span cuts_character within utf8 lead bits cut segment_step segment is_mark is_space doubled named bit_body
    all_digits digit bits_in pack_bits filled
lone_call = record {
  literal = all_as (Kind.BitString Binary) (ascii "B'11'");
  source = ascii "B'11'";
  lent = 0 ∷ [];
  kind = refl;
  spans = record { real = refl; fits = refl; text = refl };
  result = Ok (packed_at 1 2);
  after = 0xC0 ∷ [];
  contract = record { answer = refl; buffer = refl };
}

pub run_same : Same joined_call.result lone_call.result joined_call.after lone_call.after
unfolding second joined_call lone_call
run_same = run_calls Binary (ascii "1") one_digit (second ∷ []) [] refl joined_call lone_call refl

-- A REFUSAL: X'F' of the binary kind, by 7 with its span, as the bits question gives it with another buffer
pub refused_alike : (packed_question (all_as (Kind.BitString Binary) (ascii "X'F'")) (ascii "X'F'") []).answer
    ≡ Err (InvalidBitString (record { start = 0; end = 4 }))
unfolding bits_question tested source_text bad_span cuts_character within utf8 lead bits cut segment_step segment is_mark doubled bit_body all_digits digit
refused_alike =
    (packed_refuses (all_as (Kind.BitString Binary) (ascii "X'F'")) (ascii "X'F'") [] (0 ∷ []) (InvalidBitString (record { start = 0; end = 4 })) (omega arith)).1 refl

-- WHAT IS SHOWN: B'1', which the bits question borrows, needs a byte
pub shown_short : packed_question (all_as (Kind.BitString Binary) (ascii "B'1'")) (ascii "B'1'") [] ≡ record { answer = Err (NoRoom 1); buffer = [] }
unfolding bits_question tested source_text bad_span cuts_character within utf8 lead bits cut segment_step segment is_mark doubled bit_body all_digits digit
    bits_in pack_bits filled part_shown
shown_short = packed_shown_lem (all_as (Kind.BitString Binary) (ascii "B'1'")) (ascii "B'1'") [] [] refl
