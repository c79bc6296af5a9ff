-- [02 T-07] What the laws of the exported packed bits ask for can be had: closed calls that pack and that write, each way back, and a text that both questions
-- refuse. Assumes nothing.
use mathlib.Core.Logic.{◌↔◌}
use mathlib.Core.Path.{◌≡◌, refl}
use mathlib.Core.Bool.{false}
use mathlib.Core.List.{List, [], ◌∷◌, ◌++◌}
use Prim.Native.Nat.{ℕ, zero, suc, ◌≤◌, ◌<◌}
use native.Mathlib.Omega.{arith}
use lib.ListN.{length, drop}
use Rattle.meaning.specs.declared.BitStringRadix.TheVariants.{Binary, Hex}
use Rattle.meaning.specs.Bytes.{◌!◌, ascii, within, is_mark, digit, all_digits}
use Rattle.meaning.specs.Chars.{lead, utf8}
use Rattle.meaning.specs.Steps.{doubled}
use Rattle.meaning.specs.Cutting.{segment, segment_step, cut}
use Rattle.meaning.specs.Kinds.{bits, bit_body}
use Rattle.meaning.specs.Answers.{filled}
use Rattle.meaning.specs.Questions.{cuts_character, bad_span, source_text, tested, bits_question}
use Rattle.meaning.specs.Writer.{over_limit}
use Rattle.meaning.specs.Forms.{figure}
use Rattle.meaning.specs.Packing.{bits_in, pack_bits, packed_question, bit_digits, bit_literal, bad_bits, bit_write_question}
use Rattle.meaning.specs.Codes.{literal_of}
use Rattle.laws.proofs.questions.Asked.{Spans}
use Rattle.laws.proofs.packing.RoundTrip.{OneUpper}
use Rattle.valdrabus.specs.Numbers.{Tells}
use Rattle.valdrabus.specs.Calls.{packed_call, bit_write_call, bits_call, Packs, Lengths}
use Rattle.valdrabus.proofs.PackExports.{PackExport, Gives, BitExport, bytes_exports, literal_exports, refuses_exports}

-- 82 hex of seven bits is written as B'1000001', into a longer buffer
pub flags_told : Lengths (bit_write_call (0x82 ∷ []) 7 12 (ascii "............")) 0 10 (ascii "B'1000001'..")
unfolding bit_write_call bit_write_question over_limit bad_bits bit_literal bit_digits figure filled
flags_told = record { result = refl; long = refl; buffer = refl }

abbrev pub flags : BitExport Binary (0x82 ∷ []) 7
flags = record { lent = ascii "............"; result = 0; len = 10; after = ascii "B'1000001'.."; contract = flags_told }

-- by the law: whatever packs it, with room, gives the byte and the count
pub flags_back : (c : PackExport Binary (ascii "B'1000001'")) → 1 ≤ length c.lent → Gives c (0x82 ∷ []) 7
flags_back c room = bytes_exports Binary (0x82 ∷ []) 7 below flags refl c room
  where
    below : (i : ℕ) → (0x82 ∷ []) ! i < 256
    below zero = omega arith
    below (suc i) = omega arith

-- and such a call there is
pub flags_packed : PackExport Binary (ascii "B'1000001'")
unfolding packed_call packed_question tested source_text bad_span cuts_character within utf8 lead bits bit_body segment is_mark segment_step doubled cut digit all_digits
    bits_in pack_bits filled
flags_packed =
    record {
      start = 1;
      end = 11;
      source = ascii "(B'1000001')";
      lent = ascii "..";
      spans = record { real = refl; fits = refl; text = refl };
      result = 0;
      bits = 7;
      how = 2;
      first = 0;
      second = 1;
      after = 0x82 ∷ ascii ".";
      contract = record { says = record { result = refl; way = refl; one = refl; two = refl }; count = refl; buffer = refl };
    }

-- X'1FA', in upper case throughout
abbrev pub key : List ℕ
key = ascii "X'1FA'"

key_upper : OneUpper Hex key
unfolding within segment is_mark segment_step doubled
key_upper = record { alone = refl; letter = refl; upper = upper }
  where
    upper : (i : ℕ) → i < 6 → within 97 122 (key ! i) ≡ false
    upper zero h = refl
    upper (suc zero) h = refl
    upper (suc (suc zero)) h = refl
    upper (suc (suc (suc zero))) h = refl
    upper (suc (suc (suc (suc zero)))) h = refl
    upper (suc (suc (suc (suc (suc zero))))) h = refl
    upper (suc (suc (suc (suc (suc (suc i)))))) h = absurd (omega arith)

-- is packed into 1F A0 hex, 12 bits
pub key_spans : Spans (literal_of 13 0 0 6) key key
unfolding bad_span cuts_character within
key_spans = record { real = refl; fits = refl; text = refl }

pub key_told : Packs (packed_call 13 0 0 6 key (ascii "....")) 0 12 2 0 2 (0x1F ∷ 0xA0 ∷ ascii "..")
unfolding packed_call packed_question tested source_text bad_span cuts_character within utf8 lead bits bit_body segment is_mark segment_step doubled cut digit all_digits
    bits_in pack_bits filled
key_told = record { says = record { result = refl; way = refl; one = refl; two = refl }; count = refl; buffer = refl }

abbrev pub key_packed : PackExport Hex key
key_packed =
    record {
      start = 0;
      end = 6;
      source = key;
      lent = ascii "....";
      spans = key_spans;
      result = 0;
      bits = 12;
      how = 2;
      first = 0;
      second = 2;
      after = 0x1F ∷ 0xA0 ∷ ascii "..";
      contract = key_told;
    }

-- by the law: whatever writes that, with room, writes X'1FA'
pub key_back : (w : BitExport Hex (0x1F ∷ 0xA0 ∷ []) 12) → 6 ≤ length w.lent
    → (w.result ≡ 0) × (w.len ≡ 6) × (w.after ≡ key ++ drop 6 w.lent)
key_back w room = literal_exports Hex key key_upper key_packed refl (omega arith) w room

-- and such a call there is
pub key_written : BitExport Hex (0x1F ∷ 0xA0 ∷ []) 12
unfolding bit_write_call bit_write_question over_limit bad_bits bit_literal bit_digits figure filled
key_written =
    record { lent = ascii "......"; result = 0; len = 6; after = key; contract = record { result = refl; long = refl; buffer = refl } }

-- 7 by both, on B'2', in whatever buffers
pub two_packed : Packs (packed_call 12 0 0 4 (ascii "B'2'") (ascii "..")) 7 0 0 0 4 (ascii "..")
unfolding packed_call packed_question tested source_text bad_span cuts_character within utf8 lead bits bit_body segment is_mark segment_step doubled cut digit all_digits
two_packed = record { says = record { result = refl; way = refl; one = refl; two = refl }; count = refl; buffer = refl }

pub two_text : Tells (bits_call 12 0 0 4 (ascii "B'2'") []) 7 0 0 4 []
unfolding bits_call bits_question tested source_text bad_span cuts_character within utf8 lead bits bit_body segment is_mark segment_step doubled cut digit all_digits
two_text = record { says = record { result = refl; way = refl; one = refl; two = refl }; buffer = refl }

pub two_both : (◌≡◌ {A = ℕ} 7 7) ↔ (◌≡◌ {A = ℕ} 7 7)
two_both = refuses_exports 12 0 0 4 (ascii "B'2'") (ascii "..") [] two_packed two_text 7 (omega arith) (omega arith)
