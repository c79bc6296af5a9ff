-- [02 T-07] What packing and its reverse shut out: document 01's list by a closed input of each, as `Controls` has it, and other packings and literals. And
-- each premise of the second round trip is needed: without it a text comes back as another one, or not at all. Assumes nothing.
use mathlib.Core.Path.{◌≡◌, refl, ap, sym, ◌∙◌}
use mathlib.Core.Bool.{false, and-false}
use mathlib.Core.List.{List, [], ◌∷◌}
use Prim.Native.Nat.{ℕ, zero, suc, ◌-◌, ◌*◌, ◌≤◌, ◌<◌}
use native.Mathlib.Nat.{lt_of_lt_of_le, one-mul}
use native.Mathlib.Omega.{arith}
use lib.Dec.{eqb, ltb}
use borrow.Author.Tests.{eqb-false, le-ltb}
use lib.ListN.{length, take, replicate, length-replicate, get_or-replicate}
use lib.Seq.{take-length}
use Rattle.meaning.specs.declared.BitStringRadix.{BitStringRadix}
use Rattle.meaning.specs.declared.BitStringRadix.TheVariants.{Binary, Hex}
use Rattle.meaning.specs.declared.LiteralKind.TheVariants as Kind
use Rattle.meaning.specs.declared.Literal.{Literal}
use Rattle.meaning.specs.declared.BitWritingError.{BitWritingError}
use Rattle.meaning.specs.declared.BitWritingError.TheVariants as BitWritingError'
use Rattle.meaning.specs.Bytes.{◌!◌, ascii, same, quote, within, is_mark, digit, all_digits}
use Rattle.meaning.specs.Chars.{lead, utf8, is_space}
use Rattle.meaning.specs.Steps.{doubled}
use Rattle.meaning.specs.Cutting.{off, named, segment, segment_step, cut}
use Rattle.meaning.specs.Kinds.{bit_body, bits}
use Rattle.meaning.specs.Answers.{packed_number, packed_values, bit_writing_number, bit_writing_values, part_shown, filled}
use Rattle.meaning.specs.Questions.{cuts_character, bad_span, source_text, tested}
use Rattle.meaning.specs.Writer.{over_limit}
use Rattle.meaning.specs.Forms.{figure}
use Rattle.meaning.specs.Packing.{bits_in, pack_bits, packed_question, radix_letter, bit_digits, bit_literal, packed_length, bad_bits, bit_write_question}
use Rattle.laws.proofs.tables.Controls.{Program, Right, Telling, room, WritesAt, shows_only, ShutOut, shut_out, all_as}
use Rattle.laws.proofs.writing.WriterParts.{Every}
use Rattle.laws.proofs.packing.Digits.{Upper, low_upper}
use Rattle.laws.proofs.packing.Segment.{bit_text, bit_text_segment, bit_text_means, bit_text_utf8}
use Rattle.laws.proofs.packing.Asked.{packed_room, packed_written, packed_bytes}
use Rattle.laws.proofs.packing.Reverse.{bit_over}
use Rattle.laws.proofs.packing.RoundTrip.{OneUpper}
use Rattle.laws.proofs.questions.Asked.{Spans}
use Rattle.laws.proofs.basics.Digits.{DigitsTo}
use Rattle.laws.proofs.packing.Gathered.{Below, below_append, units_most}
use Rattle.std.specs.Prelude.{Result, Ok, Err}
use Rattle.meaning.specs.declared.Refusal.{Refusal}
use Rattle.meaning.specs.declared.PackedBits.{PackedBits}
use Rattle.meaning.specs.Answers.{packed_at}

-- PACKING writes 12 30 for X'1' '2' '3'
abbrev pub packed_view : List ℕ → Result PackedBits Refusal → List ℕ
packed_view out (Ok π) = part_shown 0 π.len out
packed_view out (Err r) = []

abbrev pub packed_telling : Telling (Literal × List ℕ) (Result PackedBits Refusal)
packed_telling = record { number = packed_number; values = packed_values; view = λ x o. packed_view o.buffer o.answer }

abbrev pub on_packed : Program (Literal × List ℕ) (Result PackedBits Refusal)
on_packed x out = packed_question x.0 x.1 out

abbrev pub three_hex : Literal × List ℕ
three_hex = (all_as (Kind.BitString Hex) (ascii "X'1' '2' '3'"), ascii "X'1' '2' '3'")

abbrev pub three_packed : List ℕ
three_packed = 0x12 ∷ 0x30 ∷ []

pub packed_writes : WritesAt on_packed packed_telling three_hex three_packed
unfolding packed_question tested source_text bad_span cuts_character within utf8 lead bits cut segment_step segment is_mark is_space doubled named bit_body all_digits
    digit bits_in pack_bits filled part_shown
packed_writes = record { begins = omega arith; answered = refl; leaves = refl; shows = refl; short = refl; needs = refl }

pub packed_shut_out : ShutOut on_packed packed_telling three_hex three_packed
packed_shut_out = shut_out packed_writes

-- other bytes, by what is wrong: the first bit at the bottom, a short last byte filled from the right, a byte begun with each segment, unused bits that are set
abbrev pub other_bytes : List (List ℕ)
other_bytes = (0x48 ∷ 0x0C ∷ []) ∷ (0x12 ∷ 0x03 ∷ []) ∷ (0x10 ∷ 0x20 ∷ 0x30 ∷ []) ∷ (0x12 ∷ 0x3F ∷ []) ∷ []

module _ (p : Program (Literal × List ℕ) (Result PackedBits Refusal)) (right : Right on_packed p) where
  pub no_other_bytes : Every (λ u. packed_telling.view three_hex (p three_hex (room three_packed)) ≡ u → ⊥) other_bytes
  no_other_bytes = (apart 0 refl, (apart 1 refl, (apart 0 refl, (apart 1 refl, tt))))
    where
      apart : {u : List ℕ} (i : ℕ) → eqb (u ! i) (three_packed ! i) ≡ false → packed_telling.view three_hex (p three_hex (room three_packed)) ≡ u → ⊥
      apart {u} i f e = eqb-false (u ! i) (three_packed ! i) f (ap (◌! i) (shows_only on_packed packed_telling three_hex three_packed packed_writes p right u e))

  -- bits are counted: not digits, and not whole bytes
  pub counts_bits : (p three_hex (room three_packed)).answer ≡ Ok (packed_at 2 12)
  unfolding packed_question tested source_text bad_span cuts_character within utf8 lead bits cut segment_step segment is_mark is_space doubled named bit_body all_digits
      digit bits_in pack_bits
  counts_bits = (right three_hex (room three_packed)).answer

-- "by the kind's radix, not the letter": B'1' of the hex kind is four bits, X'1' of the binary kind is one
pub by_kind : (packed_question (all_as (Kind.BitString Hex) (ascii "B'1'")) (ascii "B'1'") (0 ∷ []) ≡ record { answer = Ok (packed_at 1 4); buffer = 0x10 ∷ [] })
    × (packed_question (all_as (Kind.BitString Binary) (ascii "X'1'")) (ascii "X'1'") (0 ∷ []) ≡ record { answer = Ok (packed_at 1 1); buffer = 0x80 ∷ [] })
unfolding packed_question tested source_text bad_span cuts_character within utf8 lead bits cut segment_step segment is_mark is_space doubled named bit_body all_digits
    digit bits_in pack_bits filled
by_kind = (refl, refl)

-- THE REVERSE writes X'ABC' for AB C0 and 12 bits
abbrev pub bit_writing_view : List ℕ → Result ℕ BitWritingError → List ℕ
bit_writing_view out (Ok n) = part_shown 0 n out
bit_writing_view out (Err BitWritingError'.OverLimit) = []
bit_writing_view out (Err BitWritingError'.BadBits) = []
bit_writing_view out (Err (BitWritingError'.NoRoom n)) = []

abbrev pub reverse_telling : Telling (BitStringRadix × List ℕ × ℕ) (Result ℕ BitWritingError)
reverse_telling = record { number = bit_writing_number; values = bit_writing_values; view = λ x o. bit_writing_view o.buffer o.answer }

abbrev pub on_reverse : Program (BitStringRadix × List ℕ × ℕ) (Result ℕ BitWritingError)
on_reverse x out = bit_write_question x.0 x.1 x.2 out

abbrev pub twelve_bits : BitStringRadix × List ℕ × ℕ
twelve_bits = (Hex, 0xAB ∷ 0xC0 ∷ [], 12)

pub reverse_writes : WritesAt on_reverse reverse_telling twelve_bits (ascii "X'ABC'")
unfolding bit_write_question over_limit bad_bits bit_literal bit_digits figure filled part_shown
reverse_writes = record { begins = omega arith; answered = refl; leaves = refl; shows = refl; short = refl; needs = refl }

pub reverse_shut_out : ShutOut on_reverse reverse_telling twelve_bits (ascii "X'ABC'")
reverse_shut_out = shut_out reverse_writes

-- other literals: in lower case, of all the bytes, with the other letter
abbrev pub other_literals : List (List ℕ)
other_literals = ascii "X'abc'" ∷ ascii "X'ABC0'" ∷ ascii "B'101010111100'" ∷ []

pub no_other_literal : (p : Program (BitStringRadix × List ℕ × ℕ) (Result ℕ BitWritingError)) → Right on_reverse p
    → Every (λ u. reverse_telling.view twelve_bits (p twelve_bits (room (ascii "X'ABC'"))) ≡ u → ⊥) other_literals
no_other_literal p right = (apart 2 refl, (apart 5 refl, (apart 0 refl, tt)))
  where
    due : List ℕ
    due = ascii "X'ABC'"

    apart : {u : List ℕ} (i : ℕ) → eqb (u ! i) (due ! i) ≡ false → reverse_telling.view twelve_bits (p twelve_bits (room due)) ≡ u → ⊥
    apart {u} i f e = eqb-false (u ! i) (due ! i) f (ap (◌! i) (shows_only on_reverse reverse_telling twelve_bits due reverse_writes p right u e))

-- 16: a byte too many and one too few, X with a count that is no multiple of four, an unused bit that is set; before 9, since nothing is lent
pub sixteens : ((bit_write_question Binary (0x80 ∷ 0 ∷ []) 8 []).answer ≡ Err BitWritingError'.BadBits) × ((bit_write_question Binary (0x80 ∷ []) 9 []).answer ≡ Err BitWritingError'.BadBits)
    × ((bit_write_question Hex (0x80 ∷ []) 5 []).answer ≡ Err BitWritingError'.BadBits) × ((bit_write_question Binary (0x81 ∷ []) 7 []).answer ≡ Err BitWritingError'.BadBits)
unfolding bit_write_question over_limit bad_bits
sixteens = (refl, refl, refl, refl)

-- EACH PREMISE of the second round trip. The text t of a kind, all of its source, packed and written again is u, which is another text
pub record ComesBack (r : BitStringRadix) (t u : List ℕ) : Type 0 where
  pub bytes : List ℕ
  pub count : ℕ
  pub packs : packed_question (all_as (Kind.BitString r) t) t (0 ∷ []) ≡ record { answer = Ok (packed_at (length bytes) count); buffer = bytes }
  pub writes : bit_write_question r bytes count (replicate (length u) 0) ≡ record { answer = Ok (length u); buffer = u }
  pub other : same t u ≡ false

-- "just one segment": two of them, and one with white space behind it (D07-8). The other premises hold
pub needs_one_segment : ComesBack Binary (ascii "B'1' '0'") (ascii "B'10'") × (ascii "B'1' '0'" ! 0 ≡ radix_letter Binary) × Upper (ascii "B'1' '0'")
unfolding packed_question tested source_text bad_span cuts_character within utf8 lead bits cut segment_step segment is_mark is_space doubled named bit_body all_digits
    digit bits_in pack_bits filled bit_write_question over_limit bad_bits bit_literal bit_digits figure
needs_one_segment = (record { bytes = 0x80 ∷ []; count = 2; packs = refl; writes = refl; other = refl }, refl, low_upper (ascii "B'1' '0'") (omega arith))

pub needs_nothing_behind : ComesBack Binary (ascii "B'1' ") (ascii "B'1'") × (ascii "B'1' " ! 0 ≡ radix_letter Binary) × Upper (ascii "B'1' ")
unfolding packed_question tested source_text bad_span cuts_character within utf8 lead bits cut segment_step segment is_mark is_space doubled named bit_body all_digits
    digit bits_in pack_bits filled bit_write_question over_limit bad_bits bit_literal bit_digits figure
needs_nothing_behind = (record { bytes = 0x80 ∷ []; count = 1; packs = refl; writes = refl; other = refl }, refl, low_upper (ascii "B'1' ") (omega arith))

-- "an upper-case letter"
pub needs_upper_letter : ComesBack Binary (ascii "b'1'") (ascii "B'1'") × (segment off (ascii "b'1'") ≡ length (ascii "b'1'"))
unfolding packed_question tested source_text bad_span cuts_character within utf8 lead bits cut segment_step segment is_mark is_space doubled named bit_body all_digits
    digit bits_in pack_bits filled bit_write_question over_limit bad_bits bit_literal bit_digits figure
needs_upper_letter = (record { bytes = 0x80 ∷ []; count = 1; packs = refl; writes = refl; other = refl }, refl)

-- "equal to its kind"
pub needs_binary_letter : ComesBack Binary (ascii "X'1'") (ascii "B'1'") × (segment off (ascii "X'1'") ≡ length (ascii "X'1'")) × Upper (ascii "X'1'")
unfolding packed_question tested source_text bad_span cuts_character within utf8 lead bits cut segment_step segment is_mark is_space doubled named bit_body all_digits
    digit bits_in pack_bits filled bit_write_question over_limit bad_bits bit_literal bit_digits figure
needs_binary_letter = (record { bytes = 0x80 ∷ []; count = 1; packs = refl; writes = refl; other = refl }, refl, low_upper (ascii "X'1'") (omega arith))

pub needs_hex_letter : ComesBack Hex (ascii "B'1'") (ascii "X'1'") × (segment off (ascii "B'1'") ≡ length (ascii "B'1'")) × Upper (ascii "B'1'")
unfolding packed_question tested source_text bad_span cuts_character within utf8 lead bits cut segment_step segment is_mark is_space doubled named bit_body all_digits
    digit bits_in pack_bits filled bit_write_question over_limit bad_bits bit_literal bit_digits figure
needs_hex_letter = (record { bytes = 0x10 ∷ []; count = 4; packs = refl; writes = refl; other = refl }, refl, low_upper (ascii "B'1'") (omega arith))

-- "upper-case digits"
pub needs_upper_digits : ComesBack Hex (ascii "X'f'") (ascii "X'F'") × (segment off (ascii "X'f'") ≡ length (ascii "X'f'")) × (ascii "X'f'" ! 0 ≡ radix_letter Hex)
unfolding packed_question tested source_text bad_span cuts_character within utf8 lead bits cut segment_step segment is_mark is_space doubled named bit_body all_digits
    digit bits_in pack_bits filled bit_write_question over_limit bad_bits bit_literal bit_digits figure
needs_upper_digits = (record { bytes = 0xF0 ∷ []; count = 4; packs = refl; writes = refl; other = refl }, refl, refl)

-- "packed bytes within the limit": 2,147,483,649 binary digits or more, which meet every other premise, are packed and then give 12. Over the number of
-- digits: such a text is not computed here
abbrev pub one_digits : ℕ → List ℕ
one_digits n = replicate n 49

ones_length : (n : ℕ) → length (one_digits n) ≡ n
ones_length n = length-replicate n 49

ones_are : (n : ℕ) → DigitsTo 2 (length (one_digits n)) (one_digits n)
unfolding digit within
ones_are n i h = rw (get_or-replicate {A = ℕ} n i 49 0 (rw (ones_length n) at h)) (omega arith)

ones_digits : (n : ℕ) → DigitsTo 16 (length (one_digits n)) (one_digits n)
ones_digits n i h = lt_of_lt_of_le (ones_are n i h) (omega arith)

ones_below : (n : ℕ) → Below 97 (one_digits n)
ones_below zero = tt
ones_below (suc n) = (omega arith, ones_below n)

abbrev pub ones : ℕ → List ℕ
ones n = bit_text Binary (one_digits n)

pub ones_one : (n : ℕ) → OneUpper Binary (ones n)
ones_one n = record {
  alone = bit_text_segment Binary off (one_digits n) (ones_digits n);
  letter = refl;
  upper = low_upper (ones n) (omega arith, (omega arith, below_append 97 (one_digits n) (quote ∷ []) (ones_below n) (omega arith, tt)));
}

-- it stands in a source: itself
pub ones_spans : (n : ℕ) → Spans (all_as (Kind.BitString Binary) (ones n)) (ones n) (ones n)
unfolding bad_span cuts_character within
ones_spans n =
    let z : length (ones n) - 0 ≡ length (ones n) = omega arith in
    record {
      real = refl;
      fits = rw (le-ltb (length (ones n)) 0 (omega arith), le-ltb (length (ones n)) (length (ones n)) (omega arith), and-false (ltb 0 (length (ones n))));
      text = rw z (take-length (ones n));
    }

module _ (n : ℕ) (l : Literal) (S d : List ℕ) (k : l.kind ≡ Kind.BitString Binary) (h : Spans l S (ones n)) (room : packed_length n ≤ length d) where
  pub ones_packed : (packed_question l S d).answer ≡ Ok (packed_at (packed_length n) n)
  ones_packed =
      let c : 1 * length (one_digits n) ≡ n = one-mul (length (one_digits n)) ∙ ones_length n in
      rw c
      at (packed_room Binary l S (ones n) d k h (bit_text_utf8 Binary (one_digits n) (ones_digits n)) (one_digits n)
      (bit_text_means Binary off 2 (omega arith) (one_digits n) (ones_are n)) (rw c room))

  pub needs_limit : 2147483648 < n → (e : List ℕ)
      → bit_write_question Binary (take (packed_length n) (packed_question l S d).buffer) n e ≡ record { answer = Err BitWritingError'.OverLimit; buffer = e }
  needs_limit many e =
      let a = packed_written Binary l S (ones n) d k h (packed_length n) n ones_packed in
      let size : length (take (packed_length n) (packed_question l S d).buffer) ≡ packed_length n = ap length (packed_bytes a) ∙ sym a.size in
      bit_over Binary (take (packed_length n) (packed_question l S d).buffer) n e (rw size (omega (arith, (units_most 8 (omega arith) n).0)))

-- at 2,147,483,649 digits, all of their source
pub row_needs_limit : (d e : List ℕ) → 268435457 ≤ length d
    → bit_write_question Binary
    (take 268435457 (packed_question (all_as (Kind.BitString Binary) (ones 2147483649)) (ones 2147483649) d).buffer) 2147483649 e
    ≡ record { answer = Err BitWritingError'.OverLimit; buffer = e }
row_needs_limit d e room =
    needs_limit 2147483649 (all_as (Kind.BitString Binary) (ones 2147483649)) (ones 2147483649) d refl (ones_spans 2147483649) room (omega arith) e
