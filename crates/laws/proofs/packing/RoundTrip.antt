-- [02 T-07] "Two round trips are proved once over bits per digit": "bytes and count come back through either literal, read with the kind of its letter"; and a
-- literal "comes back as it was". Each is said of a literal in a span, with room (D07-9). Assumes nothing.
use mathlib.Core.Path.{◌≡◌, refl, ap, sym, ◌∙◌, subst}
use mathlib.Core.Bool.{false}
use mathlib.Core.List.{List, [], ◌∷◌, ◌++◌}
use Prim.Native.Nat.{ℕ, zero, suc, ◌^◌, ◌≤◌, ◌<◌}
use native.Mathlib.Nat.{lt_of_lt_of_le, mul-mod_right}
use native.Mathlib.Omega.{arith}
use borrow.Author.Tests.{le-leb}
use lib.Pow.{pow_mono}
use lib.ListN.{length, take, drop, length-append, get_or-append}
use Rattle.meaning.specs.declared.BitStringRadix.{BitStringRadix}
use Rattle.meaning.specs.declared.BitStringRadix.TheVariants.{Binary, Hex}
use Rattle.meaning.specs.declared.LiteralKind.TheVariants as Kind
use Rattle.meaning.specs.declared.Span.{Span}
use Rattle.meaning.specs.declared.Literal.{Literal}
use Rattle.meaning.specs.declared.BitWritingError.TheVariants as BitWritingError'
use Rattle.meaning.specs.Bytes.{◌!◌, quote, within}
use Rattle.meaning.specs.Cutting.{off, segment}
use Rattle.meaning.specs.Reading.{means}
use Rattle.meaning.specs.Kinds.{bits}
use Rattle.meaning.specs.Answers.{filled}
use Rattle.meaning.specs.Packing.{spread, bits_in, pack_bits, packs_as, packed_question, radix_bits, radix_letter, bit_digits, bit_literal, packed_length}
use Rattle.meaning.specs.Packing.{bit_writes, bit_write_question}
use Rattle.laws.proofs.basics.Digits.{DigitsTo}
use Rattle.laws.proofs.questions.Asked.{Spans}
use Rattle.laws.proofs.packing.Gathered.{Below, below_append, below_places, spread_below, bits_in_below, length_pack_bits}
use Rattle.laws.proofs.packing.Digits.{radix_some, radix_few, Upper, packed_front, packed_unused, bytes_length, bytes_packed, bits_in_figures}
use Rattle.laws.proofs.packing.Digits.{low_upper, figures_digits, figures_upper, figures_bits_in}
use Rattle.laws.proofs.packing.Segment.{bit_text, bit_text_segment, bit_text_means, bit_text_utf8, bits_shape}
use Rattle.laws.proofs.packing.Asked.{packed_value, PackedAs, packed_written, packed_bytes, packed_count}
use Rattle.laws.proofs.packing.Reverse.{Fine, bit_accepted, bit_wrote, bit_writes_lem, bit_writes_all}
use Rattle.std.specs.Prelude.{Ok}
use Rattle.meaning.specs.Answers.{packed_at}

-- "a literal of just one segment", which its text is (D07-8), "with an upper-case letter equal to its kind, upper-case digits": no byte is a lower-case letter
pub record OneUpper (r : BitStringRadix) (t : List ℕ) : Type 0 where
  pub alone : segment off t ≡ length t
  pub letter : t ! 0 ≡ radix_letter r
  pub upper : (i : ℕ) → i < length t → within 97 122 (t ! i) ≡ false

-- FROM BYTES. Digits whose bits pack into given bytes
packs_all : (s : Span) (k : ℕ) (d v t bytes : List ℕ) (n : ℕ) → bits_in k v ≡ t → pack_bits t ≡ bytes → length t ≡ n → length bytes ≤ length d
    → packs_as s k d (means v) ≡ record { answer = Ok (packed_at (length bytes) n); buffer = bytes ++ drop (length bytes) d }
unfolding filled
packs_all s k d v t bytes n e f g h = rw (e, f, g, le-leb (length bytes) (length d) h)

below_take : (m n : ℕ) (t : List ℕ) → Below m t → Below m (take n t)
below_take m zero t h = tt
below_take m (suc n) [] h = tt
below_take m (suc n) (b ∷ t) h = (h.0, below_take m n t h.1)

module _ (r : BitStringRadix) (bytes : List ℕ) (n : ℕ) where
  bits_below : Below 2 (take n (spread 8 bytes))
  bits_below = below_take 2 n (spread 8 bytes) (spread_below 8 bytes)

  low : 2 ^ radix_bits r ≤ 16
  low = pow_mono (radix_few r)

  digits_of_lem : DigitsTo (2 ^ radix_bits r) (length (bit_digits r bytes n)) (bit_digits r bytes n)
  unfolding bit_digits
  digits_of_lem = figures_digits (radix_bits r) (radix_some r) (radix_few r) (take n (spread 8 bytes)) bits_below

  digits_low : DigitsTo 16 (length (bit_digits r bytes n)) (bit_digits r bytes n)
  digits_low i h = lt_of_lt_of_le (digits_of_lem i h) low

  -- "Digits are written in upper case": what the reverse writes is such a literal, whatever the bytes and the count are
  pub written_one : OneUpper r (bit_literal r bytes n)
  unfolding bit_literal bit_digits
  written_one =
      let upper = figures_upper (radix_bits r) (radix_some r) (radix_few r) (take n (spread 8 bytes)) bits_below in
      record {
        alone = bit_text_segment r off (bit_digits r bytes n) digits_low;
        letter = refl;
        upper = low_upper (bit_literal r bytes n) (letter_low r, (omega arith, below_append 97 (bit_digits r bytes n) (quote ∷ []) upper (omega arith, tt)));
      }
    where
      letter_low : (r : BitStringRadix) → radix_letter r < 97
      letter_low Binary = omega arith
      letter_low Hex = omega arith

  -- bytes are numbers below 256, as lent bytes are; the count is one that gives no 16
  module _ (below : (i : ℕ) → bytes ! i < 256) (fine : Fine r bytes n) where
    pub literal_packs : (l : Literal) (S d : List ℕ) → l.kind ≡ Kind.BitString r → Spans l S (bit_literal r bytes n) → length bytes ≤ length d
        → packed_question l S d ≡ record { answer = Ok (packed_at (length bytes) n); buffer = bytes ++ drop (length bytes) d }
    unfolding bit_digits bit_literal
    literal_packs l S d k h room =
        let ds : List ℕ = bit_digits r bytes n in
        let size : length (take n (spread 8 bytes)) ≡ n = bytes_length bytes n fine.size in
        packed_value r l S (bit_text r ds) d k h (bit_text_utf8 r ds digits_low) ds (bit_text_means r off (2 ^ radix_bits r) low ds digits_of_lem)
        ∙ packs_all l.span (radix_bits r) d ds (take n (spread 8 bytes)) bytes n
        (bits_in_figures (radix_bits r) (radix_some r) (radix_few r) (take n (spread 8 bytes)) bits_below (rw size fine.whole))
        (bytes_packed bytes n fine.size (below_places 256 bytes (λ i j. below i)) fine.unused) size room

-- "bytes and count come back through either literal, read with the kind of its letter"
pub bytes_round_trip : (r : BitStringRadix) (bytes : List ℕ) (n : ℕ) (out : List ℕ) (m : ℕ) → ((i : ℕ) → bytes ! i < 256)
    → (bit_write_question r bytes n out).answer ≡ Ok m
    → (l : Literal) (S d : List ℕ) → l.kind ≡ Kind.BitString r → Spans l S (take m (bit_write_question r bytes n out).buffer) → length bytes ≤ length d
    → packed_question l S d ≡ record { answer = Ok (packed_at (length bytes) n); buffer = bytes ++ drop (length bytes) d }
bytes_round_trip r bytes n out m below e l S d k h room =
    literal_packs r bytes n below (bit_accepted r bytes n out m e).1 l S d k (rw (bit_wrote r bytes n out m e) at h) room

-- FROM A LITERAL. What packing answers is what the reverse takes: never 16
pub packed_fine : {r : BitStringRadix} {t out : List ℕ} {len n : ℕ} {after : List ℕ} → PackedAs r t out len n after → Fine r (take len after) n
packed_fine {r} a =
    let b : List ℕ = bits_in (radix_bits r) a.value in
    record {
      size = rw (packed_bytes a) (length_pack_bits b ∙ ap packed_length (sym a.count));
      whole = rw (packed_count a) (mul-mod_right (radix_bits r) (length a.value));
      unused = rw (packed_bytes a, a.count) (packed_unused b (bits_in_below (radix_bits r) a.value));
    }

digits_upper : (r : BitStringRadix) (ds : List ℕ) → Upper (bit_text r ds) → Upper ds
digits_upper r ds u i h = rw (get_or-append ds (quote ∷ []) 0 i h) at (u (suc (suc i)) (omega (arith, length-append ds (quote ∷ []))))

-- and the reverse writes such a literal's text
module _ (r : BitStringRadix) (t out : List ℕ) (len n : ℕ) (after : List ℕ) (one : OneUpper r t) (a : PackedAs r t out len n after) where
  shape : (t ≡ bit_text r a.value) × DigitsTo (2 ^ radix_bits r) (length a.value) a.value
  shape = bits_shape r off (2 ^ radix_bits r) t a.value one.alone one.letter a.reads

  pub packed_literal : bit_literal r (take len after) n ≡ t
  unfolding bit_literal bit_digits
  packed_literal =
      let b : List ℕ = bits_in (radix_bits r) a.value in
      let e : take n (spread 8 (take len after)) ≡ b = rw (packed_bytes a, a.count) (packed_front b (bits_in_below (radix_bits r) a.value)) in
      let upper : Upper a.value = digits_upper r a.value (subst Upper shape.0 one.upper) in
      rw (e, figures_bits_in (radix_bits r) (radix_some r) (radix_few r) a.value shape.1 upper) (sym shape.0)

-- it "comes back as it was", where its packed bytes are "within the limit"
pub literal_round_trip : (r : BitStringRadix) (l : Literal) (S t d : List ℕ) (len n : ℕ) → l.kind ≡ Kind.BitString r → Spans l S t → OneUpper r t
    → (packed_question l S d).answer ≡ Ok (packed_at len n) → len ≤ 268435456 → (e : List ℕ) → length t ≤ length e
    → bit_write_question r (take len (packed_question l S d).buffer) n e
    ≡ record { answer = Ok (length t); buffer = t ++ drop (length t) e }
literal_round_trip r l S t d len n k h one answered limit e room =
    let a = packed_written r l S t d k h len n answered in
    let after : List ℕ = (packed_question l S d).buffer in
    let size : length (take len after) ≡ len = ap length (packed_bytes a) ∙ sym a.size in
    bit_writes_lem r (take len after) n e (rw size limit) (packed_fine a)
    ∙ ap (λ (x : List ℕ). bit_writes x e) (packed_literal r t d len n after one a) ∙ bit_writes_all t e room
