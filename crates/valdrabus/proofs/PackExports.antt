-- [02 T-07] Packed bits of the C exports: of whatever `valdrabus_as_packed_bits` and `valdrabus_write_bit_literal` give back by their contracts. Both round trips;
-- and packing refuses as `valdrabus_as_bit_text` does, and packs the digits that it shows. Assumes nothing.
use mathlib.Core.Logic.{◌↔◌}
use mathlib.Core.Path.{◌≡◌, refl, ap, sym, ◌∙◌, subst}
use mathlib.Core.Bool.{Bool, true, false}
use mathlib.Core.List.{List, ◌++◌}
use Prim.Native.Nat.{ℕ, ◌≤◌, ◌<◌}
use native.Mathlib.Omega.{arith}
use borrow.Author.Tests.{le-leb, lt-leb}
use lib.ListN.{length, take, drop}
use Rattle.meaning.specs.declared.BitStringRadix.{BitStringRadix}
use Rattle.meaning.specs.declared.BitStringRadix.TheVariants.{Binary, Hex}
use Rattle.meaning.specs.declared.LiteralKind.TheVariants as Kind
use Rattle.meaning.specs.declared.Literal.{Literal}
use Rattle.meaning.specs.declared.Refusal.{Refusal}
use Rattle.meaning.specs.declared.Refusal.TheVariants as Refusal'
use Rattle.meaning.specs.declared.Text.{Text}
use Rattle.meaning.specs.declared.Text.TheVariants as Text'
use Rattle.meaning.specs.declared.BitWritingError.{BitWritingError}
use Rattle.meaning.specs.declared.BitWritingError.TheVariants as BitWritingError'
use Rattle.meaning.specs.Bytes.{◌!◌}
use Rattle.meaning.specs.Reading.{means}
use Rattle.meaning.specs.Answers.{Outcome, Meets, refusal_number, shown, filled}
use Rattle.meaning.specs.Questions.{bits_question}
use Rattle.meaning.specs.Packing.{bits_in, pack_bits, packs_as, packed_question, radix_bits, bit_literal, bit_write_question}
use Rattle.meaning.specs.Codes.{kind_of, is_known, literal_of}
use Rattle.laws.proofs.questions.Asked.{Spans}
use Rattle.laws.proofs.questions.Buffers.{PackedLeaves, packed_leaves}
use Rattle.laws.proofs.packing.Asked.{packed_refuses}
use Rattle.laws.proofs.packing.Reverse.{Fine, bit_accepted, bit_writes_lem, bit_writes_all}
use Rattle.laws.proofs.packing.RoundTrip.{OneUpper}
use Rattle.laws.proofs.packing.Called.{PackedCall, BitWriterCall, bytes_calls, literal_calls, shown_calls}
use Rattle.valdrabus.specs.declared.told.Told.{Told}
use Rattle.valdrabus.specs.declared.packed.PackedTold.{PackedTold}
use Rattle.valdrabus.specs.Numbers.{number_told, refusal_told, text_told, bit_writing_told, Tells}
use Rattle.valdrabus.specs.Calls.{outcome_told, called_or, called, no_bits, packed_told, packed_call, is_bit_kind, radix_of, bit_write_call, bits_call, Packs, Lengths}
use Rattle.valdrabus.specs.Views.{view_call, view_bytes}
use Rattle.valdrabus.proofs.Numbering.{refusal_number_lem, text_number_lem}
use Rattle.valdrabus.proofs.Viewing.{view_shows}
use Rattle.std.specs.Prelude.{Result, Ok, Err}
use Rattle.meaning.specs.declared.PackedBits.{PackedBits}
use Rattle.meaning.specs.Answers.{packed_at}

-- THE KIND that has a letter, by its code
abbrev pub bit_kind : BitStringRadix → ℕ
bit_kind Binary = 12
bit_kind Hex = 13

pub kind_of_lem : (r : BitStringRadix) → kind_of (bit_kind r) ≡ Kind.BitString r
kind_of_lem Binary = refl
kind_of_lem Hex = refl

kind_known : (r : BitStringRadix) → is_known (bit_kind r) 0 0 ≡ true
kind_known Binary = refl
kind_known Hex = refl

kind_writes : (r : BitStringRadix) → is_bit_kind (bit_kind r) ≡ true
kind_writes Binary = refl
kind_writes Hex = refl

kind_radix : (r : BitStringRadix) → radix_of (bit_kind r) ≡ r
kind_radix Binary = refl
kind_radix Hex = refl

-- WHAT THE NUMBERS SAY: 0 just where something is written
refused_some : (q : Refusal) → (refusal_told q).number ≡ 0 → ⊥
refused_some (Refusal'.WrongKind e k) h = omega arith
refused_some (Refusal'.MissingSource s) h = omega arith
refused_some (Refusal'.InvalidSourceRange s) h = omega arith
refused_some (Refusal'.NotUtf8 s) h = omega arith
refused_some (Refusal'.InvalidInteger s) h = omega arith
refused_some (Refusal'.InvalidString s p) h = omega arith
refused_some (Refusal'.InvalidBitString s) h = omega arith
refused_some (Refusal'.InvalidMoney s) h = omega arith
refused_some (Refusal'.NoRoom n) h = omega arith
refused_some (Refusal'.InvalidDate s) h = omega arith

zero_packed : (a : Result PackedBits Refusal) → (packed_told a).told.number ≡ 0 → a ≡ Ok (packed_at (packed_told a).told.second (packed_told a).bits)
zero_packed (Ok π) h = refl
zero_packed (Err q) h = absurd (refused_some q h)

zero_written : (a : Result ℕ BitWritingError) → (bit_writing_told a).number ≡ 0 → a ≡ Ok (bit_writing_told a).second
zero_written (Ok n) h = refl
zero_written (Err BitWritingError'.OverLimit) h = absurd (omega arith)
zero_written (Err BitWritingError'.BadBits) h = absurd (omega arith)
zero_written (Err (BitWritingError'.NoRoom n)) h = absurd (omega arith)

-- A CALL of valdrabus_as_packed_bits on the text t: the kind is a radix's, and the mark 0, for not synthetic
pub record PackExport (r : BitStringRadix) (t : List ℕ) : Type 0 where
  pub start : ℕ
  pub end : ℕ
  pub source : List ℕ
  pub lent : List ℕ
  pub spans : Spans (literal_of (bit_kind r) 0 start end) source t
  pub result : ℕ
  pub bits : ℕ
  pub how : ℕ
  pub first : ℕ
  pub second : ℕ
  pub after : List ℕ
  pub contract : Packs (packed_call (bit_kind r) 0 start end source lent) result bits how first second after

-- it gave these bytes, of n bits: the buffer begins with them, and what stands behind is as lent
pub record Gives {r : BitStringRadix} {t : List ℕ} (c : PackExport r t) (bytes : List ℕ) (n : ℕ) : Type 0 where
  pub number : c.result ≡ 0
  pub count : c.bits ≡ n
  pub way : c.how ≡ 2
  pub begins : c.first ≡ 0
  pub ends : c.second ≡ length bytes
  pub buffer : c.after ≡ bytes ++ drop (length bytes) c.lent

module _ {r : BitStringRadix} {t : List ℕ} (c : PackExport r t) where
  abbrev pub literal : Literal
  literal = literal_of (bit_kind r) 0 c.start c.end

  abbrev pub packing : Outcome (Result PackedBits Refusal)
  packing = packed_question literal c.source c.lent

  pub tells_packing : Packs (outcome_told packed_told packing) c.result c.bits c.how c.first c.second c.after
  unfolding packed_call
  tells_packing = rw (kind_known r) at c.contract

  -- it is a call of the packed question on that text, or on one that equals it, and packed just where this one did
  abbrev pub packed_call_lem : (t' : List ℕ) → t ≡ t' → PackedCall r t'
  packed_call_lem t' e =
      record {
        literal = literal;
        source = c.source;
        lent = c.lent;
        kind = kind_of_lem r;
        spans = rw e at c.spans;
        result = packing.answer;
        after = c.after;
        contract = record { answer = refl; buffer = tells_packing.buffer };
      }

  pub packed_there : c.result ≡ 0 → packing.answer ≡ Ok (packed_at c.second c.bits)
  packed_there z =
      rw (tells_packing.says.two, tells_packing.count) (zero_packed packing.answer (sym tells_packing.says.result ∙ z))

  pub packed_here : (bytes : List ℕ) (n : ℕ) → packing.answer ≡ Ok (packed_at (length bytes) n) → c.after ≡ bytes ++ drop (length bytes) c.lent
      → Gives c bytes n
  packed_here bytes n e d = record {
    number = tells_packing.says.result ∙ ap (λ (a : Result PackedBits Refusal). (packed_told a).told.number) e;
    count = tells_packing.count ∙ ap (λ (a : Result PackedBits Refusal). (packed_told a).bits) e;
    way = tells_packing.says.way ∙ ap (λ (a : Result PackedBits Refusal). (packed_told a).told.how) e;
    begins = tells_packing.says.one ∙ ap (λ (a : Result PackedBits Refusal). (packed_told a).told.first) e;
    ends = tells_packing.says.two ∙ ap (λ (a : Result PackedBits Refusal). (packed_told a).told.second) e;
    buffer = d;
  }

-- A CALL of valdrabus_write_bit_literal on bytes and a count, of the kind of a radix. If the result is 0, it wrote the first len bytes of the buffer
pub record BitExport (r : BitStringRadix) (bytes : List ℕ) (n : ℕ) : Type 0 where
  pub lent : List ℕ
  pub result : ℕ
  pub len : ℕ
  pub after : List ℕ
  pub contract : Lengths (bit_write_call bytes n (bit_kind r) lent) result len after

module _ {r : BitStringRadix} {bytes : List ℕ} {n : ℕ} (w : BitExport r bytes n) where
  abbrev pub writing : Outcome (Result ℕ BitWritingError)
  writing = bit_write_question r bytes n w.lent

  pub tells_writing : Lengths (outcome_told bit_writing_told writing) w.result w.len w.after
  unfolding bit_write_call
  tells_writing = rw (kind_writes r, kind_radix r) at w.contract

  abbrev pub writer_call : BitWriterCall r bytes n
  writer_call = record { lent = w.lent; result = writing.answer; after = w.after; contract = record { answer = refl; buffer = tells_writing.buffer } }

  pub wrote_there : w.result ≡ 0 → writing.answer ≡ Ok w.len
  wrote_there z = rw tells_writing.long (zero_written writing.answer (sym tells_writing.result ∙ z))

  pub wrote_here : (m : ℕ) → writing.answer ≡ Ok m → (w.result ≡ 0) × (w.len ≡ m)
  wrote_here m e = (
    tells_writing.result ∙ ap (λ (a : Result ℕ BitWritingError). (bit_writing_told a).number) e,
    tells_writing.long ∙ ap (λ (a : Result ℕ BitWritingError). (bit_writing_told a).second) e,
  )

  -- a count that goes with the bytes is written, where there is room; and none other
  pub fine_exports_write : length bytes ≤ 268435456 → Fine r bytes n → length (bit_literal r bytes n) ≤ length w.lent
      → (w.result ≡ 0) × (w.len ≡ length (bit_literal r bytes n))
  fine_exports_write l f room =
      wrote_here (length (bit_literal r bytes n))
      (ap (λ (o : Outcome (Result ℕ BitWritingError)). o.answer) (bit_writes_lem r bytes n w.lent l f ∙ bit_writes_all (bit_literal r bytes n) w.lent room))

  pub written_exports_fine : w.result ≡ 0 → (length bytes ≤ 268435456) × Fine r bytes n
  written_exports_fine z = let a = bit_accepted r bytes n w.lent w.len (wrote_there z) in (a.0, a.1)

-- THE FIRST ROUND TRIP: "bytes and count come back through either literal, read with the kind of its letter". What was written, in a span of any source; bytes are
-- numbers below 256, as lent bytes are
pub bytes_exports : (r : BitStringRadix) (bytes : List ℕ) (n : ℕ) → ((i : ℕ) → bytes ! i < 256) → (w : BitExport r bytes n) → w.result ≡ 0
    → (c : PackExport r (take w.len w.after)) → length bytes ≤ length c.lent → Gives c bytes n
bytes_exports r bytes n below w z c room =
    let x = bytes_calls r bytes n below (writer_call w) w.len (wrote_there w z) (packed_call_lem c (take w.len w.after) refl) room in
    packed_here c bytes n x.0 x.1

-- THE SECOND: "a literal of just one segment, with an upper-case letter equal to its kind, upper-case digits and packed bytes within the limit, comes back as it
-- was"
pub literal_exports : (r : BitStringRadix) (t : List ℕ) → OneUpper r t → (c : PackExport r t) → c.result ≡ 0 → c.second ≤ 268435456
    → (w : BitExport r (take c.second c.after) c.bits) → length t ≤ length w.lent
    → (w.result ≡ 0) × (w.len ≡ length t) × (w.after ≡ t ++ drop (length t) w.lent)
literal_exports r t one c z limit w room =
    let x = literal_calls r t one (packed_call_lem c t refl) c.second c.bits (packed_there c z) limit (writer_call w) room in
    let y = wrote_here w (length t) x.0 in
    (y.0, y.1, x.1)

-- "Refusals: packing as for bits": a call of either on the same numbers and source, with whatever buffers. Each of 1 to 8, and 10, is given by both or by none;
-- then with the same values, no bits and the buffer as lent
pub record Alike (out : List ℕ) (r b h f g : ℕ) (after : List ℕ) (r' f' g' : ℕ) : Type 0 where
  pub number : r ≡ r'
  pub one : f ≡ f'
  pub two : g ≡ g'
  pub count : b ≡ 0
  pub way : h ≡ 0
  pub buffer : after ≡ out

how_none : (q : Refusal) → (refusal_told q).how ≡ 0
how_none (Refusal'.WrongKind e k) = refl
how_none (Refusal'.MissingSource s) = refl
how_none (Refusal'.InvalidSourceRange s) = refl
how_none (Refusal'.NotUtf8 s) = refl
how_none (Refusal'.InvalidInteger s) = refl
how_none (Refusal'.InvalidString s p) = refl
how_none (Refusal'.InvalidBitString s) = refl
how_none (Refusal'.InvalidMoney s) = refl
how_none (Refusal'.NoRoom n) = refl
how_none (Refusal'.InvalidDate s) = refl

refused_few : (q : Refusal) (n : ℕ) → n ≤ 8 → (refusal_told q).number ≡ n → refusal_number q ≤ 8
refused_few q n h e = let m = refusal_number_lem q in omega arith

packed_few : (a : Result PackedBits Refusal) (n : ℕ) → 1 ≤ n → n ≤ 8 → (packed_told a).told.number ≡ n → (q : Refusal) × (a ≡ Err q) × (refusal_number q ≤ 8)
packed_few (Ok π) n lo hi e = absurd (omega arith)
packed_few (Err q) n lo hi e = (q, refl, refused_few q n hi e)

text_few : (a : Result Text Refusal) (n : ℕ) → 1 ≤ n → n ≤ 8 → (text_told a).number ≡ n → (q : Refusal) × (a ≡ Err q) × (refusal_number q ≤ 8)
text_few (Ok (Text'.Borrowed f u)) n lo hi e = absurd (omega arith)
text_few (Ok (Text'.Written m)) n lo hi e = absurd (omega arith)
text_few (Err q) n lo hi e = (q, refl, refused_few q n hi e)

no_ten : (q : Refusal) → (refusal_told q).number ≡ 10 → ⊥
no_ten (Refusal'.WrongKind e k) h = omega arith
no_ten (Refusal'.MissingSource s) h = omega arith
no_ten (Refusal'.InvalidSourceRange s) h = omega arith
no_ten (Refusal'.NotUtf8 s) h = omega arith
no_ten (Refusal'.InvalidInteger s) h = omega arith
no_ten (Refusal'.InvalidString s p) h = omega arith
no_ten (Refusal'.InvalidBitString s) h = omega arith
no_ten (Refusal'.InvalidMoney s) h = omega arith
no_ten (Refusal'.NoRoom n) h = omega arith
no_ten (Refusal'.InvalidDate s) h = omega arith

packed_no_ten : (a : Result PackedBits Refusal) → (packed_told a).told.number ≡ 10 → ⊥
packed_no_ten (Ok π) h = omega arith
packed_no_ten (Err q) h = no_ten q h

text_no_ten : (a : Result Text Refusal) → (text_told a).number ≡ 10 → ⊥
text_no_ten (Ok (Text'.Borrowed f u)) h = omega arith
text_no_ten (Ok (Text'.Written m)) h = omega arith
text_no_ten (Err q) h = no_ten q h

module _ (k y s e : ℕ) (S out out' : List ℕ) where
  abbrev l : Literal
  l = literal_of k y s e

  abbrev packs : Bool → Outcome PackedTold
  packs known = called_or (no_bits (number_told 10)) known out (outcome_told packed_told (packed_question l S out))

  abbrev texts : Bool → Outcome Told
  texts known = called known out' (outcome_told text_told (bits_question l S out'))

  module _ {r b h f g r' h' f' g' : ℕ} {after after' : List ℕ} where
    alike : (q : Refusal) → refusal_number q ≤ 8 → (packed_question l S out).answer ≡ Err q → Packs (packs true) r b h f g after
        → Tells (texts true) r' h' f' g' after' → Alike out r b h f g after r' f' g'
    alike q few a v w =
        let x : (bits_question l S out').answer ≡ Err q = (packed_refuses l S out out' q few).0 a in
        record {
          number = v.says.result ∙ ap (λ (z : Result PackedBits Refusal). (packed_told z).told.number) a ∙ sym (w.says.result ∙ ap (λ (z : Result Text Refusal). (text_told z).number) x);
          one = v.says.one ∙ ap (λ (z : Result PackedBits Refusal). (packed_told z).told.first) a ∙ sym (w.says.one ∙ ap (λ (z : Result Text Refusal). (text_told z).first) x);
          two = v.says.two ∙ ap (λ (z : Result PackedBits Refusal). (packed_told z).told.second) a ∙ sym (w.says.two ∙ ap (λ (z : Result Text Refusal). (text_told z).second) x);
          count = v.count ∙ ap (λ (z : Result PackedBits Refusal). (packed_told z).bits) a;
          way = v.says.way ∙ ap (λ (z : Result PackedBits Refusal). (packed_told z).told.how) a ∙ how_none q;
          buffer = v.buffer ∙ subst (λ (z : Result PackedBits Refusal). PackedLeaves out z (packed_question l S out).buffer) a (packed_leaves l S out);
        }

    from_packed : (known : Bool) → Packs (packs known) r b h f g after → Tells (texts known) r' h' f' g' after' → (n : ℕ) → 1 ≤ n → n ≤ 8 → r ≡ n
        → Alike out r b h f g after r' f' g'
    from_packed false v w n lo hi z = let x = v.says.result in absurd (omega arith)
    from_packed true v w n lo hi z =
        let x = packed_few (packed_question l S out).answer n lo hi (sym v.says.result ∙ z) in
        alike x.0 x.2 x.1 v w

    from_bits : (known : Bool) → Packs (packs known) r b h f g after → Tells (texts known) r' h' f' g' after' → (n : ℕ) → 1 ≤ n → n ≤ 8 → r' ≡ n
        → Alike out r b h f g after r' f' g'
    from_bits false v w n lo hi z = let x = w.says.result in absurd (omega arith)
    from_bits true v w n lo hi z =
        let x = text_few (bits_question l S out').answer n lo hi (sym w.says.result ∙ z) in
        alike x.0 x.2 ((packed_refuses l S out out' x.0 x.2).1 x.1) v w

    tens : (known : Bool) → Packs (packs known) r b h f g after → Tells (texts known) r' h' f' g' after' → (r ≡ 10) ↔ (r' ≡ 10)
    tens false v w = (λ z. w.says.result, λ z. v.says.result)
    tens true v w = (
      λ z. absurd (packed_no_ten (packed_question l S out).answer (sym v.says.result ∙ z)),
      λ z. absurd (text_no_ten (bits_question l S out').answer (sym w.says.result ∙ z)),
    )

    module _ (v : Packs (packed_call k y s e S out) r b h f g after) (w : Tells (bits_call k y s e S out') r' h' f' g' after') where
      pub refuses_alike : (n : ℕ) → 1 ≤ n → n ≤ 8 → r ≡ n
          → Alike out r b h f g after r' f' g'
      unfolding packed_call bits_call
      refuses_alike = from_packed (is_known k y 0) v w

      pub refuses_exports : (n : ℕ) → 1 ≤ n → n ≤ 8 → (r ≡ n) ↔ (r' ≡ n)
      unfolding packed_call bits_call
      refuses_exports n lo hi = (
        λ z. sym (from_packed (is_known k y 0) v w n lo hi z).number ∙ z,
        λ z. (from_bits (is_known k y 0) v w n lo hi z).number ∙ z,
      )

      pub ten_exports : (r ≡ 10) ↔ (r' ≡ 10)
      unfolding packed_call bits_call
      ten_exports = tens (is_known k y 0) v w

-- THE DIGITS that valdrabus_as_bit_text shows of the same literal, with whatever buffer, are packed, where there is room for their bytes
module _ {r : BitStringRadix} {t : List ℕ} (c : PackExport r t) (out : List ℕ) {h f g : ℕ} {after : List ℕ}
    (w : Tells (bits_call (bit_kind r) 0 c.start c.end c.source out) 0 h f g after) where
  abbrev pub seen : List ℕ
  seen = view_bytes c.source after (view_call h f g (length c.source) (length after))

  abbrev pub packed : List ℕ
  packed = pack_bits (bits_in (radix_bits r) seen)

  tells_bits : Tells (outcome_told text_told (bits_question (literal c) c.source out)) 0 h f g after
  unfolding bits_call
  tells_bits = rw (kind_known r) at w

  packs_seen : Meets (packs_as (literal c).span (radix_bits r) c.lent (means seen)) (packing c).answer c.after
  packs_seen =
      let o : Outcome (Result Text Refusal) = bits_question (literal c) c.source out in
      let q : seen ≡ shown c.source after o.answer =
      rw (tells_bits.says.way, tells_bits.says.one, tells_bits.says.two) (view_shows c.source after o.answer) in
      rw q
      (shown_calls (packed_call_lem c t refl) out o.answer after (record { answer = refl; buffer = tells_bits.buffer })
      (sym (text_number_lem o.answer) ∙ sym tells_bits.says.result))

  pub digits_exports : length packed ≤ length c.lent → Gives c packed (length (bits_in (radix_bits r) seen))
  unfolding filled
  digits_exports room =
      let m = packs_seen in
      let x = le-leb (length packed) (length c.lent) room in
      packed_here c packed (length (bits_in (radix_bits r) seen)) (rw x at m.answer) (rw x at m.buffer)

  -- else 9 tells how many they are
  pub short_exports : length c.lent < length packed
      → (c.result ≡ 9) × (c.bits ≡ 0) × (c.second ≡ length packed) × (c.after ≡ c.lent)
  unfolding filled
  short_exports room =
      let m = packs_seen in
      let x = lt-leb (length packed) (length c.lent) room in
      let a : (packing c).answer ≡ Err (Refusal'.NoRoom (length packed)) = rw x at m.answer in (
        (tells_packing c).says.result ∙ ap (λ (z : Result PackedBits Refusal). (packed_told z).told.number) a,
        (tells_packing c).count ∙ ap (λ (z : Result PackedBits Refusal). (packed_told z).bits) a,
        (tells_packing c).says.two ∙ ap (λ (z : Result PackedBits Refusal). (packed_told z).told.second) a,
        rw x at m.buffer,
      )
