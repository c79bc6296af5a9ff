-- [02 T-07] The packed question, from a literal in a source to bytes or a refusal: what its text's value decides, that it refuses as the bits question does,
-- and which numbers it gives. Assumes nothing.
use mathlib.Core.Logic.{◌↔◌}
use mathlib.Core.Path.{◌≡◌, refl, ap, sym, ◌∙◌}
use mathlib.Core.Bool.{Bool, true, false}
use mathlib.Core.List.{List, [], ◌∷◌, ◌++◌}
use Prim.Native.Nat.{ℕ, zero, ◌-◌, ◌*◌, ◌^◌, ◌≤◌, ◌<◌}
use native.Mathlib.Omega.{arith}
use borrow.Author.Tests.{lt-ltb, leb-true, le-leb, lt-leb}
use lib.Dec.{leb, ltb}
use lib.Pow.{pow_pos}
use lib.ListN.{length, take, drop, replicate}
use lib.Seq.{take_at}
use Rattle.meaning.specs.declared.BitStringRadix.{BitStringRadix}
use Rattle.meaning.specs.declared.LiteralKind.TheVariants as Kind
use Rattle.meaning.specs.declared.Span.{Span}
use Rattle.meaning.specs.declared.Literal.{Literal}
use Rattle.meaning.specs.declared.LiteralExpected.TheVariants as Expected
use Rattle.meaning.specs.declared.Refusal.{Refusal}
use Rattle.meaning.specs.declared.Refusal.TheVariants.{WrongKind, MissingSource, InvalidSourceRange, NotUtf8, InvalidBitString, NoRoom}
use Rattle.meaning.specs.declared.Text.{Text}
use Rattle.meaning.specs.declared.Text.TheVariants as Text'
use Rattle.meaning.specs.Bytes.{part, has}
use Rattle.std.specs.Prelude.{if◌then◌else◌}
use Rattle.meaning.specs.Chars.{utf8}
use Rattle.meaning.specs.Cutting.{off}
use Rattle.meaning.specs.Reading.{Answer, borrowed, written, refused, Value, means, fails, value_of}
use Rattle.meaning.specs.Kinds.{bits}
use Rattle.meaning.specs.declared.PackedBits.{PackedBits}
use Rattle.meaning.specs.Answers.{Outcome, refusal_number, text_number, packed_number, shown, filled}
use Rattle.meaning.specs.Questions.{Tested, passes, barred, bad_span, source_text, tested, bit_base, told_as, told, bits_question}
use Rattle.meaning.specs.Packing.{spread, bits_per, bits_in, pack_bits, packs_as, packed_by, packed_question, radix_bits, packed_length}
use Rattle.laws.proofs.questions.Asked.{Spans, tested_passes}
use Rattle.laws.proofs.questions.Answered.{told_shows}
use Rattle.laws.proofs.questions.Ranges.{span_range}
use Rattle.laws.proofs.packing.Gathered.{Below, units_most, length_bits_in, bits_in_below, length_pack_bits, gather_below}
use Rattle.laws.proofs.packing.Digits.{radix_base, radix_bits_lem, packed_spread}
use Rattle.laws.proofs.packing.Segment.{bits_inside}
use Rattle.std.specs.Prelude.{Result, Ok, Err}
use Rattle.meaning.specs.Answers.{packed_at}

-- THE TEXT'S VALUE decides
module _ (r : BitStringRadix) (l : Literal) (S t out : List ℕ) (k : l.kind ≡ Kind.BitString r) (h : Spans l S t) (u : utf8 t ≡ true) where
  pub packed_asked : packed_question l S out ≡ packs_as l.span (radix_bits r) out (value_of t (bits off (2 ^ radix_bits r) t))
  unfolding packed_question
  packed_asked =
      let e : bit_base l.kind ≡ 2 ^ radix_bits r = ap bit_base k ∙ radix_base r in
      rw (e, lt-ltb 0 (2 ^ radix_bits r) (pow_pos (radix_bits r)), tested_passes Expected.BitString l S t h u, radix_bits_lem r)

  pub packed_value : (v : List ℕ) → value_of t (bits off (2 ^ radix_bits r) t) ≡ means v → packed_question l S out ≡ packs_as l.span (radix_bits r) out (means v)
  packed_value v e = packed_asked ∙ ap (packs_as l.span (radix_bits r) out) e

  -- written where there is room; "the needed length in 9 counting packed bytes"
  module _ (v : List ℕ) (e : value_of t (bits off (2 ^ radix_bits r) t) ≡ means v) where
    counted : length (bits_in (radix_bits r) v) ≡ radix_bits r * length v
    counted = length_bits_in (radix_bits r) v

    sized : length (pack_bits (bits_in (radix_bits r) v)) ≡ packed_length (radix_bits r * length v)
    sized = length_pack_bits (bits_in (radix_bits r) v) ∙ ap packed_length counted

    pub packed_room : packed_length (radix_bits r * length v) ≤ length out
        → (packed_question l S out).answer ≡ Ok (packed_at (packed_length (radix_bits r * length v)) (radix_bits r * length v))
    packed_room h = rw (packed_value v e, sized, counted, le-leb (packed_length (radix_bits r * length v)) (length out) h)

    pub packed_short : length out < packed_length (radix_bits r * length v)
        → packed_question l S out ≡ record { answer = Err (NoRoom (packed_length (radix_bits r * length v))); buffer = out }
    unfolding filled
    packed_short h = rw (packed_value v e, sized, lt-leb (packed_length (radix_bits r * length v)) (length out) h)

-- WHAT IS ANSWERED. The text t is UTF-8 and means digits, which are packed, counted and put
pub record PackedAs (r : BitStringRadix) (t out : List ℕ) (len n : ℕ) (after : List ℕ) : Type 0 where
  pub value : List ℕ
  pub valid : utf8 t ≡ true
  pub reads : value_of t (bits off (2 ^ radix_bits r) t) ≡ means value
  pub count : n ≡ length (bits_in (radix_bits r) value)
  pub size : len ≡ length (pack_bits (bits_in (radix_bits r) value))
  pub room : len ≤ length out
  pub bytes : after ≡ pack_bits (bits_in (radix_bits r) value) ++ drop len out

module _ (r : BitStringRadix) (l : Literal) (S t out : List ℕ) (k : l.kind ≡ Kind.BitString r) (h : Spans l S t) where
  -- a text that is not UTF-8 gives 4
  pub packed_not_utf8 : utf8 t ≡ false → (packed_question l S out).answer ≡ Err (NotUtf8 l.span)
  unfolding packed_question tested source_text
  packed_not_utf8 u =
      let e : bit_base l.kind ≡ 2 ^ radix_bits r = ap bit_base k ∙ radix_base r in
      rw (e, lt-ltb 0 (2 ^ radix_bits r) (pow_pos (radix_bits r)), h.real, h.fits, h.text, u)

  pub packed_written : (len n : ℕ) → (packed_question l S out).answer ≡ Ok (packed_at len n) → PackedAs r t out len n (packed_question l S out).buffer
  unfolding filled
  packed_written len n e = go (utf8 t) refl
    where
      room : (v : List ℕ) → value_of t (bits off (2 ^ radix_bits r) t) ≡ means v → utf8 t ≡ true → (x : Bool)
          → leb (length (pack_bits (bits_in (radix_bits r) v))) (length out) ≡ x
          → (if x then Ok (packed_at (length (pack_bits (bits_in (radix_bits r) v))) (length (bits_in (radix_bits r) v)))
          else Err (NoRoom (length (pack_bits (bits_in (radix_bits r) v))))) ≡ Ok (packed_at len n)
          → PackedAs r t out len n (filled (pack_bits (bits_in (radix_bits r) v)) out)
      room v m u false f e = let z : ◌≡◌ {A = ℕ} 0 1 = cc in absurd (omega arith)
      room v m u true f e =
          let k : packed_at (length (pack_bits (bits_in (radix_bits r) v))) (length (bits_in (radix_bits r) v)) ≡ packed_at len n = cc in
          let z : len ≡ length (pack_bits (bits_in (radix_bits r) v)) = sym (ap (λ (p : PackedBits). p.len) k) in
          record {
            value = v;
            valid = u;
            reads = m;
            count = sym (ap (λ (p : PackedBits). p.bits) k);
            size = z;
            room = rw z (leb-true (length (pack_bits (bits_in (radix_bits r) v))) (length out) f);
            bytes = rw (f, z);
          }

      value : (x : Value) → value_of t (bits off (2 ^ radix_bits r) t) ≡ x → utf8 t ≡ true → (packs_as l.span (radix_bits r) out x).answer ≡ Ok (packed_at len n)
          → PackedAs r t out len n (packs_as l.span (radix_bits r) out x).buffer
      value (means v) m u e = room v m u (leb (length (pack_bits (bits_in (radix_bits r) v))) (length out)) refl e
      value (fails p) m u e = let z : ◌≡◌ {A = ℕ} 0 1 = cc in absurd (omega arith)

      go : (x : Bool) → utf8 t ≡ x → PackedAs r t out len n (packed_question l S out).buffer
      go false u =
          let z : Err (NotUtf8 l.span) ≡ Ok (packed_at len n) = sym (packed_not_utf8 u) ∙ e in
          let y : ◌≡◌ {A = ℕ} 0 1 = cc in absurd (omega arith)
      go true u =
          let q = packed_asked r l S t out k h u in
          rw q (value (value_of t (bits off (2 ^ radix_bits r) t)) refl u (rw q at e))

-- so the bytes are those, and "the first bit is the top bit of the first byte; unused low bits of the last byte are zero"
module _ {r : BitStringRadix} {t out : List ℕ} {len n : ℕ} {after : List ℕ} (a : PackedAs r t out len n after) where
  pub packed_bytes : take len after ≡ pack_bits (bits_in (radix_bits r) a.value)
  packed_bytes = rw a.bytes (take_at (pack_bits (bits_in (radix_bits r) a.value)) (drop len out) len (sym a.size))

  pub packed_count : n ≡ radix_bits r * length a.value
  packed_count = a.count ∙ length_bits_in (radix_bits r) a.value

  pub packed_length_lem : len ≡ packed_length n
  packed_length_lem = a.size ∙ length_pack_bits (bits_in (radix_bits r) a.value) ∙ ap packed_length (sym a.count)

  pub packed_below : Below 256 (take len after)
  unfolding pack_bits
  packed_below = rw packed_bytes (gather_below 8 (omega arith) (bits_in (radix_bits r) a.value) (bits_in_below (radix_bits r) a.value))

  pub packed_bits : (spread 8 (take len after) ≡ bits_in (radix_bits r) a.value ++ replicate (8 * len - n) 0) × (8 * len - n < 8)
  packed_bits =
      let m : 8 * packed_length (length (bits_in (radix_bits r) a.value)) - length (bits_in (radix_bits r) a.value) ≡ 8 * len - n =
      omega (arith, packed_length_lem, ap packed_length a.count, a.count) in (
        rw packed_bytes (packed_spread (bits_in (radix_bits r) a.value) (bits_in_below (radix_bits r) a.value) ∙ rw m),
        omega (arith, packed_length_lem, (units_most 8 (omega arith) n).1),
      )

-- THE BITS QUESTION on the same literal, with any other buffer, refuses the same: all but 9
shared : (s : Span) (f k : ℕ) (out out' t : List ℕ) (a : Answer) (r : Refusal) → refusal_number r ≤ 8
    → ((packs_as s k out (value_of t a)).answer ≡ Err r) ↔ ((told_as (λ p. InvalidBitString s) f out' a).answer ≡ Err r)
shared s f k out out' t a r n = go a
  where
    packs : (x : Bool) (m b : ℕ) → (if x then Ok (packed_at m b) else Err (NoRoom m)) ≡ Err r → ⊥
    packs true m b h = let z : ◌≡◌ {A = ℕ} 0 1 = cc in omega arith
    packs false m b h = let z : r ≡ NoRoom m = cc in let e = ap refusal_number z in omega arith

    room : (x : Bool) (m : ℕ) → (if x then Ok (Text'.Written m) else Err (NoRoom m)) ≡ Err r → ⊥
    room true m h = let z : ◌≡◌ {A = ℕ} 0 1 = cc in omega arith
    room false m h = let z : r ≡ NoRoom m = cc in let e = ap refusal_number z in omega arith

    value : (v : List ℕ) → (packs_as s k out (means v)).answer ≡ Err r → ⊥
    value v h = packs (leb (length (pack_bits (bits_in k v))) (length out)) (length (pack_bits (bits_in k v))) (length (bits_in k v)) h

    go : (a : Answer) → ((packs_as s k out (value_of t a)).answer ≡ Err r) ↔ ((told_as (λ p. InvalidBitString s) f out' a).answer ≡ Err r)
    go (borrowed g u) = (λ h. absurd (value (part g u t) h), λ h. let z : ◌≡◌ {A = ℕ} 0 1 = cc in absurd (omega arith))
    go (written v) = (λ h. absurd (value v h), λ h. absurd (room (leb (length v) (length out')) (length v) h))
    go (refused p) = (λ h. ap Err (cc), λ h. ap Err (cc))

module _ (l : Literal) (S out out' : List ℕ) where
  pub packed_refuses : (r : Refusal) → refusal_number r ≤ 8
      → ((packed_question l S out).answer ≡ Err r) ↔ ((bits_question l S out').answer ≡ Err r)
  unfolding packed_question bits_question
  packed_refuses r n = go (tested (ltb 0 (bit_base l.kind)) Expected.BitString l S)
    where
      go : (x : Tested)
          → ((packed_by l.span (bit_base l.kind) out x).answer ≡ Err r)
          ↔ ((told (bits off (bit_base l.kind)) (λ s p. InvalidBitString s) l out' x).answer ≡ Err r)
      go (passes t) = shared l.span l.span.start (bits_per (bit_base l.kind)) out out' t (bits off (bit_base l.kind) t) r n
      go (barred q) = (λ h. ap Err (cc), λ h. ap Err (cc))

  -- and what it shows, where it is answered, is packed
  pub packed_shown_lem : text_number (bits_question l S out').answer ≡ 0
      → packed_question l S out
      ≡ packs_as l.span (bits_per (bit_base l.kind)) out (means (shown S (bits_question l S out').buffer (bits_question l S out').answer))
  unfolding packed_question bits_question tested source_text
  packed_shown_lem n = go (ltb 0 (bit_base l.kind)) l.synthetic (bad_span l.span S) (utf8 t) refl refl refl refl
    where
      t : List ℕ
      t = part l.span.start l.span.end S

      o : Outcome (Result Text Refusal)
      o = bits_question l S out'

      go : (w x y z : Bool) → ltb 0 (bit_base l.kind) ≡ w → l.synthetic ≡ x → bad_span l.span S ≡ y → utf8 t ≡ z
          → packed_question l S out ≡ packs_as l.span (bits_per (bit_base l.kind)) out (means (shown S o.buffer o.answer))
      go false x y z d e f g = let m = rw d at n in absurd (omega arith)
      go true true y z d e f g = let m = rw (d, e) at n in absurd (omega arith)
      go true false true z d e f g = let m = rw (d, e, f) at n in absurd (omega arith)
      go true false false false d e f g = let m = rw (d, e, f, g) at n in absurd (omega arith)
      go true false false true d e f g =
          let bad : ℕ → Refusal = λ p. InvalidBitString l.span in
          let a : Answer = bits off (bit_base l.kind) t in
          let q : o ≡ told_as bad l.span.start out' a = rw (d, e, f, g) in
          let w = told_shows bad l.span.start l.span.end S out' (span_range l.span S f) a (bits_inside off (bit_base l.kind) t) (rw q at n) in
          let p : packed_question l S out ≡ packs_as l.span (bits_per (bit_base l.kind)) out (value_of t a) = rw (d, e, f, g) in
          p ∙ ap (packs_as l.span (bits_per (bit_base l.kind)) out) (w ∙ ap (λ (x : Outcome (Result Text Refusal)). means (shown S x.buffer x.answer)) (sym q))

-- a literal of another kind is told that a bit string was expected
pub packed_wrong_kind : (l : Literal) (S out : List ℕ) → bit_base l.kind ≡ 0
    → packed_question l S out ≡ record { answer = Err (WrongKind Expected.BitString l.kind); buffer = out }
unfolding packed_question tested
packed_wrong_kind l S out k = rw k

-- THE NUMBERS that it gives
abbrev pub packed_numbers : List ℕ
packed_numbers = 0 ∷ 1 ∷ 2 ∷ 3 ∷ 4 ∷ 7 ∷ 9 ∷ []

pub packed_numbers_lem : (l : Literal) (S out : List ℕ) → has (packed_number (packed_question l S out).answer) packed_numbers ≡ true
unfolding packed_question tested source_text
packed_numbers_lem l S out = kind (ltb 0 (bit_base l.kind))
  where
    s : Span
    s = l.span

    room : (x : Bool) (m b : ℕ) → has (packed_number (if x then Ok (packed_at m b) else Err (NoRoom m))) packed_numbers ≡ true
    room true m b = refl
    room false m b = refl

    value : (k : ℕ) (x : Value) → has (packed_number (packs_as s k out x).answer) packed_numbers ≡ true
    value k (means v) = room (leb (length (pack_bits (bits_in k v))) (length out)) (length (pack_bits (bits_in k v))) (length (bits_in k v))
    value k (fails p) = refl

    text : (x y z : Bool) (t : List ℕ)
        → has (packed_number (packed_by s (bit_base l.kind) out
        (if x then barred (MissingSource s) else if y then barred (InvalidSourceRange s) else if z then passes t else barred (NotUtf8 s))).answer) packed_numbers
        ≡ true
    text true y z t = refl
    text false true z t = refl
    text false false true t = value (bits_per (bit_base l.kind)) (value_of t (bits off (bit_base l.kind) t))
    text false false false t = refl

    kind : (x : Bool)
        → has (packed_number (packed_by s (bit_base l.kind) out (if x then source_text l S else barred (WrongKind Expected.BitString l.kind))).answer)
        packed_numbers ≡ true
    kind true = text l.synthetic (bad_span s S) (utf8 (part s.start s.end S)) (part s.start s.end S)
    kind false = refl
