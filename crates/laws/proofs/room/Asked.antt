-- Room, of the questions: the length that one tells, as written or as needed, is bounded by its span; and so a buffer that is as long never gets a 9.
-- Assumes nothing.
use mathlib.Core.Path.{◌≡◌, refl, subst}
use mathlib.Core.Bool.{Bool, true, false}
use mathlib.Core.List.{List}
use Prim.Native.Nat.{ℕ, ◌+◌, ◌-◌, ◌*◌, ◌≤◌, ◌<◌}
use native.Mathlib.Omega.{arith}
use lib.Dec.{ltb}
use lib.ListN.{length}
use Rattle.meaning.specs.declared.Settings.{Settings}
use Rattle.meaning.specs.declared.Literal.{Literal}
use Rattle.meaning.specs.declared.LiteralExpected.TheVariants as Expected
use Rattle.meaning.specs.declared.Refusal.TheVariants.{InvalidInteger, InvalidString, InvalidBitString, NoRoom}
use Rattle.meaning.specs.declared.Text.TheVariants as Text'
use Rattle.meaning.specs.Bytes.{part}
use Rattle.std.specs.Prelude.{if◌then◌else◌}
use Rattle.meaning.specs.Chars.{utf8}
use Rattle.meaning.specs.Cutting.{off}
use Rattle.meaning.specs.Reading.{Answer, borrowed, written, refused, Value, means, fails, value_of, read}
use Rattle.meaning.specs.Numbers.{decimal_of}
use Rattle.meaning.specs.Kinds.{bits, temporal}
use Rattle.meaning.specs.Helpers.{ident}
use Rattle.meaning.specs.Answers.{text_number, packed_number, identifier_number}
use Rattle.meaning.specs.Questions.{Tested, bad_span, is_string, is_number, is_temporal, bit_base, string_question, decimal_question, bits_question, temporal_question}
use Rattle.meaning.specs.Questions.{identifier_as, identifier_question}
use Rattle.meaning.specs.Packing.{bits_per, bits_in, pack_bits, packs_as, packed_by, packed_question}
use Rattle.laws.proofs.questions.Asked.{Spans}
use Rattle.laws.proofs.questions.Ranges.{Answered, string_answered}
use Rattle.laws.proofs.joining.JoiningLaw.{Accepts}
use Rattle.laws.proofs.walking.Short.{meaning_length}
use Rattle.laws.proofs.room.Told.{Writes, TextNeeds, PackedNeeds, IdentifierNeeds, text_never, packed_never, identifier_never, by_room_lem, tested_by, low_needs}
use Rattle.laws.proofs.room.Told.{told_needs, spanned, span_long}
use Rattle.laws.proofs.room.Values.{Less, read_writes, temporal_writes, ident_writes}
use Rattle.laws.proofs.room.Digits.{bits_length, bits_writes, packed_half}
use Rattle.laws.proofs.room.Decimals.{Forty, forty_most, decimal_writes}
use Rattle.std.specs.Prelude.{Err}
use Rattle.std.specs.Prelude.{Ok}
use Rattle.meaning.specs.declared.IdentifierError.TheVariants as IdentifierError'
use Rattle.meaning.specs.Answers.{packed_at}

-- packed bytes are two digits each, or a last one; and a letter and two marks stand around the digits
abbrev pub Half : ℕ → ℕ → Type 0
Half k n = 2 * n + 2 ≤ k

module _ (l : Literal) (S out : List ℕ) where
  abbrev text : List ℕ
  text = part l.span.start l.span.end S

  -- of the text, so of its span
  by_span : (P : ℕ → ℕ → Type 0) (f : List ℕ → Answer) → ((t : List ℕ) → Writes (P (length t)) (f t)) → bad_span l.span S ≡ false
      → Writes (P (spanned l)) (f text)
  by_span P f w h = subst (λ (n : ℕ). Writes (P n) (f text)) (span_long l S h) (w text)

  -- A STRING
  module _ (σ : Settings) where
    pub string_needs : TextNeeds (Less 2 (spanned l)) (length out) (string_question l S σ out).answer
    unfolding string_question
    string_needs =
        told_needs (Less 2 (spanned l)) (read σ) InvalidString l S out (λ s p. tt) (by_span (Less 2) (read σ) (read_writes σ)) (is_string l.kind) Expected.String

    pub string_nine : (n : ℕ) → (string_question l S σ out).answer ≡ Err (NoRoom n) → (n + 2 ≤ spanned l) × (length out < n)
    string_nine n e = subst (TextNeeds (Less 2 (spanned l)) (length out)) e string_needs

    pub string_never : spanned l ≤ length out + 2 → text_number (string_question l S σ out).answer ≡ 9 → ⊥
    string_never h = text_never (Less 2 (spanned l)) (length out) (λ n k. omega arith) (string_question l S σ out).answer string_needs

  -- A TEMPORAL TEXT
  pub temporal_needs : TextNeeds (Less 2 (spanned l)) (length out) (temporal_question l S out).answer
  unfolding temporal_question
  temporal_needs =
      told_needs (Less 2 (spanned l)) (temporal off) InvalidString l S out (λ s p. tt) (by_span (Less 2) (temporal off) (temporal_writes off)) (is_temporal l.kind)
      Expected.Temporal

  pub temporal_nine : (n : ℕ) → (temporal_question l S out).answer ≡ Err (NoRoom n) → (n + 2 ≤ spanned l) × (length out < n)
  temporal_nine n e = subst (TextNeeds (Less 2 (spanned l)) (length out)) e temporal_needs

  pub temporal_never : spanned l ≤ length out + 2 → text_number (temporal_question l S out).answer ≡ 9 → ⊥
  temporal_never h = text_never (Less 2 (spanned l)) (length out) (λ n k. omega arith) (temporal_question l S out).answer temporal_needs

  -- BITS, as digits and packed
  pub bits_needs : TextNeeds (Less 3 (spanned l)) (length out) (bits_question l S out).answer
  unfolding bits_question
  bits_needs =
      told_needs (Less 3 (spanned l)) (bits off (bit_base l.kind)) (λ s p. InvalidBitString s) l S out (λ s p. tt)
      (by_span (Less 3) (bits off (bit_base l.kind)) (bits_writes off (bit_base l.kind))) (ltb 0 (bit_base l.kind)) Expected.BitString

  pub bits_never : spanned l ≤ length out + 3 → text_number (bits_question l S out).answer ≡ 9 → ⊥
  bits_never h = text_never (Less 3 (spanned l)) (length out) (λ n k. omega arith) (bits_question l S out).answer bits_needs

  pub packed_needs : PackedNeeds (Half (spanned l)) (length out) (packed_question l S out).answer
  unfolding packed_question
  packed_needs =
      tested_by (λ (x : Tested). PackedNeeds (Half (spanned l)) (length out) (packed_by l.span (bit_base l.kind) out x).answer) l S
      (λ h. go (span_long l S h) (value_of text (bits off (bit_base l.kind) text)) refl) (λ r h. low_needs (Half (spanned l)) (length out) r h)
      (ltb 0 (bit_base l.kind)) Expected.BitString
    where
      go : length text ≡ spanned l → (x : Value) → value_of text (bits off (bit_base l.kind) text) ≡ x
          → PackedNeeds (Half (spanned l)) (length out) (packs_as l.span (bits_per (bit_base l.kind)) out x).answer
      go z (fails p) e = tt
      go z (means v) e =
          let k : Half (spanned l) (length (pack_bits (bits_in (bits_per (bit_base l.kind)) v))) =
          omega (arith, z, bits_length off (bit_base l.kind) text v e, packed_half (bit_base l.kind) v) in
          by_room_lem (PackedNeeds (Half (spanned l)) (length out)) (λ n. Ok (packed_at n (length (bits_in (bits_per (bit_base l.kind)) v))))
          (λ n. Err (NoRoom n)) (length (pack_bits (bits_in (bits_per (bit_base l.kind)) v))) (length out) (λ h. (k, h)) (λ h. (k, h))

  pub packed_enough : spanned l ≤ 2 * length out + 3 → packed_number (packed_question l S out).answer ≡ 9 → ⊥
  packed_enough h = packed_never (Half (spanned l)) (length out) (λ n k. omega arith) (packed_question l S out).answer packed_needs

  -- A NUMBER
  pub decimal_needs : TextNeeds (Forty (spanned l)) (length out) (decimal_question l S out).answer
  unfolding decimal_question
  decimal_needs =
      told_needs (Forty (spanned l)) decimal_of (λ s p. InvalidInteger s) l S out (λ s p. tt) (by_span Forty decimal_of decimal_writes) (is_number l.kind)
      Expected.DecimalText

  pub decimal_never : 40 ≤ length out → spanned l ≤ length out + 1 → text_number (decimal_question l S out).answer ≡ 9 → ⊥
  decimal_never f h =
      text_never (Forty (spanned l)) (length out) (λ n k. forty_most (spanned l) (length out) n f h k) (decimal_question l S out).answer decimal_needs

-- AN IDENTIFIER
pub identifier_needs : (t out : List ℕ) → IdentifierNeeds (Less 4 (length t)) (length out) (identifier_question t out).answer
unfolding identifier_question
identifier_needs t out = go (utf8 t) (ident t) (ident_writes t)
  where
    go : (x : Bool) (a : Answer) → Writes (Less 4 (length t)) a
        → IdentifierNeeds (Less 4 (length t)) (length out) (if x then identifier_as out a else record { answer = Err IdentifierError'.NotUtf8; buffer = out }).answer
    go false a w = tt
    go true (borrowed f u) w = tt
    go true (written v) w =
        by_room_lem (IdentifierNeeds (Less 4 (length t)) (length out)) (λ n. Ok (Text'.Written n)) (λ n. Err (IdentifierError'.NoRoom n)) (length v) (length out) (λ h. (w, h)) (λ h. (w, h))
    go true (refused p) w = tt

pub identifier_enough : (t out : List ℕ) → length t ≤ length out + 4 → identifier_number (identifier_question t out).answer ≡ 9 → ⊥
identifier_enough t out h =
    identifier_never (Less 4 (length t)) (length out) (λ n k. omega arith) (identifier_question t out).answer (identifier_needs t out)

-- A TEXT THAT IS ACCEPTED is answered and shown in every such buffer
pub string_enough : (l : Literal) (S t v : List ℕ) (σ : Settings) (out : List ℕ) → is_string l.kind ≡ true → Spans l S t → Accepts σ t v
    → length t ≤ length out + 2 → Answered S v (string_question l S σ out)
string_enough l S t v σ out k h a r = string_answered l S t v σ out k h a (omega (arith, r, meaning_length σ t v a.value))
