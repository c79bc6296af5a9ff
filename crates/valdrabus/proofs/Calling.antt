-- A call: numbers that name nothing are refused with 10, and the buffer is as lent; else the answer is the question's own. Assumes nothing.
use Rattle.std.specs.Prelude.{Result, Some, None}
use Rattle.std.specs.Bool.{then_some}
use Rattle.std.proofs.lemmas.Option.{none-some}
use mathlib.Core.Path.{◌≡◌, refl, sym, ap, ◌∙◌}
use mathlib.Core.Bool.{Bool, true, false, ◌&&◌}
use mathlib.Core.List.{List}
use Prim.Native.Nat.{ℕ, ◌≤◌, ◌<◌}
use lib.Dec.{leb}
use lib.IntN.{pos}
use borrow.Author.Tests.{le-leb, lt-leb}
use Rattle.meaning.specs.declared.Settings.{Settings}
use Rattle.meaning.specs.declared.Literal.{Literal}
use Rattle.meaning.specs.declared.Text.{Text}
use Rattle.meaning.specs.declared.CalendarDay.{CalendarDay}
use Rattle.meaning.specs.declared.BitStringRadix.{BitStringRadix}
use Rattle.meaning.specs.declared.BitWritingError.{BitWritingError}
use Rattle.meaning.specs.declared.WritingError.{WritingError}
use Rattle.meaning.specs.declared.PartSize.{PartSize}
use Rattle.meaning.specs.Answers.{Outcome, Meets}
use Rattle.meaning.specs.Questions.{string_question, decimal_question, bits_question, temporal_question, source_question, money_question, charset_question}
use Rattle.meaning.specs.Questions.{i64_question, bool_question, null_question, is_null}
use Rattle.meaning.specs.Writer.{write_question}
use Rattle.meaning.specs.Dates.{date_question}
use Rattle.meaning.specs.Packing.{packed_question, bit_write_question}
use Rattle.valdrabus.specs.declared.told.Told.{Told}
use Rattle.valdrabus.specs.declared.counted.Counted.{Counted}
use Rattle.valdrabus.specs.declared.dated.DayTold.{DayTold}
use Rattle.valdrabus.specs.declared.packed.PackedTold.{PackedTold}
use Rattle.meaning.specs.Codes.{kind_of, is_known, literal_of, settings_of}
use Rattle.valdrabus.specs.Numbers.{number_told, text_told, range_told, charset_told, truth_told, nullness_told, writing_told, bit_writing_told}
use Rattle.valdrabus.specs.Calls.{outcome_told, called_or, called_bare, called_count, counted_of, string_call, decimal_call, bits_call, temporal_call, source_call}
use Rattle.valdrabus.specs.Calls.{money_call, charset_call, i64_call, bool_call, null_call, is_null_call, write_call}
use Rattle.valdrabus.specs.Calls.{no_day, day_told, dated_told, called_day, date_call}
use Rattle.valdrabus.specs.Calls.{no_bits, packed_told, packed_call, is_bit_kind, radix_of, bit_write_call}
use Rattle.meaning.specs.declared.Refusal.{Refusal}
use Rattle.std.specs.Prelude.{ℤ}
use Rattle.meaning.specs.declared.Part.{Part}
use Rattle.std.specs.Prelude.{Option}
use Rattle.meaning.specs.declared.PackedBits.{PackedBits}

-- A NAME OR NONE: what `then_some` answers says what its test was
module _ {A : Type 0} (x : A) (o : Option A) where
  unnamed : (b : Bool) → o ≡ then_some b x → o ≡ None → b ≡ false
  unnamed true q h = absurd (none-some x (sym h ∙ q))
  unnamed false q h = refl

  module _ (l : A) where
    named : (b : Bool) → o ≡ then_some b x → o ≡ Some l → b ≡ true
    named true q h = refl
    named false q h = absurd (none-some l (sym q ∙ h))

    same : (b : Bool) → o ≡ then_some b x → o ≡ Some l → l ≡ x
    same true q h = cc
    same false q h = absurd (none-some l (sym q ∙ h))

-- WITH A BUFFER
refused : {B : Type 0} (ten : B) (known : Bool) → known ≡ false → (out : List ℕ) (o : Outcome B) (t : B) → t ≡ ten → Meets (called_or ten known out o) t out
refused ten true z out o t p = cc
refused ten false z out o t p = record { answer = p; buffer = refl }

told_by : {A B : Type 0} (ten : B) (known : Bool) → known ≡ true → (f : A → B) (q : Outcome A) (out after : List ℕ) (a : A)
    → Meets q a after → (t : B) → t ≡ f a → Meets (called_or ten known out (outcome_told f q)) t after
told_by ten true z f q out after a m t p = record { answer = p ∙ ap f m.answer; buffer = m.buffer }
told_by ten false z f q out after a m t p = cc

module _ {X : Type 0} (x : X) (o : Option X) (known : Bool) (e : o ≡ then_some known x) where
  unknown : {B : Type 0} → o ≡ None → (ten : B) (out : List ℕ) (q : Outcome B) (t : B) → t ≡ ten → Meets (called_or ten known out q) t out
  unknown h ten = refused ten known (unnamed x o known e h)

  answered : {A B : Type 0} (l : X) → o ≡ Some l → (ten : B) (f : A → B) (ask : X → Outcome A) (out : List ℕ) (a : A) (after : List ℕ)
      → Meets (ask l) a after → (t : B) → t ≡ f a → Meets (called_or ten known out (outcome_told f (ask x))) t after
  answered l h ten f ask out a after m t p =
      let i : l ≡ x = same x o l known e h in
      told_by ten known (named x o l known e h) f (ask x) out after a
      (record { answer = m.answer ∙ ap (λ (z : X). (ask z).answer) i; buffer = m.buffer ∙ ap (λ (z : X). (ask z).buffer) i }) t p

  -- WITHOUT: of what the call is, by the test and the question's answer
  unknown_bare : {B : Type 0} → o ≡ None → (c : Bool → B) (t : B) → t ≡ c false → t ≡ c known
  unknown_bare h c t p = p ∙ ap c (sym (unnamed x o known e h))

  answered_bare : {B : Type 0} (l : X) → o ≡ Some l → (c : Bool → X → B) (t : B) → t ≡ c true l → t ≡ c known x
  answered_bare l h c t p = p ∙ ap (c true) (same x o l known e h) ∙ ap (λ (b : Bool). c b x) (sym (named x o l known e h))

module _ (k y s e σ : ℕ) (S out : List ℕ) (o : Option Literal) (known : o ≡ then_some (is_known k y σ) (literal_of k y s e)) where
  pub string_unknown : o ≡ None → (t : Told) → t ≡ number_told 10 → Meets (string_call k y s e S σ out) t out
  unfolding string_call
  string_unknown h =
      unknown (literal_of k y s e) o (is_known k y σ) known h (number_told 10) out (outcome_told text_told (string_question (literal_of k y s e) S (settings_of σ) out))

  pub string_answered : (l : Literal) → o ≡ Some l → (g : Settings) → g ≡ settings_of σ → (a : Result Text Refusal) (after : List ℕ)
      → Meets (string_question l S g out) a after → (t : Told) → t ≡ text_told a → Meets (string_call k y s e S σ out) t after
  unfolding string_call
  string_answered l h g q a after m =
      answered (literal_of k y s e) o (is_known k y σ) known l h (number_told 10) text_told (λ x. string_question x S (settings_of σ) out) out a after (rw (← q) m)

module _ (k y s e : ℕ) (S : List ℕ) (o : Option Literal) (known : o ≡ then_some (is_known k y 0) (literal_of k y s e)) where
  pub decimal_unknown : o ≡ None → (out : List ℕ) (t : Told) → t ≡ number_told 10 → Meets (decimal_call k y s e S out) t out
  unfolding decimal_call
  decimal_unknown h out = unknown (literal_of k y s e) o (is_known k y 0) known h (number_told 10) out (outcome_told text_told (decimal_question (literal_of k y s e) S out))

  pub decimal_answered : (l : Literal) → o ≡ Some l → (out : List ℕ) (a : Result Text Refusal) (after : List ℕ) → Meets (decimal_question l S out) a after
      → (t : Told) → t ≡ text_told a → Meets (decimal_call k y s e S out) t after
  unfolding decimal_call
  decimal_answered l h out = answered (literal_of k y s e) o (is_known k y 0) known l h (number_told 10) text_told (λ x. decimal_question x S out) out

  pub bits_unknown : o ≡ None → (out : List ℕ) (t : Told) → t ≡ number_told 10 → Meets (bits_call k y s e S out) t out
  unfolding bits_call
  bits_unknown h out = unknown (literal_of k y s e) o (is_known k y 0) known h (number_told 10) out (outcome_told text_told (bits_question (literal_of k y s e) S out))

  pub bits_answered : (l : Literal) → o ≡ Some l → (out : List ℕ) (a : Result Text Refusal) (after : List ℕ) → Meets (bits_question l S out) a after
      → (t : Told) → t ≡ text_told a → Meets (bits_call k y s e S out) t after
  unfolding bits_call
  bits_answered l h out = answered (literal_of k y s e) o (is_known k y 0) known l h (number_told 10) text_told (λ x. bits_question x S out) out

  pub temporal_unknown : o ≡ None → (out : List ℕ) (t : Told) → t ≡ number_told 10 → Meets (temporal_call k y s e S out) t out
  unfolding temporal_call
  temporal_unknown h out = unknown (literal_of k y s e) o (is_known k y 0) known h (number_told 10) out (outcome_told text_told (temporal_question (literal_of k y s e) S out))

  pub temporal_answered : (l : Literal) → o ≡ Some l → (out : List ℕ) (a : Result Text Refusal) (after : List ℕ) → Meets (temporal_question l S out) a after
      → (t : Told) → t ≡ text_told a → Meets (temporal_call k y s e S out) t after
  unfolding temporal_call
  temporal_answered l h out = answered (literal_of k y s e) o (is_known k y 0) known l h (number_told 10) text_told (λ x. temporal_question x S out) out

  pub source_unknown : o ≡ None → (t : Told) → t ≡ number_told 10 → t ≡ source_call k y s e S
  unfolding source_call
  source_unknown h = unknown_bare (literal_of k y s e) o (is_known k y 0) known h (λ b. called_bare b (range_told (source_question (literal_of k y s e) S)))

  pub source_answered : (l : Literal) → o ≡ Some l → (a : Result Part Refusal) → a ≡ source_question l S → (t : Told) → t ≡ range_told a → t ≡ source_call k y s e S
  unfolding source_call
  source_answered l h a q t w =
      answered_bare (literal_of k y s e) o (is_known k y 0) known l h (λ b x. called_bare b (range_told (source_question x S))) t (w ∙ ap range_told q)

  pub money_unknown : o ≡ None → (t : Told) → t ≡ number_told 10 → t ≡ money_call k y s e S
  unfolding money_call
  money_unknown h = unknown_bare (literal_of k y s e) o (is_known k y 0) known h (λ b. called_bare b (range_told (money_question (literal_of k y s e) S)))

  pub money_answered : (l : Literal) → o ≡ Some l → (a : Result Part Refusal) → a ≡ money_question l S → (t : Told) → t ≡ range_told a → t ≡ money_call k y s e S
  unfolding money_call
  money_answered l h a q t w =
      answered_bare (literal_of k y s e) o (is_known k y 0) known l h (λ b x. called_bare b (range_told (money_question x S))) t (w ∙ ap range_told q)

  pub charset_unknown : o ≡ None → (t : Told) → t ≡ number_told 10 → t ≡ charset_call k y s e S
  unfolding charset_call
  charset_unknown h = unknown_bare (literal_of k y s e) o (is_known k y 0) known h (λ b. called_bare b (charset_told (charset_question (literal_of k y s e) S)))

  pub charset_answered : (l : Literal) → o ≡ Some l → (a : Result (Option Part) Refusal) → a ≡ charset_question l S → (t : Told) → t ≡ charset_told a → t ≡ charset_call k y s e S
  unfolding charset_call
  charset_answered l h a q t w =
      answered_bare (literal_of k y s e) o (is_known k y 0) known l h (λ b x. called_bare b (charset_told (charset_question x S))) t (w ∙ ap charset_told q)

  pub i64_unknown : o ≡ None → (t : Told) → t ≡ number_told 10 → ◌≡◌ {A = Counted} (record { told = t; value = pos 0 }) (i64_call k y s e S)
  unfolding i64_call
  i64_unknown h t p =
      unknown_bare (literal_of k y s e) o (is_known k y 0) known h (λ b. called_count b (counted_of (i64_question (literal_of k y s e) S)))
      (record { told = t; value = pos 0 }) (ap (λ (x : Told). record { told = x; value = pos 0 }) p)

  pub i64_answered : (l : Literal) → o ≡ Some l → (a : Result ℤ Refusal) → a ≡ i64_question l S → (n : Counted) → n ≡ counted_of a → n ≡ i64_call k y s e S
  unfolding i64_call
  i64_answered l h a q n w =
      answered_bare (literal_of k y s e) o (is_known k y 0) known l h (λ b x. called_count b (counted_of (i64_question x S))) n (w ∙ ap counted_of q)

  pub date_unknown : o ≡ None → (t : Told) → t ≡ number_told 10 → (n : CalendarDay) → n ≡ no_day → ◌≡◌ {A = DayTold} (record { told = t; on = n }) (date_call k y s e S)
  unfolding date_call
  date_unknown h t p n z =
      unknown_bare (literal_of k y s e) o (is_known k y 0) known h (λ b. called_day b (dated_told (date_question (literal_of k y s e) S)))
      (day_told t n) (ap (day_told t) z ∙ ap (λ (x : Told). day_told x no_day) p)

  pub date_answered : (l : Literal) → o ≡ Some l → (a : Result CalendarDay Refusal) → a ≡ date_question l S → (n : DayTold) → n ≡ dated_told a → n ≡ date_call k y s e S
  unfolding date_call
  date_answered l h a q n w =
      answered_bare (literal_of k y s e) o (is_known k y 0) known l h (λ b x. called_day b (dated_told (date_question x S))) n (w ∙ ap dated_told q)

  pub packed_unknown : o ≡ None → (out : List ℕ) (t : Told) → t ≡ number_told 10 → (n : PackedTold) → n ≡ no_bits t → Meets (packed_call k y s e S out) n out
  unfolding packed_call
  packed_unknown h out t p n q =
      unknown (literal_of k y s e) o (is_known k y 0) known h (no_bits (number_told 10)) out (outcome_told packed_told (packed_question (literal_of k y s e) S out)) n
      (q ∙ ap no_bits p)

  pub packed_answered : (l : Literal) → o ≡ Some l → (out : List ℕ) (a : Result PackedBits Refusal) (after : List ℕ) → Meets (packed_question l S out) a after
      → (n : PackedTold) → n ≡ packed_told a → Meets (packed_call k y s e S out) n after
  unfolding packed_call
  packed_answered l h out =
      answered (literal_of k y s e) o (is_known k y 0) known l h (no_bits (number_told 10)) packed_told (λ x. packed_question x S out) out

-- BY THE KIND ALONE
module _ (k : ℕ) (o : Option Literal) (known : o ≡ then_some (is_known k 0 0) (literal_of k 0 0 0)) where
  pub bool_unknown : o ≡ None → (t : Told) → t ≡ number_told 10 → t ≡ bool_call k
  unfolding bool_call
  bool_unknown h = unknown_bare (literal_of k 0 0 0) o (is_known k 0 0) known h (λ b. called_bare b (truth_told (bool_question (kind_of k))))

  pub bool_answered : (l : Literal) → o ≡ Some l → (a : Result Bool Refusal) → a ≡ bool_question l.kind → (t : Told) → t ≡ truth_told a → t ≡ bool_call k
  unfolding bool_call
  bool_answered l h a q t w = answered_bare (literal_of k 0 0 0) o (is_known k 0 0) known l h (λ b x. called_bare b (truth_told (bool_question x.kind))) t (w ∙ ap truth_told q)

  pub null_unknown : o ≡ None → (t : Told) → t ≡ number_told 10 → t ≡ null_call k
  unfolding null_call
  null_unknown h = unknown_bare (literal_of k 0 0 0) o (is_known k 0 0) known h (λ b. called_bare b (nullness_told (null_question (kind_of k))))

  pub null_answered : (l : Literal) → o ≡ Some l → (a : Result (Unit {0}) Refusal) → a ≡ null_question l.kind → (t : Told) → t ≡ nullness_told a → t ≡ null_call k
  unfolding null_call
  null_answered l h a q t w = answered_bare (literal_of k 0 0 0) o (is_known k 0 0) known l h (λ b x. called_bare b (nullness_told (null_question x.kind))) t (w ∙ ap nullness_told q)

module _ (k : ℕ) (b : Bool) (known : b ≡ is_known k 0 0) where
  pub is_null_called : (l : Literal) → l ≡ literal_of k 0 0 0 → (n : Bool) → n ≡ is_null l.kind → b && n ≡ is_null_call k
  unfolding is_null_call
  is_null_called l p n q = ap (λ (x : Bool). x && n) known ∙ ap (λ (x : Bool). is_known k 0 0 && x) (q ∙ ap (λ (x : Literal). is_null x.kind) p)

-- THE WRITER
module _ (p : PartSize) (v : List ℕ) (σ : ℕ) (out : List ℕ) where
  pub write_unknown : 1 < σ → (t : Told) → t ≡ number_told 10 → Meets (write_call p v σ out) t out
  unfolding write_call
  write_unknown h = refused (number_told 10) (leb σ 1) (lt-leb σ 1 h) out (outcome_told writing_told (write_question (settings_of σ) p v out))

  pub write_answered : σ ≤ 1 → (g : Settings) → g ≡ settings_of σ → (a : Result ℕ WritingError) (after : List ℕ) → Meets (write_question g p v out) a after → (t : Told)
      → t ≡ writing_told a → Meets (write_call p v σ out) t after
  unfolding write_call
  write_answered h g q a after m = told_by (number_told 10) (leb σ 1) (le-leb σ 1 h) writing_told (write_question (settings_of σ) p v out) out after a (rw (← q) m)

-- [02 T-07] BITS BACK
module _ (bytes : List ℕ) (n k : ℕ) (out : List ℕ) (o : Option BitStringRadix) (known : o ≡ then_some (is_bit_kind k) (radix_of k)) where
  pub bit_write_unknown : o ≡ None → (t : Told) → t ≡ number_told 10 → Meets (bit_write_call bytes n k out) t out
  unfolding bit_write_call
  bit_write_unknown h = unknown (radix_of k) o (is_bit_kind k) known h (number_told 10) out (outcome_told bit_writing_told (bit_write_question (radix_of k) bytes n out))

  pub bit_write_answered : (g : BitStringRadix) → o ≡ Some g → (a : Result ℕ BitWritingError) (after : List ℕ)
      → Meets (bit_write_question g bytes n out) a after → (t : Told) → t ≡ bit_writing_told a → Meets (bit_write_call bytes n k out) t after
  unfolding bit_write_call
  bit_write_answered g h = answered (radix_of k) o (is_bit_kind k) known g h (number_told 10) bit_writing_told (λ x. bit_write_question x bytes n out) out
