-- Room, of what the C exports give back, whatever they were given: 9 comes with a length, second, that the span bounds, and that the buffer is shorter than; so
-- no export gives 9 into a buffer that is as long as the span allows a value to be. What valdrabus_read_block gives back is numbers already: `laws`, `room`,
-- `Blocks`. Assumes nothing.
use mathlib.Core.Path.{◌≡◌, refl, sym, ◌∙◌}
use mathlib.Core.Bool.{Bool, true, false}
use mathlib.Core.List.{List}
use Prim.Native.Nat.{ℕ, ◌+◌, ◌-◌, ◌*◌, ◌≤◌, ◌<◌}
use native.Mathlib.Omega.{arith}
use lib.ListN.{length}
use Rattle.meaning.specs.declared.Refusal.{Refusal}
use Rattle.meaning.specs.declared.Refusal.TheVariants as Refusal'
use Rattle.meaning.specs.declared.Text.{Text}
use Rattle.meaning.specs.declared.Text.TheVariants as Text'
use Rattle.meaning.specs.Answers.{Outcome}
use Rattle.meaning.specs.Questions.{string_question, decimal_question, bits_question, temporal_question, identifier_question}
use Rattle.meaning.specs.Packing.{packed_question}
use Rattle.meaning.specs.Codes.{is_known, literal_of, settings_of}
use Rattle.laws.proofs.joining.JoiningLaw.{Accepts}
use Rattle.laws.proofs.room.Told.{RefusalNeeds, TextNeeds, PackedNeeds, IdentifierNeeds}
use Rattle.laws.proofs.room.Values.{Less}
use Rattle.laws.proofs.room.Decimals.{Forty, forty_most}
use Rattle.laws.proofs.room.Asked.{Half, string_needs, temporal_needs, bits_needs, packed_needs, decimal_needs, identifier_needs}
use Rattle.laws.proofs.room.Called.{string_shown_calls, string_enough_calls}
use Rattle.valdrabus.specs.declared.told.Told.{Told}
use Rattle.valdrabus.specs.Numbers.{number_told, refusal_told, text_told, identifier_told, Says, Tells, TellsPlace}
use Rattle.valdrabus.specs.Calls.{outcome_told, called_or, called, no_bits, packed_told, Packs, string_call, decimal_call, bits_call, temporal_call, packed_call}
use Rattle.valdrabus.specs.Calls.{identifier_call}
use Rattle.valdrabus.proofs.Demands.{StringExport, Shows, string_call_lem, shows_there, shows_here}
use Rattle.std.specs.Prelude.{Result, Ok, Err}
use Rattle.meaning.specs.declared.IdentifierError.{IdentifierError}
use Rattle.meaning.specs.declared.IdentifierError.TheVariants as IdentifierError'
use Rattle.meaning.specs.declared.PackedBits.{PackedBits}

-- WHAT THE NUMBERS SAY with 9, in a buffer of m bytes: of the length that is told, P, and there is no room for it
abbrev Nine : (ℕ → Type 0) → ℕ → Told → Type 0
Nine P m t = t.number ≡ 9 → P t.second × (m < t.second)

module _ (P : ℕ → Type 0) (m : ℕ) where
  refusal_nine : (r : Refusal) → RefusalNeeds P m r → Nine P m (refusal_told r)
  refusal_nine (Refusal'.NoRoom n) a e = a
  refusal_nine (Refusal'.WrongKind x y) a e = absurd (omega arith)
  refusal_nine (Refusal'.MissingSource s) a e = absurd (omega arith)
  refusal_nine (Refusal'.InvalidSourceRange s) a e = absurd (omega arith)
  refusal_nine (Refusal'.NotUtf8 s) a e = absurd (omega arith)
  refusal_nine (Refusal'.InvalidInteger s) a e = absurd (omega arith)
  refusal_nine (Refusal'.InvalidString s p) a e = absurd (omega arith)
  refusal_nine (Refusal'.InvalidBitString s) a e = absurd (omega arith)
  refusal_nine (Refusal'.InvalidMoney s) a e = absurd (omega arith)
  refusal_nine (Refusal'.InvalidDate s) a e = absurd (omega arith)

  text_nine : (a : Result Text Refusal) → TextNeeds P m a → Nine P m (text_told a)
  text_nine (Ok (Text'.Borrowed f u)) x e = absurd (omega arith)
  text_nine (Ok (Text'.Written n)) x e = absurd (omega arith)
  text_nine (Err r) x e = refusal_nine r x e

  packed_nine : (a : Result PackedBits Refusal) → PackedNeeds P m a → Nine P m (packed_told a).told
  packed_nine (Ok π) x e = absurd (omega arith)
  packed_nine (Err r) x e = refusal_nine r x e

  identifier_nine : (a : Result Text IdentifierError) → IdentifierNeeds P m a → Nine P m (identifier_told a)
  identifier_nine (Ok (Text'.Borrowed f u)) x e = absurd (omega arith)
  identifier_nine (Ok (Text'.Written n)) x e = absurd (omega arith)
  identifier_nine (Err IdentifierError'.NotUtf8) x e = absurd (omega arith)
  identifier_nine (Err IdentifierError'.InvalidString) x e = absurd (omega arith)
  identifier_nine (Err (IdentifierError'.NoRoom n)) x e = x

  -- so with what came back of a call: its result and its second number
  says_nine : {t : Told} {r h f u : ℕ} → Says t r h f u → Nine P m t → r ≡ 9 → P u × (m < u)
  says_nine w n e = rw w.two (n (sym w.result ∙ e))

  never_nine : {t : Told} {r h f u : ℕ} → ((n : ℕ) → P n → n ≤ m) → Says t r h f u → Nine P m t → r ≡ 9 → ⊥
  never_nine {t} {r} {h} {f} {u} fits w n e = let a = says_nine w n e in omega (arith, fits u a.0, a.1)

-- numbers that name nothing get a 10
called_nine : (P : ℕ → Type 0) (known : Bool) (out : List ℕ) (o : Outcome (Result Text Refusal)) → TextNeeds P (length out) o.answer
    → Nine P (length out) (called known out (outcome_told text_told o)).answer
called_nine P true out o x = text_nine P (length out) o.answer x
called_nine P false out o x = λ e. absurd (omega arith)

-- OF WHATEVER IS GIVEN
module _ (k y s e : ℕ) (S out : List ℕ) {r h f u : ℕ} {after : List ℕ} where
  -- valdrabus_as_str_in: a span of two bytes more than second; and none in a buffer of the span's length less two
  module _ (σ : ℕ) {p : ℕ} (w : TellsPlace (string_call k y s e S σ out) r h f u p after) where
    string_tells : Nine (Less 2 (e - s)) (length out) (string_call k y s e S σ out).answer
    unfolding string_call
    string_tells =
        called_nine (Less 2 (e - s)) (is_known k y σ) out (string_question (literal_of k y s e) S (settings_of σ) out)
        (string_needs (literal_of k y s e) S out (settings_of σ))

    pub string_nine_exports : r ≡ 9 → (u + 2 ≤ e - s) × (length out < u)
    string_nine_exports = says_nine (Less 2 (e - s)) (length out) w.tells.says string_tells

    pub string_never_exports : e - s ≤ length out + 2 → r ≡ 9 → ⊥
    string_never_exports l = never_nine (Less 2 (e - s)) (length out) (λ n a. omega arith) w.tells.says string_tells

  -- valdrabus_as_temporal_text
  module _ {p : ℕ} (w : TellsPlace (temporal_call k y s e S out) r h f u p after) where
    temporal_tells : Nine (Less 2 (e - s)) (length out) (temporal_call k y s e S out).answer
    unfolding temporal_call
    temporal_tells =
        called_nine (Less 2 (e - s)) (is_known k y 0) out (temporal_question (literal_of k y s e) S out) (temporal_needs (literal_of k y s e) S out)

    pub temporal_nine_exports : r ≡ 9 → (u + 2 ≤ e - s) × (length out < u)
    temporal_nine_exports = says_nine (Less 2 (e - s)) (length out) w.tells.says temporal_tells

    pub temporal_never_exports : e - s ≤ length out + 2 → r ≡ 9 → ⊥
    temporal_never_exports l = never_nine (Less 2 (e - s)) (length out) (λ n a. omega arith) w.tells.says temporal_tells

  -- valdrabus_as_bit_text
  pub bits_never_exports : Tells (bits_call k y s e S out) r h f u after → e - s ≤ length out + 3 → r ≡ 9 → ⊥
  unfolding bits_call
  bits_never_exports w l =
      never_nine (Less 3 (e - s)) (length out) (λ n a. omega arith) w.says
      (called_nine (Less 3 (e - s)) (is_known k y 0) out (bits_question (literal_of k y s e) S out) (bits_needs (literal_of k y s e) S out))

  -- valdrabus_as_decimal_text
  pub decimal_never_exports : Tells (decimal_call k y s e S out) r h f u after → 40 ≤ length out → e - s ≤ length out + 1 → r ≡ 9 → ⊥
  unfolding decimal_call
  decimal_never_exports w m l =
      never_nine (Forty (e - s)) (length out) (λ n a. forty_most (e - s) (length out) n m l a) w.says
      (called_nine (Forty (e - s)) (is_known k y 0) out (decimal_question (literal_of k y s e) S out) (decimal_needs (literal_of k y s e) S out))

  -- valdrabus_as_packed_bits: half of the span's bytes
  pub packed_never_exports : {b : ℕ} → Packs (packed_call k y s e S out) r b h f u after → e - s ≤ 2 * length out + 3 → r ≡ 9 → ⊥
  unfolding packed_call
  packed_never_exports w l =
      never_nine (Half (e - s)) (length out) (λ n a. omega arith) w.says
      (go (is_known k y 0) (packed_question (literal_of k y s e) S out) (packed_needs (literal_of k y s e) S out))
    where
      go : (known : Bool) (o : Outcome (Result PackedBits Refusal)) → PackedNeeds (Half (e - s)) (length out) o.answer
          → Nine (Half (e - s)) (length out) (called_or (no_bits (number_told 10)) known out (outcome_told packed_told o)).answer.told
      go true o x = packed_nine (Half (e - s)) (length out) o.answer x
      go false o x = λ z. absurd (omega arith)

-- valdrabus_materialize_unicode_ident
pub identifier_never_exports : (t out : List ℕ) {r h f u : ℕ} {after : List ℕ} → Tells (identifier_call t out) r h f u after → length t ≤ length out + 4
    → r ≡ 9 → ⊥
unfolding identifier_call
identifier_never_exports t out w l =
    never_nine (Less 4 (length t)) (length out) (λ n a. omega arith) w.says
    (identifier_nine (Less 4 (length t)) (length out) (identifier_question t out).answer (identifier_needs t out))

-- A CALL of valdrabus_as_str_in on the text t: what its view shows is shorter by two bytes at least, and with that room every text that is accepted is shown
module _ {σ : ℕ} {t : List ℕ} (c : StringExport σ t) (v : List ℕ) where
  pub string_shown_exports : Shows c v → length v + 2 ≤ length t
  string_shown_exports s = string_shown_calls (string_call_lem c t refl) v (shows_there c v t refl s)

  pub string_enough_exports : Accepts (settings_of σ) t v → length t ≤ length c.lent + 2 → Shows c v
  string_enough_exports a l = shows_here c v t refl (string_enough_calls (string_call_lem c t refl) v a l)
