-- Room, of what calls return. A call's result and final buffer are whatever its contract permits (`Meets`). Assumes nothing.
use mathlib.Core.Path.{◌≡◌, refl, ap, sym, ◌∙◌}
use mathlib.Core.Bool.{Bool, true, false}
use mathlib.Core.List.{List}
use Prim.Native.Nat.{ℕ, ◌+◌, ◌*◌, ◌≤◌, ◌<◌}
use native.Mathlib.Omega.{arith}
use lib.Dec.{leb}
use lib.ListN.{length}
use borrow.Author.Tests.{le-leb}
use Rattle.meaning.specs.declared.Settings.{Settings}
use Rattle.meaning.specs.declared.BitStringRadix.{BitStringRadix}
use Rattle.meaning.specs.declared.Literal.{Literal}
use Rattle.meaning.specs.declared.Refusal.TheVariants.{InvalidString, NoRoom}
use Rattle.meaning.specs.declared.Text.{Text}
use Rattle.meaning.specs.declared.Text.TheVariants as Text'
use Rattle.std.specs.Prelude.{if◌then◌else◌}
use Rattle.meaning.specs.Chars.{utf8}
use Rattle.meaning.specs.Reading.{Answer, borrowed, written, refused, read}
use Rattle.meaning.specs.Answers.{Meets, text_number, packed_number, identifier_number}
use Rattle.meaning.specs.Questions.{told_as, string_question, decimal_question, bits_question, identifier_question}
use Rattle.laws.proofs.joining.JoiningLaw.{Accepts}
use Rattle.laws.proofs.walking.Short.{meaning_length}
use Rattle.laws.proofs.questions.Asked.{string_question_reads, string_question_not_utf8}
use Rattle.laws.proofs.questions.Calls.{StringCall, Shows, shows_by, call_accepts}
use Rattle.laws.proofs.places.Told.{TemporalCall}
use Rattle.laws.proofs.packing.Called.{PackedCall}
use Rattle.laws.proofs.room.Told.{spanned, spans_long}
use Rattle.laws.proofs.room.Asked.{string_nine, string_never, string_enough, temporal_nine, temporal_never, bits_never, packed_enough, decimal_never}
use Rattle.laws.proofs.room.Asked.{identifier_enough}
use Rattle.std.specs.Prelude.{Result, Ok, Err}
use Rattle.meaning.specs.declared.Refusal.{Refusal}
use Rattle.meaning.specs.declared.IdentifierError.{IdentifierError}

-- A STRING
module _ {σ : Settings} {t : List ℕ} (c : StringCall σ t) where
  -- what is shown is shorter than the text by two bytes at least
  pub string_shown_calls : (v : List ℕ) → Shows c v → length v + 2 ≤ length t
  string_shown_calls v s = meaning_length σ t v (call_accepts c s).value

  -- a 9 tells no more
  pub string_nine_calls : (n : ℕ) → c.result ≡ Err (NoRoom n) → (n + 2 ≤ length t) × (length c.lent < n)
  string_nine_calls n e =
      let h = string_nine c.literal c.source c.lent σ n (sym c.contract.answer ∙ e) in
      (omega (arith, h.0, spans_long c.spans), h.1)

  -- with that room there is none
  pub string_never_calls : length t ≤ length c.lent + 2 → text_number c.result ≡ 9 → ⊥
  string_never_calls r e =
      string_never c.literal c.source c.lent σ (omega (arith, r, spans_long c.spans)) (ap text_number (sym c.contract.answer) ∙ e)

  -- and every text that is accepted is shown
  pub string_enough_calls : (v : List ℕ) → Accepts σ t v → length t ≤ length c.lent + 2 → Shows c v
  string_enough_calls v a r = shows_by c v (string_enough c.literal c.source t v σ c.lent c.kind c.spans a r)

-- a call that gets n bytes, where one on the same text told n with a 9, writes n
told_nine : (sp : Literal) (out : List ℕ) (n : ℕ) (a : Answer) → (told_as (InvalidString sp.span) sp.span.start out a).answer ≡ Err (NoRoom n)
    → (v : List ℕ) × (a ≡ written v) × (length v ≡ n)
told_nine l out n (borrowed f u) e = let z : ◌≡◌ {A = ℕ} 0 1 = cc in absurd (omega arith)
told_nine l out n (refused p) e = let z : ◌≡◌ {A = ℕ} 0 1 = cc in absurd (omega arith)
told_nine l out n (written v) e = (v, refl, go (leb (length v) (length out)) e)
  where
    go : (x : Bool) → (if x then Ok (Text'.Written (length v)) else Err (NoRoom (length v))) ≡ Err (NoRoom n) → length v ≡ n
    go true h = let z : ◌≡◌ {A = ℕ} 0 1 = cc in absurd (omega arith)
    go false h = cc

pub string_again_calls : {σ : Settings} {t : List ℕ} (c d : StringCall σ t) (n : ℕ) → c.result ≡ Err (NoRoom n) → n ≤ length d.lent
    → d.result ≡ Ok (Text'.Written n)
string_again_calls {σ} {t} c d n e r = go (utf8 t) refl
  where
    asked : (string_question c.literal c.source σ c.lent).answer ≡ Err (NoRoom n)
    asked = sym c.contract.answer ∙ e

    go : (x : Bool) → utf8 t ≡ x → d.result ≡ Ok (Text'.Written n)
    go false u =
        let q = sym (string_question_not_utf8 c.literal c.source t σ c.lent c.kind c.spans u) ∙ asked in
        let z : ◌≡◌ {A = ℕ} 0 1 = cc in absurd (omega arith)
    go true u =
        let q = rw (string_question_reads c.literal c.source t σ c.lent c.kind c.spans u) at asked in
        let w = told_nine c.literal c.lent n (read σ t) q in
        d.contract.answer
        ∙ rw (string_question_reads d.literal d.source t σ d.lent d.kind d.spans u, w.1, w.2, le-leb n (length d.lent) r)

-- A TEMPORAL TEXT
module _ {t : List ℕ} (c : TemporalCall t) where
  pub temporal_nine_calls : (n : ℕ) → c.result ≡ Err (NoRoom n) → (n + 2 ≤ length t) × (length c.lent < n)
  temporal_nine_calls n e =
      let h = temporal_nine c.literal c.source c.lent n (sym c.contract.answer ∙ e) in
      (omega (arith, h.0, spans_long c.spans), h.1)

  pub temporal_never_calls : length t ≤ length c.lent + 2 → text_number c.result ≡ 9 → ⊥
  temporal_never_calls r e =
      temporal_never c.literal c.source c.lent (omega (arith, r, spans_long c.spans)) (ap text_number (sym c.contract.answer) ∙ e)

-- PACKED BITS
pub packed_never_calls : {r : BitStringRadix} {t : List ℕ} (c : PackedCall r t) → length t ≤ 2 * length c.lent + 3 → packed_number c.result ≡ 9 → ⊥
packed_never_calls c h e =
    packed_enough c.literal c.source c.lent (omega (arith, h, spans_long c.spans)) (ap packed_number (sym c.contract.answer) ∙ e)

-- BITS and NUMBERS, by their span; an IDENTIFIER
module _ (l : Literal) (S lent : List ℕ) (r : Result Text Refusal) (after : List ℕ) where
  pub bits_never_calls : Meets (bits_question l S lent) r after → spanned l ≤ length lent + 3 → text_number r ≡ 9 → ⊥
  bits_never_calls m h e = bits_never l S lent h (ap text_number (sym m.answer) ∙ e)

  pub decimal_never_calls : Meets (decimal_question l S lent) r after → 40 ≤ length lent → spanned l ≤ length lent + 1 → text_number r ≡ 9 → ⊥
  decimal_never_calls m f h e = decimal_never l S lent f h (ap text_number (sym m.answer) ∙ e)

pub identifier_never_calls : (t lent : List ℕ) (r : Result Text IdentifierError) (after : List ℕ) → Meets (identifier_question t lent) r after → length t ≤ length lent + 4
    → identifier_number r ≡ 9 → ⊥
identifier_never_calls t lent r after m h e = identifier_enough t lent h (ap identifier_number (sym m.answer) ∙ e)
