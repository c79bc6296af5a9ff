-- [02 T-04] The place, of what the C exports give back: valdrabus_as_str_in and valdrabus_as_temporal_text give 6 exactly where the text's reading is refused,
-- and then the definition's place, the span and the buffer as lent; with any other number the place is 0. Assumes nothing.
use mathlib.Core.Path.{◌≡◌, refl, sym, ap, ◌∙◌}
use mathlib.Core.Bool.{Bool, true, false}
use mathlib.Core.List.{List}
use Prim.Native.Nat.{ℕ}
use native.Mathlib.Omega.{arith}
use Rattle.meaning.specs.declared.Span.{Span}
use Rattle.meaning.specs.declared.Refusal.{Refusal}
use Rattle.meaning.specs.declared.Refusal.TheVariants as Refusal'
use Rattle.meaning.specs.declared.Text.{Text}
use Rattle.meaning.specs.declared.Text.TheVariants as Text'
use Rattle.meaning.specs.Chars.{utf8}
use Rattle.meaning.specs.Cutting.{off}
use Rattle.meaning.specs.Reading.{refused, read}
use Rattle.meaning.specs.Kinds.{temporal}
use Rattle.meaning.specs.Answers.{Outcome}
use Rattle.meaning.specs.Questions.{is_temporal, string_question, temporal_question}
use Rattle.meaning.specs.Codes.{is_known, literal_of, settings_of}
use Rattle.laws.proofs.questions.Asked.{Spans}
use Rattle.laws.proofs.places.Told.{stopped_at, place_told_lem, told_place, temporal_place_told, temporal_told_place}
use Rattle.valdrabus.specs.Numbers.{text_told, TellsPlace}
use Rattle.valdrabus.specs.Calls.{outcome_told, called, string_call, temporal_call}
use Rattle.valdrabus.proofs.Demands.{StringExport, asked, tells_all}
use Rattle.std.specs.Prelude.{Result, Ok, Err}

-- a call that gave 6 and the place p, of a literal from start to end: nothing is answered, and the buffer is as lent
pub record Stopped (start end p : ℕ) (lent : List ℕ) (result how first second place : ℕ) (after : List ℕ) : Type 0 where
  pub number : result ≡ 6
  pub none : how ≡ 0
  pub begins : first ≡ start
  pub ends : second ≡ end
  pub stop : place ≡ p
  pub buffer : after ≡ lent

-- WHAT THE NUMBERS SAY of a refusal, of an answer
pub refused_six : (r : Refusal) → (text_told (Err r)).number ≡ 6 → (sp : Span) × (r ≡ Refusal'.InvalidString sp (text_told (Err r)).place)
refused_six (Refusal'.WrongKind e k) h = absurd (omega arith)
refused_six (Refusal'.MissingSource s) h = absurd (omega arith)
refused_six (Refusal'.InvalidSourceRange s) h = absurd (omega arith)
refused_six (Refusal'.NotUtf8 s) h = absurd (omega arith)
refused_six (Refusal'.InvalidInteger s) h = absurd (omega arith)
refused_six (Refusal'.InvalidString s p) h = (s, refl)
refused_six (Refusal'.InvalidBitString s) h = absurd (omega arith)
refused_six (Refusal'.InvalidMoney s) h = absurd (omega arith)
refused_six (Refusal'.NoRoom n) h = absurd (omega arith)
refused_six (Refusal'.InvalidDate s) h = absurd (omega arith)

pub six : (a : Result Text Refusal) → (text_told a).number ≡ 6 → (sp : Span) × (a ≡ Err (Refusal'.InvalidString sp (text_told a).place))
six (Ok (Text'.Borrowed f u)) h = absurd (omega arith)
six (Ok (Text'.Written n)) h = absurd (omega arith)
six (Err r) h = let w = refused_six r h in (w.0, ap Err w.1)

refused_other : (r : Refusal) → ((text_told (Err r)).number ≡ 6 → ⊥) → (text_told (Err r)).place ≡ 0
refused_other (Refusal'.WrongKind e k) h = refl
refused_other (Refusal'.MissingSource s) h = refl
refused_other (Refusal'.InvalidSourceRange s) h = refl
refused_other (Refusal'.NotUtf8 s) h = refl
refused_other (Refusal'.InvalidInteger s) h = refl
refused_other (Refusal'.InvalidString s p) h = absurd (h refl)
refused_other (Refusal'.InvalidBitString s) h = refl
refused_other (Refusal'.InvalidMoney s) h = refl
refused_other (Refusal'.NoRoom n) h = refl
refused_other (Refusal'.InvalidDate s) h = refl

other : (a : Result Text Refusal) → ((text_told a).number ≡ 6 → ⊥) → (text_told a).place ≡ 0
other (Ok (Text'.Borrowed f u)) h = refl
other (Ok (Text'.Written n)) h = refl
other (Err r) h = refused_other r h

module _ (o : Outcome (Result Text Refusal)) {r h f u p : ℕ} {after : List ℕ} (w : TellsPlace (outcome_told text_told o) r h f u p after) where
  stopped_tells : (sp : Span) (q : ℕ) (lent : List ℕ) → o ≡ stopped_at sp q lent → Stopped sp.start sp.end q lent r h f u p after
  stopped_tells sp q lent e = record {
    number = w.tells.says.result ∙ ap (λ (x : Outcome (Result Text Refusal)). (text_told x.answer).number) e;
    none = w.tells.says.way ∙ ap (λ (x : Outcome (Result Text Refusal)). (text_told x.answer).how) e;
    begins = w.tells.says.one ∙ ap (λ (x : Outcome (Result Text Refusal)). (text_told x.answer).first) e;
    ends = w.tells.says.two ∙ ap (λ (x : Outcome (Result Text Refusal)). (text_told x.answer).second) e;
    stop = w.stop ∙ ap (λ (x : Outcome (Result Text Refusal)). (text_told x.answer).place) e;
    buffer = w.tells.buffer ∙ ap (λ (x : Outcome (Result Text Refusal)). x.buffer) e;
  }

  tells_six : r ≡ 6 → (sp : Span) × (o.answer ≡ Err (Refusal'.InvalidString sp p))
  tells_six e =
      let x = six o.answer (sym w.tells.says.result ∙ e) in
      (x.0, x.1 ∙ ap (λ (q : ℕ). Err (Refusal'.InvalidString x.0 q)) (sym w.stop))

  tells_other : (r ≡ 6 → ⊥) → p ≡ 0
  tells_other n = w.stop ∙ other o.answer (λ e. n (w.tells.says.result ∙ e))

-- WITH ANY OTHER NUMBER, of whatever was given, the place is 0
called_other : (known : Bool) (out : List ℕ) (o : Outcome (Result Text Refusal)) {r h f u p : ℕ} {after : List ℕ}
    → TellsPlace (called known out (outcome_told text_told o)) r h f u p after → (r ≡ 6 → ⊥) → p ≡ 0
called_other true out o w n = tells_other o w n
called_other false out o w n = w.stop

module _ (k y s e : ℕ) (S out : List ℕ) {r h f u p : ℕ} {after : List ℕ} where
  pub no_place : (σ : ℕ) → TellsPlace (string_call k y s e S σ out) r h f u p after → (r ≡ 6 → ⊥) → p ≡ 0
  unfolding string_call
  no_place σ = called_other (is_known k y σ) out (string_question (literal_of k y s e) S (settings_of σ) out)

  pub no_temporal_place : TellsPlace (temporal_call k y s e S out) r h f u p after → (r ≡ 6 → ⊥) → p ≡ 0
  unfolding temporal_call
  no_temporal_place = called_other (is_known k y 0) out (temporal_question (literal_of k y s e) S out)

-- A STRING
module _ {σ : ℕ} {t : List ℕ} (c : StringExport σ t) where
  pub place_exports : utf8 t ≡ true → (p : ℕ) → read (settings_of σ) t ≡ refused p
      → Stopped c.start c.end p c.lent c.result c.how c.first c.second c.place c.after
  place_exports u p r =
      stopped_tells (asked c) (tells_all c) (literal_of 4 0 c.start c.end).span p c.lent
      (place_told_lem (literal_of 4 0 c.start c.end) c.source t (settings_of σ) c.lent refl c.spans u p r)

  pub exports_place : c.result ≡ 6 → (utf8 t ≡ true) × (read (settings_of σ) t ≡ refused c.place)
  exports_place e =
      let x = tells_six (asked c) (tells_all c) e in
      let y = told_place (literal_of 4 0 c.start c.end) c.source t (settings_of σ) c.lent refl c.spans x.0 c.place x.1 in
      (y.1, y.2)

-- A CALL of valdrabus_as_temporal_text on the text t, of a kind 8 to 11, the mark being 0
pub record TemporalExport (t : List ℕ) : Type 0 where
  pub kind : ℕ
  pub start : ℕ
  pub end : ℕ
  pub source : List ℕ
  pub lent : List ℕ
  pub known : is_known kind 0 0 ≡ true
  pub temporal : is_temporal (literal_of kind 0 start end).kind ≡ true
  pub spans : Spans (literal_of kind 0 start end) source t
  pub result : ℕ
  pub how : ℕ
  pub first : ℕ
  pub second : ℕ
  pub place : ℕ
  pub after : List ℕ
  pub contract : TellsPlace (temporal_call kind 0 start end source lent) result how first second place after

module _ {t : List ℕ} (c : TemporalExport t) where
  abbrev question : Outcome (Result Text Refusal)
  question = temporal_question (literal_of c.kind 0 c.start c.end) c.source c.lent

  temporal_tells : TellsPlace (outcome_told text_told question) c.result c.how c.first c.second c.place c.after
  unfolding temporal_call
  temporal_tells = rw c.known at c.contract

  pub temporal_place_exports : utf8 t ≡ true → (p : ℕ) → temporal off t ≡ refused p
      → Stopped c.start c.end p c.lent c.result c.how c.first c.second c.place c.after
  temporal_place_exports u p r =
      stopped_tells question temporal_tells (literal_of c.kind 0 c.start c.end).span p c.lent
      (temporal_place_told (literal_of c.kind 0 c.start c.end) c.source t c.lent c.temporal c.spans u p r)

  pub temporal_exports_place : c.result ≡ 6 → (utf8 t ≡ true) × (temporal off t ≡ refused c.place)
  temporal_exports_place e =
      let x = tells_six question temporal_tells e in
      let y = temporal_told_place (literal_of c.kind 0 c.start c.end) c.source t c.lent c.temporal c.spans x.0 c.place x.1 in
      (y.1, y.2)
