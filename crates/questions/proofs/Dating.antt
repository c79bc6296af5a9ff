-- [02 T-05] The date question: what was read into ten bytes, and the day of its value, are the definition's answer. Assumes nothing.
use Rattle.meaning.specs.Dates.{is_date_kind}
use mathlib.Core.Path.{◌≡◌, refl, sym, ap, ◌∙◌}
use mathlib.Core.Bool.{Bool, true, false, false≢true}
use mathlib.Core.List.{List, []}
use Prim.Native.Nat.{ℕ}
use native.Mathlib.Omega.{arith}
use lib.Dec.{eqb, leb}
use lib.ListN.{length, replicate}
use borrow.Author.Tests.{leb-true, leb-false}
use Rattle.meaning.specs.declared.Literal.{Literal}
use Rattle.meaning.specs.declared.LiteralExpected.TheVariants as Expected
use Rattle.meaning.specs.declared.Span.{Span}
use Rattle.meaning.specs.declared.ReadText.{ReadText}
use Rattle.meaning.specs.declared.ReadRefusal.{ReadRefusal}
use Rattle.meaning.specs.declared.ReadText.TheVariants as ReadText'
use Rattle.meaning.specs.declared.ReadRefusal.TheVariants as ReadRefusal'
use Rattle.meaning.specs.declared.Refusal.{Refusal}
use Rattle.meaning.specs.declared.Refusal.TheVariants.{InvalidString, InvalidDate}
use Rattle.meaning.specs.declared.CalendarDay.{CalendarDay}
use Rattle.meaning.specs.Bytes.{part}
use Rattle.std.specs.Prelude.{if◌then◌else◌}
use Rattle.meaning.specs.Cutting.{off}
use Rattle.meaning.specs.Reading.{Answer, borrowed, written, refused, value_of}
use Rattle.meaning.specs.Reads.{read_of, buffer_of, Reads, read_shown}
use Rattle.meaning.specs.Kinds.{temporal}
use Rattle.meaning.specs.Answers.{kind_code, filled}
use Rattle.meaning.specs.Questions.{tested}
use Rattle.meaning.specs.Dates.{day_in, dated_on, dated_as, date_question}
use Rattle.laws.proofs.dates.Spelt.{other_length}
use Rattle.laws.proofs.questions.Ranges.{AnswerIn, temporal_inside, part_shown_range, filled_shows}
use Rattle.std.specs.Prelude.{Result, Ok, Err}
use Rattle.meaning.specs.declared.Part.{Part}
use Rattle.admitting.specs.Tests.{Tests}
use Rattle.questions.proofs.Spanned.{span_barred, span_passes}
use Rattle.std.specs.Prelude.{Option, Some, None}

-- A DAY, or none
-- A READING into ten bytes
abbrev ten : List ℕ
ten = replicate 10 0

-- that stops
stopped_by : (a : Answer) (p : ℕ) → read_of 10 a ≡ Err (ReadRefusal'.At p) → a ≡ refused p
stopped_by (borrowed f u) p h = absurd (let z : ◌≡◌ {A = ℕ} 0 1 = cc in omega arith)
stopped_by (written v) p h = absurd (go (leb (length v) 10) h)
  where
    go : (x : Bool) → (if x then Ok (ReadText'.Written (length v)) else Err (ReadRefusal'.NoRoom (length v))) ≡ Err (ReadRefusal'.At p) → ⊥
    go true e = let z : ◌≡◌ {A = ℕ} 0 1 = cc in omega arith
    go false e = let z : ◌≡◌ {A = ℕ} 0 1 = cc in omega arith
stopped_by (refused q) p h = let z : q ≡ p = cc in ap refused z

-- and one that is not: what is shown of it has the value's day. A value that has no room is shown empty, and neither is a date
module _ (t : List ℕ) (sp : Span) where
  written_day : (v : List ℕ) → day_in (read_shown t (filled v ten) (read_of 10 (written v))) ≡ day_in v
  written_day v = go (leb (length v) 10) refl
    where
      go : (x : Bool) → leb (length v) 10 ≡ x
          → day_in (read_shown t (filled v ten) (if x then Ok (ReadText'.Written (length v)) else Err (ReadRefusal'.NoRoom (length v)))) ≡ day_in v
      go true h = ap day_in (filled_shows v ten (leb-true (length v) 10 h))
      go false h = other_length [] (λ q. omega (arith, q)) ∙ sym (other_length v (λ q. omega (arith, q, leb-false (length v) 10 h)))

  -- no reading that goes through stops
  at_none : (r : ReadText) (n : ℕ) → ◌≡◌ {A = Result ReadText ReadRefusal} (Ok r) (Err (ReadRefusal'.At n)) → ⊥
  at_none r n e = let z : ◌≡◌ {A = ℕ} 0 1 = cc in omega arith

  long_by : (a : Answer) (n : ℕ) → read_of 10 a ≡ Err (ReadRefusal'.NoRoom n) → Err (InvalidDate sp) ≡ dated_as sp (value_of t a)
  long_by (borrowed f u) n h = absurd (let z : ◌≡◌ {A = ℕ} 0 1 = cc in omega arith)
  long_by (written v) n h = go (leb (length v) 10) refl h
    where
      go : (x : Bool) → leb (length v) 10 ≡ x → (if x then Ok (ReadText'.Written (length v)) else Err (ReadRefusal'.NoRoom (length v))) ≡ Err (ReadRefusal'.NoRoom n)
          → Err (InvalidDate sp) ≡ dated_on sp (day_in v)
      go true e h = absurd (let z : ◌≡◌ {A = ℕ} 0 1 = cc in omega arith)
      go false e h = ap (dated_on sp) (sym (other_length v (λ q. omega (arith, q, leb-false (length v) 10 e))))
  long_by (refused p) n h = absurd (let z : ◌≡◌ {A = ℕ} 0 1 = cc in omega arith)

  shown_by : (a : Answer) → AnswerIn (length t) a → ((p : ℕ) → read_of 10 a ≡ Err (ReadRefusal'.At p) → ⊥)
      → dated_on sp (day_in (read_shown t (buffer_of ten a) (read_of 10 a))) ≡ dated_as sp (value_of t a)
  shown_by (borrowed f u) i h = ap (λ (v : List ℕ). dated_on sp (day_in v)) (part_shown_range f u t i)
  shown_by (written v) i h = ap (dated_on sp) (written_day v)
  shown_by (refused p) i h = absurd (h p refl)

  -- as the code was told of it
  module _ (after : List ℕ) (d : Result ReadText ReadRefusal) (k : Reads (temporal off t) ten d after) where
    abbrev its : Result CalendarDay Refusal
    its = dated_as sp (value_of t (temporal off t))

    pub date_stopped : (p : ℕ) → d ≡ Err (ReadRefusal'.At p) → Err (InvalidString sp p) ≡ its
    date_stopped p e = sym (ap (λ (a : Answer). dated_as sp (value_of t a)) (stopped_by (temporal off t) p (sym k.answer ∙ e)))

    pub date_shown : (r : ReadText) → d ≡ Ok r → (v : List ℕ) → v ≡ read_shown t after d → (x : Option CalendarDay) → x ≡ day_in v
        → (a : Result CalendarDay Refusal) → a ≡ dated_on sp x → a ≡ its
    date_shown r h v s x p a q =
        let e : v ≡ read_shown t (buffer_of ten (temporal off t)) (read_of 10 (temporal off t)) =
        s ∙ ap (λ (b : List ℕ). read_shown t b d) k.buffer ∙ ap (read_shown t (buffer_of ten (temporal off t))) k.answer in
        q ∙ ap (dated_on sp) (p ∙ ap day_in e)
        ∙ shown_by (temporal off t) (temporal_inside off t) (λ n e. at_none r n (sym h ∙ k.answer ∙ e))

    -- a value of more than ten bytes is no date
    pub date_long : (n : ℕ) → d ≡ Err (ReadRefusal'.NoRoom n) → (a : Result CalendarDay Refusal) → a ≡ dated_on sp None → a ≡ its
    date_long n h a q = q ∙ long_by (temporal off t) n (sym k.answer ∙ h)

-- THE LITERAL
module _ {l : Literal} {S : List ℕ} {r : Result Part Refusal} {right : Bool} (c : right ≡ is_date_kind l.kind) (v : Tests l S r (tested right Expected.Date l S)) where
  pub date_barred : (w : Refusal) → r ≡ Err w → Err w ≡ date_question l S
  unfolding date_question
  date_barred w q = rw (← c, span_barred v w q)

  pub date_answered : (π : Part) → r ≡ Ok π → (a : Result CalendarDay Refusal) → a ≡ dated_as l.span (value_of (part π.start π.end S) (temporal off (part π.start π.end S)))
      → a ≡ date_question l S
  unfolding date_question
  date_answered π q a p = rw (← c, span_passes v π q) p
