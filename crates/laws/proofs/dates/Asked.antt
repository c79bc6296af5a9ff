-- [02 T-05] The date question, from a literal in a source to a day or a refusal: what its text's value decides, what it shares with the temporal question, and
-- which numbers it gives. Assumes nothing.
use mathlib.Core.Logic.{◌↔◌}
use mathlib.Core.Path.{◌≡◌, refl, ap, sym, ◌∙◌}
use mathlib.Core.Bool.{Bool, true, false}
use mathlib.Core.List.{List, [], ◌∷◌}
use Prim.Native.Nat.{ℕ, ◌≤◌}
use native.Mathlib.Omega.{arith}
use borrow.Author.Tests.{eqb-true}
use lib.Dec.{leb}
use lib.ListN.{length}
use Rattle.meaning.specs.declared.Span.{Span}
use Rattle.meaning.specs.declared.Literal.{Literal}
use Rattle.meaning.specs.declared.LiteralKind.{LiteralKind}
use Rattle.meaning.specs.declared.LiteralExpected.TheVariants as Expected
use Rattle.meaning.specs.declared.Refusal.{Refusal}
use Rattle.meaning.specs.declared.Refusal.TheVariants.{WrongKind, MissingSource, InvalidSourceRange, NotUtf8, InvalidString, NoRoom, InvalidDate}
use Rattle.meaning.specs.declared.Text.{Text}
use Rattle.meaning.specs.declared.Text.TheVariants as Text'
use Rattle.meaning.specs.declared.CalendarDay.{CalendarDay}
use Rattle.meaning.specs.Bytes.{part, has}
use Rattle.std.specs.Prelude.{if◌then◌else◌}
use Rattle.meaning.specs.Chars.{utf8}
use Rattle.meaning.specs.Cutting.{off}
use Rattle.meaning.specs.Reading.{Answer, borrowed, written, refused, Value, means, fails, value_of}
use Rattle.meaning.specs.Kinds.{temporal}
use Rattle.meaning.specs.Answers.{Outcome, kind_code, refusal_number, text_number, dated_number, shown}
use Rattle.meaning.specs.Questions.{Tested, passes, barred, bad_span, source_text, tested, is_temporal, told_as, told, temporal_question}
use Rattle.meaning.specs.Dates.{is_day, calendar_day, spelled_day, is_date, day_in, is_date_kind, dated_on, dated_as, dated_by, date_question}
use Rattle.laws.proofs.questions.Asked.{Spans, tested_passes}
use Rattle.laws.proofs.questions.Answered.{told_shows}
use Rattle.laws.proofs.questions.Ranges.{temporal_inside, span_range}
use Rattle.laws.proofs.places.Told.{temporal_reads}
use Rattle.laws.proofs.dates.Spelt.{no_date, no_day_lem, spelled_date, date_spelled}
use Rattle.std.specs.Prelude.{Result, Ok, Err}
use Rattle.std.specs.Prelude.{Option, Some, None}

-- THE TEXT'S VALUE decides
module _ (l : Literal) (S t : List ℕ) (k : is_date_kind l.kind ≡ true) (h : Spans l S t) (u : utf8 t ≡ true) where
  pub date_asked : date_question l S ≡ dated_as l.span (value_of t (temporal off t))
  unfolding date_question
  date_asked = rw (k, tested_passes Expected.Date l S t h u)

  pub date_value : (v : List ℕ) → value_of t (temporal off t) ≡ means v → date_question l S ≡ dated_on l.span (day_in v)
  date_value v e = date_asked ∙ ap (dated_as l.span) e

-- a day is a value's; 14 is a value's that is no date; 6 is a reading's
on_day : (s : Span) (d : Option CalendarDay) (c : CalendarDay) → dated_on s d ≡ Ok c → d ≡ Some c
on_day s (Some e) c h = ap Some (cc)
on_day s None c h = let z : ◌≡◌ {A = ℕ} 0 1 = cc in absurd (omega arith)

pub on_value : (s : Span) (x : Value) (c : CalendarDay) → dated_as s x ≡ Ok c → (v : List ℕ) × (x ≡ means v) × (day_in v ≡ Some c)
on_value s (means v) c h = (v, refl, on_day s (day_in v) c h)
on_value s (fails p) c h = let z : ◌≡◌ {A = ℕ} 0 1 = cc in absurd (omega arith)

fourteen_day : (s sp : Span) (d : Option CalendarDay) → dated_on s d ≡ Err (InvalidDate sp) → (sp ≡ s) × (d ≡ None)
fourteen_day s sp (Some e) h = let z : ◌≡◌ {A = ℕ} 0 1 = cc in absurd (omega arith)
fourteen_day s sp None h = (cc, refl)

fourteen_value : (s sp : Span) (x : Value) → dated_as s x ≡ Err (InvalidDate sp)
    → (sp ≡ s) × (v : List ℕ) × (x ≡ means v) × (is_date v ≡ false)
fourteen_value s sp (means v) h = let w = fourteen_day s sp (day_in v) h in (w.0, v, refl, no_day_lem v w.1)
fourteen_value s sp (fails p) h = let z : ◌≡◌ {A = ℕ} 0 1 = cc in absurd (omega arith)

-- the ten bytes of a day: the literal's value, and the day that it is
abbrev pub DayOf : List ℕ → CalendarDay → Type 0
DayOf t c =
    (is_day c.year c.month c.day ≡ true)
    × (value_of t (temporal off t) ≡ means (spelled_day c.year c.month c.day))
    × (c ≡ calendar_day c.year c.month c.day)

module _ (l : Literal) (S t : List ℕ) (k : is_date_kind l.kind ≡ true) (h : Spans l S t) (u : utf8 t ≡ true) where
  pub date_on : (c : CalendarDay) → (date_question l S ≡ Ok c) ↔ DayOf t c
  date_on c = (
    λ e.
        let w = on_value l.span (value_of t (temporal off t)) c (sym (date_asked l S t k h u) ∙ e) in
        let d = date_spelled w.0 c w.2 in
        (d.0, w.1 ∙ ap means d.1, d.2),
    λ d.
        date_value l S t k h u (spelled_day c.year c.month c.day) d.1
        ∙ ap (dated_on l.span) (spelled_date c.year c.month c.day d.0)
        ∙ ap Ok (sym d.2),
  )

  pub date_fourteen : (sp : Span)
      → (date_question l S ≡ Err (InvalidDate sp))
      ↔ ((sp ≡ l.span) × (v : List ℕ) × (value_of t (temporal off t) ≡ means v) × (is_date v ≡ false))
  date_fourteen sp = (
    λ e. fourteen_value l.span sp (value_of t (temporal off t)) (sym (date_asked l S t k h u) ∙ e),
    λ w.
        date_value l S t k h u w.1 w.2 ∙ ap (dated_on l.span) (no_date w.1 w.3)
        ∙ ap (λ (s : Span). Err (InvalidDate s)) (sym w.0),
  )

-- whatever was asked: a day that is answered is one of the calendar's, with its number
pub date_day : (l : Literal) (S : List ℕ) (c : CalendarDay) → date_question l S ≡ Ok c
    → (is_day c.year c.month c.day ≡ true) × (c ≡ calendar_day c.year c.month c.day)
unfolding date_question
date_day l S c e = go (tested (is_date_kind l.kind) Expected.Date l S) e
  where
    go : (x : Tested) → dated_by l.span x ≡ Ok c → (is_day c.year c.month c.day ≡ true) × (c ≡ calendar_day c.year c.month c.day)
    go (barred r) h = let z : ◌≡◌ {A = ℕ} 0 1 = cc in absurd (omega arith)
    go (passes t) h =
        let w = on_value l.span (value_of t (temporal off t)) c h in
        let d = date_spelled w.0 c w.2 in
        (d.0, d.2)

-- joined or not, in quotes or between dollar signs: the same value gives the same day
pub date_same_value : (l l' : Literal) (S S' t t' : List ℕ) → is_date_kind l.kind ≡ true → is_date_kind l'.kind ≡ true → Spans l S t → Spans l' S' t'
    → utf8 t ≡ true → utf8 t' ≡ true → value_of t (temporal off t) ≡ value_of t' (temporal off t') → (c : CalendarDay)
    → (date_question l S ≡ Ok c) ↔ (date_question l' S' ≡ Ok c)
date_same_value l l' S S' t t' k k' h h' u u' e c =
    let a = date_on l S t k h u c in
    let b = date_on l' S' t' k' h' u' c in (
      λ q. let d = a.0 q in b.1 (d.0, sym e ∙ d.1, d.2),
      λ q. let d = b.0 q in a.1 (d.0, e ∙ d.1, d.2),
    )

-- THE TEMPORAL QUESTION on the same literal
pub date_temporal : (k : LiteralKind) → is_date_kind k ≡ true → is_temporal k ≡ true
date_temporal k h = rw (eqb-true (kind_code k) 8 h)

-- refuses the same before the value is there: all but 9, which the date question doesn't know, and 14, which the temporal question doesn't
shared : (s : Span) (f : ℕ) (out t : List ℕ) (a : Answer) (r : Refusal) → refusal_number r ≤ 8
    → (dated_as s (value_of t a) ≡ Err r) ↔ ((told_as (InvalidString s) f out a).answer ≡ Err r)
shared s f out t a r n = go a
  where
    day : (d : Option CalendarDay) → dated_on s d ≡ Err r → ⊥
    day (Some e) h = let z : ◌≡◌ {A = ℕ} 0 1 = cc in omega arith
    day None h = let z : r ≡ InvalidDate s = cc in let m = ap refusal_number z in omega arith

    room : (x : Bool) (m : ℕ) → (if x then Ok (Text'.Written m) else Err (NoRoom m)) ≡ Err r → ⊥
    room true m h = let z : ◌≡◌ {A = ℕ} 0 1 = cc in omega arith
    room false m h = let z : r ≡ NoRoom m = cc in let k = ap refusal_number z in omega arith

    go : (a : Answer) → (dated_as s (value_of t a) ≡ Err r) ↔ ((told_as (InvalidString s) f out a).answer ≡ Err r)
    go (borrowed g u) = (λ h. absurd (day (day_in (part g u t)) h), λ h. let z : ◌≡◌ {A = ℕ} 0 1 = cc in absurd (omega arith))
    go (written v) = (λ h. absurd (day (day_in v) h), λ h. absurd (room (leb (length v) (length out)) (length v) h))
    go (refused p) = (λ h. ap Err (cc), λ h. ap Err (cc))

module _ (l : Literal) (S out : List ℕ) (k : is_date_kind l.kind ≡ true) where
  pub date_shared : (r : Refusal) → refusal_number r ≤ 8 → (date_question l S ≡ Err r) ↔ ((temporal_question l S out).answer ≡ Err r)
  unfolding date_question temporal_question tested
  date_shared r n = rw (k, date_temporal l.kind k) (go (source_text l S))
    where
      go : (x : Tested)
          → (dated_by l.span x ≡ Err r) ↔ ((told (temporal off) InvalidString l out x).answer ≡ Err r)
      go (passes t) = shared l.span l.span.start out t (temporal off t) r n
      go (barred q) = (λ h. ap Err (cc), λ h. ap Err (cc))

  -- so 6, at the same place, with every buffer; and the tests 2 to 4
  pub date_six : (sp : Span) (p : ℕ)
      → (date_question l S ≡ Err (InvalidString sp p)) ↔ ((temporal_question l S out).answer ≡ Err (InvalidString sp p))
  date_six sp p = date_shared (InvalidString sp p) (omega arith)

  pub date_barred : (r : Refusal) → refusal_number r ≤ 4 → (date_question l S ≡ Err r) ↔ ((temporal_question l S out).answer ≡ Err r)
  date_barred r n = date_shared r (omega arith)

-- WHAT IT SHOWS decides
pub date_temporal_shown : (l : Literal) (S out : List ℕ) → is_date_kind l.kind ≡ true → text_number (temporal_question l S out).answer ≡ 0
    → date_question l S ≡ dated_on l.span (day_in (shown S (temporal_question l S out).buffer (temporal_question l S out).answer))
unfolding temporal_question tested source_text
date_temporal_shown l S out k n = go l.synthetic (bad_span l.span S) (utf8 t) refl refl refl
  where
    t : List ℕ
    t = part l.span.start l.span.end S

    o : Outcome (Result Text Refusal)
    o = temporal_question l S out

    go : (x y z : Bool) → l.synthetic ≡ x → bad_span l.span S ≡ y → utf8 t ≡ z
        → date_question l S ≡ dated_on l.span (day_in (shown S o.buffer o.answer))
    go true y z e f g = let m = rw (date_temporal l.kind k, e) at n in absurd (omega arith)
    go false true z e f g = let m = rw (date_temporal l.kind k, e, f) at n in absurd (omega arith)
    go false false false e f g = let m = rw (date_temporal l.kind k, e, f, g) at n in absurd (omega arith)
    go false false true e f g =
        let h : Spans l S t = record { real = e; fits = f; text = refl } in
        let q : o ≡ told_as (InvalidString l.span) l.span.start out (temporal off t) = temporal_reads l S t out (date_temporal l.kind k) h g in
        date_value l S t k h g (shown S o.buffer o.answer)
        (rw q (told_shows (InvalidString l.span) l.span.start l.span.end S out (span_range l.span S f) (temporal off t) (temporal_inside off t) (rw q at n)))

-- another kind is told that a date was expected
pub date_wrong_kind : (l : Literal) (S : List ℕ) → is_date_kind l.kind ≡ false → date_question l S ≡ Err (WrongKind Expected.Date l.kind)
unfolding date_question tested
date_wrong_kind l S k = rw k

-- THE NUMBERS that it gives
abbrev pub date_numbers : List ℕ
date_numbers = 0 ∷ 1 ∷ 2 ∷ 3 ∷ 4 ∷ 6 ∷ 14 ∷ []

pub date_numbers_lem : (l : Literal) (S : List ℕ) → has (dated_number (date_question l S)) date_numbers ≡ true
unfolding date_question tested source_text
date_numbers_lem l S = kind (is_date_kind l.kind)
  where
    s : Span
    s = l.span

    day : (d : Option CalendarDay) → has (dated_number (dated_on s d)) date_numbers ≡ true
    day (Some c) = refl
    day None = refl

    value : (x : Value) → has (dated_number (dated_as s x)) date_numbers ≡ true
    value (means v) = day (day_in v)
    value (fails p) = refl

    text : (x y z : Bool) (t : List ℕ)
        → has (dated_number (dated_by s
        (if x then barred (MissingSource s) else if y then barred (InvalidSourceRange s) else if z then passes t else barred (NotUtf8 s)))) date_numbers ≡ true
    text true y z t = refl
    text false true z t = refl
    text false false true t = value (value_of t (temporal off t))
    text false false false t = refl

    kind : (x : Bool) → has (dated_number (dated_by s (if x then source_text l S else barred (WrongKind Expected.Date l.kind)))) date_numbers ≡ true
    kind true = text l.synthetic (bad_span s S) (utf8 (part s.start s.end S)) (part s.start s.end S)
    kind false = refl
