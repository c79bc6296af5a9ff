-- [02 T-05] Dates of the C exports: of whatever `valdrabus_as_date` and `valdrabus_date_of_day` give back by their contracts. Assumes nothing.
use mathlib.Core.Logic.{◌⊎◌, inl, inr, ◌↔◌}
use mathlib.Core.Path.{◌≡◌, refl, ap, sym, ◌∙◌, subst}
use mathlib.Core.Bool.{Bool, true, false}
use mathlib.Core.List.{List, ◌++◌}
use Prim.Native.Nat.{ℕ, ◌≤◌, ◌<◌}
use native.Mathlib.Omega.{arith}
use lib.ListN.{length}
use Rattle.meaning.specs.declared.Literal.{Literal}
use Rattle.meaning.specs.declared.Span.{Span}
use Rattle.meaning.specs.declared.Refusal.{Refusal}
use Rattle.meaning.specs.declared.Refusal.TheVariants as Refusal'
use Rattle.meaning.specs.declared.Text.{Text}
use Rattle.meaning.specs.declared.CalendarDay.{CalendarDay}
use Rattle.meaning.specs.Chars.{utf8}
use Rattle.meaning.specs.Cutting.{off}
use Rattle.meaning.specs.Reading.{means, value_of}
use Rattle.meaning.specs.Kinds.{temporal}
use Rattle.meaning.specs.Answers.{Outcome, text_number, shown}
use Rattle.meaning.specs.Questions.{temporal_question}
use Rattle.meaning.specs.Dates.{day_number, is_day, calendar_day, date_of, last_day, day_question, spelled_day, is_date, day_in, dated_on, date_question}
use Rattle.meaning.specs.Codes.{is_known, literal_of}
use Rattle.laws.proofs.dates.Calendar.{Earlier, later_larger, larger_later, day_back, day_found, day_outside, back_number}
use Rattle.laws.proofs.questions.Asked.{Spans}
use Rattle.laws.proofs.dates.Spelt.{no_date, no_day_lem, spelled_date, date_spelled, spelled_same}
use Rattle.laws.proofs.dates.Asked.{DayOf, date_on, date_fourteen, date_day, date_six, date_temporal_shown}
use Rattle.laws.proofs.dates.Joined.{quoted, TwoOf, same_day}
use Rattle.valdrabus.specs.declared.told.Told.{Told}
use Rattle.valdrabus.specs.declared.dated.DayTold.{DayTold}
use Rattle.valdrabus.specs.Numbers.{text_told, TellsPlace}
use Rattle.valdrabus.specs.Calls.{outcome_told, called, temporal_call, dated_told, found_told, called_day, date_call, day_call, Dates, Finds}
use Rattle.valdrabus.specs.Views.{view_call, view_bytes}
use Rattle.valdrabus.proofs.Numbering.{text_number_lem}
use Rattle.valdrabus.proofs.Viewing.{view_shows}
use Rattle.valdrabus.proofs.PlaceExports.{six, refused_six}
use Rattle.std.specs.Prelude.{Result, Err, Ok}
use Rattle.std.specs.Prelude.{Option, Some, None}

-- A CALL THAT IS ANSWERED gave a day
refused_some : (r : Refusal) → (dated_told (Err r)).told.number ≡ 0 → ⊥
refused_some (Refusal'.WrongKind e k) h = omega arith
refused_some (Refusal'.MissingSource s) h = omega arith
refused_some (Refusal'.InvalidSourceRange s) h = omega arith
refused_some (Refusal'.NotUtf8 s) h = omega arith
refused_some (Refusal'.InvalidInteger s) h = omega arith
refused_some (Refusal'.InvalidString s p) h = omega arith
refused_some (Refusal'.InvalidBitString s) h = omega arith
refused_some (Refusal'.InvalidMoney s) h = omega arith
refused_some (Refusal'.NoRoom n) h = omega arith
refused_some (Refusal'.InvalidDate s) h = omega arith

zero_day : (a : Result CalendarDay Refusal) → (dated_told a).told.number ≡ 0 → a ≡ Ok (dated_told a).on
zero_day (Ok d) h = refl
zero_day (Err r) h = absurd (refused_some r h)

called_day_lem : (known : Bool) (a : Result CalendarDay Refusal) → (called_day known (dated_told a)).told.number ≡ 0 → a ≡ Ok (called_day known (dated_told a)).on
called_day_lem true a h = zero_day a h
called_day_lem false a h = absurd (omega arith)

module _ (k y s e : ℕ) (S : List ℕ) {Y M D N f g : ℕ} (w : Dates (date_call k y s e S) 0 Y M D N f g) where
  asked_day : date_question (literal_of k y s e) S ≡ Ok (date_call k y s e S).on
  unfolding date_call
  asked_day = called_day_lem (is_known k y 0) (date_question (literal_of k y s e) S) (sym w.result)

  -- which is one of the calendar, with its number
  pub exports_day : (is_day Y M D ≡ true) × (N ≡ day_number Y M D)
  unfolding calendar_day
  exports_day =
      let x = date_day (literal_of k y s e) S (date_call k y s e S).on asked_day in
      rw (w.years, w.months, w.days, w.counted) (x.0, ap (λ (c : CalendarDay). c.number) x.1)

-- "later dates have larger numbers", and back
pub order_exports : (k y s e : ℕ) (S : List ℕ) (k' y' s' e' : ℕ) (S' : List ℕ) {Y M D N f g Y' M' D' N' f' g' : ℕ}
    → Dates (date_call k y s e S) 0 Y M D N f g → Dates (date_call k' y' s' e' S') 0 Y' M' D' N' f' g' → Earlier Y M D Y' M' D' ↔ (N < N')
order_exports k y s e S k' y' s' e' S' {Y} {M} {D} {N} {f} {g} {Y'} {M'} {D'} v w =
    let a = exports_day k y s e S v in
    let b = exports_day k' y' s' e' S' w in
    rw (a.1, b.1) (later_larger Y M D Y' M' D' a.0 b.0, larger_later Y M D Y' M' D' a.0 b.0)

-- A NUMBER's day
found_day : (n : ℕ) (c : CalendarDay) → day_question n ≡ Some c → {r Y M D : ℕ} → Finds (day_call n) r Y M D
    → (r ≡ 0) × (Y ≡ c.year) × (M ≡ c.month) × (D ≡ c.day)
unfolding day_call
found_day n c e w =
    let q : found_told (day_question n) ≡ found_told (Some c) = ap found_told e in (
      w.result ∙ ap (λ (t : DayTold). t.told.number) q,
      w.years ∙ ap (λ (t : DayTold). t.on.year) q,
      w.months ∙ ap (λ (t : DayTold). t.on.month) q,
      w.days ∙ ap (λ (t : DayTold). t.on.day) q,
    )

-- "the number gives the date back": asked of the number that a call gave
pub back_exports : (k y s e : ℕ) (S : List ℕ) {Y M D N f g r Y' M' D' : ℕ} → Dates (date_call k y s e S) 0 Y M D N f g → Finds (day_call N) r Y' M' D'
    → (r ≡ 0) × (Y' ≡ Y) × (M' ≡ M) × (D' ≡ D)
unfolding calendar_day
back_exports k y s e S {Y} {M} {D} {N} v w =
    let a = exports_day k y s e S v in
    found_day N (calendar_day Y M D) (ap day_question a.1 ∙ day_back Y M D a.0) w

-- every number from 1 to 3652059 is one day's, and no other
pub number_exports : (n : ℕ) {r Y M D : ℕ} → Finds (day_call n) r Y M D → 1 ≤ n → n ≤ last_day
    → (r ≡ 0) × (is_day Y M D ≡ true) × (day_number Y M D ≡ n)
number_exports n w lo hi =
    let x = found_day n (date_of n) (day_found n lo hi) w in
    let b = back_number n lo hi in
    rw (x.1, x.2, x.3) (x.0, b.0, b.1)

pub outside_exports : (n : ℕ) {r Y M D : ℕ} → Finds (day_call n) r Y M D → (n ≡ 0) ⊎ (last_day < n) → (r ≡ 14) × (Y ≡ 0) × (M ≡ 0) × (D ≡ 0)
unfolding day_call
outside_exports n w h =
    let q : found_told (day_question n) ≡ found_told None = ap found_told (day_outside n h) in (
      w.result ∙ ap (λ (t : DayTold). t.told.number) q,
      w.years ∙ ap (λ (t : DayTold). t.on.year) q,
      w.months ∙ ap (λ (t : DayTold). t.on.month) q,
      w.days ∙ ap (λ (t : DayTold). t.on.day) q,
    )

-- THE NUMBERS of a call that gave the day c
pub record Gives (r Y M D N : ℕ) (c : CalendarDay) : Type 0 where
  pub zero : r ≡ 0
  pub years : Y ≡ c.year
  pub months : M ≡ c.month
  pub days : D ≡ c.day
  pub counted : N ≡ c.number

-- WHAT BYTES DECIDE: the ten bytes of a day give the day, and all others 14 with the span
abbrev pub Decided : (bytes : List ℕ) (s e r Y M D N f g : ℕ) → Type 0
Decided bytes s e r Y M D N f g =
    ((r ≡ 0) × (is_day Y M D ≡ true) × (bytes ≡ spelled_day Y M D) × (N ≡ day_number Y M D)) ⊎ ((r ≡ 14) × (f ≡ s) × (g ≡ e) × (is_date bytes ≡ false))

decided : (sp : Span) (bytes : List ℕ) {r Y M D N f g : ℕ} → Dates (dated_told (dated_on sp (day_in bytes))) r Y M D N f g
    → Decided bytes sp.start sp.end r Y M D N f g
unfolding calendar_day
decided sp bytes {r} {Y} {M} {D} {N} {f} {g} w = go (day_in bytes) refl w
  where
    go : (d : Option CalendarDay) → day_in bytes ≡ d → Dates (dated_told (dated_on sp d)) r Y M D N f g → Decided bytes sp.start sp.end r Y M D N f g
    go (Some c) e v =
        let x = date_spelled bytes c e in
        inl (rw (v.result, v.years, v.months, v.days, v.counted) (refl, x.0, x.1, ap (λ (k : CalendarDay). k.number) x.2))
    go None e v = inr (v.result, v.one, v.two, no_day_lem bytes e)

spelled_no_fourteen : (y m d : ℕ) → is_day y m d ≡ true → is_date (spelled_day y m d) ≡ false → ⊥
spelled_no_fourteen y m d a n =
    let e : Some (calendar_day y m d) ≡ None = sym (spelled_date y m d a) ∙ no_date (spelled_day y m d) n in
    let z : ◌≡◌ {A = ℕ} 0 1 = cc in omega arith

decides : {bytes : List ℕ} {s e r Y M D N f g : ℕ} → Decided bytes s e r Y M D N f g → (y m d : ℕ) → is_day y m d ≡ true
    → Gives r Y M D N (calendar_day y m d) ↔ (bytes ≡ spelled_day y m d)
unfolding calendar_day
decides {bytes} {s} {e} {r} {Y} {M} {D} {N} (inl x) y m d a = (
  λ q. rw (← q.years, ← q.months, ← q.days) x.2,
  λ q.
      let z = spelled_same Y M D y m d x.1 a (sym x.2 ∙ q) in
      record { zero = x.0; years = z.0; months = z.1; days = z.2; counted = rw (← z.0, ← z.1, ← z.2) x.3 },
)
decides (inr x) y m d a = (
  λ q. absurd (let z = q.zero in let n = x.0 in omega arith),
  λ q. absurd (spelled_no_fourteen y m d a (rw q at x.3)),
)

-- 6, with the span that the temporal call gives, exactly where that gives 6, whatever buffer it is lent; and the temporal call tells the place
dated_six : (a : Result CalendarDay Refusal) → (dated_told a).told.number ≡ 6 → (sp : Span) × (a ≡ Err (Refusal'.InvalidString sp (dated_told a).told.place))
dated_six (Ok d) h = absurd (omega arith)
dated_six (Err r) h = let w = refused_six r h in (w.0, ap Err w.1)

module _ (y s e : ℕ) (S out : List ℕ) where
  abbrev pub l : Literal
  l = literal_of 8 y s e

  abbrev dates : Bool → DayTold
  dates known = called_day known (dated_told (date_question l S))

  abbrev texts : Bool → Outcome Told
  texts known = called known out (outcome_told text_told (temporal_question l S out))

  -- the same refusal, by either
  six_both : (known : Bool) → (dates known).told.number ≡ 6
      → (sp : Span) × (p : ℕ) × (date_question l S ≡ Err (Refusal'.InvalidString sp p))
      × ((temporal_question l S out).answer ≡ Err (Refusal'.InvalidString sp p)) × (known ≡ true)
  six_both true h =
      let x = dated_six (date_question l S) h in
      let p = (dated_told (date_question l S)).told.place in
      (x.0, p, x.1, (date_six l S out refl x.0 p).0 x.1, refl)
  six_both false h = absurd (omega arith)

  six_back : (known : Bool) → (texts known).answer.number ≡ 6 → (dates known).told.number ≡ 6
  six_back true h =
      let x = six (temporal_question l S out).answer h in
      let p = (text_told (temporal_question l S out).answer).place in
      ap (λ (a : Result CalendarDay Refusal). (dated_told a).told.number) ((date_six l S out refl x.0 p).1 x.1)
  six_back false h = absurd (omega arith)

  module _ {r Y M D N f g r' h f' g' p : ℕ} {after : List ℕ} (v : Dates (date_call 8 y s e S) r Y M D N f g)
      (w : TellsPlace (temporal_call 8 y s e S out) r' h f' g' p after) where
    pub six_exports : (r ≡ 6) ↔ (r' ≡ 6)
    unfolding date_call temporal_call
    six_exports = (
      λ q.
          let x = six_both (is_known 8 y 0) (sym v.result ∙ q) in
          w.tells.says.result ∙ ap (λ (b : Bool). (texts b).answer.number) x.4 ∙ ap (λ (a : Result Text Refusal). (text_told a).number) x.3,
      λ q. v.result ∙ six_back (is_known 8 y 0) (sym w.tells.says.result ∙ q),
    )

    pub six_alike : r ≡ 6 → (f ≡ f') × (g ≡ g')
    unfolding date_call temporal_call
    six_alike q =
        let x = six_both (is_known 8 y 0) (sym v.result ∙ q) in
        let a = ap (λ (b : Bool). dates b) x.4 ∙ ap dated_told x.2 in
        let b = ap (λ (b : Bool). (texts b).answer) x.4 ∙ ap text_told x.3 in (
          v.one ∙ ap (λ (t : DayTold). t.told.first) a ∙ sym (w.tells.says.one ∙ ap (λ (t : Told). t.first) b),
          v.two ∙ ap (λ (t : DayTold). t.told.second) a ∙ sym (w.tells.says.two ∙ ap (λ (t : Told). t.second) b),
        )

    pub six_place : r ≡ 6 → (sp : Span) × (date_question l S ≡ Err (Refusal'.InvalidString sp p))
    unfolding date_call temporal_call
    six_place q =
        let x = six_both (is_known 8 y 0) (sym v.result ∙ q) in
        let b = ap (λ (b : Bool). (texts b).answer) x.4 ∙ ap text_told x.3 in
        (x.0, x.2 ∙ ap (λ (n : ℕ). Err (Refusal'.InvalidString x.0 n)) (sym (w.stop ∙ ap (λ (t : Told). t.place) b)))

  -- WHAT THE TEMPORAL CALL SHOWS, with whatever buffer, decides
  zero_known : (known : Bool) → (texts known).answer.number ≡ 0
      → (known ≡ true) × (text_number (temporal_question l S out).answer ≡ 0)
  zero_known true h = (refl, sym (text_number_lem (temporal_question l S out).answer) ∙ h)
  zero_known false h = absurd (omega arith)

  module _ {r Y M D N f g h f' g' p : ℕ} {after : List ℕ} (v : Dates (date_call 8 y s e S) r Y M D N f g)
      (w : TellsPlace (temporal_call 8 y s e S out) 0 h f' g' p after) where
    abbrev pub seen : List ℕ
    seen = view_bytes S after (view_call h f' g' (length S) (length after))

    pub shown_either : Decided seen s e r Y M D N f g
    unfolding date_call temporal_call
    shown_either =
        let k = zero_known (is_known 8 y 0) (sym w.tells.says.result) in
        let o = temporal_question l S out in
        let t : TellsPlace (outcome_told text_told o) 0 h f' g' p after =
        subst (λ (b : Bool). TellsPlace (texts b) 0 h f' g' p after) k.0 w in
        let c : Dates (dated_told (date_question l S)) r Y M D N f g =
        subst (λ (b : Bool). Dates (dates b) r Y M D N f g) k.0 v in
        let q : seen ≡ shown S o.buffer o.answer =
        rw (t.tells.says.way, t.tells.says.one, t.tells.says.two, t.tells.buffer) (view_shows S o.buffer o.answer) in
        let a : date_question l S ≡ dated_on l.span (day_in seen) =
        date_temporal_shown l S out refl k.1 ∙ ap (λ (b : List ℕ). dated_on l.span (day_in b)) (sym q) in
        decided l.span seen (subst (λ (x : Result CalendarDay Refusal). Dates (dated_told x) r Y M D N f g) a c)

    -- so it is a day's exactly if these are its ten bytes
    pub shown_exports : (Y' M' D' : ℕ) → is_day Y' M' D' ≡ true → Gives r Y M D N (calendar_day Y' M' D') ↔ (seen ≡ spelled_day Y' M' D')
    shown_exports = decides shown_either

-- A CALL of valdrabus_as_date on the text t: the kind is 8, a Date, and the mark 0, for not synthetic
pub record DateExport (t : List ℕ) : Type 0 where
  pub start : ℕ
  pub end : ℕ
  pub source : List ℕ
  pub spans : Spans (literal_of 8 0 start end) source t
  pub result : ℕ
  pub year : ℕ
  pub month : ℕ
  pub day : ℕ
  pub number : ℕ
  pub first : ℕ
  pub second : ℕ
  pub contract : Dates (date_call 8 0 start end source) result year month day number first second

-- it gave the day c
abbrev pub GivesDay : {t : List ℕ} → DateExport t → CalendarDay → Type 0
GivesDay x c = Gives x.result x.year x.month x.day x.number c

same_calendar_day : (c d : CalendarDay) → c.year ≡ d.year → c.month ≡ d.month → c.day ≡ d.day → c.number ≡ d.number → c ≡ d
same_calendar_day c d y m k n =
    let e : ◌≡◌ {A = CalendarDay} (record { year = c.year; month = c.month; day = c.day; number = c.number })
    (record { year = d.year; month = d.month; day = d.day; number = d.number }) = cc in
    e

dated_fourteen : (a : Result CalendarDay Refusal) → (dated_told a).told.number ≡ 14 → (sp : Span) × (a ≡ Err (Refusal'.InvalidDate sp))
dated_fourteen (Ok d) h = absurd (omega arith)
dated_fourteen (Err (Refusal'.WrongKind e k)) h = absurd (omega arith)
dated_fourteen (Err (Refusal'.MissingSource s)) h = absurd (omega arith)
dated_fourteen (Err (Refusal'.InvalidSourceRange s)) h = absurd (omega arith)
dated_fourteen (Err (Refusal'.NotUtf8 s)) h = absurd (omega arith)
dated_fourteen (Err (Refusal'.InvalidInteger s)) h = absurd (omega arith)
dated_fourteen (Err (Refusal'.InvalidString s p)) h = absurd (omega arith)
dated_fourteen (Err (Refusal'.InvalidBitString s)) h = absurd (omega arith)
dated_fourteen (Err (Refusal'.InvalidMoney s)) h = absurd (omega arith)
dated_fourteen (Err (Refusal'.NoRoom n)) h = absurd (omega arith)
dated_fourteen (Err (Refusal'.InvalidDate s)) h = (s, refl)

module _ {t : List ℕ} (x : DateExport t) where
  abbrev of : Literal
  of = literal_of 8 0 x.start x.end

  answered : Dates (dated_told (date_question of x.source)) x.result x.year x.month x.day x.number x.first x.second
  unfolding date_call
  answered = x.contract

  gives_question : (c : CalendarDay) → GivesDay x c ↔ (date_question of x.source ≡ Ok c)
  gives_question c = (
    λ q.
        let a = zero_day (date_question of x.source) (sym answered.result ∙ q.zero) in
        a
        ∙ ap Ok (same_calendar_day (dated_told (date_question of x.source)).on c (sym answered.years ∙ q.years)
        (sym answered.months ∙ q.months) (sym answered.days ∙ q.days) (sym answered.counted ∙ q.counted)),
    λ q.
        let w = subst (λ (a : Result CalendarDay Refusal). Dates (dated_told a) x.result x.year x.month x.day x.number x.first x.second) q answered in
        record { zero = w.result; years = w.years; months = w.months; days = w.days; counted = w.counted },
  )

  module _ (u : utf8 t ≡ true) where
    -- the day whose ten bytes are the text's value
    pub on_exports : (c : CalendarDay) → GivesDay x c ↔ DayOf t c
    on_exports c =
        let a = gives_question c in
        let b = date_on of x.source t refl x.spans u c in
        (λ q. b.0 (a.0 q), λ q. a.1 (b.1 q))

    -- "then 14 for a value that is no such date", with the span
    pub fourteen_exports : (x.result ≡ 14) ↔ ((v : List ℕ) × (value_of t (temporal off t) ≡ means v) × (is_date v ≡ false))
    fourteen_exports = (
      λ q.
          let a = dated_fourteen (date_question of x.source) (sym answered.result ∙ q) in
          let b = (date_fourteen of x.source t refl x.spans u a.0).0 a.1 in
          (b.1, b.2, b.3),
      λ q.
          let a = (date_fourteen of x.source t refl x.spans u of.span).1 (refl, q.0, q.1, q.2) in
          answered.result ∙ ap (λ (a : Result CalendarDay Refusal). (dated_told a).told.number) a,
    )

    pub fourteen_span : x.result ≡ 14 → (x.first ≡ x.start) × (x.second ≡ x.end)
    fourteen_span q =
        let v = fourteen_exports.0 q in
        let a = (date_fourteen of x.source t refl x.spans u of.span).1 (refl, v.0, v.1, v.2) in
        (answered.one ∙ ap (λ (a : Result CalendarDay Refusal). (dated_told a).told.first) a, answered.two ∙ ap (λ (a : Result CalendarDay Refusal). (dated_told a).told.second) a)

-- "Joined segments count as one value": 'a' and 'b' behind words, and 'ab' behind them
pub joined_exports : (w a g b : List ℕ) → TwoOf w a g b → (x : DateExport (w ++ (quoted a ++ (g ++ quoted b)))) (y : DateExport (w ++ quoted (a ++ b)))
    → utf8 (w ++ (quoted a ++ (g ++ quoted b))) ≡ true → utf8 (w ++ quoted (a ++ b)) ≡ true
    → (c : CalendarDay) → GivesDay x c ↔ GivesDay y c
joined_exports w a g b h x y u v c =
    let j = same_day w a g b h (of x) (of y) x.source y.source refl refl x.spans y.spans u v c in
    let m = gives_question x c in
    let n = gives_question y c in
    (λ q. n.1 (j.0 (m.0 q)), λ q. m.1 (j.1 (n.0 q)))
