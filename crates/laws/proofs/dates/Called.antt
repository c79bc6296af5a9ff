-- [02 T-05] Dates, of what calls return: a call's result is whatever its contract permits. Assumes nothing.
use mathlib.Core.Logic.{◌⊎◌, ◌↔◌}
use mathlib.Core.Path.{◌≡◌, refl, ap, sym, ◌∙◌}
use mathlib.Core.Bool.{true, false}
use mathlib.Core.List.{List, ◌++◌}
use Prim.Native.Nat.{ℕ, ◌≤◌, ◌<◌}
use native.Mathlib.Omega.{arith}
use Rattle.meaning.specs.declared.Span.{Span}
use Rattle.meaning.specs.declared.Literal.{Literal}
use Rattle.meaning.specs.declared.Refusal.TheVariants.{InvalidString, InvalidDate}
use Rattle.meaning.specs.declared.Text.{Text}
use Rattle.meaning.specs.declared.Text.TheVariants as Text'
use Rattle.meaning.specs.declared.CalendarDay.{CalendarDay}
use Rattle.meaning.specs.Bytes.{ascii, within, is_mark}
use Rattle.meaning.specs.Chars.{lead, utf8, is_space}
use Rattle.meaning.specs.Steps.{doubled}
use Rattle.meaning.specs.Cutting.{off, named, segment, segment_step, cut, continues}
use Rattle.meaning.specs.Spelling.{encloses, spelling}
use Rattle.meaning.specs.Reading.{means, value_of, answer, one, read}
use Rattle.meaning.specs.Kinds.{token_start, quote_token, temporal_token, temporal}
use Rattle.meaning.specs.Answers.{Meets, text_number, shown}
use Rattle.meaning.specs.Codes.{literal_of}
use Rattle.meaning.specs.Questions.{cuts_character, bad_span, temporal_question}
use Rattle.meaning.specs.Dates.{day_number, is_day, calendar_day, date_of, last_day, day_question, is_ten_bytes, is_date, day_in, is_date_kind, dated_on, date_question}
use Rattle.laws.proofs.questions.Asked.{Spans}
use Rattle.laws.proofs.dates.Calendar.{Earlier, day_back, back_number, day_found, day_outside}
use Rattle.laws.proofs.dates.Asked.{DayOf, date_on, date_fourteen, date_day, date_six, date_temporal_shown}
use Rattle.laws.proofs.dates.Ordered.{date_order}
use Rattle.laws.proofs.dates.Joined.{quoted, TwoOf, same_day, second_of_january, both_second}
use Rattle.std.specs.Prelude.{Result, Err, Ok}
use Rattle.meaning.specs.declared.Refusal.{Refusal}
use Rattle.std.specs.Prelude.{Option, Some, None}

-- A CALL of the date question on the text t: what went in, and what came out
pub record DateCall (t : List ℕ) : Type 0 where
  pub literal : Literal
  pub source : List ℕ
  pub kind : is_date_kind literal.kind ≡ true
  pub spans : Spans literal source t
  pub result : Result CalendarDay Refusal
  pub contract : result ≡ date_question literal source

-- and of a number's day
pub record DayCall (n : ℕ) : Type 0 where
  pub result : Option CalendarDay
  pub contract : result ≡ day_question n

-- THE VALUE DECIDES: a day exactly if it is the day's ten bytes, "then 14 for a value that is no such date"
module _ {t : List ℕ} (a : DateCall t) (u : utf8 t ≡ true) where
  pub on_calls : (c : CalendarDay) → (a.result ≡ Ok c) ↔ DayOf t c
  on_calls c = rw a.contract (date_on a.literal a.source t a.kind a.spans u c)

  pub fourteen_calls : (sp : Span)
      → (a.result ≡ Err (InvalidDate sp))
      ↔ ((sp ≡ a.literal.span) × (v : List ℕ) × (value_of t (temporal off t) ≡ means v) × (is_date v ≡ false))
  fourteen_calls sp = rw a.contract (date_fourteen a.literal a.source t a.kind a.spans u sp)

-- "later dates have larger numbers", and back: of any two literals that were answered
pub order_calls : (l l' : Literal) (S S' : List ℕ) (r r' : Result CalendarDay Refusal) → r ≡ date_question l S → r' ≡ date_question l' S' → (c d : CalendarDay) → r ≡ Ok c
    → r' ≡ Ok d → Earlier c.year c.month c.day d.year d.month d.day ↔ (c.number < d.number)
order_calls l l' S S' r r' p q c d e f = date_order l l' S S' c d (sym p ∙ e) (sym q ∙ f)

-- "the number gives the date back": asked of the number that a call gave, the day comes back whole
pub back_calls : (l : Literal) (S : List ℕ) (r : Result CalendarDay Refusal) → r ≡ date_question l S → (c : CalendarDay) → r ≡ Ok c → (a : DayCall c.number)
    → a.result ≡ Some c
unfolding calendar_day
back_calls l S r p c e a =
    let x = date_day l S c (sym p ∙ e) in
    let n : c.number ≡ day_number c.year c.month c.day = ap (λ (z : CalendarDay). z.number) x.1 in
    a.contract ∙ ap day_question n ∙ day_back c.year c.month c.day x.0 ∙ ap Some (sym x.1)

-- every number from 1 to 3652059 is one day's, and no other
pub number_calls : {n : ℕ} (a : DayCall n) → 1 ≤ n → n ≤ last_day
    → (a.result ≡ Some (date_of n)) × (is_day (date_of n).year (date_of n).month (date_of n).day ≡ true)
    × (day_number (date_of n).year (date_of n).month (date_of n).day ≡ n)
number_calls {n} a lo hi =
    let b = back_number n lo hi in
    (a.contract ∙ day_found n lo hi, b.0, b.1)

pub outside_calls : {n : ℕ} (a : DayCall n) → (n ≡ 0) ⊎ (last_day < n) → a.result ≡ None
outside_calls {n} a h = a.contract ∙ day_outside n h

-- 6 where the temporal question gives it, with whatever buffer, and at the same place
pub six_calls : {t : List ℕ} (a : DateCall t) (lent : List ℕ) (r : Result Text Refusal) (after : List ℕ)
    → Meets (temporal_question a.literal a.source lent) r after → (sp : Span) (p : ℕ)
    → (a.result ≡ Err (InvalidString sp p)) ↔ (r ≡ Err (InvalidString sp p))
six_calls a lent r after m sp p = rw (a.contract, m.answer) (date_six a.literal a.source lent a.kind sp p)

-- the bytes that the temporal question shows decide
pub shown_calls : {t : List ℕ} (a : DateCall t) (lent : List ℕ) (r : Result Text Refusal) (after : List ℕ)
    → Meets (temporal_question a.literal a.source lent) r after → text_number r ≡ 0
    → a.result ≡ dated_on a.literal.span (day_in (shown a.source after r))
shown_calls a lent r after m n =
    a.contract ∙ rw (m.answer, m.buffer) (date_temporal_shown a.literal a.source lent a.kind (rw m.answer at n))

-- "Joined segments count as one value": 'a' and 'b' behind words, and 'ab' behind them
pub joined_calls : (w a g b : List ℕ) → TwoOf w a g b → (x : DateCall (w ++ (quoted a ++ (g ++ quoted b)))) (y : DateCall (w ++ quoted (a ++ b)))
    → utf8 (w ++ (quoted a ++ (g ++ quoted b))) ≡ true → utf8 (w ++ quoted (a ++ b)) ≡ true
    → (c : CalendarDay) → (x.result ≡ Ok c) ↔ (y.result ≡ Ok c)
joined_calls w a g b h x y u v c =
    rw (x.contract, y.contract)
    (same_day w a g b h x.literal y.literal x.source y.source x.kind y.kind x.spans y.spans u v c)

-- WITNESSES: a call on DATE '2024-01-02', its value, and its number's day
pub second_call : DateCall (ascii "DATE '2024-01-02'")
unfolding bad_span cuts_character within utf8 lead
second_call =
    let t : List ℕ = ascii "DATE '2024-01-02'" in
    record {
      literal = literal_of 8 0 0 17;
      source = t;
      kind = refl;
      spans = record { real = refl; fits = refl; text = refl };
      result = Ok second_of_january;
      contract = sym both_second.1;
    }

pub second_value : DayOf (ascii "DATE '2024-01-02'") second_of_january
unfolding utf8 lead within second_call
second_value = (on_calls second_call refl second_of_january).0 refl

pub second_back : (a : DayCall 738887) → a.result ≡ Some second_of_january
second_back a =
    let t : List ℕ = ascii "DATE '2024-01-02'" in
    back_calls (literal_of 8 0 0 17) t (Ok second_of_january) (sym both_second.1) second_of_january refl a

pub second_number : (a : DayCall 738887) → a.result ≡ Some (date_of 738887)
second_number a = (number_calls a (omega arith) (omega arith)).0

-- and one on DATE '2024-1-2', which is refused by 14 with its span
pub short_call : DateCall (ascii "DATE '2024-1-2'")
unfolding bad_span cuts_character within utf8 lead
short_call =
    let t : List ℕ = ascii "DATE '2024-1-2'" in
    record {
      literal = literal_of 8 0 0 15;
      source = t;
      kind = refl;
      spans = record { real = refl; fits = refl; text = refl };
      result = date_question (literal_of 8 0 0 15) t;
      contract = refl;
    }

pub short_fourteen : short_call.result ≡ Err (InvalidDate short_call.literal.span)
unfolding within utf8 lead temporal temporal_token quote_token token_start read continues segment is_mark segment_step cut is_space one spelling encloses answer
    doubled named is_date is_ten_bytes
short_fourteen = (fourteen_calls short_call refl short_call.literal.span).1 (refl, ascii "2024-1-2", refl, refl)
