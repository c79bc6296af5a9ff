-- The numbers lent out are those that were told. Assumes nothing.
use mathlib.Core.Path.{◌≡◌, ap, ◌∙◌}
use mathlib.Core.List.{List}
use Prim.Native.Nat.{ℕ}
use mir.Syntax.{w64}
use mir.Val.{SFits, to_z, of_z}
use mir.Facts.{to_z-of_z}
use Rattle.meaning.specs.declared.Form.{Form}
use Rattle.meaning.specs.declared.RadixPrefix.{RadixPrefix}
use Rattle.meaning.specs.declared.WritingError.{WritingError}
use Rattle.meaning.specs.Answers.{Outcome, Meets}
use Rattle.meaning.specs.Questions.{identifier_question}
use Rattle.meaning.specs.Forms.{form_question}
use Rattle.meaning.specs.Dates.{day_question}
use Rattle.valdrabus.specs.declared.told.Told.{Told}
use Rattle.valdrabus.specs.declared.counted.Counted.{Counted}
use Rattle.valdrabus.specs.declared.dated.DayTold.{DayTold}
use Rattle.valdrabus.specs.declared.packed.PackedTold.{PackedTold}
use Rattle.valdrabus.specs.declared.views.View.{View}
use Rattle.valdrabus.specs.Numbers.{identifier_told, writing_told, Says, Tells, SaysPlace, TellsPlace}
use Rattle.valdrabus.specs.Calls.{outcome_told, identifier_call, form_call, Counts, Bare, Lengths, Splits, found_told, day_call, Dates, Finds, Packs}
use Rattle.valdrabus.specs.Views.{Shows}
use Rattle.meaning.specs.declared.CalendarDay.{CalendarDay}
use Rattle.std.specs.Prelude.{Result}
use Rattle.std.specs.Prelude.{Option}
use Rattle.meaning.specs.declared.Text.{Text}
use Rattle.meaning.specs.declared.IdentifierError.{IdentifierError}

module _ (t : Told) where
  module _ (r how first second : ℕ) (w : Says t r how first second) where
    pub says_of : (t' : Told) → t ≡ t' → Says t' r how first second
    says_of t' p = rw (← p) w

    pub tells_of : (o : Outcome Told) (after : List ℕ) → Meets o t after → Tells o r how first second after
    tells_of o after m = record { says = says_of o.answer m.answer; buffer = m.buffer }

    pub identifier_tells : (text out after : List ℕ) (a : Result Text IdentifierError) → Meets (identifier_question text out) a after → t ≡ identifier_told a
        → Tells (identifier_call text out) r how first second after
    unfolding identifier_call
    identifier_tells text out after a m p =
        record { says = says_of (identifier_told (identifier_question text out).answer) (p ∙ ap identifier_told m.answer); buffer = m.buffer }

  -- with the place
  pub place_tells : (r how first second place : ℕ) → SaysPlace t r how first second place → (o : Outcome Told) (after : List ℕ) → Meets o t after
      → TellsPlace o r how first second place after
  place_tells r how first second place w o after m =
      record { tells = tells_of r how first second w.says o after m; stop = w.stop ∙ ap (λ (x : Told). x.place) m.answer }

  pub bare_of : (t' : Told) → t ≡ t' → Bare t' t.number t.first t.second
  bare_of t' p = record { result = ap (λ (x : Told). x.number) p; one = ap (λ (x : Told). x.first) p; two = ap (λ (x : Told). x.second) p }

  pub lengths_of : (o : Outcome Told) (after : List ℕ) → Meets o t after → Lengths o t.number t.second after
  lengths_of o after m = record { result = ap (λ (x : Told). x.number) m.answer; long = ap (λ (x : Told). x.second) m.answer; buffer = m.buffer }

  pub form_lengths : (f : Form) (v out after : List ℕ) (a : Result ℕ WritingError) → Meets (form_question f v out) a after → t ≡ writing_told a
      → Lengths (form_call f v out) t.number t.second after
  unfolding form_call
  form_lengths f v out after a m p =
      lengths_of (outcome_told writing_told (form_question f v out)) after (record { answer = p ∙ ap writing_told m.answer; buffer = m.buffer })

pub counts_of : (n n' : Counted) → n ≡ n' → SFits w64 n.value
    → Counts n' n.told.number (to_z w64 (of_z w64 n.value)) n.told.first n.told.second
counts_of n n' p f =
    record {
      result = ap (λ (x : Counted). x.told.number) p;
      counted = to_z-of_z {w = w64} f ∙ ap (λ (x : Counted). x.value) p;
      one = ap (λ (x : Counted). x.told.first) p;
      two = ap (λ (x : Counted). x.told.second) p;
    }

pub splits_of : (p p' : RadixPrefix) → p ≡ p' → Splits p' p.base p.start
splits_of p p' e = record { base = ap (λ (x : RadixPrefix). x.base) e; digits = ap (λ (x : RadixPrefix). x.start) e }

pub shows_of : (v v' : View) → v ≡ v' → Shows v' v.which v.from v.until
shows_of v v' e = record { result = ap (λ (x : View). x.which) e; first = ap (λ (x : View). x.from) e; last = ap (λ (x : View). x.until) e }

-- [02 T-05] a day's numbers
pub dates_of : (t t' : DayTold) → t ≡ t'
    → Dates t' t.told.number t.on.year t.on.month t.on.day t.on.number t.told.first t.told.second
dates_of t t' p =
    record {
      result = ap (λ (x : DayTold). x.told.number) p;
      years = ap (λ (x : DayTold). x.on.year) p;
      months = ap (λ (x : DayTold). x.on.month) p;
      days = ap (λ (x : DayTold). x.on.day) p;
      counted = ap (λ (x : DayTold). x.on.number) p;
      one = ap (λ (x : DayTold). x.told.first) p;
      two = ap (λ (x : DayTold). x.told.second) p;
    }

pub finds_of : (n : ℕ) (a : Option CalendarDay) → a ≡ day_question n → (t : DayTold) → t ≡ found_told a
    → Finds (day_call n) t.told.number t.on.year t.on.month t.on.day
unfolding day_call
finds_of n a q t p =
    let e : t ≡ found_told (day_question n) = p ∙ ap found_told q in
    record {
      result = ap (λ (x : DayTold). x.told.number) e;
      years = ap (λ (x : DayTold). x.on.year) e;
      months = ap (λ (x : DayTold). x.on.month) e;
      days = ap (λ (x : DayTold). x.on.day) e;
    }

-- [02 T-07] packed bits: the numbers, and how many bits
pub packs_of : (n : PackedTold) (r how first second : ℕ) → Says n.told r how first second → (o : Outcome PackedTold) (after : List ℕ) → Meets o n after
    → Packs o r n.bits how first second after
packs_of n r how first second w o after m =
    record {
      says = says_of n.told r how first second w o.answer.told (ap (λ (x : PackedTold). x.told) m.answer);
      count = ap (λ (x : PackedTold). x.bits) m.answer;
      buffer = m.buffer;
    }
