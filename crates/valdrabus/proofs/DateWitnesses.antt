-- [02 T-05] What the laws of the exported dates ask for can be had: closed calls on two dates, one of them joined, on the number of one, on a value
-- that is no date, and on a text that both questions refuse. Assumes nothing.
use mathlib.Core.Logic.{◌↔◌}
use mathlib.Core.Path.{◌≡◌, refl}
use mathlib.Core.List.{List, []}
use Prim.Native.Nat.{ℕ, ◌<◌}
use native.Mathlib.Omega.{arith}
use Rattle.meaning.specs.Bytes.{ascii, within, is_letter, is_decimal, is_mark, digit, all_digits, starts_tag, in_tag}
use Rattle.meaning.specs.Chars.{lead, utf8, is_space}
use Rattle.meaning.specs.Steps.{doubled}
use Rattle.meaning.specs.Cutting.{named, segment, segment_step, cut, continues}
use Rattle.meaning.specs.Spelling.{encloses, spelling}
use Rattle.meaning.specs.Reading.{answer, one, read}
use Rattle.meaning.specs.Kinds.{token_start, quote_token, temporal_token, temporal}
use Rattle.meaning.specs.Answers.{filled}
use Rattle.meaning.specs.Questions.{cuts_character, bad_span, source_text, tested, temporal_question}
use Rattle.meaning.specs.Forms.{figure}
use Rattle.meaning.specs.Dates.{is_leap, month_length, year_length, day_number, is_day, calendar_day, is_ten_bytes, is_date, spelled_day, day_in, date_question}
use Rattle.meaning.specs.Codes.{literal_of}
use Rattle.laws.proofs.questions.Asked.{Spans}
use Rattle.laws.proofs.dates.Calendar.{Earlier}
use Rattle.laws.proofs.dates.Joined.{TwoOf, ends_in_e, second_of_january}
use Rattle.valdrabus.specs.Numbers.{TellsPlace}
use Rattle.valdrabus.specs.Calls.{temporal_call, date_call, day_call, Dates, Finds}
use Rattle.valdrabus.specs.Views.{view_call}
use Rattle.valdrabus.proofs.DateExports.{order_exports, back_exports, six_exports, Gives, shown_exports, DateExport, GivesDay, joined_exports}
use Rattle.valdrabus.proofs.DateExports.{fourteen_exports, fourteen_span}
use Rattle.valdrabus.proofs.PlaceWitnesses as Places

abbrev pub joined : List ℕ
joined = ascii "(DATE '2024-' '01-02')"

abbrev pub behind : List ℕ
behind = ascii "DATE'2024-01-03'"

-- 2024-01-02, day 738887, and the day behind it
pub joined_told : Dates (date_call 8 0 1 21 joined) 0 2024 1 2 738887 0 0
unfolding date_call date_question tested source_text bad_span cuts_character within utf8 lead temporal temporal_token quote_token token_start read continues segment
    is_mark segment_step cut is_space one spelling encloses answer doubled named day_in is_date is_ten_bytes is_day month_length year_length is_leap calendar_day day_number
    digit all_digits
joined_told = record { result = refl; years = refl; months = refl; days = refl; counted = refl; one = refl; two = refl }

pub behind_told : Dates (date_call 8 0 0 16 behind) 0 2024 1 3 738888 0 0
unfolding date_call date_question tested source_text bad_span cuts_character within utf8 lead temporal temporal_token quote_token token_start read continues segment
    is_mark segment_step cut is_space one spelling encloses answer doubled named day_in is_date is_ten_bytes is_day month_length year_length is_leap calendar_day day_number
    digit all_digits in_tag
behind_told = record { result = refl; years = refl; months = refl; days = refl; counted = refl; one = refl; two = refl }

-- by the law: the earlier has the smaller number
pub in_order : Earlier 2024 1 2 2024 1 3 ↔ (738887 < 738888)
in_order = order_exports 8 0 1 21 joined 8 0 0 16 behind joined_told behind_told

-- whatever is given back for its number is the day
pub day_back : {r y m d : ℕ} → Finds (day_call 738887) r y m d → (r ≡ 0) × (y ≡ 2024) × (m ≡ 1) × (d ≡ 2)
day_back = back_exports 8 0 1 21 joined joined_told

-- 6 by both, on DATE 'a'b'
pub unreadable_told : Dates (date_call 8 0 0 10 (ascii "DATE 'a'b'")) 6 0 0 0 0 0 10
unfolding date_call date_question tested source_text bad_span cuts_character within utf8 lead temporal temporal_token quote_token token_start read continues segment
    is_mark segment_step cut is_space one spelling encloses answer doubled named
unreadable_told = record { result = refl; years = refl; months = refl; days = refl; counted = refl; one = refl; two = refl }

pub unreadable_both : (◌≡◌ {A = ℕ} 6 6) ↔ (◌≡◌ {A = ℕ} 6 6)
unreadable_both = six_exports 0 0 10 (ascii "DATE 'a'b'") [] unreadable_told Places.temporal_told

-- the temporal call on the joined date writes its ten bytes into a longer buffer
pub joined_shown : TellsPlace (temporal_call 8 0 1 21 joined (ascii "............")) 0 2 0 10 0 (ascii "2024-01-02..")
unfolding temporal_call temporal_question tested source_text bad_span cuts_character within utf8 lead temporal temporal_token quote_token token_start read continues
    segment is_mark segment_step cut is_space one spelling encloses answer doubled named filled
joined_shown = record { tells = record { says = record { result = refl; way = refl; one = refl; two = refl }; buffer = refl }; stop = refl }

-- by the law: whatever the date call gives is that day
pub shown_day : {r Y M D N f g : ℕ} → Dates (date_call 8 0 1 21 joined) r Y M D N f g → Gives r Y M D N (calendar_day 2024 1 2)
unfolding view_call spelled_day figure is_day month_length is_leap within
shown_day v = (shown_exports 0 1 21 joined (ascii "............") v joined_shown 2024 1 2 refl).1 refl

-- 'a' and 'b', and 'ab', behind DATE
pub joined_spans : Spans (literal_of 8 0 1 21) joined (ascii "DATE '2024-' '01-02'")
unfolding bad_span cuts_character within
joined_spans = record { real = refl; fits = refl; text = refl }

abbrev pub joined_date : DateExport (ascii "DATE '2024-' '01-02'")
joined_date =
    record {
      start = 1;
      end = 21;
      source = joined;
      spans = joined_spans;
      result = 0;
      year = 2024;
      month = 1;
      day = 2;
      number = 738887;
      first = 0;
      second = 0;
      contract = joined_told;
    }

two_of : TwoOf (ascii "DATE ") (ascii "2024-") (ascii " ") (ascii "01-02")
unfolding ends_in_e in_tag starts_tag is_letter is_decimal within is_space lead
two_of = record {
  words = record { no_quote = refl; no_dollar = refl; no_e = refl };
  gap = record { white = refl; some = omega arith };
  no_quote = (refl, refl);
  no_nul = (refl, refl);
}

-- by the law: every call on DATE '2024-01-02' gives the joined one's day
pub joined_same : (y : DateExport (ascii "DATE '2024-01-02'")) → GivesDay y second_of_january
unfolding utf8 lead within
joined_same y =
    (joined_exports (ascii "DATE ") (ascii "2024-") (ascii " ") (ascii "01-02") two_of joined_date y refl refl second_of_january).0
    (record { zero = refl; years = refl; months = refl; days = refl; counted = refl })

-- and such a call there is
pub one_date : DateExport (ascii "DATE '2024-01-02'")
unfolding date_call date_question tested source_text bad_span cuts_character within utf8 lead temporal temporal_token quote_token token_start read continues segment
    is_mark segment_step cut is_space one spelling encloses answer doubled named day_in is_date is_ten_bytes is_day month_length year_length is_leap calendar_day day_number
    digit all_digits
one_date =
    record {
      start = 0;
      end = 17;
      source = ascii "DATE '2024-01-02'";
      spans = record { real = refl; fits = refl; text = refl };
      result = 0;
      year = 2024;
      month = 1;
      day = 2;
      number = 738887;
      first = 0;
      second = 0;
      contract = record { result = refl; years = refl; months = refl; days = refl; counted = refl; one = refl; two = refl };
    }

-- 14 on DATE '2024-1-2', which has a value
pub no_date_told : (x : DateExport (ascii "DATE '2024-1-2'")) → (x.result ≡ 14) × (x.first ≡ x.start) × (x.second ≡ x.end)
unfolding within utf8 lead temporal temporal_token quote_token token_start read continues segment is_mark segment_step cut is_space one spelling encloses answer
    doubled named is_date is_ten_bytes
no_date_told x =
    let q = (fourteen_exports x refl).1 (ascii "2024-1-2", refl, refl) in
    let s = fourteen_span x refl q in
    (q, s.0, s.1)

-- and such a call there is
pub no_date : DateExport (ascii "DATE '2024-1-2'")
unfolding date_call date_question tested source_text bad_span cuts_character within utf8 lead temporal temporal_token quote_token token_start read continues segment
    is_mark segment_step cut is_space one spelling encloses answer doubled named day_in is_date is_ten_bytes
no_date =
    record {
      start = 0;
      end = 15;
      source = ascii "DATE '2024-1-2'";
      spans = record { real = refl; fits = refl; text = refl };
      result = 14;
      year = 0;
      month = 0;
      day = 0;
      number = 0;
      first = 0;
      second = 15;
      contract = record { result = refl; years = refl; months = refl; days = refl; counted = refl; one = refl; two = refl };
    }
