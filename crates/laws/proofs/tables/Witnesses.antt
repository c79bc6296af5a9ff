-- What the laws ask for can be had: closed inputs, at either setting, that meet the hypotheses of the joining law, of its second half, of the round trips
-- and of the rule for segments, and what the laws then say of them. Assumes nothing.
use mathlib.Core.Logic.{◌↔◌}
use mathlib.Core.Path.{◌≡◌, refl, ap}
use mathlib.Core.Bool.{Bool, true, false}
use mathlib.Core.List.{List, [], ◌∷◌, ◌++◌, flatten}
use Prim.Native.Nat.{ℕ}
use native.Mathlib.Omega.{arith}
use lib.ListN.{length, replicate}
use Rattle.meaning.specs.declared.PartSize.TheVariants.{Whole, AtMost}
use Rattle.meaning.specs.declared.Form.TheVariants.{Escape, Unicode}
use Rattle.meaning.specs.declared.Text.TheVariants.{Written}
use Rattle.meaning.specs.Bytes.{◌!◌, part, ascii, within, is_mark, digit}
use Rattle.meaning.specs.Chars.{lead, utf8, width, is_space}
use Rattle.meaning.specs.Steps.{doubled, one_byte}
use Rattle.meaning.specs.Cutting.{off, on, named, segment, segment_step, cut, complete, continues}
use Rattle.meaning.specs.Spelling.{encloses, spelling}
use Rattle.meaning.specs.Reading.{answer, one, read, meaning}
use Rattle.meaning.specs.Writer.{spell, parts_of, between, written_text, over_limit, unwritable_nul, write_question}
use Rattle.meaning.specs.Forms.{figure, is_doubled, escape_form, unicode_figures, form_text, form_question}
use Rattle.meaning.specs.Answers.{text_number, filled}
use Rattle.meaning.specs.Questions.{cuts_character, bad_span, source_text, tested, string_question}
use Rattle.laws.proofs.questions.Asked.{Spans}
use Rattle.laws.proofs.tables.Controls.{all_of_it, set}
use Rattle.laws.proofs.joining.Joining.{fails≢means}
use Rattle.laws.proofs.joining.JoiningLaw.{Complete, Gap, joining_law}
use Rattle.laws.proofs.joining.Parts.{Part, Next, chain}
use Rattle.laws.proofs.questions.Ranges.{Answered}
use Rattle.laws.proofs.writing.RoundTrip.{writer_round_trip}
use Rattle.laws.proofs.writing.FormRoundTrip.{form_round_trip}
use Rattle.laws.proofs.cutting.Cuts.{segments_of, Each, Values, values_one}
use Rattle.laws.proofs.joining.Segments as Segments'
use Rattle.laws.proofs.joining.Strung.{Further, segments_question}
use Rattle.laws.proofs.writing.WriterParts.{Accepted}
use Rattle.laws.proofs.writing.WriterText.{between_white}
use Rattle.laws.proofs.writing.WrittenParts.{CutInto, between_cuts, parts_law}
use Rattle.std.specs.Prelude.{Ok}

-- a literal that is all of its source
all_of : (t : List ℕ) → bad_span (all_of_it t).span t ≡ false → part 0 (length t) t ≡ t → Spans (all_of_it t) t t
all_of t f e = record { real = refl; fits = f; text = e }

-- THE JOINING LAW: three segments, the third with a prefix; two characters of white space; a double quoted text
abbrev pub first : List ℕ
first = ascii "'x' 'a'E'c'"

abbrev pub white : List ℕ
white = ascii " ã\u{80}\u{80}"

abbrev pub second : List ℕ
second = ascii "\"b\""

pub first_complete : (b : Bool) → Complete (set b) first (ascii "xac")
unfolding within is_mark lead utf8 is_space doubled named segment segment_step cut complete continues encloses spelling answer one read
first_complete true = record { accepts = record { valid = refl; value = refl }; whole = refl }
first_complete false = record { accepts = record { valid = refl; value = refl }; whole = refl }

pub second_complete : (b : Bool) → Complete (set b) second (ascii "b")
unfolding within is_mark lead utf8 is_space doubled named segment segment_step cut complete continues encloses spelling answer one read
second_complete true = record { accepts = record { valid = refl; value = refl }; whole = refl }
second_complete false = record { accepts = record { valid = refl; value = refl }; whole = refl }

pub white_gap : Gap white
unfolding within lead is_space
white_gap = record { white = refl; some = omega arith }

pub joined_there : (b : Bool)
    → string_question (all_of_it (first ++ (white ++ second))) (first ++ (white ++ second)) (set b) (replicate 5 0)
    ≡ record { answer = Ok (Written 4); buffer = ascii "xacb" ++ (0 ∷ []) }
unfolding is_mark bad_span cuts_character within
joined_there b =
    joining_law (set b) first white second (ascii "xac") (ascii "b") (first_complete b) white_gap (second_complete b) refl
    (all_of_it (first ++ (white ++ second))) (first ++ (white ++ second)) (replicate 5 0) refl (all_of (first ++ (white ++ second)) refl refl) (omega arith)

-- ITS SECOND HALF: a quote, a backslash, a character of two bytes twice and a letter, cut into three parts: the second is empty, and the third is itself
-- written in two parts
abbrev pub value : List ℕ
value = ascii "'\\Ã©Ã©a"

abbrev pub third : List ℕ
third = ascii "\\Ã©Ã©a"

pub third_parts : parts_of (AtMost 4) third ≡ ascii "\\Ã©" ∷ ascii "Ã©a" ∷ []
unfolding width lead within
third_parts = refl

-- joined by what the writer itself puts between parts
abbrev pub next : Part → Next
next p = record { first = between ! 0; rest = []; white = between_white; part = p }

abbrev pub start : Part
start = record { value = ascii "'"; size = Whole }

abbrev pub others : List Next
others = next (record { value = []; size = Whole }) ∷ next (record { value = third; size = AtMost 4 }) ∷ []

pub value_accepted : (b : Bool) → Accepted (set b) Whole value
unfolding over_limit unwritable_nul utf8 lead within
value_accepted true = record { limit = refl; valid = refl; nul = refl }
value_accepted false = record { limit = refl; valid = refl; nul = refl }

pub value_cut : CutInto value start others
unfolding cuts_character within utf8 lead
value_cut = between_cuts value start others refl refl (refl, (refl, tt))

pub parts_there : (b : Bool) → Answered (chain (set b) start others) value
    (string_question (all_of_it (chain (set b) start others)) (chain (set b) start others) (set b) (replicate 7 0))
unfolding bad_span cuts_character within spell written_text width lead
parts_there true =
    parts_law on Whole value start others (value_accepted true) value_cut (refl, (refl, refl)) (all_of_it (chain on start others)) (chain on start others)
    (replicate 7 0)
    refl (all_of (chain on start others) refl refl) (λ m. omega arith)
parts_there false =
    parts_law off Whole value start others (value_accepted false) value_cut (refl, (refl, refl)) (all_of_it (chain off start others)) (chain off start others)
    (replicate 7 0)
    refl (all_of (chain off start others) refl refl) (λ m. omega arith)

-- THE ROUND TRIP: a value that is written unchanged, read back with an empty buffer
abbrev pub plain_value : List ℕ
plain_value = ascii "Ã©a"

abbrev pub plain_text : List ℕ
plain_text = ascii "'Ã©a'"

pub borrowed_there : (b : Bool) → Answered plain_text plain_value (string_question (all_of_it plain_text) plain_text (set b) [])
unfolding bad_span cuts_character within spell written_text width lead utf8 over_limit unwritable_nul write_question filled
borrowed_there true =
    writer_round_trip on (AtMost 4) plain_value (replicate 6 0) 5 refl (all_of_it plain_text) plain_text [] refl (all_of plain_text refl refl)
    (λ m. absurd (omega arith))
borrowed_there false =
    writer_round_trip off (AtMost 4) plain_value (replicate 6 0) 5 refl (all_of_it plain_text) plain_text [] refl (all_of plain_text refl refl)
    (λ m. absurd (omega arith))

-- IN A FORM: E leaves that value unchanged, so it is read back with an empty buffer; U& spells its first character
abbrev pub escape_text : List ℕ
escape_text = ascii "E'Ã©a'"

abbrev pub unicode_text : List ℕ
unicode_text = ascii "U&'\\00E9a'"

pub escape_there : (b : Bool) → Answered escape_text plain_value (string_question (all_of_it escape_text) escape_text (set b) [])
unfolding bad_span cuts_character within lead utf8 over_limit is_doubled escape_form form_text form_question filled
escape_there b =
    form_round_trip Escape plain_value (replicate 7 0) 6 refl (set b) (all_of_it escape_text) escape_text [] refl (all_of escape_text refl refl)
    (λ m. absurd (omega arith))

pub unicode_there : (b : Bool) → Answered unicode_text plain_value (string_question (all_of_it unicode_text) unicode_text (set b) (replicate 3 0))
unfolding bad_span cuts_character within lead utf8 over_limit is_doubled figure unicode_figures form_text form_question filled
unicode_there b =
    form_round_trip Unicode plain_value (replicate 11 0) 10 refl (set b) (all_of_it unicode_text) unicode_text (replicate 3 0) refl
    (all_of unicode_text refl refl) (λ m. omega arith)

-- THE RULE FOR SEGMENTS: three segments, the third with a prefix, and white space behind them
abbrev pub spaced : List ℕ
spaced = ascii "'a' \"b\" E'c' "

abbrev pub letters : List (List ℕ)
letters = ascii "a" ∷ (ascii "b" ∷ (ascii "c" ∷ []))

pub spaced_several : (b : Bool) → Segments'.Several (set b) spaced
unfolding within is_mark lead is_space doubled named segment segment_step cut complete
spaced_several true = record { whole = refl; first = ascii "'a'"; second = ascii "\"b\""; others = ascii "E'c'" ∷ []; are = refl; mark = refl }
spaced_several false = record { whole = refl; first = ascii "'a'"; second = ascii "\"b\""; others = ascii "E'c'" ∷ []; are = refl; mark = refl }

-- each segment is accepted alone
pub spaced_values : (b : Bool) → Values (meaning (set b)) (segments_of (cut (set b) spaced)) letters
unfolding within is_mark lead is_space doubled named segment segment_step cut continues encloses spelling answer one read
spaced_values true = (refl, (refl, (refl, tt)))
spaced_values false = (refl, (refl, (refl, tt)))

pub spaced_utf8 : (b : Bool) → Each (λ s. utf8 s ≡ true) (segments_of (cut (set b) spaced))
unfolding within is_mark lead utf8 is_space doubled named segment segment_step cut
spaced_utf8 true = (refl, (refl, (refl, tt)))
spaced_utf8 false = (refl, (refl, (refl, tt)))

-- so with just the room their values are written, and with one byte less the text is not accepted
pub spaced_written : (b : Bool)
    → string_question (all_of_it spaced) spaced (set b) (replicate 3 0) ≡ record { answer = Ok (Written 3); buffer = ascii "abc" }
unfolding bad_span cuts_character within flatten
spaced_written b =
    Segments'.complete_written (set b) spaced (spaced_several b) (all_of_it spaced) spaced (replicate 3 0) refl (all_of spaced refl refl) letters
    (spaced_utf8 b) (spaced_values b) (omega arith)

pub spaced_short : (b : Bool) → text_number (string_question (all_of_it spaced) spaced (set b) (replicate 2 0)).answer ≡ 0 → ⊥
unfolding bad_span cuts_character within flatten
spaced_short b h =
    let a =
    (Segments'.complete_question (set b) spaced (spaced_several b) (all_of_it spaced) spaced (replicate 2 0) refl (all_of spaced refl refl)).0 h in
    let e = values_one (meaning (set b)) (segments_of (cut (set b) spaced)) a.1 letters a.2 (spaced_values b) in
    let n = ap (λ (vs : List (List ℕ)). length (flatten vs)) e in
    let r = a.3 in
    omega arith

-- where a segment is refused alone, no buffer has the text accepted: \400 is a zero byte
abbrev pub zeroed : List ℕ
zeroed = ascii "'a' 'b' E'\\400' "

pub zeroed_several : (b : Bool) → Segments'.Several (set b) zeroed
unfolding within is_mark lead is_space doubled named segment segment_step cut complete
zeroed_several true = record { whole = refl; first = ascii "'a'"; second = ascii "'b'"; others = ascii "E'\\400'" ∷ []; are = refl; mark = refl }
zeroed_several false = record { whole = refl; first = ascii "'a'"; second = ascii "'b'"; others = ascii "E'\\400'" ∷ []; are = refl; mark = refl }

pub zeroed_alone : (b : Bool) → Each (Segments'.Accepted (set b)) (segments_of (cut (set b) zeroed)) → ⊥
unfolding within is_mark lead is_space doubled named segment segment_step cut continues encloses spelling answer one read digit one_byte
zeroed_alone true a = fails≢means _ a.1.1.0.0 a.1.1.0.1
zeroed_alone false a = fails≢means _ a.1.1.0.0 a.1.1.0.1

pub zeroed_refused : (b : Bool) (out : List ℕ) → text_number (string_question (all_of_it zeroed) zeroed (set b) out).answer ≡ 0 → ⊥
unfolding bad_span cuts_character within
zeroed_refused b out h =
    let a = (Segments'.complete_question (set b) zeroed (zeroed_several b) (all_of_it zeroed) zeroed out refl (all_of zeroed refl refl)).0 h in
    zeroed_alone b (Segments'.accepted_of (set b) (segments_of (cut (set b) zeroed)) a.1 a.2)

-- GIVEN SEGMENTS, a space between the first two, a tab before the third, and a space behind it
abbrev pub given : List (List ℕ)
given = ascii "'a'" ∷ (ascii "\"b\"" ∷ (ascii "E'c'" ∷ []))

pub segment_whole : (b : Bool) → Each (Segments'.Whole (set b)) given
unfolding within is_mark doubled named segment
segment_whole true =
    (record { some = omega arith; all = refl }, (record { some = omega arith; all = refl }, (record { some = omega arith; all = refl }, tt)))
segment_whole false =
    (record { some = omega arith; all = refl }, (record { some = omega arith; all = refl }, (record { some = omega arith; all = refl }, tt)))

pub space_gap : Gap (ascii " ")
unfolding within lead is_space
space_gap = record { white = refl; some = omega arith }

pub tab_gap : Gap (9 ∷ [])
unfolding within lead is_space
tab_gap = record { white = refl; some = omega arith }

abbrev pub given_second : (b : Bool) → Further (set b)
given_second b = record { gap = ascii " "; white = space_gap; text = ascii "\"b\""; whole = (segment_whole b).1.0 }

abbrev pub given_third : (b : Bool) → Further (set b)
given_third b = record { gap = 9 ∷ []; white = tab_gap; text = ascii "E'c'"; whole = (segment_whole b).1.1.0 }

abbrev pub given_text : List ℕ
given_text = ascii "'a' \"b\"" ++ (9 ∷ ascii "E'c' ")

-- the law of this text, with just the room
pub given_question : (b : Bool)
    → (text_number (string_question (all_of_it given_text) given_text (set b) (replicate 3 0)).answer ≡ 0) ↔ Segments'.AllAccepted (set b) given 3
unfolding bad_span cuts_character within is_mark
given_question b =
    segments_question (set b) (ascii "'a'") (given_second b) (given_third b ∷ []) (ascii " ") (segment_whole b).0 space_gap.white refl
    (all_of_it given_text) given_text (replicate 3 0) refl (all_of given_text refl refl)

-- each is accepted alone, so the text is
pub given_accepted : (b : Bool) → text_number (string_question (all_of_it given_text) given_text (set b) (replicate 3 0)).answer ≡ 0
unfolding within is_mark lead utf8 is_space doubled named segment continues encloses spelling answer one read flatten
given_accepted true = (given_question true).1 ((refl, (refl, (refl, tt))), letters, (refl, (refl, (refl, tt))), omega arith)
given_accepted false = (given_question false).1 ((refl, (refl, (refl, tt))), letters, (refl, (refl, (refl, tt))), omega arith)

-- the text is accepted, as its question computes; so each is alone
pub given_alone : (b : Bool) → Segments'.AllAccepted (set b) given 3
unfolding string_question tested source_text bad_span cuts_character within utf8 lead read continues segment is_mark segment_step cut is_space one spelling
    encloses answer doubled named
given_alone true = (given_question true).0 refl
given_alone false = (given_question false).0 refl
