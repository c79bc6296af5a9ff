-- [02 T-04] What the laws of places ask for can be had: closed texts, and what the laws then say of them. Assumes nothing.
use mathlib.Core.Path.{◌≡◌, refl}
use mathlib.Core.Bool.{true}
use mathlib.Core.List.{List, [], ◌∷◌, ◌++◌}
use Prim.Native.Nat.{ℕ, ◌+◌}
use native.Mathlib.Omega.{arith}
use lib.ListN.{length, take, drop}
use Rattle.meaning.specs.declared.Refusal.TheVariants.{InvalidString}
use Rattle.meaning.specs.Bytes.{◌!◌, part, ascii, within, is_mark, digit}
use Rattle.meaning.specs.Chars.{lead, utf8, is_space}
use Rattle.meaning.specs.Steps.{doubled, one_byte, gap, trim}
use Rattle.meaning.specs.Cutting.{off, named, segment, segment_step, cut, continues}
use Rattle.meaning.specs.Spelling.{encloses, is_unicode, delimiter, spelling}
use Rattle.meaning.specs.Reading.{refused, means, fails, meaning, answer, one, read}
use Rattle.meaning.specs.Kinds.{token, no_token, token_start, quote_token, temporal_token, temporal}
use Rattle.meaning.specs.Answers.{part_shown}
use Rattle.meaning.specs.Questions.{cuts_character, bad_span, source_text, tested, string_question}
use Rattle.meaning.specs.Codes.{literal_of, settings_of}
use Rattle.meaning.specs.Walk.{ended, gave}
use Rattle.laws.proofs.cutting.Cuts.{Each}
use Rattle.laws.proofs.joining.JoiningLaw.{Gap}
use Rattle.laws.proofs.joining.Segments.{Whole, Accepted}
use Rattle.laws.proofs.joining.Strung.{Further, strung, segments}
use Rattle.laws.proofs.places.Joined.{cut_place, cut_remainder, first_place, joined_place, remainder_place}
use Rattle.laws.proofs.places.Temporal.{temporal_place, temporal_none}
use Rattle.laws.proofs.places.Told.{stopped_at, place_told_lem, Taken, joined_calls, block_place_calls, block_calls_place}
use Rattle.laws.proofs.questions.Asked.{Spans}
use Rattle.laws.proofs.questions.Calls.{StringCall}
use Rattle.laws.proofs.tables.Controls.{all_of_it, two}
use Rattle.laws.proofs.tables.BlockWitnesses.{written, three_call}
use Rattle.std.specs.Prelude.{Err}

-- THE SEGMENTS 'a' and 'b', which are accepted, and E'\400', which is refused at its backslash
abbrev pub bad : List ℕ
bad = ascii "E'\\400'"

pub wholes : Whole off (ascii "'a'") × Whole off (ascii "'b'") × Whole off bad
unfolding is_mark segment within doubled named
wholes = (
  record { some = omega arith; all = refl },
  record { some = omega arith; all = refl },
  record { some = omega arith; all = refl },
)

pub blank : Gap (ascii " ")
unfolding is_space lead within
blank = record { white = refl; some = omega arith }

abbrev pub second_b : Further off
second_b = record { gap = ascii " "; white = blank; text = ascii "'b'"; whole = wholes.1 }

abbrev pub third_bad : Further off
third_bad = record { gap = ascii " "; white = blank; text = bad; whole = wholes.2 }

pub both_accepted : Each (Accepted off) (segments (ascii "'a'") (second_b ∷ []))
unfolding within is_mark lead is_space doubled named segment continues encloses spelling answer one read
both_accepted = ((ascii "a", refl), ((ascii "b", refl), tt))

pub bad_refused : meaning off bad ≡ fails 2
unfolding within is_mark lead is_space doubled one_byte digit named segment continues encloses spelling answer one read
bad_refused = refl

-- 'a' 'b' E'\400' x is refused at 10: the lengths and gaps of the first two, and 2; what stands behind it counts nothing
pub joined_at : read off (ascii "'a' 'b' E'\\400' x") ≡ refused 10
unfolding is_mark
joined_at = joined_place off (ascii "'a'") (second_b ∷ []) third_bad (ascii " x") 2 wholes.0 both_accepted bad_refused refl refl

-- E'\400' 'b' is refused at 2, as its first segment is
pub first_at : read off (ascii "E'\\400' 'b'") ≡ refused 2
unfolding is_mark is_space lead within
first_at = first_place off bad (ascii " 'b'") 2 wholes.2 bad_refused refl refl

-- 'a' 'b' x is refused at 8, where the remainder begins
pub remainder_at : read off (ascii "'a' 'b' x") ≡ refused 8
unfolding is_mark is_space lead within segment named
remainder_at = remainder_place off (ascii "'a'") (second_b ∷ []) (ascii " x") wholes.0 both_accepted refl refl (omega arith) refl

-- by the cut, with no white space: 'a'"b"E'\400' is refused at 8, and 'a' 'b'"x at 7
pub unspaced_at : read off (ascii "'a'\"b\"E'\\400'") ≡ refused 8
unfolding within is_mark lead is_space doubled one_byte digit named segment segment_step cut continues encloses spelling answer one
unspaced_at =
    cut_place off (ascii "'a'\"b\"E'\\400'") refl (gave 2 (ascii "'a'") (gave 2 (ascii "\"b\"") ended)) (ascii "a" ∷ ascii "b" ∷ []) refl
    (refl, (refl, tt)) 6 bad ended 2 refl refl

pub unclosed_at : read off (ascii "'a' 'b'\"x") ≡ refused 7
unfolding within is_mark lead is_space doubled named segment segment_step cut continues encloses spelling answer one
unclosed_at =
    cut_remainder off (ascii "'a' 'b'\"x") refl (gave 3 (ascii "'a'") (gave 2 (ascii "'b'") ended)) (ascii "a" ∷ ascii "b" ∷ []) refl
    (refl, (refl, tt)) refl

-- DATE 'a'b' is refused at 7: its token begins at 5, and a quote stands alone at 2 of it; DATE has no token
pub temporal_at : temporal off (ascii "DATE 'a'b'") ≡ refused 7
unfolding temporal_token quote_token token_start within is_mark lead is_space doubled named segment continues encloses spelling answer one read
temporal_at = temporal_place off (ascii "DATE 'a'b'") 5 10 2 refl refl

pub no_token_at : temporal off (ascii "DATE") ≡ refused 0
unfolding temporal_token quote_token
no_token_at = temporal_none off (ascii "DATE") refl

-- as it is told, with a buffer that stays
abbrev pub whole_text : List ℕ
whole_text = ascii "'a' 'b' E'\\400' x"

pub told_at : string_question (all_of_it whole_text) whole_text off (7 ∷ []) ≡ stopped_at (record { start = 0; end = 17 }) 10 (7 ∷ [])
unfolding bad_span cuts_character within utf8 lead
told_at =
    place_told_lem (all_of_it whole_text) whole_text whole_text off (7 ∷ []) refl (record { real = refl; fits = refl; text = refl }) refl 10 joined_at

-- AS CALLS RETURN IT. A call on a text that is all of its source
abbrev call_of : (t out : List ℕ) → Spans (all_of_it t) t t → StringCall off t
call_of t out h = record {
  literal = all_of_it t;
  source = t;
  lent = out;
  kind = refl;
  spans = h;
  result = (string_question (all_of_it t) t off out).answer;
  after = (string_question (all_of_it t) t off out).buffer;
  contract = record { answer = refl; buffer = refl };
}

pub spans_there : Spans (all_of_it (ascii "'a'")) (ascii "'a'") (ascii "'a'") × Spans (all_of_it (ascii "'b'")) (ascii "'b'") (ascii "'b'")
    × Spans (all_of_it bad) bad bad × Spans (all_of_it whole_text) whole_text whole_text
unfolding bad_span cuts_character within
spans_there = (
  record { real = refl; fits = refl; text = refl },
  record { real = refl; fits = refl; text = refl },
  record { real = refl; fits = refl; text = refl },
  record { real = refl; fits = refl; text = refl },
)

pub taken_there : Each (Taken off) (segments (ascii "'a'") (second_b ∷ []))
unfolding string_question tested source_text bad_span cuts_character within utf8 lead read continues segment is_mark is_space one spelling encloses answer doubled
    named part_shown
taken_there = (
  (ascii "a", call_of (ascii "'a'") [] spans_there.0, record { number = refl; value = refl }),
  ((ascii "b", call_of (ascii "'b'") [] spans_there.1, record { number = refl; value = refl }), tt),
)

-- calls on 'a' and 'b' were answered, the one on E'\400' was refused at 2: so the one on the whole text is refused at 10
pub joined_called : ((call_of whole_text (7 ∷ []) spans_there.3).result ≡ Err (InvalidString (record { start = 0; end = 17 }) 10))
    × ((call_of whole_text (7 ∷ []) spans_there.3).after ≡ 7 ∷ [])
unfolding string_question tested source_text bad_span cuts_character within utf8 lead read continues segment is_mark is_space one spelling encloses answer doubled
    one_byte digit named
joined_called =
    joined_calls off (ascii "'a'") (second_b ∷ []) third_bad (ascii " x") wholes.0 taken_there (call_of bad [] spans_there.2)
    (record { start = 0; end = 7 }) 2 refl refl refl (call_of whole_text (7 ∷ []) spans_there.3) refl

-- an item of a block: its second byte alone is no literal, so it is told as a 6 with the place 0; and back
pub item_spans : Spans (literal_of 4 0 1 2) two (ascii "a")
unfolding bad_span cuts_character within
item_spans = record { real = refl; fits = refl; text = refl }

pub item_called : take 4 (drop 4 three_call.told) ≡ 6 ∷ 0 ∷ 0 ∷ 0 ∷ []
unfolding within utf8 lead read continues segment is_mark is_space one spelling encloses is_unicode delimiter answer doubled named
item_called = block_place_calls written 4 0 1 2 written two refl three_call refl refl refl (ascii "a") item_spans refl 0 refl

pub item_called_back : (utf8 (ascii "a") ≡ true) × (read (settings_of 0) (ascii "a") ≡ refused 0)
item_called_back = block_calls_place written 4 0 1 2 written two refl three_call refl refl refl (ascii "a") item_spans 0 0 0 refl
