-- [01 Examples, * to be proved] "The starred examples are one table, proved by a single statement." Over the questions, the literal being all of its
-- source and the buffer one byte longer than what is written. Assumes nothing.
use mathlib.Core.Bool.{true, false}
use mathlib.Core.List.{List, [], ◌∷◌}
use lib.Dec.{T}
use Rattle.meaning.specs.Bytes.{within, is_mark, is_letter, is_decimal, in_name, starts_tag, in_tag, digit, all_digits}
use Rattle.meaning.specs.Chars.{lead, utf8, more, encode, is_scalar, is_space}
use Rattle.meaning.specs.Steps.{doubled, one_byte, may_escape, scalar_by}
use Rattle.meaning.specs.Cutting.{named, segment, segment_step, cut, continues}
use Rattle.meaning.specs.Spelling.{encloses, is_unicode, unicode_spelling, delimiter, spelling}
use Rattle.meaning.specs.Reading.{answer, one, read}
use Rattle.meaning.specs.Numbers.{sign_length, is_minus, base_by, radix_prefix, parsed, separated, radix_value, i64_of}
use Rattle.meaning.specs.Answers.{part_shown, filled}
use Rattle.meaning.specs.Questions.{cuts_character, bad_span, source_text, tested, string_question, i64_question}
use Rattle.meaning.proofs.Rows.{Row, asks, string, i64, borrows, writes, minus, refuses, breaks, all}

abbrev pub starred : List Row
starred =
    asks (string false) 4 "" "'a' 'b' " "" (writes 1 "ab") ∷
    asks (string false) 4 "" "'a' " "" (breaks 3 0) ∷
    asks (string false) 4 "" "'a' E'c'" "" (breaks 3 2) ∷
    asks (string false) 4 "" "'x' 'a' E'c'" "" (writes 1 "xac") ∷
    asks (string true) 4 "" "'a\\'" "" (writes 1 "a\\") ∷
    asks (string false) 4 "" "E'\\400'" "" (breaks 3 2) ∷
    asks (string false) 4 "" "E'\\477'" "" (writes 1 "?") ∷
    asks (string false) 4 "" "E'\\xC3\\xA9'" "" (writes 1 "Ã©") ∷
    asks (string false) 4 "" "$a$a$" "" (breaks 3 0) ∷
    asks (string false) 4 "" "$$a$$b$$" "" (borrows 2 6 "a$$b") ∷
    asks i64 1 "" "-0x8000000000000000" "" (refuses 5) ∷
    asks i64 1 "" "-9223372036854775808" "" (minus 9223372036854775808) ∷
    asks i64 1 "" "0x-5" "" (minus 5) ∷ []

pub starred_hold : T (all starred)
unfolding within is_mark is_letter is_decimal in_name starts_tag in_tag digit all_digits lead utf8 more encode is_scalar is_space doubled one_byte may_escape scalar_by
    named segment segment_step cut continues encloses is_unicode unicode_spelling delimiter spelling answer one read sign_length is_minus base_by radix_prefix parsed
    separated radix_value i64_of part_shown filled cuts_character bad_span source_text tested string_question i64_question
starred_hold = tt
