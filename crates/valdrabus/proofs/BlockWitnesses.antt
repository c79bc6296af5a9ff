-- [02 T-03] What the law of the exported block asks for can be had: a closed call of three items, and what valdrabus_as_str_in gives of the third. Assumes
-- nothing.
use mathlib.Core.Path.{refl}
use mathlib.Core.List.{[], ◌∷◌, ◌++◌}
use lib.ListN.{drop}
use Rattle.meaning.specs.Bytes.{ascii, within, is_mark}
use Rattle.meaning.specs.Chars.{lead, utf8, is_space}
use Rattle.meaning.specs.Steps.{doubled}
use Rattle.meaning.specs.Cutting.{named, segment, segment_step, cut, continues}
use Rattle.meaning.specs.Spelling.{encloses, spelling}
use Rattle.meaning.specs.Reading.{answer, one, read}
use Rattle.meaning.specs.Answers.{filled}
use Rattle.meaning.specs.Questions.{cuts_character, bad_span, source_text, tested, string_question}
use Rattle.laws.proofs.tables.Controls.{two}
use Rattle.laws.proofs.tables.BlockWitnesses.{written, refused, buffer, three_call}
use Rattle.valdrabus.specs.Numbers.{five_told, TellsPlace}
use Rattle.valdrabus.specs.Calls.{string_call}
use Rattle.valdrabus.proofs.BlockExports.{Gives, block_exports}

-- two bytes, written (2) at the start of the room that the first item left
pub third_told : TellsPlace (string_call 4 0 0 7 two 0 (drop 2 buffer)) 0 2 0 2 0 (ascii "ab" ++ (7 ∷ []))
unfolding string_call string_question tested source_text bad_span cuts_character within utf8 lead read continues segment is_mark segment_step cut is_space one
    spelling encloses answer doubled named filled
third_told = record { tells = record { says = record { result = refl; way = refl; one = refl; two = refl }; buffer = refl }; stop = refl }

pub third_given : Gives three_call 8 (five_told 0 2 0 2 0) (ascii "ab" ++ (7 ∷ []))
third_given = block_exports (written ++ refused) 4 0 0 7 [] two refl three_call refl refl 0 2 0 2 0 (ascii "ab" ++ (7 ∷ [])) third_told
