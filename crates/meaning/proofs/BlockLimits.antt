-- The rows of vectors/blocks.tsv whose buffer no list writes down, 1.43 to 1.45: by the buffer's length, whatever it holds. Assumes nothing.
use mathlib.Core.Bool.{or-true}
use mathlib.Core.Path.{◌≡◌}
use mathlib.Core.List.{List, [], ◌∷◌, ◌++◌}
use Prim.Native.Nat.{ℕ}
use lib.ListN.{length, drop}
use Rattle.meaning.specs.Bytes.{ascii, is_mark, in_name}
use Rattle.meaning.specs.Chars.{lead, utf8, is_space}
use Rattle.meaning.specs.Steps.{doubled}
use Rattle.meaning.specs.Cutting.{segment, segment_step, cut, continues}
use Rattle.meaning.specs.Spelling.{encloses, spelling}
use Rattle.meaning.specs.Reading.{answer, one, read}
use Rattle.meaning.specs.Answers.{filled}
use Rattle.meaning.specs.Questions.{cuts_character, bad_span, source_text, tested, string_question}
use Rattle.meaning.specs.Blocks.{item_asked, bad_block, block_call}

-- 1.43 and 1.44: with any items, and with none, nothing is written
pub over_limit_lem : (items source answers out : List ℕ) → length out ≡ 4294967296
    → block_call items source answers out ≡ record { number = 15; answers = answers; buffer = out }
unfolding block_call bad_block
over_limit_lem items source answers out h = rw (h, or-true)

-- 1.45: one byte less is allowed, and the row's literal is written
pub at_limit : (a b c d : ℕ) (out : List ℕ) → length out ≡ 4294967295
    → block_call (4 ∷ 0 ∷ 0 ∷ 7 ∷ []) (ascii "'a' 'b'") (a ∷ b ∷ c ∷ d ∷ []) out
    ≡ record { number = 0; answers = 0 ∷ 2 ∷ 0 ∷ 2 ∷ []; buffer = ascii "ab" ++ drop 2 out }
unfolding is_mark in_name lead utf8 is_space doubled segment segment_step cut continues encloses spelling answer one read filled cuts_character bad_span
    source_text tested string_question item_asked bad_block block_call
at_limit a b c d out h = rw h
