-- [02 T-03] Wrong programs of a block, each by a number that it would tell at a closed call, refuted of every result that the contract permits; and where 15
-- begins. Assumes nothing.
use mathlib.Core.Path.{◌≡◌, refl, ap, ◌∙◌}
use mathlib.Core.Bool.{Bool, true, ◌&&◌, not}
use mathlib.Core.List.{List, [], ◌∷◌, ◌++◌}
use Prim.Native.Nat.{ℕ}
use native.Mathlib.Omega.{arith}
use lib.Dec.{eqb}
use lib.ListN.{length, replicate}
use borrow.Author.Tests.{eqb-false, le-ltb, not-true}
use Rattle.meaning.specs.Bytes.{◌!◌, ascii, within, is_mark}
use Rattle.meaning.specs.Chars.{lead, utf8, is_space}
use Rattle.meaning.specs.Steps.{doubled}
use Rattle.meaning.specs.Cutting.{named, segment, segment_step, cut, continues}
use Rattle.meaning.specs.Spelling.{encloses, spelling}
use Rattle.meaning.specs.Reading.{answer, one, read}
use Rattle.meaning.specs.Answers.{filled}
use Rattle.meaning.specs.Questions.{cuts_character, bad_span, source_text, tested, string_question}
use Rattle.meaning.specs.Blocks.{item_asked, bad_block, BlockOutcome, block_call, Blocks}
use Rattle.laws.proofs.basics.Tests.{and_left, and_right}
use Rattle.laws.proofs.questions.BlockCalls.{call_is, call_bad}
use Rattle.laws.proofs.tables.Controls.{two}

-- SIX ITEMS over x'a' 'b' 'c': the first two segments; all three, for which there is no room left; the second; a date; that with an unknown setting; and the
-- first two again. One answer more is lent than they need, and just the bytes
abbrev pub mixed : List ℕ
mixed =
    (4 ∷ 0 ∷ 1 ∷ 8 ∷ []) ++ (4 ∷ 0 ∷ 1 ∷ 12 ∷ []) ++ (4 ∷ 0 ∷ 5 ∷ 8 ∷ []) ++ (8 ∷ 0 ∷ 1 ∷ 4 ∷ []) ++ (8 ∷ 2 ∷ 1 ∷ 4 ∷ []) ++ (4 ∷ 0 ∷ 1 ∷ 8 ∷ [])

abbrev pub source : List ℕ
source = ascii "x'a' 'b' 'c'"

abbrev pub right : List ℕ
right =
    (0 ∷ 2 ∷ 0 ∷ 2 ∷ []) ++ (9 ∷ 0 ∷ 0 ∷ 3 ∷ []) ++ (0 ∷ 1 ∷ 6 ∷ 1 ∷ []) ++ (1 ∷ 0 ∷ 0 ∷ 0 ∷ []) ++ (10 ∷ 0 ∷ 0 ∷ 0 ∷ []) ++ (0 ∷ 2 ∷ 2 ∷ 2 ∷ [])
    ++ (99 ∷ [])

pub mixed_told : block_call mixed source (replicate 25 99) (replicate 4 7) ≡ record { number = 0; answers = right; buffer = ascii "abab" }
unfolding block_call bad_block item_asked string_question tested source_text bad_span cuts_character within utf8 lead read continues segment is_mark segment_step cut
    is_space one spelling encloses answer doubled named filled
mixed_told = refl

-- what a wrong program tells, by place and number: each program is named
abbrev pub wrong : List (ℕ × ℕ)
wrong =
    -- it ends at the first refusal, or 9 or a borrowed item takes room
    (8, 99) ∷ (20, 9) ∷
    -- a written start is counted from the item's room, a borrowed one from the text or in the buffer; an end is told for a length
    (22, 0) ∷ (10, 1) ∷ (10, 2) ∷ (11, 7) ∷ (23, 4) ∷
    -- the length in 9 is what all items so far need; the span or the kinds are told with 1
    (7, 5) ∷ (14, 1) ∷ (14, 3) ∷
    -- 1 goes ahead of 10, or the setting's low bit is taken; the slice is cleared past the items
    (16, 1) ∷ (24, 0) ∷ []

-- no such number stands at its place
abbrev pub TellsNone : List ℕ → List (ℕ × ℕ) → Type 0
TellsNone a [] = Unit {0}
TellsNone a (w ∷ ws) = (a ! w.0 ≡ w.1 → ⊥) × TellsNone a ws

abbrev differs : List ℕ → List (ℕ × ℕ) → Bool
differs a [] = true
differs a (w ∷ ws) = not (eqb (a ! w.0) w.1) && differs a ws

tells_none : (a : List ℕ) (ws : List (ℕ × ℕ)) → differs a ws ≡ true → TellsNone a ws
tells_none a [] h = tt
tells_none a (w ∷ ws) h =
    let x = eqb (a ! w.0) w.1 in
    (eqb-false (a ! w.0) w.1 (not-true x (and_left (not x) (differs a ws) h)), tells_none a ws (and_right (not x) (differs a ws) h))

pub no_wrong_number : (r : ℕ) (a d : List ℕ) → Blocks (block_call mixed source (replicate 25 99) (replicate 4 7)) r a d → TellsNone a wrong
no_wrong_number r a d m = rw (m.told ∙ ap (λ (o : BlockOutcome). o.answers) mixed_told) (tells_none right wrong refl)

-- EACH ITEM HAS ITS OWN SETTING: '\n' off and on
pub own_setting : block_call ((4 ∷ 0 ∷ 0 ∷ 4 ∷ []) ++ (4 ∷ 1 ∷ 0 ∷ 4 ∷ [])) (ascii "'\\n'") (replicate 8 99) (7 ∷ [])
    ≡ record { number = 0; answers = (0 ∷ 1 ∷ 1 ∷ 2 ∷ []) ++ (0 ∷ 2 ∷ 0 ∷ 1 ∷ []); buffer = 10 ∷ [] }
unfolding block_call bad_block item_asked string_question tested source_text bad_span cuts_character within utf8 lead read continues segment is_mark segment_step cut
    is_space one spelling encloses answer doubled named filled
own_setting = refl

-- 15 AHEAD OF ALL ITEMS: a fifth number, and a slice of three numbers for one item
pub no_short_item : block_call (4 ∷ 0 ∷ 0 ∷ 7 ∷ 4 ∷ []) two (replicate 5 99) (replicate 4 7)
    ≡ record { number = 15; answers = replicate 5 99; buffer = replicate 4 7 }
unfolding bad_block
no_short_item = call_bad (4 ∷ 0 ∷ 0 ∷ 7 ∷ 4 ∷ []) (replicate 5 99) (replicate 4 7) two refl

pub no_short_slice : block_call (4 ∷ 0 ∷ 0 ∷ 7 ∷ []) two (replicate 3 99) (replicate 4 7)
    ≡ record { number = 15; answers = replicate 3 99; buffer = replicate 4 7 }
unfolding bad_block
no_short_slice = call_bad (4 ∷ 0 ∷ 0 ∷ 7 ∷ []) (replicate 3 99) (replicate 4 7) two refl

-- THE LIMIT, also where there is no item
pub limit_allowed : (out : List ℕ) → length out ≡ 4294967295 → (block_call [] two [] out).number ≡ 0
limit_allowed out h =
    ap (λ (o : BlockOutcome). o.number) (call_is [] two [] out (record { fours = refl; room = omega arith; limit = omega arith }))

pub limit_passed : (answers out : List ℕ) → length out ≡ 4294967296 → block_call [] two answers out ≡ record { number = 15; answers = answers; buffer = out }
unfolding bad_block
limit_passed answers out h = call_bad [] answers out two (rw (h, le-ltb (length answers) 0 (omega arith)))
