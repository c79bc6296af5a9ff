-- [02 T-03] What the laws of blocks ask for can be had: a closed call of three items, the second refused, between two that are written; the third's single
-- call; the call without the second; and the two calls that do the same one after the other. Assumes nothing.
use mathlib.Core.Path.{◌≡◌, refl}
use mathlib.Core.List.{List, [], ◌∷◌, ◌++◌}
use Prim.Native.Nat.{ℕ}
use native.Mathlib.Omega.{arith}
use lib.ListN.{replicate, take, drop}
use Rattle.meaning.specs.declared.Text.TheVariants.{Written}
use Rattle.meaning.specs.Bytes.{ascii, within, is_mark}
use Rattle.meaning.specs.Chars.{lead, utf8, is_space}
use Rattle.meaning.specs.Steps.{doubled}
use Rattle.meaning.specs.Cutting.{named, segment, segment_step, cut, continues}
use Rattle.meaning.specs.Spelling.{encloses, is_unicode, delimiter, spelling}
use Rattle.meaning.specs.Reading.{answer, one, read}
use Rattle.meaning.specs.Answers.{Meets, filled}
use Rattle.meaning.specs.Questions.{cuts_character, bad_span, source_text, tested, string_question}
use Rattle.meaning.specs.Codes.{literal_of, settings_of}
use Rattle.meaning.specs.Blocks.{item_asked, bad_block, BlockOutcome, block_call, Blocks}
use Rattle.laws.proofs.questions.BlockReturns.{BlockCall, Returned, block_calls, LeavesOut, refused_out, Splits, split_calls}
use Rattle.laws.proofs.tables.Controls.{two}
use Rattle.std.specs.Prelude.{Ok}

-- what a call computes meets its contract
pub met : {o : BlockOutcome} {r : ℕ} {a d : List ℕ} → o ≡ record { number = r; answers = a; buffer = d } → Blocks o r a d
met e = rw e (record { result = refl; told = refl; buffer = refl })

-- 'a' 'b', of which the second byte alone is no literal
abbrev pub written : List ℕ
written = 4 ∷ (0 ∷ (0 ∷ (7 ∷ [])))

abbrev pub refused : List ℕ
refused = 4 ∷ (0 ∷ (1 ∷ (2 ∷ [])))

abbrev pub three : List ℕ
three = written ++ (refused ++ written)

-- an answer slice longer by a number, and a buffer longer by a byte
abbrev pub slice : List ℕ
slice = replicate 13 99

abbrev pub buffer : List ℕ
buffer = replicate 5 7

abbrev pub told : List ℕ
told = 0 ∷ (2 ∷ (0 ∷ (2 ∷ (6 ∷ (0 ∷ (0 ∷ (0 ∷ (0 ∷ (2 ∷ (2 ∷ (2 ∷ (99 ∷ []))))))))))))

pub three_told : block_call three two slice buffer ≡ record { number = 0; answers = told; buffer = ascii "abab" ++ (7 ∷ []) }
unfolding block_call bad_block item_asked string_question tested source_text bad_span cuts_character within utf8 lead read continues segment is_mark segment_step cut
    is_space one spelling encloses is_unicode delimiter answer doubled named filled
three_told = refl

-- ITS THIRD ITEM, by a single call with the room still left
abbrev pub three_call : BlockCall ((written ++ refused) ++ written) two
three_call = record {
  answers = slice;
  lent = buffer;
  result = 0;
  told = told;
  after = ascii "abab" ++ (7 ∷ []);
  contract = met three_told;
}

pub third_single : Meets (string_question (literal_of 4 0 0 7) two (settings_of 0) (drop 2 buffer)) (Ok (Written 2)) (ascii "ab" ++ (7 ∷ []))
unfolding string_question tested source_text bad_span cuts_character within utf8 lead read continues segment is_mark segment_step cut
    is_space one spelling encloses answer doubled named filled
third_single = record { answer = refl; buffer = refl }

pub third_returned : Returned three_call 8 (Ok (Written 2)) (ascii "ab" ++ (7 ∷ []))
third_returned = block_calls (written ++ refused) 4 0 0 7 [] two refl three_call refl refl (Ok (Written 2)) (ascii "ab" ++ (7 ∷ [])) third_single

-- WITHOUT THE SECOND, by another call on the same buffer
pub both_told : block_call (written ++ written) two slice buffer
    ≡ record { number = 0; answers = take 4 told ++ (drop 8 (take 12 told) ++ replicate 5 99); buffer = ascii "abab" ++ (7 ∷ []) }
unfolding block_call bad_block item_asked string_question tested source_text bad_span cuts_character within utf8 lead read continues segment is_mark segment_step cut
    is_space one spelling encloses answer doubled named filled
both_told = refl

abbrev pub both_call : BlockCall (written ++ written) two
both_call = record {
  answers = slice;
  lent = buffer;
  result = 0;
  told = take 4 told ++ (drop 8 (take 12 told) ++ replicate 5 99);
  after = ascii "abab" ++ (7 ∷ []);
  contract = met both_told;
}

pub second_out : LeavesOut written written two three_call both_call
second_out = refused_out written 4 0 1 2 written two refl three_call refl (λ h. omega arith) both_call refl refl

-- IN TWO CALLS: of the first two items, and of the third on what is left
pub first_told : block_call (written ++ refused) two slice buffer
    ≡ record { number = 0; answers = take 8 told ++ replicate 5 99; buffer = ascii "ab" ++ replicate 3 7 }
unfolding block_call bad_block item_asked string_question tested source_text bad_span cuts_character within utf8 lead read continues segment is_mark segment_step cut
    is_space one spelling encloses is_unicode delimiter answer doubled named filled
first_told = refl

abbrev pub first_call : BlockCall (written ++ refused) two
first_call = record {
  answers = slice;
  lent = buffer;
  result = 0;
  told = take 8 told ++ replicate 5 99;
  after = ascii "ab" ++ replicate 3 7;
  contract = met first_told;
}

pub then_told : block_call written two (replicate 5 99) (replicate 3 7)
    ≡ record { number = 0; answers = 0 ∷ (2 ∷ (0 ∷ (2 ∷ (99 ∷ [])))); buffer = ascii "ab" ++ (7 ∷ []) }
unfolding block_call bad_block item_asked string_question tested source_text bad_span cuts_character within utf8 lead read continues segment is_mark segment_step cut
    is_space one spelling encloses answer doubled named filled
then_told = refl

abbrev pub then_call : BlockCall written two
then_call = record {
  answers = replicate 5 99;
  lent = replicate 3 7;
  result = 0;
  told = 0 ∷ (2 ∷ (0 ∷ (2 ∷ (99 ∷ []))));
  after = ascii "ab" ++ (7 ∷ []);
  contract = met then_told;
}

pub three_split : Splits (written ++ refused) written two three_call first_call then_call
three_split = split_calls (written ++ refused) written two refl three_call refl first_call then_call refl refl refl refl
