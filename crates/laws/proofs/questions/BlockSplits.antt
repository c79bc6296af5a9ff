-- [02 T-03] Two calls for one: the second where the first left off, in the answers and in the buffer. What it tells as written begins so many bytes further on.
-- Assumes nothing.
use mathlib.Core.Path.{◌≡◌, refl, ap, ap₂, sym, ◌∙◌}
use mathlib.Core.List.{List, [], ◌∷◌, ◌++◌, append_assoc, map}
use Prim.Native.Nat.{ℕ, ◌+◌, ◌%◌}
use native.Mathlib.Omega.{arith}
use lib.Dec.{eqb}
use lib.ListN.{length, take, drop, length-append, length-drop}
use lib.Seq.{drop-drop}
use Rattle.meaning.specs.declared.Four.{Four}
use Rattle.std.specs.Prelude.{if◌then◌else◌}
use Rattle.meaning.specs.Blocks.{items_of, numbers_of, Block, block_at, BlockOutcome, block_call}
use Rattle.laws.proofs.questions.Items.{moved}
use Rattle.laws.proofs.questions.Blocks.{taken, blocks_joined, block_append, block_moved}
use Rattle.laws.proofs.questions.BlockCalls.{Admitted, answered_admitted, items_append, numbers_append, call_is, call_told, call_behind, call_answers, call_buffer}

-- what is told, with m added to the start of each written text
abbrev pub moved_starts : ℕ → List ℕ → List ℕ
moved_starts m [] = []
moved_starts m (x ∷ []) = x ∷ []
moved_starts m (x ∷ (h ∷ [])) = x ∷ (h ∷ [])
moved_starts m (x ∷ (h ∷ (s ∷ []))) = x ∷ (h ∷ (s ∷ []))
moved_starts m (x ∷ (h ∷ (s ∷ (l ∷ ns)))) = x ∷ (h ∷ ((if eqb h 2 then s + m else s) ∷ (l ∷ moved_starts m ns)))

moved_numbers : (m : ℕ) (fs : List Four) → moved_starts m (numbers_of fs) ≡ numbers_of (map (moved m) fs)
moved_numbers m [] = refl
moved_numbers m (f ∷ fs) =
    ap (λ (l : List ℕ). f.number ∷ (f.how ∷ ((if eqb f.how 2 then f.start + m else f.start) ∷ (f.len ∷ l)))) (moved_numbers m fs)

-- two calls that are answered, the second on the answers that the first left: so is the one call
pub both_answered : (a b S answers out d : List ℕ) → (block_call a S answers out).number ≡ 0 → (block_call b S (drop (length a) answers) d).number ≡ 0
    → (block_call (a ++ b) S answers out).number ≡ 0
both_answered a b S answers out d p q =
    let x = answered_admitted a S answers out p in
    let y = answered_admitted b S (drop (length a) answers) d q in
    let n = length-append a b in
    ap (λ (o : BlockOutcome). o.number)
    (call_is (a ++ b) S answers out
    (record {
      fours = omega (arith, n, x.fours, y.fours);
      room = omega (arith, n, x.room, y.room, length-drop (length a) answers);
      limit = x.limit;
    }))

module _ (a b S answers out : List ℕ) (h : Admitted (a ++ b) answers out) (f : length a % 4 ≡ 0) where
  abbrev n : ℕ
  n = taken S out (items_of a)

  abbrev first : BlockOutcome
  first = block_call a S answers out

  abbrev second : BlockOutcome
  second = block_call b S (drop (length a) answers) (drop n out)

  pub first_admitted : Admitted a answers out
  first_admitted = record { fours = f; room = omega (arith, h.room, length-append a b); limit = h.limit }

  pub second_admitted : Admitted b (drop (length a) answers) (drop n out)
  second_admitted = record {
    fours = omega (arith, h.fours, f, length-append a b);
    room = omega (arith, h.room, length-append a b, length-drop (length a) answers);
    limit = omega (arith, h.limit, length-drop n out);
  }

  abbrev A : Block
  A = block_at S 0 out (items_of a)

  abbrev B : Block
  B = block_at S 0 (drop n out) (items_of b)

  both_blocks : block_at S 0 out (items_of (a ++ b)) ≡ blocks_joined n A (record { fours = map (moved n) B.fours; buffer = B.buffer })
  both_blocks =
      ap (block_at S 0 out) (items_append a b f)
      ∙ block_append S 0 out (items_of a) (items_of b)
      ∙ ap (blocks_joined n A) (block_moved S 0 n (drop n out) (items_of b))

  split_answers : (block_call (a ++ b) S answers out).answers
      ≡ take (length a) first.answers ++ (moved_starts n (take (length b) second.answers) ++ drop (length b) second.answers)
  split_answers =
      call_answers (a ++ b) S answers out h
      ∙ ap₂ ◌++◌
      (ap (λ (x : Block). numbers_of x.fours) both_blocks ∙ numbers_append A.fours (map (moved n) B.fours))
      (ap (λ (k : ℕ). drop k answers) (length-append a b) ∙ sym (drop-drop (length b) (length a) answers))
      ∙ append_assoc (numbers_of A.fours) (numbers_of (map (moved n) B.fours)) (drop (length b) (drop (length a) answers))
      ∙ ap₂ (λ (x y : List ℕ). x ++ (y ++ drop (length b) (drop (length a) answers)))
      (sym (call_told a S answers out first_admitted))
      (sym (ap (moved_starts n) (call_told b S (drop (length a) answers) (drop n out) second_admitted) ∙ moved_numbers n B.fours))
      ∙ ap (λ (l : List ℕ). take (length a) first.answers ++ (moved_starts n (take (length b) second.answers) ++ l))
      (sym (call_behind b S (drop (length a) answers) (drop n out) second_admitted))

  split_buffer : (block_call (a ++ b) S answers out).buffer ≡ take n first.buffer ++ second.buffer
  split_buffer =
      call_buffer (a ++ b) S answers out h
      ∙ ap (λ (x : Block). x.buffer) both_blocks
      ∙ sym (ap₂ (λ (x y : List ℕ). take n x ++ y) (call_buffer a S answers out first_admitted)
      (call_buffer b S (drop (length a) answers) (drop n out) second_admitted))

  pub block_split : block_call (a ++ b) S answers out
      ≡ record {
        number = 0;
        answers = take (length a) first.answers ++ (moved_starts n (take (length b) second.answers) ++ drop (length b) second.answers);
        buffer = take n first.buffer ++ second.buffer;
      }
  block_split =
      let e = call_is (a ++ b) S answers out h in
      e
      ∙ ap₂ (λ (x y : List ℕ). record { number = 0; answers = x; buffer = y }) (sym (ap (λ (o : BlockOutcome). o.answers) e) ∙ split_answers)
      (sym (ap (λ (o : BlockOutcome). o.buffer) e) ∙ split_buffer)
