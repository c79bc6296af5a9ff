-- Lines collected in a buffer: which records of the input are answered, where their lines stand, and that a further line has room. Assumes nothing.
use mathlib.Core.Path.{◌≡◌, refl, ap, sym, ◌∙◌, subst}
use mathlib.Core.Bool.{Bool, true, false}
use mathlib.Core.List.{List, [], ◌++◌, append_assoc, append-nil}
use Prim.Native.Nat.{ℕ, ◌+◌, ◌*◌, ◌-◌, ◌≤◌, ◌<◌, min}
use native.Mathlib.Omega.{arith}
use borrow.Author.Tests.{le-leb, leb-true, leb-false}
use lib.Dec.{leb}
use lib.ListN.{length, take, drop, length-append, length-drop, drop_of_length-le}
use lib.Seq.{take_all, take_at, drop_at}
use Rattle.meaning.specs.Answers.{filled}
use Rattle.meaning.specs.Records.{record_line, output}
use Rattle.laws.proofs.basics.Lists.{part_tail}
use Rattle.laws.proofs.walking.Passes.{put_behind}
use Rattle.laws.proofs.questions.RecordOutput.{output_none, output_first}
use Rattle.leaves.specs.Puts.{Puts}
use Rattle.leaves.proofs.Putting.{puts_room}
use Rattle.records.proofs.Lengths.{record_line_length}
use Rattle.records.specs.Lines.{Lines}

-- the records before `rest` are answered, by the first `full` bytes of a buffer that held `start`
pub record Answered (input start buffer rest : List ℕ) (full : ℕ) : Type 0 where
  pub lines : List ℕ
  pub counted : length lines ≡ full
  pub put : buffer ≡ lines ++ drop full start
  pub whole : output input ≡ lines ++ output rest
  pub few : 0 < length rest → full + 3 * length rest ≤ 3 * length input
  pub room : full ≤ length start
  pub same : length buffer ≡ length start

module _ {input start buffer rest : List ℕ} {full : ℕ} (c : Answered input start buffer rest full) where
  pub answered_end : length rest ≡ 0 → Lines input start full buffer
  answered_end h =
      let e : c.lines ≡ output input = sym (c.whole ∙ ap (λ (t : List ℕ). c.lines ++ output t) (drop_of_length-le rest {i = 0} (omega arith))
      ∙ ap (c.lines ++◌) output_none ∙ append-nil c.lines) in
      let n : full ≡ length (output input) = sym c.counted ∙ ap length e in
      record { long = n; buffer = c.put ∙ rw (e, n) }

  module _ (enough : 3 * length input + 192 ≤ length start) (x behind : List ℕ) (size : ℕ) (z : size ≡ 64) (e : rest ≡ x ++ behind)
      (l : length x ≡ min size (length rest)) (h : 0 < length rest) where
    parts : length rest ≡ length x + length behind
    parts = ap length e ∙ length-append x behind

    -- the record here, and what follows it
    here : take 64 rest ≡ x
    here = go (leb 64 (length rest)) refl
      where
        go : (b : Bool) → leb 64 (length rest) ≡ b → take 64 rest ≡ x
        go true t = let k = leb-true 64 (length rest) t in ap (take 64) e ∙ take_at x behind 64 (omega arith)
        go false t =
            let k = leb-false 64 (length rest) t in
            take_all 64 rest (omega arith) ∙ sym (take_all (length x) rest (omega arith)) ∙ ap (take (length x)) e ∙ take_at x behind (length x) refl

    after : drop 64 rest ≡ behind
    after = go (leb 64 (length rest)) refl
      where
        go : (b : Bool) → leb 64 (length rest) ≡ b → drop 64 rest ≡ behind
        go true t = let k = leb-true 64 (length rest) t in ap (drop 64) e ∙ drop_at x behind 64 (omega arith)
        go false t =
            let k = leb-false 64 (length rest) t in
            drop_of_length-le rest {i = 64} (omega arith) ∙ sym (drop_of_length-le rest {i = length x} (omega arith)) ∙ ap (drop (length x)) e
            ∙ drop_at x behind (length x) refl

    pub answered_turn : (r : ℕ) (last : List ℕ) → Puts (record_line x) (take (length buffer - full) (drop full buffer)) r last
        → Answered input start (take full buffer ++ (last ++ drop (length buffer - full) (drop full buffer))) behind (full + r)
    unfolding filled
    answered_turn r last p =
        let v = record_line x in
        let few = c.few h in
        let long : length v ≤ 192 = record_line_length x in
        let lent = take (length buffer - full) (drop full buffer) in
        let fits : length v ≤ length lent = rw (part_tail buffer full) (omega (arith, length-drop full buffer, c.same)) in
        let n : r ≡ length v = puts_room p fits in
        let put = put_behind c.lines v start buffer last full c.counted c.put (p.buffer ∙ rw (le-leb (length v) (length lent) fits)) in
        let len : length (c.lines ++ v) ≡ full + length v = length-append c.lines v ∙ omega (arith, c.counted) in
        let size : length rest ≡ length x + length behind = parts in
        subst (λ (m : ℕ). Answered input start (take full buffer ++ (last ++ drop (length buffer - full) (drop full buffer))) behind (full + m)) (sym n)
        (record {
          lines = c.lines ++ v;
          counted = len;
          put = put;
          whole =
              c.whole
              ∙ ap (c.lines ++◌) (output_first rest h ∙ ap (λ (t : List ℕ). record_line t ++ output (drop 64 rest)) here
              ∙ ap (λ (t : List ℕ). v ++ output t) after)
              ∙ sym (append_assoc c.lines v (output behind));
          few = λ k. omega arith;
          room = omega arith;
          same = ap length put ∙ length-append (c.lines ++ v) (drop (full + length v) start) ∙ omega (arith, len, length-drop (full + length v) start);
        })

-- they are within the buffer
pub lines_within : {input before after : List ℕ} {r : ℕ} → Lines input before r after → r ≤ length after
lines_within {input} {before} p =
    omega (arith, p.long, ap length p.buffer, length-append (output input) (drop (length (output input)) before))
