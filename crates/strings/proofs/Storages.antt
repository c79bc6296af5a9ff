-- A value that is stored piece by piece: more bytes in the chunk, a chunk that is emptied, a body read on. Assumes nothing.
use mathlib.Core.Path.{◌≡◌, refl, ap, ap₂, sym, ◌∙◌}
use mathlib.Core.Bool.{Bool, true, false}
use mathlib.Core.List.{List, ◌++◌, append_assoc}
use Prim.Native.Nat.{ℕ, ◌+◌, ◌≤◌, ◌<◌}
use native.Mathlib.Omega.{arith}
use lib.Dec.{leb}
use lib.ListN.{length, take, drop, length-append, length-drop, take-append-drop, drop_of_length-le}
use lib.Seq.{take_all, take_at, drop_at, drop-drop, take-append-le, drop-append-le, length-take-le}
use borrow.Author.Tests.{le-leb}
use Rattle.std.specs.Prelude.{if◌then◌else◌}
use Rattle.meaning.specs.Answers.{filled}
use Rattle.laws.proofs.basics.Lists.{part_tail}
use Rattle.leaves.specs.Puts.{Puts}
use Rattle.strings.specs.declared.storing.Store.{Store}
use Rattle.strings.specs.Storing.{Stored, Behind, Empties}
use Rattle.strings.proofs.Lending.{lent, back, back_whole, back_same}

-- PUT BEHIND the first bytes of a buffer, whose rest is lent
pub behind_put : (bytes : List ℕ) (total : ℕ) (out : List ℕ) (k : ℕ) (last : List ℕ) → total ≤ length out
    → Puts bytes (lent total out) k last → Behind bytes total out (back total out last)
unfolding filled
behind_put bytes total out k last h p =
    let l : last ≡ (if leb (length bytes) (length (drop total out)) then bytes ++ drop (length bytes) (drop total out) else drop total out) =
    rw (part_tail out total) at p.buffer in
    let same : length last ≡ length (lent total out) = size (leb (length bytes) (length (drop total out))) refl l ∙ ap length (sym (part_tail out total)) in
    record {
      same = back_same out last total h same;
      laid = λ r. back_whole out last total h same ∙ ap (take total out ++◌) (room r l);
    }
  where
    size : (x : Bool) → leb (length bytes) (length (drop total out)) ≡ x
        → last ≡ (if x then bytes ++ drop (length bytes) (drop total out) else drop total out) → length last ≡ length (drop total out)
    size true e q = ap length q ∙ length-append bytes (drop (length bytes) (drop total out))
        ∙ omega (arith, length-drop (length bytes) (drop total out), borrow.Author.Tests.leb-true (length bytes) (length (drop total out)) e)
    size false e q = ap length q

    room : total + length bytes ≤ length out
        → last ≡ (if leb (length bytes) (length (drop total out)) then bytes ++ drop (length bytes) (drop total out) else drop total out)
        → last ≡ bytes ++ drop (total + length bytes) out
    room r q =
        let e : leb (length bytes) (length (drop total out)) ≡ true = le-leb (length bytes) (length (drop total out)) (omega (arith, length-drop total out)) in
        (rw e at q) ∙ ap (bytes ++◌) (drop-drop (length bytes) total out)

pub behind_none : (bytes : List ℕ) (total : ℕ) (out : List ℕ) → length out < total → Behind bytes total out out
behind_none bytes total out n = record { same = refl; laid = λ r. absurd (omega arith) }

-- STORED
module _ {d w chunk out : List ℕ} {total n : ℕ} (s : Stored d w chunk out total n) where
  -- more bytes, put into the chunk behind those that are there
  pub stored_more : (x chunk' : List ℕ) (m : ℕ) → length x ≡ m → take (n + m) chunk' ≡ take n chunk ++ x → Stored d (w ++ x) chunk' out total (n + m)
  stored_more x chunk' m l e = record {
    count = length-append w x ∙ omega (arith, s.count, l);
    held = drop-append-le total w x (omega (arith, s.count)) ∙ ap (◌++ x) s.held ∙ sym e;
    laid = λ h. s.laid h ∙ ap (◌++ drop total d) (sym (take-append-le total w x (omega (arith, s.count))));
    same = s.same;
  }

  -- the chunk is emptied
  pub stored_empty : (after : List ℕ) → n ≤ length chunk → Behind (take n chunk) total out after → Stored d w chunk after (total + n) 0
  stored_empty after c b =
      let len : length (take n chunk) ≡ n = length-take-le n chunk c in
      let whole : length w ≤ total + n = omega (arith, s.count) in
      record {
        count = s.count ∙ omega arith;
        held = drop_of_length-le w whole;
        laid = λ h. lies h len;
        same = b.same ∙ s.same;
      }
    where
      lies : total + n ≤ length d → length (take n chunk) ≡ n → after ≡ take (total + n) w ++ drop (total + n) d
      lies h len =
          let o : out ≡ take total w ++ drop total d = s.laid (omega arith) in
          let lt : length (take total w) ≡ total = length-take-le total w (omega (arith, s.count)) in
          let all : take (total + n) w ≡ w = take_all (total + n) w (omega (arith, s.count)) in
          b.laid (omega (arith, len, s.same))
          ∙ ap (λ (k : ℕ). take total out ++ (take n chunk ++ drop (total + k) out)) len
          ∙ ap (λ (x : List ℕ). take total x ++ (take n chunk ++ drop (total + n) x)) o
          ∙ ap₂ (λ (x y : List ℕ). x ++ (take n chunk ++ y)) (take_at (take total w) (drop total d) total lt)
          (sym (drop-drop n total (take total w ++ drop total d)) ∙ ap (drop n) (drop_at (take total w) (drop total d) total lt) ∙ drop-drop n total d)
          ∙ ap (λ (x : List ℕ). take total w ++ (x ++ drop (total + n) d)) (sym s.held)
          ∙ sym (append_assoc (take total w) (drop total w) (drop (total + n) d))
          ∙ ap (◌++ drop (total + n) d) (take-append-drop total w ∙ sym all)

pub empties_not : (s : Store) (chunk out : List ℕ) → s.n ≤ 208 → Empties s chunk out s out
empties_not s chunk out h = record { sum = refl; small = h; same = refl; stores = λ d w x. x }

pub empties_all : (s : Store) (chunk out after : List ℕ) → s.n ≤ length chunk → Behind (take s.n chunk) s.total out after
    → Empties s chunk out (record { total = s.total + s.n; n = 0 }) after
empties_all s chunk out after h b = record { sum = omega arith; small = omega arith; same = b.same; stores = λ d w x. stored_empty x after h b }
