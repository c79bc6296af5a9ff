-- The pass over a body by the pieces that are read, for any steady step: a piece takes and stands for what its step does.
-- A law for the start, for a turn and for each way out, as the code counts. Assumes nothing.
use mathlib.Core.Path.{◌≡◌, refl, ap, sym, ◌∙◌}
use mathlib.Core.Bool.{Bool, true, false, ◌&&◌, ◌||◌, not, and-false, false≢true}
use Rattle.std.specs.Prelude.{Option, Some, None, Ok, Err}
use mathlib.Core.List.{List, [], ◌∷◌, ◌++◌}
use Prim.Native.Nat.{ℕ, ◌+◌, ◌-◌, ◌^◌, ◌≤◌, ◌<◌}
use native.Mathlib.Omega.{arith}
use borrow.Author.Tests.{lt-ltb, le-leb, eq-eqb, ne_eqb, eqb-true, eqb-false, not-true, not-false}
use lib.Dec.{eqb, ltb, leb}
use lib.ListN.{length, take, drop, length-append}
use lib.Seq.{take-append_seam, length-take-le}
use Rattle.meaning.specs.Bytes.{◌!◌}
use Rattle.meaning.specs.Chars.{broken, whole, encode, is_scalar}
use Rattle.meaning.specs.Walk.{Step, give, stop, walk, value}
use Rattle.meaning.specs.Steps.{may_escape}
use Rattle.meaning.specs.Answers.{filled}
use Rattle.laws.proofs.basics.Tests.{and_right}
use Rattle.laws.proofs.utf8.Encode.{encode_length}
use Rattle.laws.proofs.walking.Courses.{so_far_none, so_far_end, taken, stands, is_kept, Goes, Taken}
use Rattle.laws.proofs.walking.StepBounds.{Steady, encode_most}
use Rattle.laws.proofs.walking.Passes.{StopsAt, EndsWith, Unbroken, unit_taken, measuring_none, measuring_turn, measuring_stop, measuring_broken}
use Rattle.laws.proofs.walking.Passes.{measuring_unfinished, measuring_end, course_same, laid_behind}
use Rattle.leaves.specs.Puts.{Least, Puts}
use Rattle.scalars.specs.Scalars.{Encodes}
use Rattle.utf8.specs.declared.tail.Utf8Tail.{Utf8Tail}
use Rattle.utf8.specs.declared.tail.Utf8Tail.TheVariants as Tail
use Rattle.utf8.specs.Tails.{due_of}
use Rattle.escapes.specs.declared.pieces.Piece.{Piece}
use Rattle.escapes.specs.declared.pieces.Piece.TheVariants as Piece'
use Rattle.escapes.specs.declared.passing.Pass.{Pass}
use Rattle.escapes.specs.Pieces.{scalar_of, meaning_of, IsBy}
use Rattle.escapes.specs.Families.{step_of, due_by, course_by}
use Rattle.escapes.specs.Steadies.{steady_standard, steady_escape, steady_unicode}
use Rattle.escapes.specs.declared.units.Family.{Family}
use Rattle.escapes.specs.declared.units.Family.TheVariants as Family'
use Rattle.escapes.specs.Passing.{Counted, Passing, Near, Moved, Moves, Ready, Turns, Passes}
use Rattle.escapes.proofs.UnitLaws.{cut}

-- EVERY FAMILY's step is steady
pub steady : (f : Family) (e : List ℕ) → Steady (step_of f e)
steady (Family'.Standard m bs) e = steady_standard bs m
steady Family'.Escape e = steady_escape
steady (Family'.Unicode m) e = steady_unicode e m

-- four bytes hold a character's encoding
module _ (c n : ℕ) (four : List ℕ) (w : Encodes c (0 ∷ 0 ∷ 0 ∷ 0 ∷ []) n four) where
  encoded : is_scalar c ≡ true → (n ≡ length (encode c)) × (four ≡ encode c ++ drop (length (encode c)) (0 ∷ 0 ∷ 0 ∷ 0 ∷ []))
  unfolding filled
  encoded s =
      let f : leb (length (encode c)) 4 ≡ true = le-leb (length (encode c)) 4 (encode_most c) in
      (rw (s, f) at w.answer, rw (s, f) at w.buffer)

-- WHAT A PIECE STANDS FOR, b its first byte: it takes m bytes behind that, and y says whether it is that byte
pub record Stands (e : List ℕ) (p : Piece) (b : ℕ) (v : List ℕ) (m : ℕ) (y : Bool) : Type 0 where
  goes : Goes (meaning_of e p)
  takes : taken (meaning_of e p) ≡ 1 + m
  keeps : is_kept (meaning_of e p) ≡ y
  bytes : stands (meaning_of e p) b ≡ v

module _ (e : List ℕ) (p : Piece) (b : ℕ) where
  stands_give : (m : ℕ) (v : List ℕ) → meaning_of e p ≡ give m v → Stands e p b v m false
  stands_give m v q = record { goes = rw q tt; takes = rw q (omega arith); keeps = rw q; bytes = rw q }

  pub stands_byte : (x m : ℕ) → p ≡ Piece'.Byte x m → Stands e p b (x ∷ []) m false
  stands_byte x m k = stands_give m (x ∷ []) (ap (meaning_of e) k)

  pub stands_two : (x z m : ℕ) → p ≡ Piece'.Two x z m → Stands e p b (x ∷ z ∷ []) m false
  stands_two x z m k = stands_give m (x ∷ z ∷ []) (ap (meaning_of e) k)

  pub stands_escape : (m : ℕ) (v : List ℕ) → v ≡ e → p ≡ Piece'.Escape m → Stands e p b v m false
  stands_escape m v q k = stands_give m v (ap (meaning_of e) k ∙ ap (give m) (sym q))

  pub means_refused : p ≡ Piece'.Refused → meaning_of e p ≡ stop
  means_refused k = ap (meaning_of e) k

  -- a character's number; zero and a number that is none refuse
  module _ (c m : ℕ) (k : p ≡ Piece'.Scalar c m) (n : ℕ) (four : List ℕ) (w : Encodes c (0 ∷ 0 ∷ 0 ∷ 0 ∷ []) n four) where
    scalar_by_lem : (eqb c 0 || eqb n 0) ≡ not (may_escape c)
    unfolding may_escape
    scalar_by_lem = go (is_scalar c) (eqb c 0) refl refl
      where
        go : (x y : Bool) → is_scalar c ≡ x → eqb c 0 ≡ y → (y || eqb n 0) ≡ not (ltb 0 c && x)
        go x true s q = rw (eqb-true c 0 q)
        go false false s q = let o : n ≡ 0 = rw s at w.answer in rw (eq-eqb n 0 o, and-false (ltb 0 c))
        go true false s q =
            let o : 0 < c = omega (arith, eqb-false c 0 q) in
            let z : n ≡ 0 → ⊥ = λ e. omega (arith, (encoded c n four w s).0, encode_length c) in
            rw (ne_eqb n 0 z, lt-ltb 0 c o)

    pub means_none : (eqb c 0 || eqb n 0) ≡ true → meaning_of e p ≡ stop
    unfolding scalar_of
    means_none z = ap (meaning_of e) k ∙ rw (not-true (may_escape c) (sym scalar_by_lem ∙ z))

    pub stands_scalar : (eqb c 0 || eqb n 0) ≡ false → Stands e p b (take n four) m false
    unfolding scalar_of may_escape
    stands_scalar z =
        let y : may_escape c ≡ true = not-false (may_escape c) (sym scalar_by_lem ∙ z) in
        let d = encoded c n four w (and_right (ltb 0 c) (is_scalar c) y) in
        let v : encode c ≡ take n four = rw (d.0, d.1) (sym (take-append_seam (encode c) (drop (length (encode c)) (0 ∷ 0 ∷ 0 ∷ 0 ∷ [])))) in
        stands_give m (take n four) (ap (meaning_of e) k ∙ rw y (ap (give m) v))

pub stands_keep : (e l : List ℕ) (at : ℕ) (p : Piece) → p ≡ Piece'.Keep → at < length l → Stands e p (l ! at) (take (at + 1 - at) (drop at l)) 0 true
stands_keep e l at p k h =
    let z : at + 1 - at ≡ 1 = omega arith in
    rw k (record { goes = tt; takes = refl; keeps = refl; bytes = rw (z, cut l at h) })

-- A TURN, at the piece p
module _ (st : List ℕ → Step) (ck : Bool) (ok : Steady st) (e l : List ℕ) (s : Pass) (r : Ready st ck l s) (p : Piece) (i : IsBy e p (st (drop s.at l))) where
  pub turn_refused : meaning_of e p ≡ stop → StopsAt (course_by st ck l) s.at
  turn_refused q = measuring_stop r.counted r.inside (sym i.means ∙ q)

  module _ (v : List ℕ) (m : ℕ) (y : Bool) (u : Stands e p (l ! s.at) v m y) where
    took : (c : Counted st ck l s) (at' : ℕ) → s.at + 1 + m ≡ at' → Taken c.so_far v y at'
    took c at' ea =
        rw (u.bytes, u.keeps) at (unit_taken c.so_far (ok) (meaning_of e p) r.inside (sym i.means) u.goes at' (omega (arith, u.takes)))

    module _ (out : List ℕ) (q : Pass) (after : List ℕ) (b : Moved ck s y m v out q after) where
      unfoldable counts : Counted st ck l s → Counted st ck l q
      counts c =
          measuring_turn c v y q.at q.n q.plain (due_of q.tail) (took c q.at (sym b.place)) (sym b.count) (sym b.plainly) b.state
          b.unbroken

      passes : (d : List ℕ) → Passing st ck l d out s → Passing st ck l d after q
      unfolding counts measuring_turn
      passes d w = record {
        counted = counts w.counted;
        put = λ room.
            b.put (value w.counted.so_far.course) d w.counted.counted (w.put (omega (arith, b.count))) w.same (omega (arith, b.count))
            ∙ ap (◌++ drop (s.n + length v) d) (sym (took w.counted q.at (sym b.place)).means)
            ∙ ap (λ (k : ℕ). value (took w.counted q.at (sym b.place)).next.course ++ drop k d) (sym b.count);
        same = b.same ∙ w.same;
        short = w.short;
      }

    pub turn_moves : (out : List ℕ) (t : Option Pass) (after : List ℕ) → Moves ck s y m v out t after → Turns st ck l out s t after
    turn_moves out None after b =
        measuring_broken r.counted (meaning_of e p) r.inside (sym i.means) u.goes (rw u.bytes b)
    turn_moves out (Some q) after b = record { further = omega (arith, b.place); passes = passes out q after b }

  pub turn_near : (v : List ℕ) (m : ℕ) → Stands e p (l ! s.at) v m false → Near s m v
  turn_near v m u =
      let t = took v m false u r.counted (s.at + 1 + m) refl in
      record { place = omega (arith, r.short, t.next.inside); count = omega (arith, r.short, r.counted.short, t.brief, t.next.inside) }

-- PAST A UNIT
unbroken_by : (t : Utf8Tail) → (t ≡ Tail.Broken → ⊥) → Unbroken (due_of t)
unbroken_by Tail.Start k = tt
unbroken_by Tail.One k = tt
unbroken_by Tail.Two k = tt
unbroken_by Tail.TwoFromA0 k = tt
unbroken_by Tail.TwoUpTo9F k = tt
unbroken_by Tail.Three k = tt
unbroken_by Tail.ThreeFrom90 k = tt
unbroken_by Tail.ThreeUpTo8F k = tt
unbroken_by Tail.Broken k = absurd (k refl)

module _ (ck : Bool) (p : Pass) (y : Bool) (m : ℕ) (v out : List ℕ) (t : Utf8Tail) (dt : due_of t ≡ due_by ck (due_of p.tail) v) where
  pub moves_on : (t ≡ Tail.Broken → ⊥) → (k : ℕ) → Least p.n (length out) k
      → (n : ℕ) (last : List ℕ) → Puts v (take (length out - k) (drop k out)) n last
      → length (take k out ++ (last ++ drop (length out - k) (drop k out))) ≡ length out
      → Moved ck p y m v out (record { at = p.at + 1 + m; n = p.n + length v; plain = p.plain && y; tail = t })
      (take k out ++ (last ++ drop (length out - k) (drop k out)))
  moves_on u k lo n last w same = record {
    place = refl;
    count = refl;
    plainly = refl;
    state = dt;
    unbroken = unbroken_by t u;
    put = λ c d ec eo es room. laid_behind c v d out last p.n k ec eo es room (lo.first (omega arith)) w.buffer;
    same = same;
  }

-- THE START, and the ways out
pub passing_none : (st : List ℕ → Step) (ck : Bool) (l d : List ℕ) → length l < 2 ^ 64 → Passing st ck l d d (record { at = 0; n = 0; plain = true; tail = Tail.Start })
unfolding measuring_none so_far_none
passing_none st ck l d b = record { counted = measuring_none st ck l; put = λ h. refl; same = refl; short = b }

passes_stop : (st : List ℕ → Step) (ck : Bool) (l d out : List ℕ) (at : ℕ) → StopsAt (course_by st ck l) at → Passes (course_by st ck l) d (Err at) out
passes_stop st ck l d out at s = record { answer = rw (s.marred, s.halts, s.place); buffer = λ g. absurd (false≢true (sym g ∙ s.halts)) }

-- what a turn led to
module _ (st : List ℕ → Step) (ck : Bool) (l out : List ℕ) (p : Pass) (r : Option Pass) (after : List ℕ) (t : Turns st ck l out p r after) where
  pub turn_again : (d : List ℕ) → Passing st ck l d out p → (q : Pass) → r ≡ Some q → Passing st ck l d after q
  turn_again d w q k = let g = rw k at t in g.passes d w

-- nothing is left
module _ (st : List ℕ → Step) (ck : Bool) (l d out : List ℕ) (s : Pass) (w : Passing st ck l d out s) (h : length l ≤ s.at) (x : Bool) (ex : x ≡ whole (due_of s.tail)) where
  pub passes_unfinished : not x ≡ true → Passes (course_by st ck l) d (Err s.at) out
  passes_unfinished n = passes_stop st ck l d out s.at (measuring_unfinished w.counted h (sym ex ∙ not-true x n))

  module _ (n : not x ≡ false) where
    ends : EndsWith (course_by st ck l) s.plain s.n
    ends = measuring_end w.counted h (sym ex ∙ not-false x n)

    written : length (value (course_by st ck l)) ≤ length d → out ≡ value (course_by st ck l) ++ drop (length (value (course_by st ck l))) d
    written k =
        let v : value (course_by st ck l) ≡ value w.counted.so_far.course =
        ap value (course_same ck (walk st 0 l) ends.goes ∙ so_far_end w.counted.so_far h) in
        let c : length (value (course_by st ck l)) ≡ s.n = ends.counted in
        w.put (omega arith) ∙ ap (λ (k : ℕ). value w.counted.so_far.course ++ drop k d) (sym c)
        ∙ ap (◌++ drop (length (value (course_by st ck l))) d) (sym v)

    pub passes_plain : s.plain ≡ true → Passes (course_by st ck l) d (Ok None) out
    passes_plain q = record { answer = rw (ends.plainly, q); buffer = λ g. written }

    pub passes_length : s.plain ≡ false → Passes (course_by st ck l) d (Ok (Some s.n)) out
    passes_length q = record { answer = rw (ends.plainly, q, ends.goes, ends.counted); buffer = λ g. written }
