-- Where the loop over joined text stands, and each turn and way out: it adds the lengths of the segments' values, and puts each value behind the earlier ones
-- where there is room. Assumes nothing.
use mathlib.Core.Path.{◌≡◌, refl, ap, sym, ◌∙◌, subst}
use mathlib.Core.List.{List, ◌++◌}
use Prim.Native.Nat.{ℕ, suc, ◌+◌, ◌-◌, ◌≤◌, ◌<◌}
use native.Mathlib.Omega.{arith}
use lib.ListN.{length, take, drop, length-take}
use Rattle.meaning.specs.declared.Settings.{Settings}
use Rattle.meaning.specs.Cutting.{segment_step, cut}
use Rattle.meaning.specs.Reading.{Value, means, fails, alone, joined, as_written}
use Rattle.meaning.specs.Reads.{buffer_of}
use Rattle.meaning.specs.Answers.{filled}
use Rattle.laws.proofs.joining.Joining.{fails≢means}
use Rattle.laws.proofs.joining.Joins as joins
use Rattle.laws.proofs.walking.Passes.{laid_behind}
use Rattle.laws.proofs.walking.Short.{Bound, alone_bound}
use Rattle.leaves.specs.Puts.{Least}
use Rattle.cutting.specs.Segments.{next_of}
use Rattle.cutting.proofs.Cursors.{UnitAt, at_end, at_remainder, at_segment}
use Rattle.cutting.specs.declared.cursor.Cursor.{Cursor}
use Rattle.cutting.specs.declared.cursor.Next.{Next}
use Rattle.cutting.specs.declared.cursor.Next.TheVariants as Next'
use Rattle.strings.specs.declared.joined.Stop.{Stop}
use Rattle.strings.specs.Answers.{stop_at, length_of, PutsValue, PutsAll}
use Rattle.std.specs.Prelude.{Result, Ok, Err}

-- what a length says of a value
pub length_means : (x : Value) (m : ℕ) → length_of x ≡ Ok m → (w : List ℕ) × (x ≡ means w) × (length w ≡ m)
length_means (means w) m e = (w, refl, cc)
length_means (fails p) m e = let z : ◌≡◌ {A = ℕ} 0 1 = cc in absurd (omega arith)

pub length_fails : (x : Value) (p : ℕ) → length_of x ≡ Err (stop_at p) → x ≡ fails p
length_fails (means w) p e = let z : ◌≡◌ {A = ℕ} 0 1 = cc in absurd (omega arith)
length_fails (fails q) p e = let z : stop_at q ≡ stop_at p = cc in ap (λ (s : Stop). fails s.place) z

-- a value that fails owes nothing of the buffer
puts_failed : (x : Value) (p : ℕ) (d out : List ℕ) → x ≡ fails p → PutsAll x d (Err (stop_at p)) out
puts_failed x p d out e = record { answer = rw e; buffer = λ v y l. absurd (fails≢means p v (sym e ∙ y)) }

-- the segments before i mean n bytes, which stand at the start of a buffer that held d, if there is room for them
pub record JoinsAt (σ : Settings) (t d out : List ℕ) (i n : ℕ) : Type 0 where
  pub so_far : joins.Joined (alone σ) (segment_step σ) t i n
  pub short : n ≤ i
  pub put : n ≤ length d → out ≡ so_far.got ++ drop n d
  pub same : length out ≡ length d

pub joins_start : (σ : Settings) (t d : List ℕ) (i : ℕ) → i ≡ 0 → JoinsAt σ t d d i 0
unfolding joins.joined_none
joins_start σ t d i e =
    subst (λ (j : ℕ). JoinsAt σ t d d j 0) (sym e)
    (record { so_far = joins.joined_none (alone σ) (segment_step σ) t; short = omega arith; put = λ h. refl; same = refl })

module _ {σ : Settings} {t d out : List ℕ} {i n : ℕ} (v : JoinsAt σ t d out i n) (r : Next) (e : r ≡ next_of σ t i) where
  pub joins_end : r ≡ Next'.End → PutsAll (joined σ (cut σ t)) d (Ok n) out
  unfolding cut
  joins_end q =
      let j = joins.joined_end (alone σ) v.so_far (at_end σ t i r e q) in
      record {
        answer = rw j (ap Ok (sym v.so_far.count));
        buffer = λ w x l.
            let m : means v.so_far.got ≡ means w = sym j ∙ x in
            let z : v.so_far.got ≡ w = cc in
            let c : n ≡ length w = sym v.so_far.count ∙ ap length z in
            v.put (omega arith) ∙ ap (◌++ drop n d) z ∙ ap (λ (k : ℕ). w ++ drop k d) c;
      }

  pub joins_remainder : r ≡ Next'.Remainder → PutsAll (joined σ (cut σ t)) d (Err (stop_at i)) out
  unfolding cut
  joins_remainder q =
      let k = at_remainder σ t i r e q in
      puts_failed (joined σ (cut σ t)) i d out (joins.joined_remainder (alone σ) v.so_far k.0 k.1)

  module _ (s o u : ℕ) (c : Cursor) (q : r ≡ Next'.Segment s o u c) where
    unit : UnitAt σ t i s o u c.at
    unit = at_segment σ t i r e s o u c q

    pub segment_ordered : s ≤ u
    segment_ordered = omega (arith, unit.some)

    pub segment_inside : u ≤ length t
    segment_inside = omega (arith, unit.ends, unit.inside)

    pub cursor_less : length t - c.at < length t - i
    cursor_less = omega (arith, unit.next, unit.inside)

    -- the segment's own text
    abbrev text : List ℕ
    text = take (u - s) (drop s t)

    text_length : length text ≤ u - s
    text_length = omega (arith, length-take (u - s) (drop s t))

    room : i + suc unit.more ≤ length t
    room = omega (arith, unit.next, unit.inside)

    brief : (w : List ℕ) → alone σ text ≡ means w → i + length w ≤ c.at
    brief w x =
        let b : Bound (means w) (length text) = subst (λ (y : Value). Bound y (length text)) x (alone_bound σ text) in
        omega (arith, b, text_length, unit.start, unit.some, unit.ends)

    module _ (from : ℕ) (lo : Least n (length out) from) (k : Result ℕ Stop) (last : List ℕ)
        (p : PutsValue (alone σ text) (take (length out - from) (drop from out)) k last) where
      abbrev after : List ℕ
      after = take from out ++ (last ++ drop (length out - from) (drop from out))

      pub joins_fits : (m : ℕ) → k ≡ Ok m → n + m ≤ length t
      joins_fits m h =
          let x = length_means (alone σ text) m (sym p.answer ∙ h) in
          omega (arith, brief x.0 x.1, v.short, x.2, unit.inside)

      pub joins_turn : (m : ℕ) → k ≡ Ok m → length after ≡ length out → JoinsAt σ t d after c.at (n + m)
      unfolding joins.joined_more
      joins_turn m h l =
          let x = length_means (alone σ text) m (sym p.answer ∙ h) in
          let w = x.0 in
          let b : last ≡ filled w (take (length out - from) (drop from out)) =
          p.buffer ∙ ap (λ (y : Value). buffer_of (take (length out - from) (drop from out)) (as_written y)) x.1 in
          subst (λ (y : ℕ). JoinsAt σ t d after c.at (n + y)) x.2
          (record {
            so_far = joins.joined_more (alone σ) v.so_far unit.more text w c.at (n + length w) room unit.step x.1 unit.next refl;
            short = omega (arith, brief w x.1, v.short);
            put = λ g.
                laid_behind v.so_far.got w d out last n from v.so_far.count (v.put (omega arith)) v.same g (lo.first (omega (arith, v.same))) b;
            same = l ∙ v.same;
          })

      pub refused_fits : (e : Stop) → k ≡ Err e → s + e.place ≤ length t
      refused_fits e h =
          let m = e.place in
          let b : Bound (fails m) (length text) =
          subst (λ (y : Value). Bound y (length text)) (length_fails (alone σ text) m (sym p.answer ∙ h)) (alone_bound σ text) in
          omega (arith, b, text_length, unit.some, unit.ends, unit.inside)

      pub joins_refused : (e : Stop) → k ≡ Err e → PutsAll (joined σ (cut σ t)) d (Err (stop_at (s + e.place))) after
      unfolding cut
      joins_refused e h =
          let m = e.place in
          puts_failed (joined σ (cut σ t)) (s + m) d after
          (joins.joined_refused (alone σ) v.so_far unit.more text m room unit.step (length_fails (alone σ text) m (sym p.answer ∙ h))
          ∙ ap (λ (y : ℕ). fails (y + m)) (sym unit.start))
