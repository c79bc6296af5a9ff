-- A body that is read on, turn by turn. Assumes nothing.
use mathlib.Core.Path.{◌≡◌, refl, sym, ◌∙◌, subst}
use mathlib.Core.Bool.{true, ◌&&◌}
use mathlib.Core.List.{List, [], ◌∷◌, ◌++◌, append_assoc, append-nil}
use Prim.Native.Nat.{ℕ, ◌+◌, ◌-◌, ◌≤◌, ◌<◌}
use native.Mathlib.Omega.{arith}
use lib.ListN.{length, take, drop, length-drop}
use lib.Seq.{take-add, length-take-le}
use Rattle.meaning.specs.Bytes.{backslash}
use Rattle.laws.proofs.basics.Lists.{part_tail}
use Rattle.laws.proofs.walking.Fronts.{front_none, front_more, front_brief}
use Rattle.laws.proofs.utf8.Abreast.{Abreast, abreast_same, abreast_more}
use Rattle.escapes.specs.declared.units.Family.{Family}
use Rattle.escapes.proofs.Turns.{steady}
use Rattle.strings.specs.declared.chunks.End.{End}
use Rattle.strings.specs.declared.chunks.End.TheVariants.{More}
use Rattle.strings.specs.declared.chunks.Turn.{Turn}
use Rattle.strings.specs.declared.storing.Store.{Store}
use Rattle.strings.specs.declared.storing.Body.{Body}
use Rattle.strings.specs.Quick.{step_by, Turns, Ends}
use Rattle.strings.specs.Storing.{Stored, Empties, Reading, Fills, ReadsBody}
use Rattle.strings.proofs.Lending.{lent, back, back_same, back_take}
use Rattle.strings.proofs.Storages.{stored_more}

module _ (f : Family) (text : List ℕ) (b : Body) (chunk out : List ℕ) (ready : Store) (out' : List ℕ) (part : Turn) (last : List ℕ)
    (size : length chunk ≡ 240) (n : b.n ≤ 240) (inside : b.at ≤ length text)
    (e : Empties (record { total = b.total; n = b.n }) chunk out ready out')
    (x' : Turns f (lent b.at text) (lent ready.n chunk) part last) (end : End) (y : Ends text (b.at + part.at) f part.ends end) where
  abbrev chunk' : List ℕ
  chunk' = back ready.n chunk last

  abbrev result : Body
  result = record { at = b.at + part.at; plain = b.plain && part.plain; total = ready.total; n = ready.n + part.n; end = end }

  x : Turns f (drop b.at text) (drop ready.n chunk) part last
  x = rw (part_tail text b.at, part_tail chunk ready.n) at x'

  in_chunk : ready.n ≤ length chunk
  in_chunk = omega (arith, e.small, size)

  few : ready.n + part.n ≤ 240
  few = omega (arith, x.room, e.small)

  value_length : length (take part.n last) ≡ part.n
  value_length = length-take-le part.n last (omega (arith, x.room, x.same, length-drop ready.n chunk, size, e.small))

  brief : part.n ≤ part.at
  brief = omega (arith, front_brief (steady f (backslash ∷ [])) x.front, value_length)

  reaches : b.at + part.at ≤ length text
  reaches = omega (arith, x.front.so_far.inside, length-drop b.at text)

  onward : (s : Store) (c o : List ℕ) → Reading f text s c o b chunk out → Reading f text s c o result chunk' out'
  onward s c o r = record {
    v = r.v ++ take part.n last;
    front = front_more r.front part.at (take part.n last) part.plain x.front;
    abreast = λ h.
        subst (λ (y : List ℕ). Abreast y (r.v ++ take part.n last)) (sym (take-add b.at part.at text))
        (abreast_more (take b.at text) r.v (take part.at (drop b.at text)) (take part.n last) (r.abreast h) (x.abreast h));
    stores = λ d w st.
        subst (λ (y : List ℕ). Stored d y chunk' out' ready.total (ready.n + part.n)) (append_assoc w r.v (take part.n last))
        (stored_more (e.stores d (w ++ r.v) (r.stores d w st)) (take part.n last) chunk' part.n value_length
        (back_take chunk last ready.n in_chunk x'.same part.n));
    sum = omega (arith, r.sum, e.sum, brief);
    inside = reaches;
    few = few;
    chunk_same = back_same chunk last ready.n in_chunk x'.same ∙ r.chunk_same;
    out_same = e.same ∙ r.out_same;
  }

  pub fills : Fills f text b chunk out result chunk' out'
  fills = record {
    onward = onward;
    closed = y.closed;
    goes = λ h. omega (arith, x.goes (y.more h));
  }

-- nothing read yet
pub reading_none : (f : Family) (text : List ℕ) (s : Store) (chunk out : List ℕ) (end : End) → s.n ≤ 240
    → Reading f text s chunk out (record { at = 0; plain = true; total = s.total; n = s.n; end = end }) chunk out
reading_none f text s chunk out end h = record {
  v = [];
  front = front_none (step_by f) text;
  abreast = λ e. abreast_same [];
  stores = λ d w st. subst (λ (y : List ℕ). Stored d y chunk out s.total s.n) (sym (append-nil w)) st;
  sum = omega arith;
  inside = omega arith;
  few = h;
  chunk_same = refl;
  out_same = refl;
}

-- BY TURNS: what a turn asks, and what holds behind it
module _ {f : Family} {text : List ℕ} {s : Store} {chunk₀ out₀ : List ℕ} {b : Body} {chunk out : List ℕ} (r : Reading f text s chunk₀ out₀ b chunk out) where
  pub reading_size : length chunk₀ ≡ 240 → length chunk ≡ 240
  reading_size e = r.chunk_same ∙ e

  pub reading_room : s.total + s.n + length text < 18446744073709551616 → b.total + b.n + length text < 18446744073709551616 + b.at
  reading_room h = omega (arith, r.sum)

  module _ {b' : Body} {chunk' out' : List ℕ} (x : Fills f text b chunk out b' chunk' out') where
    pub reading_on : Reading f text s chunk₀ out₀ b' chunk' out'
    reading_on = x.onward s chunk₀ out₀ r

    pub reading_less : b'.end ≡ More → length text - b'.at < length text - b.at
    reading_less e = omega (arith, x.goes e, reading_on.inside)

    pub reading_ends : ReadsBody f text s chunk₀ out₀ b' chunk' out'
    reading_ends = record { reading = reading_on; closed = x.closed }
