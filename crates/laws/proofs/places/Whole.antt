-- The place of a refusal in a whole text: it lies inside (`read_inside`), and in UTF-8 text a character begins there (`read_begins`), since both hold of each
-- segment read alone: a segment ends with its closing mark, a byte of ASCII, so behind it a character begins. In joined text what stands left of the segment
-- or remainder that refuses is read through (`read_stops`). Assumes nothing.
use mathlib.Core.Logic.{◌⊎◌, inl, inr}
use mathlib.Core.Path.{◌≡◌, refl, ap, sym, ◌∙◌, subst}
use mathlib.Core.Bool.{Bool, true, false}
use mathlib.Core.List.{List, [], ◌∷◌, ◌++◌}
use Prim.Native.Nat.{ℕ, zero, suc, ◌+◌, ◌-◌, ◌≤◌, ◌<◌}
use native.Mathlib.Decide.{dec_lt}
use native.Mathlib.Nat.{add-zero}
use native.Mathlib.Omega.{arith}
use lib.ListN.{length, take, drop, length-take, length-drop}
use lib.Seq.{drop-cons, drop-drop, get_or-take, get_or-drop}
use Rattle.meaning.specs.declared.Settings.{Settings}
use Rattle.meaning.specs.Bytes.{◌!◌, part, within, is_mark}
use Rattle.std.specs.Prelude.{if◌then◌else◌}
use Rattle.meaning.specs.Chars.{utf8}
use Rattle.meaning.specs.Cutting.{continues, hides, segment, segment_by, segment_step, cut}
use Rattle.meaning.specs.Reading.{Answer, borrowed, written, refused, Value, means, fails, value_of, onward, both, one, alone, joined, as_written, read}
use Rattle.meaning.specs.Steps.{closing_step, gap}
use Rattle.meaning.specs.Walk.{Trace, ended, gave, after, walk, size}
use Rattle.laws.proofs.basics.Tests.{within_below}
use Rattle.laws.proofs.cutting.Cuts.{trim_utf8}
use Rattle.laws.proofs.cutting.Gaps.{has_all}
use Rattle.laws.proofs.cutting.Openings.{opening_mark, segment_of_lem, segment_fits}
use Rattle.laws.proofs.cutting.Spelled.{closing_at}
use Rattle.laws.proofs.joining.Joining.{fails≢means, value_written}
use Rattle.laws.proofs.places.Alone.{PlaceIn, alone_inside, alone_begins}
use Rattle.laws.proofs.utf8.Sequences.{utf8_begins, utf8_cut}
use Rattle.laws.proofs.utf8.Utf8.{utf8_append}
use Rattle.laws.proofs.walking.Short.{Bound, alone_bound}
use Rattle.laws.proofs.walking.Walks.{graft}
use Rattle.laws.proofs.writing.Spellings.{low_utf8}

-- UTF-8 TEXT can be cut behind a byte of ASCII
pub low_cut : (i : ℕ) (t : List ℕ) → utf8 t ≡ true → i < length t → t ! i < 0x80 → (utf8 (take (suc i) t) ≡ true) × (utf8 (drop (suc i) t) ≡ true)
low_cut i t u h l =
    let a : utf8 (drop i t) ≡ true = (utf8_cut i t u (within_below 0x80 0xBF (t ! i) l)).1 in
    let b : utf8 (drop (suc i) t) ≡ true =
    sym (utf8_append (t ! i ∷ []) (drop (suc i) t) (low_utf8 (t ! i) l)) ∙ ap utf8 (sym (drop-cons t i 0 h)) ∙ a in
    let c : within 0x80 0xBF (t ! suc i) ≡ false = rw (get_or-drop (suc i) t 0 0, add-zero (suc i)) at (utf8_begins (drop (suc i) t) b) in
    utf8_cut (suc i) t u c

-- a place of the front is one of the text, and where the front ends a character begins
pub front_begins : (m : ℕ) (t : List ℕ) (q : ℕ) → utf8 (drop m t) ≡ true → q ≤ length (take m t) → within 0x80 0xBF (take m t ! q) ≡ false
    → within 0x80 0xBF (t ! q) ≡ false
front_begins m t q valid l h = go (dec_lt q m)
  where
    go : Dec (q < m) → within 0x80 0xBF (t ! q) ≡ false
    go (yes i) = rw (← get_or-take m t q 0 i) h
    go (no i) = let z : m + 0 ≡ q = omega (arith, length-take m t) in rw (← z, ← get_or-drop m t 0 0) (utf8_begins (drop m t) valid)

mark_low : (b : ℕ) → is_mark b ≡ true → b < 0x80
unfolding is_mark
mark_low b h = has_all (λ b. b < 0x80) b (39 ∷ 34 ∷ []) (omega arith, (omega arith, tt)) h

-- A SEGMENT'S LAST BYTE is its mark
segment_mark : (σ : Settings) (t : List ℕ) (e : ℕ) → segment σ t ≡ suc e → is_mark (t ! e) ≡ true
segment_mark σ t e h =
    let s = segment_of_lem σ t e h in
    let k : ℕ = size (walk (closing_step (hides σ t) (t ! s.0)) 0 (drop (suc s.0) t)) in
    let i : suc s.0 + k ≡ e = omega (arith, s.3) in
    ap is_mark (ap (t !◌) (sym i) ∙ closing_at (hides σ t) (t ! s.0) t (suc s.0) k s.2 refl) ∙ opening_mark t s.0 s.1

segment_utf8 : (σ : Settings) (t : List ℕ) (e : ℕ) → segment σ t ≡ suc e → utf8 t ≡ true → (utf8 (take (suc e) t) ≡ true) × (utf8 (drop (suc e) t) ≡ true)
segment_utf8 σ t e h u = low_cut e t u (segment_fits σ t e h) (mark_low (t ! e) (segment_mark σ t e h))

-- WHAT REFUSES A JOINED TEXT, at the front of the text from it on: no segment, at its start; or a segment that is refused alone
abbrev pub Refuses : Settings → List ℕ → ℕ → Type 0
Refuses σ u q = ((segment σ u ≡ 0) × (q ≡ 0)) ⊎ ((e : ℕ) × (segment σ u ≡ suc e) × (one σ (take (suc e) u) ≡ refused q))

-- it begins at `start`, and the place lies `own` bytes behind that; k bytes of the text being passed. The cut goes through to there, and each segment on the
-- way is accepted: together they mean `value`
pub record Refusing (σ : Settings) (k : ℕ) (t : List ℕ) (p : ℕ) : Type 0 where
  pub start : ℕ
  pub own : ℕ
  pub place : k + p ≡ start + own
  pub inside : start < length t
  pub left : Trace
  pub through : walk (segment_step σ) k t ≡ graft left (walk (segment_step σ) 0 (drop start t))
  pub takes : k + size left ≡ start
  pub value : List ℕ
  pub accepted : joined σ left ≡ means value
  pub valid : utf8 (drop k t) ≡ true → utf8 (drop start t) ≡ true
  pub refuses : Refuses σ (drop start t) own

value_refused : (s : List ℕ) (a : Answer) (p : ℕ) → value_of s a ≡ fails p → a ≡ refused p
value_refused s (borrowed f u) p h = absurd (fails≢means p (part f u s) (sym h))
value_refused s (written v) p h = absurd (fails≢means p v (sym h))
value_refused s (refused q) p h = cc

-- the first value's refusal, or the second's
both_fails : (x y : Value) (n p : ℕ) → both x (onward n y) ≡ fails p
    → (x ≡ fails p) ⊎ ((v : List ℕ) × (x ≡ means v) × (q : ℕ) × (y ≡ fails q) × (p ≡ n + q))
both_fails (fails q) y n p h = inl h
both_fails (means v) (means w) n p h = absurd (fails≢means p (v ++ w) (sym h))
both_fails (means v) (fails q) n p h = inr (v, refl, q, refl, cc)

module _ (σ : Settings) where
  -- what follows a segment and its white space
  rest_utf8 : (b : ℕ) (t : List ℕ) (e : ℕ) → segment σ (b ∷ t) ≡ suc e → utf8 (b ∷ t) ≡ true → utf8 (drop (e + gap (drop e t)) t) ≡ true
  rest_utf8 b t e h u = ap utf8 (sym (drop-drop (gap (drop e t)) e t)) ∙ sym (trim_utf8 (drop e t)) ∙ (segment_utf8 σ (b ∷ t) e h u).1

  refusing : (k : ℕ) (t : List ℕ) (p : ℕ) → joined σ (walk (segment_step σ) k t) ≡ fails p → Refusing σ k t p
  unfolding segment_step
  refusing zero [] p h = absurd (fails≢means p [] (sym h))
  refusing (suc k) [] p h = absurd (fails≢means p [] (sym h))
  refusing (suc k) (b ∷ t) p h =
      let r = refusing k t p h in
      record {
        start = suc r.start;
        own = r.own;
        place = omega (arith, r.place);
        inside = omega (arith, r.inside);
        left = r.left;
        through = r.through;
        takes = omega (arith, r.takes);
        value = r.value;
        accepted = r.accepted;
        valid = r.valid;
        refuses = r.refuses;
      }
  refusing zero (b ∷ t) p h = go (segment σ (b ∷ t)) refl h (λ k. refusing k t)
    where
      at_front : (q : ℕ) → p ≡ q → Refuses σ (b ∷ t) q → Refusing σ 0 (b ∷ t) p
      at_front q z r = record {
        start = 0;
        own = q;
        place = omega (arith, z);
        inside = omega arith;
        left = ended;
        through = refl;
        takes = refl;
        value = [];
        accepted = refl;
        valid = λ u. u;
        refuses = r;
      }

      go : (n : ℕ) → segment σ (b ∷ t) ≡ n → joined σ (after (segment_by (b ∷ t) n) b (λ k. walk (segment_step σ) k t)) ≡ fails p
          → ((k q : ℕ) → joined σ (walk (segment_step σ) k t) ≡ fails q → Refusing σ k t q) → Refusing σ 0 (b ∷ t) p
      go zero s g ih =
          let z : 0 ≡ p = cc in
          at_front 0 (omega arith) (inl (s, refl))
      go (suc e) s g ih = by (both_fails (alone σ (b ∷ take e t)) (joined σ (walk (segment_step σ) m t)) (suc m) p g)
        where
          m : ℕ
          m = e + gap (drop e t)

          by : (alone σ (b ∷ take e t) ≡ fails p)
              ⊎ ((v : List ℕ) × (alone σ (b ∷ take e t) ≡ means v) × (q : ℕ) × (joined σ (walk (segment_step σ) m t) ≡ fails q) × (p ≡ suc m + q))
              → Refusing σ 0 (b ∷ t) p
          by (inl a) = at_front p refl (inr (e, s, value_refused (b ∷ take e t) (one σ (b ∷ take e t)) p a))
          by (inr a) =
              let r = ih m a.2 a.3 in
              record {
                start = suc r.start;
                own = r.own;
                place = omega (arith, r.place, a.4);
                inside = omega (arith, r.inside);
                left = gave m (b ∷ take e t) r.left;
                through = rw s (ap (gave m (b ∷ take e t)) r.through);
                takes = omega (arith, r.takes);
                value = a.0 ++ r.value;
                accepted = rw (a.1, r.accepted);
                valid = λ u. r.valid (rest_utf8 b t e s u);
                refuses = r.refuses;
              }

  -- a text that is refused is refused as one, where it is not joined; else by a part of its cut
  pub read_stops : (t : List ℕ) (p : ℕ) → read σ t ≡ refused p
      → ((continues σ t ≡ false) × (one σ t ≡ refused p)) ⊎ ((continues σ t ≡ true) × Refusing σ 0 t p)
  unfolding read cut
  read_stops t p h = go (continues σ t) refl h
    where
      go : (x : Bool) → continues σ t ≡ x → (if x then as_written (joined σ (walk (segment_step σ) 0 t)) else one σ t) ≡ refused p
          → ((continues σ t ≡ false) × (one σ t ≡ refused p)) ⊎ ((continues σ t ≡ true) × Refusing σ 0 t p)
      go true c g = inr (c, refusing 0 t p (sym (value_written t (joined σ (walk (segment_step σ) 0 t))) ∙ ap (value_of t) g))
      go false c g = inl (c, g)

module _ (σ : Settings) where
  alone_end : (s : List ℕ) (p : ℕ) → one σ s ≡ refused p → p ≤ length s
  alone_end s p h = subst (λ (x : Value). Bound x (length s)) (ap (value_of s) h) (alone_bound σ s)

  refuses_end : (u : List ℕ) (q : ℕ) → Refuses σ u q → q ≤ length u
  refuses_end u q (inl r) = omega (arith, r.1)
  refuses_end u q (inr r) = omega (arith, alone_end (take (suc r.0) u) q r.2, length-take (suc r.0) u)

  -- the place lies no further than the text's end
  pub read_end : (t : List ℕ) (p : ℕ) → read σ t ≡ refused p → p ≤ length t
  read_end t p h = go (read_stops σ t p h)
    where
      go : ((continues σ t ≡ false) × (one σ t ≡ refused p)) ⊎ ((continues σ t ≡ true) × Refusing σ 0 t p) → p ≤ length t
      go (inl a) = alone_end t p a.1
      go (inr (c, r)) = omega (arith, r.place, r.inside, refuses_end (drop r.start t) r.own r.refuses, length-drop r.start t)

  -- INSIDE
  refuses_inside : (u : List ℕ) (q : ℕ) → 0 < length u → Refuses σ u q → q < length u
  refuses_inside u q l (inl r) = omega (arith, r.1)
  refuses_inside u q l (inr r) = go (alone_inside σ (take (suc r.0) u) q r.2)
    where
      go : PlaceIn (take (suc r.0) u) q → q < length u
      go (inl i) = omega (arith, length-take (suc r.0) u)
      go (inr z) = absurd (omega (arith, ap length z.0, length-take (suc r.0) u))

  pub read_inside : (t : List ℕ) (p : ℕ) → read σ t ≡ refused p → PlaceIn t p
  read_inside t p h = go (read_stops σ t p h)
    where
      go : ((continues σ t ≡ false) × (one σ t ≡ refused p)) ⊎ ((continues σ t ≡ true) × Refusing σ 0 t p) → PlaceIn t p
      go (inl a) = alone_inside σ t p a.1
      go (inr (c, r)) =
          let l : length (drop r.start t) ≡ length t - r.start = length-drop r.start t in
          inl (omega (arith, r.place, r.inside, refuses_inside (drop r.start t) r.own (omega (arith, r.inside)) r.refuses))

  -- WHERE A CHARACTER BEGINS. A segment's own byte is the text's, and behind the segment a character begins
  refuses_begins : (u : List ℕ) (q : ℕ) → utf8 u ≡ true → Refuses σ u q → within 0x80 0xBF (u ! q) ≡ false
  refuses_begins u q valid (inl r) = rw r.1 (utf8_begins u valid)
  refuses_begins u q valid (inr r) =
      let s : List ℕ = take (suc r.0) u in
      let parts = segment_utf8 σ u r.0 r.1 valid in
      front_begins (suc r.0) u q parts.1 (alone_end s q r.2) (alone_begins σ s q parts.0 r.2)

  pub read_begins : (t : List ℕ) (p : ℕ) → utf8 t ≡ true → read σ t ≡ refused p → within 0x80 0xBF (t ! p) ≡ false
  read_begins t p valid h = go (read_stops σ t p h)
    where
      go : ((continues σ t ≡ false) × (one σ t ≡ refused p)) ⊎ ((continues σ t ≡ true) × Refusing σ 0 t p) → within 0x80 0xBF (t ! p) ≡ false
      go (inl a) = alone_begins σ t p valid a.1
      go (inr (c, r)) =
          let z : r.start + r.own ≡ p = omega (arith, r.place) in
          rw (← z, ← get_or-drop r.start t r.own 0) (refuses_begins (drop r.start t) r.own (r.valid valid) r.refuses)
