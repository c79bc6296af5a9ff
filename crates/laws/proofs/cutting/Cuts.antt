-- A cut by its segments: what they mean, one after the other; that it keeps no byte, so that a text of two or more segments cuts completely exactly where they
-- cover it; that a quote mark which begins the second makes the text go on; and that a covered text is UTF-8 exactly when its segments are. Assumes nothing.
use mathlib.Core.Logic.{◌↔◌}
use mathlib.Core.Path.{◌≡◌, refl, ap, sym, ◌∙◌}
use mathlib.Core.Bool.{Bool, true, false, not, false≢true}
use mathlib.Core.List.{List, [], ◌∷◌, ◌++◌, flatten}
use Prim.Native.Nat.{ℕ, zero, suc, ◌+◌, ◌≤◌}
use native.Mathlib.Omega.{arith}
use borrow.Author.Tests.{lt-ltb}
use lib.ListN.{length, take, drop, take-append-drop}
use lib.Seq.{drop-drop}
use Rattle.meaning.specs.declared.Settings.{Settings}
use Rattle.meaning.specs.Bytes.{◌!◌, within, is_mark}
use Rattle.meaning.specs.Chars.{utf8}
use Rattle.meaning.specs.Cutting.{continues, segment, segment_by, segment_step, cut, covers, complete}
use Rattle.meaning.specs.Reading.{Value, means, each}
use Rattle.meaning.specs.Steps.{gap, trim}
use Rattle.meaning.specs.Walk.{Step, keep, give, stop, Trace, ended, stopped, kept, gave, after, walk, stops}
use Rattle.laws.proofs.utf8.WhiteUtf8.{gap_utf8}
use Rattle.laws.proofs.joining.Joining.{both_means, fails≢means}
use Rattle.laws.proofs.cutting.Openings.{segment_of_lem, opening_begins}
use Rattle.laws.proofs.utf8.Sequences.{utf8_begins, utf8_split}
use Rattle.laws.proofs.utf8.Utf8.{utf8_append}
use Rattle.laws.proofs.walking.Walks.{walk_drop}

-- A CUT: its segments, and whether they cover the text
abbrev pub segments_of : Trace → List (List ℕ)
segments_of ended = []
segments_of stopped = []
segments_of (kept b r) = segments_of r
segments_of (gave n s r) = s ∷ segments_of r

abbrev pub covered : Trace → Bool
covered ended = true
covered stopped = false
covered (kept b r) = false
covered (gave n s r) = covered r

-- of every segment; and f gives each segment the value that stands at its place
abbrev pub Each : (List ℕ → Type 0) → List (List ℕ) → Type 0
Each P [] = Unit {0}
Each P (s ∷ ss) = P s × Each P ss

abbrev pub Values : (List ℕ → Value) → List (List ℕ) → List (List ℕ) → Type 0
Values f [] [] = Unit {0}
Values f [] (v ∷ vs) = ⊥
Values f (s ∷ ss) [] = ⊥
Values f (s ∷ ss) (v ∷ vs) = (f s ≡ means v) × Values f ss vs

pub each_values : (f : List ℕ → Value) (r : Trace) (v : List ℕ) → each f r ≡ means v
    → (covered r ≡ true) × (vs : List (List ℕ)) × Values f (segments_of r) vs × (flatten vs ≡ v)
unfolding flatten
each_values f ended v h = (refl, [], tt, cc)
each_values f stopped v h = absurd (fails≢means 0 v h)
each_values f (kept b r) v h = absurd (fails≢means 0 v h)
each_values f (gave n s r) v h =
    let p = both_means (f s) (each f r) (suc n) v h in
    let q = each_values f r p.1 p.3 in
    (q.0, p.0 ∷ q.1, (p.2, q.2), ap (p.0 ++◌) q.3 ∙ sym p.4)

pub values_each : (f : List ℕ → Value) (r : Trace) (vs : List (List ℕ)) → covered r ≡ true → Values f (segments_of r) vs
    → each f r ≡ means (flatten vs)
unfolding flatten
values_each f ended [] c h = refl
values_each f ended (v ∷ vs) c h = absurd h
values_each f stopped vs c h = absurd (false≢true c)
values_each f (kept b r) vs c h = absurd (false≢true c)
values_each f (gave n s r) [] c h = absurd h
values_each f (gave n s r) (v ∷ vs) c h = rw (h.0, values_each f r vs c h.1)

-- a segment has one value, and so have all of them
pub values_one : (f : List ℕ → Value) (ss vs ws : List (List ℕ)) → Values f ss vs → Values f ss ws → vs ≡ ws
values_one f [] [] [] h k = refl
values_one f [] [] (w ∷ ws) h k = absurd k
values_one f [] (v ∷ vs) ws h k = absurd h
values_one f (s ∷ ss) [] ws h k = absurd h
values_one f (s ∷ ss) (v ∷ vs) [] h k = absurd k
values_one f (s ∷ ss) (v ∷ vs) (w ∷ ws) h k =
    let e : means v ≡ means w = sym h.0 ∙ k.0 in
    let r = values_one f ss vs ws h.1 k.1 in
    cc

-- A CUT KEEPS NO BYTE: each of its units is a segment
abbrev pub keeps : Trace → Bool
keeps ended = false
keeps stopped = false
keeps (kept b r) = true
keeps (gave n s r) = keeps r

abbrev is_keep : Step → Bool
is_keep keep = true
is_keep (give n s) = false
is_keep stop = false

walk_keeps_none : (step : List ℕ → Step) → ((t : List ℕ) → is_keep (step t) ≡ false) → (k : ℕ) (t : List ℕ) → keeps (walk step k t) ≡ false
walk_keeps_none step h k [] = refl
walk_keeps_none step h (suc k) (b ∷ t) = walk_keeps_none step h k t
walk_keeps_none step h zero (b ∷ t) = go (step (b ∷ t)) (h (b ∷ t)) (λ n. walk_keeps_none step h n t)
  where
    go : (s : Step) → is_keep s ≡ false → ((n : ℕ) → keeps (walk step n t) ≡ false) → keeps (after s b (λ n. walk step n t)) ≡ false
    go keep e ih = absurd (false≢true (sym e))
    go (give n s) e ih = ih n
    go stop e ih = refl

segment_by_gives : (t : List ℕ) (n : ℕ) → is_keep (segment_by t n) ≡ false
segment_by_gives t zero = refl
segment_by_gives t (suc n) = refl

pub cut_keeps_none : (σ : Settings) (t : List ℕ) → keeps (cut σ t) ≡ false
unfolding cut segment_step
cut_keeps_none σ t = walk_keeps_none (segment_step σ) (λ u. segment_by_gives u (segment σ u)) 0 t

-- so where it does not stop, its segments cover the text
covered_by : (r : Trace) → keeps r ≡ false → not (stops r) ≡ covered r
covered_by ended k = refl
covered_by stopped k = refl
covered_by (kept b r) k = absurd (false≢true (sym k))
covered_by (gave n s r) k = covered_by r k

-- COMPLETE TEXTS. Of two or more segments, that they cover the text is that the walk does not stop
covers_covered : (t : List ℕ) (r : Trace) → not (stops r) ≡ covered r → 2 ≤ length (segments_of r) → covers t r ≡ covered r
covers_covered t ended k l = absurd (omega arith)
covers_covered t stopped k l = refl
covers_covered t (kept b r) k l = refl
covers_covered t (gave n s ended) k l = absurd (omega arith)
covers_covered t (gave n s stopped) k l = refl
covers_covered t (gave n s (kept b r)) k l = refl
covers_covered t (gave n s (gave m u r)) k l = k

-- white space at the front of a text decides nothing of its UTF-8
pub trim_utf8 : (r : List ℕ) → utf8 r ≡ utf8 (trim r)
trim_utf8 r = ap utf8 (sym (take-append-drop (gap r) r)) ∙ utf8_append (take (gap r) r) (trim r) (gap_utf8 r)

module _ (σ : Settings) where
  pub complete_covered : (t : List ℕ) → 2 ≤ length (segments_of (cut σ t)) → complete σ t ≡ covered (cut σ t)
  unfolding complete
  complete_covered t l = covers_covered t (cut σ t) (covered_by (cut σ t) (cut_keeps_none σ t)) l

  -- a text begins as its first segment does
  first_begins : (t s : List ℕ) (ss : List (List ℕ)) → segments_of (walk (segment_step σ) 0 t) ≡ s ∷ ss → t ! 0 ≡ s ! 0
  unfolding segment_step
  first_begins [] s ss h = absurd (omega (arith, ap length h))
  first_begins (b ∷ t) s ss h = go (segment σ (b ∷ t)) refl
    where
      go : (e : ℕ) → segment σ (b ∷ t) ≡ e → b ≡ s ! 0
      go zero p = absurd (omega (arith, ap length (rw p at h)))
      go (suc e) p =
          let q : (b ∷ take e t) ∷ segments_of (walk (segment_step σ) (e + gap (drop e t)) t) ≡ s ∷ ss = rw p at h in
          let w : b ∷ take e t ≡ s = cc in
          ap (◌! 0) w

  -- a quote mark that begins the second segment follows the first, past white space
  pub second_continues : (t s u : List ℕ) (ss : List (List ℕ)) → segments_of (cut σ t) ≡ s ∷ (u ∷ ss) → is_mark (u ! 0) ≡ true → continues σ t ≡ true
  unfolding cut segment_step continues
  second_continues [] s u ss h m = absurd (omega (arith, ap length h))
  second_continues (b ∷ t) s u ss h m = go (segment σ (b ∷ t)) refl
    where
      go : (e : ℕ) → segment σ (b ∷ t) ≡ e → continues σ (b ∷ t) ≡ true
      go zero p = absurd (omega (arith, ap length (rw p at h)))
      go (suc e) p =
          let q : (b ∷ take e t) ∷ segments_of (walk (segment_step σ) (e + gap (drop e t)) t) ≡ s ∷ (u ∷ ss) = rw p at h in
          let w : segments_of (walk (segment_step σ) (e + gap (drop e t)) t) ≡ u ∷ ss = cc in
          let d : walk (segment_step σ) (e + gap (drop e t)) t ≡ walk (segment_step σ) 0 (trim (drop e t)) =
          walk_drop (segment_step σ) (e + gap (drop e t)) t ∙ ap (walk (segment_step σ) 0) (sym (drop-drop (gap (drop e t)) e t)) in
          rw (p, lt-ltb 0 (suc e) (omega arith), first_begins (trim (drop e t)) u ss (ap segments_of (sym d) ∙ w)) m

  -- UTF-8: behind a segment of a covered text no later byte of a character stands
  behind_begins : (r : List ℕ) → covered (walk (segment_step σ) 0 (trim r)) ≡ true → within 0x80 0xBF (r ! 0) ≡ false
  unfolding within segment_step
  behind_begins [] c = refl
  behind_begins (b ∷ r) c = go (gap (b ∷ r)) refl
    where
      at : (e : ℕ) → segment σ (b ∷ r) ≡ e → covered (walk (segment_step σ) 0 (b ∷ r)) ≡ true → within 0x80 0xBF b ≡ false
      at zero h c = absurd (false≢true (rw h at c))
      at (suc e) h c = let o = segment_of_lem σ (b ∷ r) e h in opening_begins b r o.0 o.1

      go : (g : ℕ) → gap (b ∷ r) ≡ g → within 0x80 0xBF b ≡ false
      go zero h = at (segment σ (b ∷ r)) refl (rw h at c)
      go (suc g) h = utf8_begins (b ∷ take g r) (rw h at (gap_utf8 (b ∷ r)))

  -- the text is UTF-8 exactly when the segments are
  pub cut_utf8 : (k : ℕ) (t : List ℕ) → covered (walk (segment_step σ) k t) ≡ true
      → (utf8 (drop k t) ≡ true) ↔ Each (λ s. utf8 s ≡ true) (segments_of (walk (segment_step σ) k t))
  unfolding segment_step utf8
  cut_utf8 zero [] c = (λ h. tt, λ a. refl)
  cut_utf8 (suc k) [] c = (λ h. tt, λ a. refl)
  cut_utf8 (suc k) (b ∷ t) c = cut_utf8 k t c
  cut_utf8 zero (b ∷ t) c = go (segment σ (b ∷ t)) refl c (λ n. cut_utf8 n t)
    where
      go : (e : ℕ) → segment σ (b ∷ t) ≡ e → covered (walk (segment_step σ) 0 (b ∷ t)) ≡ true
          → ((n : ℕ) → covered (walk (segment_step σ) n t) ≡ true
          → (utf8 (drop n t) ≡ true) ↔ Each (λ s. utf8 s ≡ true) (segments_of (walk (segment_step σ) n t)))
          → (utf8 (b ∷ t) ≡ true) ↔ Each (λ s. utf8 s ≡ true) (segments_of (walk (segment_step σ) 0 (b ∷ t)))
      go zero h c ih = absurd (false≢true (rw h at c))
      go (suc e) h c ih =
          let n : ℕ = e + gap (drop e t) in
          let c' : covered (walk (segment_step σ) n t) ≡ true = rw h at c in
          let d : trim (drop e t) ≡ drop n t = drop-drop (gap (drop e t)) e t in
          let w : covered (walk (segment_step σ) 0 (trim (drop e t))) ≡ true = rw (d, ← walk_drop (segment_step σ) n t) c' in
          let whole : (b ∷ take e t) ++ drop e t ≡ b ∷ t = take-append-drop (suc e) (b ∷ t) in
          let rest : utf8 (drop e t) ≡ utf8 (drop n t) = trim_utf8 (drop e t) ∙ ap utf8 d in
          rw h (
            λ u. let p = utf8_split (b ∷ take e t) (drop e t) (behind_begins (drop e t) w) (ap utf8 whole ∙ u) in (p.0, (ih n c').0 (sym rest ∙ p.1)),
            λ a. ap utf8 (sym whole) ∙ utf8_append (b ∷ take e t) (drop e t) a.0 ∙ rest ∙ (ih n c').1 a.1,
          )
