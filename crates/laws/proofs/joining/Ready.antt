-- An accepted text that cuts completely is one segment, or a quote mark follows its first. So the joining law holds wherever such a U& text is refused when it
-- is read as one; with the setting off it is, and the law is whole. Assumes nothing.
use mathlib.Core.Logic.{inl, inr}
use mathlib.Core.Path.{◌≡◌, refl, ap, sym, ◌∙◌}
use mathlib.Core.Bool.{Bool, true, false, not}
use mathlib.Core.List.{List, [], ◌∷◌, ◌++◌}
use Prim.Native.Nat.{ℕ, zero, suc, ◌+◌, ◌<◌}
use native.Mathlib.Omega.{arith}
use lib.Dec.{eqb, ltb, lt→ltb}
use borrow.Author.Tests.{eqb-true}
use lib.ListN.{length, take, drop, length-drop}
use lib.Seq.{length-take-le, drop-drop}
use Rattle.meaning.specs.declared.Settings.{Settings}
use Rattle.meaning.specs.Bytes.{◌!◌, same, is_mark, quote}
use Rattle.meaning.specs.Walk.{Trace, ended, stopped, kept, gave, after, walk, stops}
use Rattle.meaning.specs.Steps.{gap, trim}
use Rattle.meaning.specs.Cutting.{continues, opening, segment, segment_step, segment_by, cut, complete, covers}
use Rattle.meaning.specs.Spelling.{is_unicode, unicode_spelling}
use Rattle.meaning.specs.Reading.{meaning, written, means, value_of, read, read_as}
use Rattle.laws.proofs.basics.Tests.{T→true, true→T, and_left, and_right}
use Rattle.laws.proofs.walking.Walks.{walk_drop}
use Rattle.laws.proofs.cutting.Openings.{segment_of_lem, segment_fits}
use Rattle.laws.proofs.cutting.WholeRefused.{refused_whole}
use Rattle.laws.proofs.cutting.UnicodeOff.{unicode_off}
use Rattle.laws.proofs.joining.Joining.{White, Ready, join}

-- U& read as one is refused, where the text cuts completely and another segment follows that begins with no quote mark
abbrev pub UnicodeRefused : Settings → Type 0
UnicodeRefused σ = (b : ℕ) (t : List ℕ) (e : ℕ) → segment σ (b ∷ t) ≡ suc e → stops (cut σ (b ∷ t)) ≡ false
    → (c : ℕ) (x : List ℕ) → trim (drop (suc e) (b ∷ t)) ≡ c ∷ x → (m : ℕ) → opening (c ∷ x) ≡ suc m → is_mark c ≡ false
    → (v : List ℕ) → is_unicode quote (b ∷ t) ≡ true → value_of (b ∷ t) (read_as σ (b ∷ t) (unicode_spelling quote (b ∷ t))) ≡ means v → ⊥

pub refused_off : (σ : Settings) → σ.backslash ≡ false → UnicodeRefused σ
refused_off σ off b t e seg full c x d m o k v u h = unicode_off σ off b t e seg c x d m o k v u h

same_eq : (s t : List ℕ) → same s t ≡ true → s ≡ t
same_eq [] [] h = refl
same_eq [] (c ∷ t) h = absurd (true→T false h)
same_eq (b ∷ s) [] h = absurd (true→T false h)
same_eq (b ∷ s) (c ∷ t) h =
    let p = eqb-true b c (and_left (eqb b c) (same s t) h) in
    let q = same_eq s t (and_right (eqb b c) (same s t) h) in
    cc

module _ (σ : Settings) (uni : UnicodeRefused σ) (b : ℕ) (t : List ℕ) (v : List ℕ) (acc : meaning σ (b ∷ t) ≡ means v) where
  -- a second segment, where the walk goes on
  more_follows : (e : ℕ) → segment σ (b ∷ t) ≡ suc e → stops (cut σ (b ∷ t)) ≡ false
      → (c : ℕ) (x : List ℕ) → drop (e + gap (drop e t)) t ≡ c ∷ x → (m : ℕ) → segment σ (c ∷ x) ≡ suc m → continues σ (b ∷ t) ≡ true
  unfolding continues read
  more_follows e seg full c x d m s =
      let d' : trim (drop e t) ≡ c ∷ x = drop-drop (gap (drop e t)) e t ∙ d in
      let more : suc e < length (b ∷ t) = omega (arith, length-drop (e + gap (drop e t)) t, ap length d) in
      let o = segment_of_lem σ (c ∷ x) m s in
      go (is_mark c) refl d' more o.0 o.1
    where
      go : (y : Bool) → is_mark c ≡ y → trim (drop e t) ≡ c ∷ x → suc e < length (b ∷ t) → (k : ℕ) → opening (c ∷ x) ≡ suc k → continues σ (b ∷ t) ≡ true
      go true y d' more k o = rw (seg, d', y) (rw (T→true (ltb 0 (suc e)) (lt→ltb 0 (suc e) (omega arith))) refl)
      go false y d' more k o =
          let q : continues σ (b ∷ t) ≡ false = rw (seg, d', y) (rw (T→true (ltb 0 (suc e)) (lt→ltb 0 (suc e) (omega arith))) refl) in
          absurd (refused_whole σ b t e seg more v (uni b t e seg full c x d' k o y v) (rw q at acc))

  pub ready : complete σ (b ∷ t) ≡ true → Ready σ (b ∷ t)
  unfolding complete cut segment_step
  ready h = go (segment σ (b ∷ t)) refl h
    where
      second : (e : ℕ) → segment σ (b ∷ t) ≡ suc e → stops (cut σ (b ∷ t)) ≡ false → (w : List ℕ) → drop (e + gap (drop e t)) t ≡ w
          → (s : ℕ) → segment σ w ≡ s → stops (walk (segment_step σ) 0 w) ≡ false → (w ≡ [] → ⊥) → Ready σ (b ∷ t)
      second e seg full [] d s p f z = absurd (z refl)
      second e seg full (c ∷ x) d zero p f z = absurd (true→T false (sym f ∙ rw p refl))
      second e seg full (c ∷ x) d (suc m) p f z = inr (more_follows e seg full c x d m p)

      cover : (e : ℕ) → segment σ (b ∷ t) ≡ suc e → (r : Trace) → walk (segment_step σ) (e + gap (drop e t)) t ≡ r
          → covers (b ∷ t) (gave (e + gap (drop e t)) (take (suc e) (b ∷ t)) r) ≡ true → Ready σ (b ∷ t)
      cover e seg ended w k =
          inl (seg ∙ sym (length-take-le (suc e) (b ∷ t) (segment_fits σ (b ∷ t) e seg)) ∙ ap length (same_eq (take (suc e) (b ∷ t)) (b ∷ t) k))
      cover e seg stopped w k = absurd (true→T false k)
      cover e seg (kept a r) w k = absurd (true→T false k)
      cover e seg (gave m s r) w k =
          let f : stops (walk (segment_step σ) (e + gap (drop e t)) t) ≡ false = rw w (flip (stops r) k) in
          let f' : stops (walk (segment_step σ) 0 (drop (e + gap (drop e t)) t)) ≡ false = rw (walk_drop (segment_step σ) (e + gap (drop e t)) t) at f in
          second e seg (rw seg f) (drop (e + gap (drop e t)) t) refl (segment σ (drop (e + gap (drop e t)) t)) refl f'
          (λ z. let i : gave m s r ≡ ended = sym w ∙ walk_drop (segment_step σ) (e + gap (drop e t)) t ∙ ap (walk (segment_step σ) 0) z in
          let y : ◌≡◌ {A = ℕ} 0 1 = cc in omega arith)
        where
          flip : (x : Bool) → not x ≡ true → x ≡ false
          flip true h = absurd (true→T false h)
          flip false h = refl

      go : (s : ℕ) → segment σ (b ∷ t) ≡ s → covers (b ∷ t) (after (segment_by (b ∷ t) s) b (λ n. walk (segment_step σ) n t)) ≡ true → Ready σ (b ∷ t)
      go zero s k = absurd (true→T false k)
      go (suc e) s k = cover e s (walk (segment_step σ) (e + gap (drop e t)) t) refl k

-- THE JOINING LAW, given that U& is refused as above
pub joining : (σ : Settings) → UnicodeRefused σ → (A G B v w : List ℕ)
    → complete σ A ≡ true → meaning σ A ≡ means v
    → complete σ B ≡ true → meaning σ B ≡ means w → is_mark (B ! 0) ≡ true
    → White G → 0 < length G
    → read σ (A ++ (G ++ B)) ≡ written (v ++ w)
unfolding complete cut is_mark
joining σ uni [] G B v w ca ea cb eb m g z = absurd (true→T false ca)
joining σ uni (a ∷ A) G [] v w ca ea cb eb m g z = absurd (true→T false m)
joining σ uni (a ∷ A) [] (q ∷ B) v w ca ea cb eb m g z = absurd (omega arith)
joining σ uni (a ∷ A) (c ∷ G) (q ∷ B) v w ca ea cb eb m g z =
    join σ c G g q B m a A v w (ready σ uni a A v ea ca) ea (ready σ uni q B w eb cb) eb

-- at the setting off it is whole
pub joining_off : (σ : Settings) → σ.backslash ≡ false → (A G B v w : List ℕ)
    → complete σ A ≡ true → meaning σ A ≡ means v
    → complete σ B ≡ true → meaning σ B ≡ means w → is_mark (B ! 0) ≡ true
    → White G → 0 < length G
    → read σ (A ++ (G ++ B)) ≡ written (v ++ w)
joining_off σ off = joining σ (refused_off σ off)
