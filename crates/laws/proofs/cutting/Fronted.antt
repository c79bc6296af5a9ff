-- A segment whose body was read from the text, up to a mark that stands alone: that mark closes it, and alone it means what was read. Once for each family of
-- openings. Assumes nothing.
use mathlib.Core.Path.{◌≡◌, refl, ap, sym, ◌∙◌, subst}
use mathlib.Core.Bool.{Bool, true, false, ◌&&◌, ◌||◌, and-false}
use mathlib.Core.List.{List, [], ◌∷◌, ◌++◌}
use Prim.Native.Nat.{ℕ, suc, ◌+◌, ◌<◌}
use lib.Dec.{eqb}
use lib.ListN.{length, take, drop}
use Rattle.meaning.specs.declared.Settings.{Settings}
use Rattle.meaning.specs.Bytes.{◌!◌, part, ascii, has, is_mark, quote, backslash}
use Rattle.std.specs.Prelude.{if◌then◌else◌}
use Rattle.meaning.specs.Chars.{fresh, pushes, whole, utf8}
use Rattle.meaning.specs.Walk.{Step, Trace, walk, size, stops, plain, value}
use Rattle.meaning.specs.Steps.{standard_step, escape_step, unicode_step, closing_step, checked, trim}
use Rattle.meaning.specs.Cutting.{opening, hides, segment, continues}
use Rattle.meaning.specs.Reading.{borrowed, written, means, value_of, answer, one, alone, read}
use Rattle.laws.proofs.basics.Tests.{eqb_sym, true→T}
use Rattle.laws.proofs.walking.Walks.{walk_plain}
use Rattle.laws.proofs.walking.Courses.{SoFar, checked_whole}
use Rattle.laws.proofs.walking.Fronts.{Front}
use Rattle.laws.proofs.walking.Fores.{Fore, so_far_alone, standard_fore, escape_fore, unicode_fore}
use Rattle.laws.proofs.cutting.Openings.{opening_mark, apart_of_mark}
use Rattle.laws.proofs.cutting.Closings.{passes_so_far, standard_passes, escape_passes, unicode_passes, lone_closes}
use Rattle.laws.proofs.cutting.Spelled as spelled

-- a mark that is not doubled, at a place
pub record Lone (l : List ℕ) (k q : ℕ) : Type 0 where
  pub inside : k < length l
  pub here : l ! k ≡ q
  pub alone : eqb (l ! suc k) q ≡ false

-- a segment at the front: its opening, its body's bytes, what it means, and whether that is the body itself
pub record Segmented (σ : Settings) (u : List ℕ) (o k : ℕ) (v : List ℕ) (p : Bool) : Type 0 where
  pub size : segment σ u ≡ o + k + 1
  pub reads : one σ (take (o + k + 1) u) ≡ (if p then borrowed o (o + k) else written v)
  pub means : alone σ (take (o + k + 1) u) ≡ means v
  pub whole : length u ≡ o + k + 1 → read σ u ≡ one σ u
  pub goes_on : continues σ u ≡ is_mark (trim (drop (o + k + 1) u) ! 0)

-- what a body's course means, where it goes through
answered : (f u : ℕ) (r : Trace) (v : List ℕ) (p : Bool) → stops r ≡ false → value r ≡ v → plain r ≡ p
    → answer f u r ≡ (if p then borrowed f u else written v)
unfolding answer
answered f u r v p s e q = rw (q, s, e)

module _ {step : List ℕ → Step} {l : List ℕ} {k : ℕ} {v : List ℕ} {p : Bool} (f : Front step l k v p) (fore : Fore step (drop k l)) where
  -- the body alone
  body : walk step 0 (take k l) ≡ f.so_far.course
  body = so_far_alone step l k f.so_far fore

  body_plain : p ≡ true → v ≡ take k l
  body_plain e =
      sym f.means ∙ ap value (sym body)
      ∙ walk_plain step (take k l) (true→T (plain (walk step 0 (take k l))) (ap plain body ∙ f.plainly ∙ e))

  body_answer : (a b : ℕ) → answer a b (walk step 0 (take k l)) ≡ (if p then borrowed a b else written v)
  body_answer a b = answered a b (walk step 0 (take k l)) v p (ap stops body ∙ f.so_far.goes) (ap value body ∙ f.means) (ap plain body ∙ f.plainly)

-- no mark is the backslash
mark_backslash : (q : ℕ) (h : Bool) → is_mark q ≡ true → (h && eqb q backslash) ≡ false
unfolding is_mark
mark_backslash q h m = ap (h &&◌) (eqb_sym q backslash ∙ apart_of_mark q backslash m refl) ∙ and-false h

module _ (σ : Settings) (u : List ℕ) (n k : ℕ) (v : List ℕ) (p : Bool) (o : opening u ≡ suc n) (z : has 0 u ≡ false)
    (m : Lone (drop (suc n) u) k (u ! n)) where
  mark : is_mark (u ! n) ≡ true
  mark = opening_mark u n o

  -- once the search for the closing mark is known to stop where the front ends
  module _ (h : Bool) (eh : hides σ u ≡ h) (s : SoFar (closing_step h (u ! n)) (drop (suc n) u) k) where
    closes : (stops (walk (closing_step h (u ! n)) 0 (drop (suc n) u)) ≡ true) × (size (walk (closing_step h (u ! n)) 0 (drop (suc n) u)) ≡ k)
    closes = lone_closes h (u ! n) (drop (suc n) u) k s m.inside m.here m.alone (mark_backslash (u ! n) h mark)

    found : (stops (walk (closing_step (hides σ u) (u ! n)) 0 (drop (suc n) u)) ≡ true)
        × (size (walk (closing_step (hides σ u) (u ! n)) 0 (drop (suc n) u)) ≡ k)
    found = subst (λ (x : Bool). (stops (walk (closing_step x (u ! n)) 0 (drop (suc n) u)) ≡ true)
        × (size (walk (closing_step x (u ! n)) 0 (drop (suc n) u)) ≡ k)) (sym eh) closes

    segmented : one σ (take (suc n + k + 1) u) ≡ (if p then borrowed (suc n) (suc n + k) else written v) → (p ≡ true → v ≡ take k (drop (suc n) u))
        → Segmented σ u (suc n) k v p
    segmented r b = record {
      size = spelled.segment_is σ u n k o z found.0 found.1;
      reads = r;
      means = ap (value_of (take (suc n + k + 1) u)) r ∙ both p b (spelled.text_body σ u n k o z found.0 found.1);
      whole = spelled.segment_whole σ u n k o z found.0 found.1;
      goes_on = spelled.segment_continues σ u n k o z found.0 found.1;
    }
      where
        both : (p : Bool) → (p ≡ true → v ≡ take k (drop (suc n) u)) → part (suc n) (suc n + k) (take (suc n + k + 1) u) ≡ take k (drop (suc n) u)
            → value_of (take (suc n + k + 1) u) (if p then borrowed (suc n) (suc n + k) else written v) ≡ means v
        both true b e = ap means (e ∙ sym (b refl))
        both false b e = refl

  -- STANDARD: any opening but E, U&, B and X
  pub fronted_standard : has (u ! 0) (ascii "EeBbXxUu") ≡ false → has (u ! 0) (ascii "Ee") ≡ false
      → Front (standard_step σ.backslash (u ! n)) (drop (suc n) u) k v p → Segmented σ u (suc n) k v p
  fronted_standard b e f =
      let eh = spelled.hides_other σ u e in
      let s = passes_so_far (standard_step σ.backslash (u ! n)) (closing_step σ.backslash (u ! n)) (standard_passes σ.backslash (u ! n))
      (drop (suc n) u) k f.so_far m.inside in
      let c = found σ.backslash eh s in
      segmented σ.backslash eh s
      (spelled.alone_standard σ u n k o z c.0 c.1 b
      ∙ body_answer f (standard_fore σ.backslash (u ! n) (drop k (drop (suc n) u))) (suc n) (suc n + k))
      (body_plain f (standard_fore σ.backslash (u ! n) (drop k (drop (suc n) u))))

  -- E: what is read is UTF-8
  pub fronted_escape : has (u ! 0) (ascii "Ee") ≡ true → utf8 v ≡ true → Front escape_step (drop (suc n) u) k v p → Segmented σ u (suc n) k v p
  unfolding utf8
  fronted_escape e w f =
      let eh = spelled.hides_escape σ u e in
      let q = spelled.mark_escape u n o e in
      let s = passes_so_far escape_step (closing_step true quote) escape_passes (drop (suc n) u) k f.so_far m.inside in
      let s' = subst (λ (x : ℕ). SoFar (closing_step true x) (drop (suc n) u) k) (sym q) s in
      let c = found true eh s' in
      let b = body f (escape_fore (drop k (drop (suc n) u))) in
      let same = checked_whole fresh (walk escape_step 0 (take k (drop (suc n) u))) (ap stops b ∙ f.so_far.goes)
      (ap (λ (x : List ℕ). whole (pushes fresh x)) (ap value b ∙ f.means) ∙ w) in
      segmented true eh s'
      (spelled.alone_escape σ u n k o z c.0 c.1 e ∙ ap (answer (suc n) (suc n + k)) same
      ∙ body_answer f (escape_fore (drop k (drop (suc n) u))) (suc n) (suc n + k))
      (body_plain f (escape_fore (drop k (drop (suc n) u))))

  -- U&
  pub fronted_unicode : has (u ! 0) (ascii "Uu") ≡ true → has (u ! 0) (ascii "Ee") ≡ false → Front (unicode_step (backslash ∷ []) quote) (drop (suc n) u) k v p
      → Segmented σ u (suc n) k v p
  fronted_unicode e e' f =
      let eh = spelled.hides_other σ u e' in
      let q = spelled.mark_unicode u n o e in
      let at : (h : Bool) → SoFar (closing_step h quote) (drop (suc n) u) k =
      λ h. passes_so_far (unicode_step (backslash ∷ []) quote) (closing_step h quote) (unicode_passes h) (drop (suc n) u) k f.so_far m.inside in
      let s' = subst (λ (x : ℕ). SoFar (closing_step σ.backslash x) (drop (suc n) u) k) (sym q) (at σ.backslash) in
      let c = found σ.backslash eh s' in
      let d = lone_closes false quote (drop (suc n) u) k (at false) m.inside (m.here ∙ q)
      (subst (λ (x : ℕ). eqb (drop (suc n) u ! suc k) x ≡ false) q m.alone) refl in
      segmented σ.backslash eh s'
      (spelled.alone_unicode σ u n k o z c.0 c.1 e d.0 d.1
      ∙ body_answer f (unicode_fore (backslash ∷ []) quote (drop k (drop (suc n) u))) (suc n) (suc n + k))
      (body_plain f (unicode_fore (backslash ∷ []) quote (drop k (drop (suc n) u))))
