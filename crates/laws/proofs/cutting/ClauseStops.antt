-- A text that ends in a UESCAPE clause does not cut completely with the setting on. Assumes nothing.
use mathlib.Core.Logic.{◌⊎◌, inl, inr}
use mathlib.Core.Path.{◌≡◌, refl, ap, sym, ◌∙◌, subst}
use mathlib.Core.Bool.{Bool, true, false, ◌&&◌, and-false}
use mathlib.Core.List.{List, [], ◌∷◌, ◌++◌}
use Prim.Native.Nat.{ℕ, zero, suc, ◌+◌, ◌-◌, ◌*◌, ◌≤◌}
use Prim.Native.Char.{code}
use native.Mathlib.Nat.{add-zero}
use native.Mathlib.Omega.{arith}
use lib.Dec.{eqb, ltb, leb}
use borrow.Author.Tests.{eqb-true}
use lib.ListN.{length, drop, length-drop}
use lib.Seq.{drop-append-le, drop-append-add}
use Rattle.meaning.specs.declared.Settings.{Settings}
use Rattle.meaning.specs.Bytes.{◌!◌, has, ascii, is_mark, is_letter, is_decimal, within, quote, dquote, backslash, in_name, span}
use Rattle.std.specs.Prelude.{if◌then◌else◌}
use Rattle.meaning.specs.Chars.{Due, due, broken, lead, gather, base, is_space}
use Rattle.meaning.specs.Walk.{after, walk, size, stops}
use Rattle.meaning.specs.Steps.{closing_step, doubled, space_step, space_by, gap}
use Rattle.meaning.specs.Cutting.{opening, named, hides, segment, segment_step}
use Rattle.laws.proofs.basics.Tests.{true→T, if_suc, and_left, and_right}
use Rattle.laws.proofs.walking.Walks.{walk_append, walk_drop, walk_extend, size_graft, stops_graft, stops_inside}
use Rattle.laws.proofs.cutting.Gaps.{below_due, lead_low, Solid, has_all, no_space}
use Rattle.laws.proofs.cutting.Openings.{opening_mark, apart_of_mark, mark_0, segment_of_lem, closing_local_all}
use Rattle.laws.proofs.writing.Written.{closing_local}

-- a byte that no name, no U& and no backslash ends in
abbrev pub Ok : ℕ → Type 0
Ok b = (eqb b backslash ≡ false) × (in_name b ≡ false) × (eqb b (code "&") ≡ false)

abbrev pub Last : List ℕ → Type 0
Last [] = Unit {0}
Last (b ∷ []) = Ok b
Last (b ∷ (c ∷ Y)) = Last (c ∷ Y)

last_tail : (b : ℕ) (Y : List ℕ) → Last (b ∷ Y) → Last Y
last_tail b [] l = tt
last_tail b (c ∷ Y) l = l

pub last_drop : (n : ℕ) (Y : List ℕ) → Last Y → Last (drop n Y)
last_drop zero Y l = l
last_drop (suc n) [] l = tt
last_drop (suc n) (b ∷ Y) l = last_drop n Y (last_tail b Y l)

exact_last : (h : Bool) (q : ℕ) → eqb 0 q ≡ false → (i : ℕ) (W : List ℕ) → i ≤ length W → Last W → stops (walk (closing_step h q) i W) ≡ false
    → i + size (walk (closing_step h q) i W) ≡ length W
unfolding doubled
exact_last h q z zero [] i l s = refl
exact_last h q z (suc k) [] i l s = absurd (omega arith)
exact_last h q z (suc k) (b ∷ W) i l s = let r = exact_last h q z k W (omega arith) (last_tail b W l) s in omega arith
exact_last h q z zero (b ∷ W) i l s =
    go (h && eqb b backslash) (eqb b q) (eqb (W ! 0) q) W refl refl refl refl l s (λ k j. exact_last h q z k W j (last_tail b W l))
  where
    go : (x y w : Bool) (U : List ℕ) → W ≡ U → (h && eqb b backslash) ≡ x → eqb b q ≡ y → eqb (W ! 0) q ≡ w → Last (b ∷ W)
        → stops (walk (closing_step h q) 0 (b ∷ W)) ≡ false
        → ((k : ℕ) → k ≤ length W → stops (walk (closing_step h q) k W) ≡ false → k + size (walk (closing_step h q) k W) ≡ length W)
        → 0 + size (walk (closing_step h q) 0 (b ∷ W)) ≡ suc (length W)
    go true y w [] u ex ey ew l s ih =
        let l' : Ok b = subst (λ (U : List ℕ). Last (b ∷ U)) u l in
        absurd (true→T false (sym (sym ex ∙ ap (h &&◌) l'.0 ∙ and-false h)))
    go true y w (c ∷ U) u ex ey ew l s ih =
        let s' : stops (walk (closing_step h q) 1 W) ≡ false = rw ex at s in
        let i : 1 ≤ length W = rw u (omega arith) in
        let r = ih 1 i s' in rw ex (omega arith)
    go false true true [] u ex ey ew l s ih = absurd (true→T false (sym z ∙ ap (λ (U : List ℕ). eqb (U ! 0) q) (sym u) ∙ ew))
    go false true true (c ∷ U) u ex ey ew l s ih =
        let s' : stops (walk (closing_step h q) 1 W) ≡ false = rw (ex, ey, ew) at s in
        let i : 1 ≤ length W = rw u (omega arith) in
        let r = ih 1 i s' in rw (ex, ey, ew) (omega arith)
    go false true false U u ex ey ew l s ih =
        let s' : true ≡ false = rw (ex, ey, ew) at s in absurd (true→T false (sym s'))
    go false false w U u ex ey ew l s ih =
        let s' : stops (walk (closing_step h q) 0 W) ≡ false = rw (ex, ey) at s in
        let r = ih 0 (omega arith) s' in rw (ex, ey) (omega arith)

module _ (y : ℕ) (z : List ℕ) (solid : Solid y) (low : leb 0x80 y ≡ false) (nomark : is_mark y ≡ false) (noamp : eqb y (code "&") ≡ false) where
  not_quote : eqb y quote ≡ false
  unfolding is_mark
  not_quote = go (eqb y quote) refl
    where
      go : (x : Bool) → eqb y quote ≡ x → x ≡ false
      go true e = sym (ap is_mark (eqb-true y quote e)) ∙ nomark
      go false e = refl

  gather_before : (n lo hi v : ℕ) (W : List ℕ) → leb 0x80 lo ≡ true → is_space (gather n lo hi v (W ++ (y ∷ z))) ≡ true → n ≤ length W
  gather_before zero lo hi v W g h = omega arith
  gather_before (suc n) lo hi v [] g h = absurd (true→T false (sym no_space ∙ (rw (below_due lo hi y g low) at h)))
  gather_before (suc n) lo hi v (b ∷ W) g h = go (within lo hi b) h (gather_before n 0x80 0xBF (v * 64 + (b - 0x80)) W refl)
    where
      go : (x : Bool) → is_space (if x then gather n 0x80 0xBF (v * 64 + (b - 0x80)) (W ++ (y ∷ z)) else 0) ≡ true
          → (is_space (gather n 0x80 0xBF (v * 64 + (b - 0x80)) (W ++ (y ∷ z))) ≡ true → n ≤ length W) → suc n ≤ suc (length W)
      go true g ih = let r = ih g in omega arith
      go false g ih = absurd (true→T false (sym no_space ∙ g))

  gap_before : (i : ℕ) (W : List ℕ) → i ≤ length W → i + size (walk space_step i (W ++ (y ∷ z))) ≤ length W
  gap_before zero [] i = rw (solid z) (omega arith)
  gap_before (suc k) [] i = absurd (omega arith)
  gap_before (suc k) (b ∷ W) i = let r = gap_before k W (omega arith) in omega arith
  gap_before zero (b ∷ W) i = go (lead b) refl (λ k. gap_before k W)
    where
      at : (n lo hi : ℕ) → leb 0x80 lo ≡ true → (x : Bool) → is_space (gather n lo hi (b - base n) (W ++ (y ∷ z))) ≡ x
          → ((k : ℕ) → k ≤ length W → k + size (walk space_step k (W ++ (y ∷ z))) ≤ length W)
          → 0 + size (after (space_by (if x then suc n else 0)) b (λ n. walk space_step n (W ++ (y ∷ z)))) ≤ suc (length W)
      at n lo hi g true ex ih = let r = ih n (gather_before n lo hi (b - base n) W g ex) in omega arith
      at n lo hi g false ex ih = omega arith

      go : (d : Due) → lead b ≡ d → ((k : ℕ) → k ≤ length W → k + size (walk space_step k (W ++ (y ∷ z))) ≤ length W)
          → 0 + size (walk space_step 0 (b ∷ (W ++ (y ∷ z)))) ≤ suc (length W)
      go broken e ih = rw e (omega arith)
      go (due n lo hi) e ih = rw e (at n lo hi (lead_low b n lo hi e) (is_space (gather n lo hi (b - base n) (W ++ (y ∷ z)))) refl ih)

  span_last : (c : ℕ) (Y : List ℕ) → Last (c ∷ Y) → span in_name (c ∷ (Y ++ (y ∷ z))) ≤ length Y
  span_last c [] l = rw l.1 (omega arith)
  span_last c (d ∷ Y) l = go (in_name c) (span_last d Y l)
    where
      go : (x : Bool) → span in_name (d ∷ (Y ++ (y ∷ z))) ≤ length Y → (if x then suc (span in_name (d ∷ (Y ++ (y ∷ z)))) else 0) ≤ suc (length Y)
      go true r = omega arith
      go false r = omega arith

  named_before : (d : ℕ) (Y : List ℕ) → Last (d ∷ Y) → eqb d (code "_") ≡ true → (n : ℕ) → named (Y ++ (y ∷ z)) ≡ suc n → n ≤ length Y
  unfolding named in_name is_letter is_decimal within
  named_before d [] l u n e =
      absurd (true→T false (sym l.1 ∙ ap in_name (eqb-true d 95 u)))
  named_before d (c ∷ Y) l u n e =
      let m : ℕ = span in_name (c ∷ (Y ++ (y ∷ z))) in
      let p = if_suc (ltb 0 m && is_mark ((c ∷ (Y ++ (y ∷ z))) ! m)) (suc (suc m)) n e in
      let s = span_last c Y l in
      let k = p.1 in
      omega arith

  opening_before : (d : ℕ) (Y : List ℕ) → Last (d ∷ Y) → (n : ℕ) → opening (d ∷ (Y ++ (y ∷ z))) ≡ suc n → n ≤ length Y
  opening_before d Y l n e = go (is_mark d) (has d (ascii "EeNnBbXx")) (has d (ascii "Uu")) (eqb d (code "_")) refl e
    where
      first : (Y : List ℕ) → eqb ((Y ++ (y ∷ z)) ! 0) quote ≡ true → 1 ≤ length Y
      first [] h = absurd (true→T false (sym not_quote ∙ h))
      first (c ∷ Y) h = omega arith

      two : (Y : List ℕ) → eqb ((Y ++ (y ∷ z)) ! 0) (code "&") ≡ true → eqb ((Y ++ (y ∷ z)) ! 1) quote ≡ true → 2 ≤ length Y
      two [] h g = absurd (true→T false (sym noamp ∙ h))
      two (c ∷ []) h g = absurd (true→T false (sym not_quote ∙ g))
      two (c ∷ (c' ∷ Y)) h g = omega arith

      go : (x a b u : Bool) → eqb d (code "_") ≡ u
          → (if x then 1
          else if a then (if eqb ((Y ++ (y ∷ z)) ! 0) quote then 2 else 0)
          else if b then (if eqb ((Y ++ (y ∷ z)) ! 0) (code "&") && eqb ((Y ++ (y ∷ z)) ! 1) quote then 3 else 0)
          else if u then named (Y ++ (y ∷ z)) else 0) ≡ suc n
          → n ≤ length Y
      go true a b u eu g = omega arith
      go false true b u eu g =
          let p = if_suc (eqb ((Y ++ (y ∷ z)) ! 0) quote) 2 n g in
          let k = p.1 in let r = first Y p.0 in omega arith
      go false false true u eu g =
          let p = if_suc (eqb ((Y ++ (y ∷ z)) ! 0) (code "&") && eqb ((Y ++ (y ∷ z)) ! 1) quote) 3 n g in
          let k = p.1 in
          let r = two Y (and_left (eqb ((Y ++ (y ∷ z)) ! 0) (code "&")) (eqb ((Y ++ (y ∷ z)) ! 1) quote) p.0)
          (and_right (eqb ((Y ++ (y ∷ z)) ! 0) (code "&")) (eqb ((Y ++ (y ∷ z)) ! 1) quote) p.0) in
          omega arith
      go false false false true eu g = named_before d Y l eu n g
      go false false false false eu g = absurd (omega arith)

-- The clause y ∷ z: no segment opens with it; the search for ' stops at place k of it, and the search for " nowhere; and what
-- follows place k begins with no white space and with no segment
module _ (σ : Settings) (on : σ.backslash ≡ true)
    (y : ℕ) (z : List ℕ) (solid : Solid y) (low : leb 0x80 y ≡ false) (nomark : is_mark y ≡ false) (noamp : eqb y (code "&") ≡ false)
    (shut : opening (y ∷ z) ≡ 0) (k : ℕ)
    (single : (stops (walk (closing_step true quote) 0 (y ∷ z)) ≡ true) × (size (walk (closing_step true quote) 0 (y ∷ z)) ≡ k))
    (double : stops (walk (closing_step true dquote) 0 (y ∷ z)) ≡ false)
    (c : ℕ) (x : List ℕ) (rest : drop (suc k) (y ∷ z) ≡ c ∷ x) (tight : gap (c ∷ x) ≡ 0) (none : segment σ (c ∷ x) ≡ 0) where
  by_mark : (q : ℕ) → is_mark q ≡ true → stops (walk (closing_step true q) 0 (y ∷ z)) ≡ true → size (walk (closing_step true q) 0 (y ∷ z)) ≡ k
  unfolding is_mark
  by_mark q m =
      has_all (λ p. stops (walk (closing_step true p) 0 (y ∷ z)) ≡ true → size (walk (closing_step true p) 0 (y ∷ z)) ≡ k) q (quote ∷ dquote ∷ [])
      ((λ s. single.1), ((λ s. absurd (true→T false (sym double ∙ s))), tt)) m

  hidden : (t : List ℕ) → hides σ t ≡ true
  hidden t = rw on

  bound : (d : ℕ) (Y : List ℕ) → Last (d ∷ Y) → (e : ℕ) → segment σ (d ∷ (Y ++ (y ∷ z))) ≡ suc e
      → (e + gap (drop e (Y ++ (y ∷ z))) ≤ length Y) ⊎ (e ≡ length Y + suc k)
  bound d Y l e seg =
      let s = segment_of_lem σ (d ∷ (Y ++ (y ∷ z))) e seg in
      let n : ℕ = s.0 in
      let i = opening_before y z solid low nomark noamp d Y l n s.1 in
      go n ((d ∷ (Y ++ (y ∷ z))) ! n) (opening_mark (d ∷ (Y ++ (y ∷ z))) n s.1) i (rw (hidden (d ∷ (Y ++ (y ∷ z))), drop-append-le n Y (y ∷ z) i) at s.2)
      (rw (hidden (d ∷ (Y ++ (y ∷ z))), drop-append-le n Y (y ∷ z) i) at s.3)
    where
      go : (n q : ℕ) → is_mark q ≡ true → n ≤ length Y → stops (walk (closing_step true q) 0 (drop n Y ++ (y ∷ z))) ≡ true
          → suc n + size (walk (closing_step true q) 0 (drop n Y ++ (y ∷ z))) + 1 ≡ suc e
          → (e + gap (drop e (Y ++ (y ∷ z))) ≤ length Y) ⊎ (e ≡ length Y + suc k)
      go n q m i st sz = split (stops (walk (closing_step true q) 0 (drop n Y))) refl
        where
          nz : eqb 0 q ≡ false
          nz = apart_of_mark q 0 m mark_0

          split : (b : Bool) → stops (walk (closing_step true q) 0 (drop n Y)) ≡ b → (e + gap (drop e (Y ++ (y ∷ z))) ≤ length Y) ⊎ (e ≡ length Y + suc k)
          split true b =
              let w = walk_extend (closing_step true q) (y ∷ z) (closing_local_all true q (y ∷ z) nz (apart_of_mark q y m nomark)) 0 (drop n Y) (true→T _ b) in
              let j = stops_inside (closing_step true q) 0 (drop n Y) (true→T _ b) in
              let f : e ≤ length Y = omega (arith, ap size w, length-drop n Y) in
              let g = gap_before y z solid low nomark noamp 0 (drop e Y) (omega arith) in
              inl (rw (drop-append-le e Y (y ∷ z) f) (omega (arith, length-drop e Y)))
          split false b =
              let x = exact_last true q nz 0 (drop n Y) (omega arith) (last_drop n Y (last_tail d Y l)) b in
              let w = walk_append (closing_step true q) (y ∷ z) (closing_local true q (y ∷ z) nz) 0 (drop n Y) x in
              let t = sym (stops_graft (walk (closing_step true q) 0 (drop n Y)) (walk (closing_step true q) 0 (y ∷ z)) b) ∙ ap stops (sym w) ∙ st in
              let g = size_graft (walk (closing_step true q) 0 (drop n Y)) (walk (closing_step true q) 0 (y ∷ z)) b in
              inr (omega (arith, ap size w, g, by_mark q m t, length-drop n Y))

  pub never : (j : ℕ) (Y : List ℕ) → Last Y → j ≤ length Y → stops (walk (segment_step σ) j (Y ++ (y ∷ z))) ≡ true
  unfolding segment_step segment
  never zero [] l i = rw shut
  never (suc j) [] l i = absurd (omega arith)
  never (suc j) (d ∷ Y) l i = never j Y (last_tail d Y l) (omega arith)
  never zero (d ∷ Y) l i = go (segment σ (d ∷ (Y ++ (y ∷ z)))) refl (λ j. never j Y (last_tail d Y l))
    where
      stays : stops (walk (segment_step σ) 0 (c ∷ x)) ≡ true
      stays = rw none

      go : (s : ℕ) → segment σ (d ∷ (Y ++ (y ∷ z))) ≡ s → ((j : ℕ) → j ≤ length Y → stops (walk (segment_step σ) j (Y ++ (y ∷ z))) ≡ true)
          → stops (walk (segment_step σ) 0 (d ∷ (Y ++ (y ∷ z)))) ≡ true
      go zero s ih = rw s
      go (suc e) s ih = rw s (past (bound d Y l e s))
        where
          past : (e + gap (drop e (Y ++ (y ∷ z))) ≤ length Y) ⊎ (e ≡ length Y + suc k)
              → stops (walk (segment_step σ) (e + gap (drop e (Y ++ (y ∷ z)))) (Y ++ (y ∷ z))) ≡ true
          past (inl h) = ih (e + gap (drop e (Y ++ (y ∷ z)))) h
          past (inr h) =
              let p : drop e (Y ++ (y ∷ z)) ≡ c ∷ x = ap (λ (m : ℕ). drop m (Y ++ (y ∷ z))) h ∙ drop-append-add Y (y ∷ z) (suc k) ∙ rest in
              rw (p, tight, add-zero e, walk_drop (segment_step σ) e (Y ++ (y ∷ z)), p) stays
