-- With the setting off, a U& text is refused when it is read as one and another segment follows that begins with no quote mark: no UESCAPE clause opens a
-- segment. Assumes nothing.
use mathlib.Core.Path.{◌≡◌, refl, sym, subst}
use mathlib.Core.Bool.{Bool, true, false, ◌&&◌, or-false}
use mathlib.Core.List.{List, [], ◌∷◌, map}
use Prim.Native.Nat.{ℕ, suc, ◌+◌}
use Prim.Native.Char.{code}
use native.Mathlib.Omega.{arith}
use lib.Dec.{eqb}
use borrow.Author.Tests.{eqb-true}
use lib.ListN.{take, drop}
use Rattle.meaning.specs.declared.Settings.{Settings}
use Rattle.meaning.specs.Bytes.{◌!◌, has, same, ascii, is_mark, quote, backslash, within}
use Rattle.std.specs.Prelude.{if◌then◌else◌}
use Rattle.meaning.specs.Walk.{walk, size, stops}
use Rattle.meaning.specs.Steps.{closing_step, trim}
use Rattle.meaning.specs.Cutting.{opening, named, hides, segment}
use Rattle.meaning.specs.Spelling.{is_unicode, unicode_spelling, unicode_by, chosen, upper}
use Rattle.meaning.specs.Reading.{means, value_of, read_as}
use Rattle.laws.proofs.basics.Tests.{true→T, if_suc, and_left, and_right}
use Rattle.laws.proofs.cutting.Gaps.{has_all}
use Rattle.laws.proofs.cutting.Openings.{segment_of_lem}
use Rattle.laws.proofs.joining.Joining.{fails≢means}

-- what opens a segment and is no mark is no UESCAPE
abbrev NotClause : ℕ → Type 0
NotClause c = (x : List ℕ) → same (map upper (take 7 (c ∷ x))) (ascii "UESCAPE") ≡ false

abbrev NotClause& : ℕ → Type 0
NotClause& c = (x : List ℕ) → eqb (x ! 0) (code "&") ≡ true → same (map upper (take 7 (c ∷ x))) (ascii "UESCAPE") ≡ false

amp : (c : ℕ) → ((x : List ℕ) → same (map upper (take 7 (c ∷ (38 ∷ x)))) (ascii "UESCAPE") ≡ false) → NotClause& c
amp c p [] h = absurd (true→T (eqb 0 38) h)
amp c p (d ∷ x) h = subst (λ (k : ℕ). same (map upper (take 7 (c ∷ (k ∷ x)))) (ascii "UESCAPE") ≡ false) (sym (eqb-true d 38 h)) (p x)

pub no_clause : (c : ℕ) (x : List ℕ) (m : ℕ) → opening (c ∷ x) ≡ suc m → is_mark c ≡ false → chosen (c ∷ x) ≡ []
unfolding upper within
no_clause c x m o k = rw (go (has c (ascii "EeNnBbXx")) (has c (ascii "Uu")) (eqb c (code "_")) refl refl refl (rw k at o))
  where
    go : (y z u : Bool) → has c (ascii "EeNnBbXx") ≡ y → has c (ascii "Uu") ≡ z → eqb c (code "_") ≡ u
        → (if y then (if eqb (x ! 0) quote then 2 else 0)
        else if z then (if eqb (x ! 0) (code "&") && eqb (x ! 1) quote then 3 else 0)
        else if u then named x else 0) ≡ suc m
        → same (map upper (take 7 (c ∷ x))) (ascii "UESCAPE") ≡ false
    go true z u ey ez eu g =
        has_all NotClause c (ascii "EeNnBbXx")
        ((λ w. refl), ((λ w. refl), ((λ w. refl), ((λ w. refl), ((λ w. refl), ((λ w. refl), ((λ w. refl), ((λ w. refl), tt)))))))) ey x
    go false true u ey ez eu g =
        let p = if_suc (eqb (x ! 0) (code "&") && eqb (x ! 1) quote) 3 m g in
        has_all NotClause& c (ascii "Uu") (amp 85 (λ w. refl), (amp 117 (λ w. refl), tt)) ez x (and_left (eqb (x ! 0) (code "&")) (eqb (x ! 1) quote) p.0)
    go false false true ey ez eu g = has_all NotClause c (ascii "_") ((λ w. refl), tt) (rw eu refl) x
    go false false false ey ez eu g = absurd (omega arith)

-- an opening of U&
module _ (σ : Settings) (b : ℕ) (t : List ℕ) (u : is_unicode quote (b ∷ t) ≡ true) where
  parts_of_lem : (has b (ascii "Uu") ≡ true) × (eqb (t ! 0) (code "&") ≡ true) × (eqb (t ! 1) quote ≡ true)
  unfolding is_unicode
  parts_of_lem =
      let l = and_left (has b (ascii "Uu") && eqb (t ! 0) (code "&")) (eqb (t ! 1) quote) u in (
        and_left (has b (ascii "Uu")) (eqb (t ! 0) (code "&")) l,
        and_right (has b (ascii "Uu")) (eqb (t ! 0) (code "&")) l,
        and_right (has b (ascii "Uu") && eqb (t ! 0) (code "&")) (eqb (t ! 1) quote) u,
      )

  abbrev OpensU : ℕ → Type 0
  OpensU c = (opening (c ∷ t) ≡ 3) × (hides σ (c ∷ t) ≡ σ.backslash)

  opens_u : OpensU b
  unfolding is_mark
  opens_u =
      let p = parts_of_lem in
      has_all OpensU b (ascii "Uu") ((rw (p.1, p.2), or-false σ.backslash), ((rw (p.1, p.2), or-false σ.backslash), tt)) p.0

  -- how its segment closes
  pub closes_u : (e : ℕ) → segment σ (b ∷ t) ≡ suc e
      → (stops (walk (closing_step σ.backslash quote) 0 (drop 2 t)) ≡ true) × (4 + size (walk (closing_step σ.backslash quote) 0 (drop 2 t)) ≡ suc e)
  closes_u e seg =
      let s = segment_of_lem σ (b ∷ t) e seg in
      let p = opens_u in
      let i : s.0 ≡ 2 = let a = s.1 in let c = p.0 in omega arith in
      let st = subst (λ (j : ℕ). (stops (walk (closing_step (hides σ (b ∷ t)) ((b ∷ t) ! j)) 0 (drop (suc j) (b ∷ t))) ≡ true)
      × (suc j + size (walk (closing_step (hides σ (b ∷ t)) ((b ∷ t) ! j)) 0 (drop (suc j) (b ∷ t))) + 1 ≡ suc e)) i (s.2, s.3) in
      let st' = subst (λ (x : ℕ). (stops (walk (closing_step (hides σ (b ∷ t)) x) 0 (drop 2 t)) ≡ true)
      × (3 + size (walk (closing_step (hides σ (b ∷ t)) x) 0 (drop 2 t)) + 1 ≡ suc e)) (eqb-true (t ! 1) quote parts_of_lem.2) st in
      let st'' = subst (λ (x : Bool). (stops (walk (closing_step x quote) 0 (drop 2 t)) ≡ true)
      × (3 + size (walk (closing_step x quote) 0 (drop 2 t)) + 1 ≡ suc e)) p.1 st' in
      (st''.0, (let z = st''.1 in omega arith))

-- with the setting off both searches are one, and no clause follows
pub unicode_off : (σ : Settings) → σ.backslash ≡ false
    → (b : ℕ) (t : List ℕ) (e : ℕ) → segment σ (b ∷ t) ≡ suc e → (c : ℕ) (x : List ℕ) → trim (drop (suc e) (b ∷ t)) ≡ c ∷ x
    → (m : ℕ) → opening (c ∷ x) ≡ suc m → is_mark c ≡ false → (v : List ℕ)
    → is_unicode quote (b ∷ t) ≡ true → value_of (b ∷ t) (read_as σ (b ∷ t) (unicode_spelling quote (b ∷ t))) ≡ means v → ⊥
unfolding unicode_spelling
unicode_off σ off b t e seg c x d m o k v u h =
    let s = rw off at (closes_u σ b t u e seg) in
    let z : value_of (b ∷ t) (read_as σ (b ∷ t)
    (unicode_by (chosen (trim (drop (4 + size (walk (closing_step false quote) 0 (drop 2 t))) (b ∷ t))))
    (3 + size (walk (closing_step false quote) 0 (drop 2 t))))) ≡ means v = rw (u, s.0) at h in
    fails≢means 0 v (rw (s.1, d, no_clause c x m o k) at z)
