-- A text whose first segment is not all of it is refused when it is read as one: every spelling but U&, of which it is a hypothesis here. Assumes nothing.
use mathlib.Core.Path.{◌≡◌, refl, sym, subst}
use mathlib.Core.Bool.{Bool, true, false, ◌&&◌, or-false, or-true}
use mathlib.Core.List.{List, ◌∷◌}
use Prim.Native.Nat.{ℕ, zero, suc, ◌+◌, ◌-◌, ◌<◌}
use Prim.Native.Char.{code}
use native.Mathlib.Omega.{arith}
use lib.Dec.{T, eqb, ltb}
use borrow.Author.Tests.{eqb-true}
use lib.ListN.{length, drop}
use Rattle.meaning.specs.declared.Settings.{Settings}
use Rattle.meaning.specs.Bytes.{◌!◌, has, ascii, is_mark, quote, dquote, backslash, part}
use Rattle.std.specs.Prelude.{if◌then◌else◌}
use Rattle.meaning.specs.Chars.{fresh}
use Rattle.meaning.specs.Walk.{walk, size, stops}
use Rattle.meaning.specs.Steps.{closing_step, standard_step, escape_step, checked}
use Rattle.meaning.specs.Cutting.{opening, hides, segment}
use Rattle.meaning.specs.Spelling.{standard, escape, spelling, encloses, is_unicode, unicode_spelling, delimiter, dollar_by}
use Rattle.meaning.specs.Reading.{refused, means, value_of, answer, one, read_as}
use Rattle.laws.proofs.basics.Tests.{and_left, and_right}
use Rattle.laws.proofs.cutting.Gaps.{has_all}
use Rattle.laws.proofs.cutting.Openings.{opening_mark, apart_of_mark, mark_0, segment_of_lem}
use Rattle.laws.proofs.cutting.BodyStops.{standard_stops, stops_fails, body_stops}
use Rattle.laws.proofs.cutting.EscapeStops.{escape_stops, checked_stops}
use Rattle.laws.proofs.joining.Joining.{fails≢means}

module _ (σ : Settings) (t : List ℕ) (e : ℕ) (seg : segment σ t ≡ suc e) (more : suc e < length t) where
  -- the body behind the opening's mark, by the standard steps or by E's
  module _ (n q : ℕ) (o : opening t ≡ suc n) (m : t ! n ≡ q) where
    closing : (h : Bool) → hides σ t ≡ h → T (stops (walk (closing_step h q) 0 (part (suc n) (length t - 1) t)))
    closing h k =
        let s = segment_of_lem σ t e seg in
        let i : s.0 ≡ n = let a = s.1 in omega arith in
        let st = subst (λ (j : ℕ). (stops (walk (closing_step (hides σ t) (t ! j)) 0 (drop (suc j) t)) ≡ true)
        × (suc j + size (walk (closing_step (hides σ t) (t ! j)) 0 (drop (suc j) t)) + 1 ≡ suc e)) i (s.2, s.3) in
        let st' = subst (λ (x : ℕ). (stops (walk (closing_step (hides σ t) x) 0 (drop (suc n) t)) ≡ true)
        × (suc n + size (walk (closing_step (hides σ t) x) 0 (drop (suc n) t)) + 1 ≡ suc e)) m st in
        let st'' = subst (λ (x : Bool). (stops (walk (closing_step x q) 0 (drop (suc n) t)) ≡ true)
        × (suc n + size (walk (closing_step x q) 0 (drop (suc n) t)) + 1 ≡ suc e)) k st' in
        body_stops t n h q (apart_of_mark q 0 (subst (λ (x : ℕ). is_mark x ≡ true) m (opening_mark t n o)) mark_0) st''.0
        (let z = st''.1 in omega arith)

    standard_case : (v : List ℕ) → hides σ t ≡ σ.backslash
        → value_of t (answer (suc n) (length t - 1) (walk (standard_step σ.backslash q) 0 (part (suc n) (length t - 1) t))) ≡ means v → ⊥
    standard_case v k =
        stops_fails t (suc n) (length t - 1) (walk (standard_step σ.backslash q) 0 (part (suc n) (length t - 1) t)) v
        (standard_stops σ.backslash q 0 (part (suc n) (length t - 1) t) (closing σ.backslash k))

  escape_case : (v : List ℕ) → opening t ≡ 2 → t ! 1 ≡ quote → hides σ t ≡ true
      → value_of t (answer 2 (length t - 1) (checked fresh (walk escape_step 0 (part 2 (length t - 1) t)))) ≡ means v → ⊥
  escape_case v o m k =
      stops_fails t 2 (length t - 1) (checked fresh (walk escape_step 0 (part 2 (length t - 1) t))) v
      (checked_stops fresh (walk escape_step 0 (part 2 (length t - 1) t))
      (escape_stops 0 0 (part 2 (length t - 1) t) tt (closing 1 quote o m true k)))

-- what the first byte decides
module _ (σ : Settings) (t : List ℕ) where
  abbrev OpensAs : ℕ → Bool → ℕ → Type 0
  OpensAs n h b = eqb (t ! 0) quote ≡ true → (opening (b ∷ t) ≡ suc n) × (hides σ (b ∷ t) ≡ h)

  opens_e : (b : ℕ) → has b (ascii "Ee") ≡ true → OpensAs 1 true b
  unfolding is_mark
  opens_e b h = has_all (OpensAs 1 true) b (ascii "Ee") ((λ e. (rw e, or-true σ.backslash)), ((λ e. (rw e, or-true σ.backslash)), tt)) h

  opens_n : (b : ℕ) → has b (ascii "Nn") ≡ true → OpensAs 1 σ.backslash b
  unfolding is_mark
  opens_n b h = has_all (OpensAs 1 σ.backslash) b (ascii "Nn") ((λ e. (rw e, or-false σ.backslash)), ((λ e. (rw e, or-false σ.backslash)), tt)) h

  opens_q : (b : ℕ) → eqb b quote ≡ true → (opening (b ∷ t) ≡ 1) × (hides σ (b ∷ t) ≡ σ.backslash)
  unfolding is_mark
  opens_q b h = subst (λ (c : ℕ). (opening (c ∷ t) ≡ 1) × (hides σ (c ∷ t) ≡ σ.backslash)) (sym (eqb-true b quote h)) (refl, or-false σ.backslash)

  opens_d : (b : ℕ) → eqb b dquote ≡ true → (opening (b ∷ t) ≡ 1) × (hides σ (b ∷ t) ≡ σ.backslash)
  unfolding is_mark
  opens_d b h = subst (λ (c : ℕ). (opening (c ∷ t) ≡ 1) × (hides σ (c ∷ t) ≡ σ.backslash)) (sym (eqb-true b dquote h)) (refl, or-false σ.backslash)

  hides_c : (b : ℕ) → eqb b (code "_") ≡ true → hides σ (b ∷ t) ≡ σ.backslash
  hides_c b h = subst (λ (c : ℕ). hides σ (c ∷ t) ≡ σ.backslash) (sym (eqb-true b (code "_") h)) (or-false σ.backslash)

  no_dollar : (b n : ℕ) → opening (b ∷ t) ≡ suc n → eqb b (code "$") ≡ false
  unfolding is_mark
  no_dollar b n o = go (eqb b (code "$")) refl
    where
      go : (x : Bool) → eqb b (code "$") ≡ x → x ≡ false
      go true k = absurd (let z : opening (36 ∷ t) ≡ suc n =
          subst (λ (c : ℕ). opening (c ∷ t) ≡ suc n) (eqb-true b (code "$") k) o in omega arith)
      go false k = refl

encloses_at : (n q : ℕ) (t : List ℕ) → encloses n q t ≡ true → eqb (t ! n) q ≡ true
unfolding encloses
encloses_at n q t h = and_right (ltb (suc n) (length t)) (eqb (t ! n) q) (and_left (ltb (suc n) (length t) && eqb (t ! n) q) (eqb (t ! (length t - 1)) q) h)

-- read as one, all but U& is refused
module _ (σ : Settings) (b : ℕ) (t : List ℕ) (e : ℕ) (seg : segment σ (b ∷ t) ≡ suc e) (more : suc e < length (b ∷ t)) (v : List ℕ)
    (uni : is_unicode quote (b ∷ t) ≡ true → value_of (b ∷ t) (read_as σ (b ∷ t) (unicode_spelling quote (b ∷ t))) ≡ means v → ⊥) where
  n : ℕ
  n = (segment_of_lem σ (b ∷ t) e seg).0

  o : opening (b ∷ t) ≡ suc n
  unfolding n
  o = (segment_of_lem σ (b ∷ t) e seg).1

  by_dollar : (d : ℕ) → delimiter (b ∷ t) ≡ d → value_of (b ∷ t) (read_as σ (b ∷ t) (dollar_by (b ∷ t) d)) ≡ means v → ⊥
  unfolding delimiter
  by_dollar zero k h = fails≢means 0 v h
  by_dollar (suc d) k h = let z : 0 ≡ suc d = rw (no_dollar σ t b n o) at k in absurd (omega arith)

  pub refused_whole : value_of (b ∷ t) (one σ (b ∷ t)) ≡ means v → ⊥
  unfolding one spelling
  refused_whole h = nul (has 0 (b ∷ t)) h
    where
      charset : (opening (b ∷ t) ≡ suc n) → (eqb b (code "_") ≡ true)
          → value_of (b ∷ t) (answer (opening (b ∷ t)) (length (b ∷ t) - 1)
          (walk (standard_step σ.backslash ((b ∷ t) ! (opening (b ∷ t) - 1))) 0 (part (opening (b ∷ t)) (length (b ∷ t) - 1) (b ∷ t)))) ≡ means v → ⊥
      charset o k h =
          let j : suc n - 1 ≡ n = omega arith in
          standard_case σ (b ∷ t) e seg more n ((b ∷ t) ! n) o refl v (hides_c σ t b k) (rw (o, j) at h)

      go : (x1 x2 x3 x4 x5 x6 : Bool) → encloses 0 quote (b ∷ t) ≡ x1 → encloses 0 dquote (b ∷ t) ≡ x2
          → (has b (ascii "Ee") && encloses 1 quote (b ∷ t)) ≡ x3 → (has b (ascii "Nn") && encloses 1 quote (b ∷ t)) ≡ x4
          → (eqb b (code "_") && ltb 0 (opening (b ∷ t)) && encloses (opening (b ∷ t) - 1) ((b ∷ t) ! (opening (b ∷ t) - 1)) (b ∷ t)) ≡ x5
          → is_unicode quote (b ∷ t) ≡ x6
          → value_of (b ∷ t) (read_as σ (b ∷ t)
          (if x1 then standard quote 1 (length (b ∷ t) - 1)
          else if x2 then standard dquote 1 (length (b ∷ t) - 1)
          else if x3 then escape 2 (length (b ∷ t) - 1)
          else if x4 then standard quote 2 (length (b ∷ t) - 1)
          else if x5 then standard ((b ∷ t) ! (opening (b ∷ t) - 1)) (opening (b ∷ t)) (length (b ∷ t) - 1)
          else if x6 then unicode_spelling quote (b ∷ t)
          else dollar_by (b ∷ t) (delimiter (b ∷ t)))) ≡ means v → ⊥
      go true x2 x3 x4 x5 x6 e1 e2 e3 e4 e5 e6 h =
          let k = encloses_at 0 quote (b ∷ t) e1 in let p = opens_q σ t b k in
          standard_case σ (b ∷ t) e seg more 0 quote p.0 (eqb-true b quote k) v p.1 h
      go false true x3 x4 x5 x6 e1 e2 e3 e4 e5 e6 h =
          let k = encloses_at 0 dquote (b ∷ t) e2 in let p = opens_d σ t b k in
          standard_case σ (b ∷ t) e seg more 0 dquote p.0 (eqb-true b dquote k) v p.1 h
      go false false true x4 x5 x6 e1 e2 e3 e4 e5 e6 h =
          let k = encloses_at 1 quote (b ∷ t) (and_right (has b (ascii "Ee")) (encloses 1 quote (b ∷ t)) e3) in
          let p = opens_e σ t b (and_left (has b (ascii "Ee")) (encloses 1 quote (b ∷ t)) e3) k in
          escape_case σ (b ∷ t) e seg more v p.0 (eqb-true (t ! 0) quote k) p.1 h
      go false false false true x5 x6 e1 e2 e3 e4 e5 e6 h =
          let k = encloses_at 1 quote (b ∷ t) (and_right (has b (ascii "Nn")) (encloses 1 quote (b ∷ t)) e4) in
          let p = opens_n σ t b (and_left (has b (ascii "Nn")) (encloses 1 quote (b ∷ t)) e4) k in
          standard_case σ (b ∷ t) e seg more 1 quote p.0 (eqb-true (t ! 0) quote k) v p.1 h
      go false false false false true x6 e1 e2 e3 e4 e5 e6 h =
          charset o (and_left (eqb b (code "_")) (ltb 0 (opening (b ∷ t)))
          (and_left (eqb b (code "_") && ltb 0 (opening (b ∷ t))) (encloses (opening (b ∷ t) - 1) ((b ∷ t) ! (opening (b ∷ t) - 1)) (b ∷ t)) e5)) h
      go false false false false false true e1 e2 e3 e4 e5 e6 h = uni e6 h
      go false false false false false false e1 e2 e3 e4 e5 e6 h = by_dollar (delimiter (b ∷ t)) refl h

      nul : (x : Bool) → value_of (b ∷ t) (if x then refused 0 else read_as σ (b ∷ t) (spelling (b ∷ t))) ≡ means v → ⊥
      nul true h = fails≢means 0 v h
      nul false h =
          go (encloses 0 quote (b ∷ t)) (encloses 0 dquote (b ∷ t)) (has b (ascii "Ee") && encloses 1 quote (b ∷ t))
          (has b (ascii "Nn") && encloses 1 quote (b ∷ t))
          (eqb b (code "_") && ltb 0 (opening (b ∷ t)) && encloses (opening (b ∷ t) - 1) ((b ∷ t) ! (opening (b ∷ t) - 1)) (b ∷ t)) (is_unicode quote (b ∷ t))
          refl refl refl refl refl refl h
