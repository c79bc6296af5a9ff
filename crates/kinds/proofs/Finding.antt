-- Where a mark first, a byte last and a text next stands in a text: what each loop knows at its place, and each way out. Assumes nothing.
use mathlib.Core.Path.{◌≡◌, refl, sym, ap, ◌∙◌}
use mathlib.Core.Bool.{Bool, true, false, ◌||◌, not}
use mathlib.Core.List.{List, [], ◌∷◌}
use Prim.Native.Nat.{ℕ, zero, suc, ◌+◌, ◌-◌, ◌≤◌, ◌<◌}
use native.Mathlib.Nat.{zero-add}
use native.Mathlib.Omega.{arith}
use lib.Dec.{eqb}
use lib.ListN.{length, drop, drop_of_length-le}
use lib.Seq.{drop-cons, drop-length}
use borrow.Author.Tests.{eqb-true, eq-eqb, ne_eqb}
use Rattle.meaning.specs.Bytes.{◌!◌, starts}
use Rattle.std.specs.Prelude.{if◌then◌else◌}
use Rattle.meaning.specs.Kinds.{first_place_of, last_by, past_last, place_by, found}
use Rattle.std.specs.Prelude.{Some, None}
use Rattle.kinds.specs.Tokens.{place_of, unmarked, first_mark}

-- THE FIRST MARK: at a byte that is one, or behind one that is none
pub mark_here : (b : ℕ) (t : List ℕ) → unmarked b ≡ false → first_mark (b ∷ t) ≡ 0
mark_here b t e = rw e

pub mark_more : (b : ℕ) (t : List ℕ) → unmarked b ≡ true → first_mark (b ∷ t) ≡ first_mark t + 1
mark_more b t e = rw e (omega arith)

-- ITS BYTE tells which of the two stands first. None stands at the end: the byte there is 0
pub mark_dollar : (l : List ℕ) → l ! first_mark l ≡ 36 → (first_mark l ≡ first_place_of 36 l) × (first_place_of 36 l < first_place_of 39 l)
mark_dollar [] e = absurd (omega arith)
mark_dollar (b ∷ t) e = go (eqb b 39) (eqb b 36) refl e (mark_dollar t)
  where
    go : (x y : Bool) → eqb b 39 ≡ x → (b ∷ t) ! (if not (x || y) then suc (first_mark t) else 0) ≡ 36
        → (t ! first_mark t ≡ 36 → (first_mark t ≡ first_place_of 36 t) × (first_place_of 36 t < first_place_of 39 t))
        → ((if not (x || y) then suc (first_mark t) else 0) ≡ (if not y then suc (first_place_of 36 t) else 0))
        × ((if not y then suc (first_place_of 36 t) else 0) < (if not x then suc (first_place_of 39 t) else 0))
    go true y q e ih = absurd (omega (arith, eqb-true b 39 q))
    go false true q e ih = (refl, omega arith)
    go false false q e ih = (ap suc (ih e).0, omega (arith, (ih e).1))

pub mark_quote : (l : List ℕ) → (l ! first_mark l ≡ 36 → ⊥) → (first_mark l ≡ first_place_of 39 l) × (first_place_of 39 l ≤ first_place_of 36 l)
mark_quote [] n = (refl, omega arith)
mark_quote (b ∷ t) n = go (eqb b 39) (eqb b 36) refl n (mark_quote t)
  where
    go : (x y : Bool) → eqb b 36 ≡ y → ((b ∷ t) ! (if not (x || y) then suc (first_mark t) else 0) ≡ 36 → ⊥)
        → ((t ! first_mark t ≡ 36 → ⊥) → (first_mark t ≡ first_place_of 39 t) × (first_place_of 39 t ≤ first_place_of 36 t))
        → ((if not (x || y) then suc (first_mark t) else 0) ≡ (if not x then suc (first_place_of 39 t) else 0))
        × ((if not x then suc (first_place_of 39 t) else 0) ≤ (if not y then suc (first_place_of 36 t) else 0))
    go true y q n ih = (refl, omega arith)
    go false true q n ih = absurd (n (eqb-true b 36 q))
    go false false q n ih = (ap suc (ih n).0, omega (arith, (ih n).1))

-- THE LAST q: from i on there is none
pub record LastBefore (q : ℕ) (l : List ℕ) (i : ℕ) : Type 0 where
  pub none : past_last q (drop i l) ≡ 0
  pub within : i ≤ length l

last_suc : (x : Bool) (n : ℕ) → last_by x (suc n) ≡ suc (suc n)
last_suc true n = refl
last_suc false n = refl

last_behind : (q : ℕ) (l : List ℕ) (i k : ℕ) → past_last q (drop i l) ≡ suc k → past_last q l ≡ suc (i + k)
last_behind q l zero k e = rw (zero-add k) e
last_behind q [] (suc i) k e = absurd (omega arith)
last_behind q (b ∷ l) (suc i) k e = rw (last_behind q l i k e, last_suc (eqb b q) (i + k)) (omega arith)

pub last_start : (q : ℕ) (l : List ℕ) → LastBefore q l (length l)
last_start q l = record { none = rw (drop-length l); within = omega arith }

module _ (q : ℕ) (l : List ℕ) (i : ℕ) (s : LastBefore q l i) where
  pub last_none : i ≤ 0 → 0 ≡ past_last q l
  last_none h = let z : i ≡ 0 = omega arith in sym (rw z at s.none)

  module _ (h : 0 < i) where
    last_at : past_last q (drop (i - 1) l) ≡ last_by (eqb (l ! (i - 1)) q) 0
    last_at =
        let z : suc (i - 1) ≡ i = omega arith in
        ap (past_last q) (drop-cons l (i - 1) 0 (omega (arith, s.within)))
        ∙ ap (last_by (eqb (l ! (i - 1)) q)) (ap (λ (j : ℕ). past_last q (drop j l)) z ∙ s.none)

    pub last_here : l ! (i - 1) ≡ q → i - 1 + 1 ≡ past_last q l
    last_here e = omega (arith, last_behind q l (i - 1) 0 (last_at ∙ rw (eq-eqb (l ! (i - 1)) q e)))

    pub last_less : (l ! (i - 1) ≡ q → ⊥) → LastBefore q l (i - 1)
    last_less n = record { none = last_at ∙ rw (ne_eqb (l ! (i - 1)) q n); within = omega (arith, s.within) }

-- A TEXT p: it stands nowhere from `at` up to i. What is found d bytes further on
abbrev further : ℕ → ℕ → ℕ
further d zero = 0
further d (suc k) = suc (d + k)

further_none : (n : ℕ) → further 0 n ≡ n
further_none zero = refl
further_none (suc k) = ap suc (zero-add k)

further_next : (d n : ℕ) → further d (place_by false n) ≡ further (suc d) n
further_next d zero = refl
further_next d (suc k) = omega arith

pub record FoundBehind (p l : List ℕ) (at i : ℕ) : Type 0 where
  pub rest : found p (drop at l) ≡ further (i - at) (found p (drop i l))
  pub from : at ≤ i

pub found_start : (p l : List ℕ) (at : ℕ) → FoundBehind p l at at
found_start p l at =
    let z : at - at ≡ 0 = omega arith in record { rest = rw z (sym (further_none (found p (drop at l)))); from = omega arith }

module _ (p l : List ℕ) (at i : ℕ) (s : FoundBehind p l at i) where
  pub found_none : length l ≤ i → None ≡ place_of (found p (drop at l))
  found_none h =
      let e : found p (drop at l) ≡ 0 = s.rest ∙ rw (drop_of_length-le l h) in
      ap place_of (sym e)

  module _ (h : i < length l) (x : Bool) (ex : x ≡ starts p (drop i l)) where
    found_at : found p (drop i l) ≡ place_by x (found p (drop (suc i) l))
    found_at =
        ap (found p) (drop-cons l i 0 h)
        ∙ ap (λ (y : Bool). place_by y (found p (drop (suc i) l))) (sym (ex ∙ ap (starts p) (drop-cons l i 0 h)))

    pub found_here : x ≡ true → Some (i - at) ≡ place_of (found p (drop at l))
    found_here t =
        let z : suc (i - at + 0) ≡ suc (i - at) = omega arith in
        let e : found p (drop at l) ≡ suc (i - at) = s.rest ∙ rw (found_at, t) z in
        ap place_of (sym e)

    pub found_more : x ≡ false → FoundBehind p l at (i + 1)
    found_more t =
        let y : suc i ≡ i + 1 = omega arith in
        let z : suc (i - at) ≡ i + 1 - at = omega (arith, s.from) in
        record { rest = s.rest ∙ rw (found_at, t, further_next (i - at) (found p (drop (suc i) l)), y, z); from = omega (arith, s.from) }
