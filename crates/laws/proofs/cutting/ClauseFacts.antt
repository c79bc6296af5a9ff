-- Bytes that the search for a mark passes over and that end no prefix: white space is made of such bytes. So what stands before and inside a UESCAPE clause
-- closes no segment and opens none. Assumes nothing.
use mathlib.Core.Path.{◌≡◌, refl, ap, sym, ◌∙◌, subst}
use mathlib.Core.Bool.{Bool, true, false, and-false}
use mathlib.Core.List.{List, [], ◌∷◌, ◌++◌}
use Prim.Native.Nat.{ℕ, zero, suc, ◌+◌, ◌-◌, ◌*◌, ◌≤◌, ◌<◌}
use Prim.Native.Char.{code}
use native.Mathlib.Omega.{arith}
use native.Mathlib.Decide.{dec_lt}
use lib.Dec.{eqb, leb, leb→le}
use borrow.Author.Tests.{lt-leb, leb-false, eqb-true}
use lib.ListN.{length, take}
use Rattle.meaning.specs.Bytes.{◌!◌, is_mark, is_letter, is_decimal, within, quote, dquote, backslash, in_name}
use Rattle.std.specs.Prelude.{if◌then◌else◌}
use Rattle.meaning.specs.Chars.{Due, due, broken, lead, gather, base, is_space, space, space_at}
use Rattle.meaning.specs.Walk.{after, walk, size}
use Rattle.meaning.specs.Steps.{space_step, space_by}
use Rattle.laws.proofs.utf8.Utf8.{low_lead}
use Rattle.laws.proofs.basics.Tests.{true→T, if_suc}
use Rattle.laws.proofs.cutting.Gaps.{due_high, lead_low, no_space}
use Rattle.laws.proofs.cutting.ClauseStops.{Ok, Last}

-- a byte that a search for a mark keeps, and that ends no prefix
abbrev pub Calm : ℕ → Type 0
Calm b = (eqb b backslash ≡ false) × (is_mark b ≡ false)

abbrev pub Quiet : ℕ → Type 0
Quiet b = Calm b × Ok b

-- bytes from 80 on are quiet
low_eq : (b c : ℕ) → leb 0x80 b ≡ true → leb 0x80 c ≡ false → eqb b c ≡ false
low_eq b c h l = go (eqb b c) refl
  where
    go : (x : Bool) → eqb b c ≡ x → x ≡ false
    go true e = sym h ∙ ap (leb 0x80) (eqb-true b c e) ∙ l
    go false e = refl

above : (b lo hi : ℕ) → leb 0x80 b ≡ true → hi < 0x80 → leb b hi ≡ false
above b lo hi h l = go (leb b hi) refl
  where
    go : (x : Bool) → leb b hi ≡ x → x ≡ false
    go true e =
        let p = leb→le b hi (true→T (leb b hi) e) in
        let q = leb→le 0x80 b (true→T (leb 0x80 b) h) in absurd (omega arith)
    go false e = refl

pub high_quiet : (b : ℕ) → leb 0x80 b ≡ true → Quiet b
unfolding is_mark in_name is_letter is_decimal within
high_quiet b h = (
  (low_eq b backslash h refl, rw (low_eq b quote h refl, low_eq b dquote h refl)),
  (
    low_eq b backslash h refl,
    rw (
      above b 65 90 h (omega arith),
      and-false (leb 65 b),
      above b 97 122 h (omega arith),
      and-false (leb 97 b),
      above b 48 57 h (omega arith),
      and-false (leb 48 b),
      low_eq b 95 h refl,
    ) refl,
    low_eq b (code "&") h refl,
  ),
)

eqb_no : (b c : ℕ) → b < c → eqb b c ≡ false
eqb_no b c h = go (eqb b c) refl
  where
    go : (x : Bool) → eqb b c ≡ x → x ≡ false
    go true e = let p = eqb-true b c e in absurd (omega arith)
    go false e = refl

-- bytes up to 20 hex are quiet
low_quiet : (b : ℕ) → b ≤ 32 → Quiet b
unfolding is_mark in_name is_letter is_decimal within
low_quiet b h = (
  (eqb_no b backslash (omega arith), rw (eqb_no b quote (omega arith), eqb_no b dquote (omega arith))),
  (
    eqb_no b backslash (omega arith),
    rw (lt-leb 65 b (omega arith), lt-leb 97 b (omega arith), lt-leb 48 b (omega arith), eqb_no b 95 (omega arith)) refl,
    eqb_no b (code "&") (omega arith),
  ),
)

low_space : (b : ℕ) → b < 0x80 → is_space b ≡ true → b ≤ 32
unfolding is_space within
low_space b h s = go (dec_lt 32 b)
  where
    go : Dec (32 < b) → b ≤ 32
    go (no g) = omega arith
    go (yes g) =
        absurd (true→T false (sym
        (rw (
          lt-leb b 13 (omega arith),
          and-false (leb 9 b),
          lt-leb b 32 (omega arith),
          and-false (leb 32 b),
          lt-leb 0x85 b (omega arith),
          lt-leb 0xA0 b (omega arith),
          lt-leb 0x1680 b (omega arith),
          lt-leb 0x2000 b (omega arith),
          lt-leb 0x2028 b (omega arith),
          lt-leb 0x202F b (omega arith),
          lt-leb 0x205F b (omega arith),
          lt-leb 0x3000 b (omega arith),
        ) at (sym s))))

pub space_quiet : (b : ℕ) (t : List ℕ) (n : ℕ) → space (b ∷ t) ≡ suc n → Quiet b
space_quiet b t n h = go (leb 0x80 b) refl
  where
    go : (x : Bool) → leb 0x80 b ≡ x → Quiet b
    go true e = high_quiet b e
    go false e =
        let l = leb-false 0x80 b e in
        let z : b - 0 ≡ b = omega arith in
        let k : (if is_space b then 1 else 0) ≡ suc n = rw (low_lead b l, z) at h in
        low_quiet b (low_space b l (if_suc (is_space b) 1 n k).0)

-- white space is quiet
abbrev pub AllQ : List ℕ → Type 0
AllQ [] = Unit {0}
AllQ (b ∷ t) = Quiet b × AllQ t

abbrev High : ℕ → List ℕ → Type 0
High zero t = Unit {0}
High (suc i) [] = ⊥
High (suc i) (b ∷ t) = (leb 0x80 b ≡ true) × High i t

gather_high : (n lo hi v : ℕ) (t : List ℕ) → leb 0x80 lo ≡ true → is_space (gather n lo hi v t) ≡ true → High n t
gather_high zero lo hi v t l h = tt
gather_high (suc n) lo hi v [] l h = absurd (true→T false (sym no_space ∙ h))
gather_high (suc n) lo hi v (b ∷ t) l h = go (within lo hi b) refl h (gather_high n 0x80 0xBF (v * 64 + (b - 0x80)) t refl)
  where
    go : (x : Bool) → within lo hi b ≡ x → is_space (if x then gather n 0x80 0xBF (v * 64 + (b - 0x80)) t else 0) ≡ true
        → (is_space (gather n 0x80 0xBF (v * 64 + (b - 0x80)) t) ≡ true → High n t) → (leb 0x80 b ≡ true) × High n t
    go true e g ih = (due_high lo hi b l e, ih g)
    go false e g ih = absurd (true→T false (sym no_space ∙ g))

pub gap_quiet : (i : ℕ) (t : List ℕ) → High i t → (m : ℕ) → i + size (walk space_step i t) ≡ m → AllQ (take m t)
gap_quiet zero [] g zero e = tt
gap_quiet zero [] g (suc m) e = absurd (omega arith)
gap_quiet (suc i) [] g m e = absurd g
gap_quiet (suc i) (b ∷ t) g zero e = absurd (omega arith)
gap_quiet (suc i) (b ∷ t) g (suc m) e = (high_quiet b g.0, gap_quiet i t g.1 m (omega arith))
gap_quiet zero (b ∷ t) g m e = go (lead b) refl (λ i. gap_quiet i t)
  where
    at : (n lo hi : ℕ) → lead b ≡ due n lo hi → (x : Bool) → is_space (gather n lo hi (b - base n) t) ≡ x → (m : ℕ)
        → 0 + size (after (space_by (if x then suc n else 0)) b (λ n. walk space_step n t)) ≡ m
        → ((i : ℕ) → High i t → (m : ℕ) → i + size (walk space_step i t) ≡ m → AllQ (take m t)) → AllQ (take m (b ∷ t))
    at n lo hi l true ex zero e ih = absurd (omega arith)
    at n lo hi l true ex (suc m) e ih = (space_quiet b t n (rw (l, ex)), ih n (gather_high n lo hi (b - base n) t (lead_low b n lo hi l) ex) m (omega arith))
    at n lo hi l false ex zero e ih = tt
    at n lo hi l false ex (suc m) e ih = absurd (omega arith)

    none : (m : ℕ) → 0 ≡ m → AllQ (take m (b ∷ t))
    none zero e = tt
    none (suc m) e = absurd (omega arith)

    go : (d : Due) → lead b ≡ d → ((i : ℕ) → High i t → (m : ℕ) → i + size (walk space_step i t) ≡ m → AllQ (take m t)) → AllQ (take m (b ∷ t))
    go broken l ih = none m (let z : 0 + size (walk space_step 0 (b ∷ t)) ≡ 0 = rw l refl in omega arith)
    go (due n lo hi) l ih =
        at n lo hi l (is_space (gather n lo hi (b - base n) t)) refl m
        (subst (λ (d : Due). 0 + size (after (space_by (space_at d b t)) b (λ n. walk space_step n t)) ≡ m) l e) ih

-- the last byte
pub last_take : (m : ℕ) (t : List ℕ) → m < length t → Ok (t ! m) → Last (take (suc m) t)
last_take m [] h o = absurd (omega arith)
last_take zero (b ∷ t) h o = o
last_take (suc m) (b ∷ []) h o = absurd (omega arith)
last_take (suc m) (b ∷ (c ∷ t)) h o = last_take m (c ∷ t) (omega arith) o

pub last_append : (X K : List ℕ) → Last X → AllQ K → Last (X ++ K)
last_append [] [] l a = tt
last_append [] (b ∷ []) l a = a.0.1
last_append [] (b ∷ (c ∷ K)) l a = last_append [] (c ∷ K) tt a.1
last_append (b ∷ []) [] l a = l
last_append (b ∷ []) (c ∷ K) l a = last_append [] (c ∷ K) tt a
last_append (b ∷ (c ∷ X)) K l a = last_append (c ∷ X) K l a
