-- Dollar tags and delimiters at a place, and a text between two equal ones. Assumes nothing.
use mathlib.Core.Path.{◌≡◌, refl, sym, ap, ◌∙◌}
use mathlib.Core.Bool.{Bool, true, false, ◌&&◌}
use mathlib.Core.List.{List, [], ◌∷◌}
use Prim.Native.Nat.{ℕ, zero, suc, ◌+◌, ◌-◌, ◌≤◌, ◌<◌}
use native.Mathlib.Omega.{arith}
use lib.Dec.{eqb, leb}
use lib.ListN.{length, take, drop, length-drop, length-take}
use lib.Seq.{get_or-drop, drop-drop}
use borrow.Author.Tests.{eq-eqb, ne_eqb, le-leb, lt-leb}
use Rattle.meaning.specs.Bytes.{◌!◌, same, starts, span, starts_tag, in_tag}
use Rattle.std.specs.Prelude.{if◌then◌else◌}
use Rattle.meaning.specs.Spelling.{dollar, unspelt, tag_length, delimiter, dollar_by}
use Rattle.laws.proofs.cutting.Openings.{inside}
use Rattle.leaves.proofs.RunSteps.{span_length}
use Rattle.spellings.specs.declared.spelling.Spelled.TheVariants.{Dollar, Unspelt}
use Rattle.spellings.specs.Spelled.{Dollars}

-- what stands behind a place
byte_behind : (l : List ℕ) (at i : ℕ) → drop at l ! i ≡ l ! (at + i)
byte_behind l at i = get_or-drop at l i 0

byte_here : (l : List ℕ) (at : ℕ) → drop at l ! 0 ≡ l ! at
byte_here l at = let z : at + 0 ≡ at = omega arith in byte_behind l at 0 ∙ ap (λ (n : ℕ). l ! n) z

-- A TAG
module _ (l : List ℕ) (at b : ℕ) (eb : b ≡ l ! at) (x : Bool) (ex : x ≡ starts_tag b) where
  tag_by : tag_length (drop at l) ≡ (if x then span in_tag (drop at l) else 0)
  tag_by = rw (byte_here l at, ← eb, ← ex)

tag_length_lem : (u : List ℕ) → tag_length u ≤ length u
tag_length_lem u = go (starts_tag (u ! 0))
  where
    go : (x : Bool) → (if x then span in_tag u else 0) ≤ length u
    go true = span_length in_tag u
    go false = omega arith

-- A DELIMITER
pub delimiter_length : (u : List ℕ) → delimiter u ≤ length u
unfolding delimiter
delimiter_length u = go (eqb (u ! 0) 36) (eqb (u ! suc (tag_length (drop 1 u))) 36) refl
  where
    go : (x y : Bool) → eqb (u ! suc (tag_length (drop 1 u))) 36 ≡ y → (if x && y then suc (suc (tag_length (drop 1 u))) else 0) ≤ length u
    go true true e = inside (λ b. eqb b 36) refl u (suc (tag_length (drop 1 u))) e
    go true false e = omega arith
    go false y e = omega arith

module _ (l : List ℕ) (at b : ℕ) (eb : b ≡ l ! at) where
  pub delimiter_none : (b ≡ 36 → ⊥) → 0 ≡ delimiter (drop at l)
  unfolding delimiter
  delimiter_none n = rw (byte_here l at, ← eb, ne_eqb b 36 n)

  module _ (h : b ≡ 36) where
    pub dollar_inside : at < length l
    dollar_inside = inside (λ x. eqb x 36) refl l at (eq-eqb (l ! at) 36 (sym eb ∙ h))

    -- a tag of n bytes behind it
    module _ (n : ℕ) (en : n ≡ tag_length (drop (at + 1) l)) where
      pub tag_inside : at + 1 + n ≤ length l
      tag_inside = omega (arith, dollar_inside, tag_length_lem (drop (at + 1) l), length-drop (at + 1) l)

      module _ (d : ℕ) (ed : d ≡ l ! (at + 1 + n)) where
        delimiter_by : delimiter (drop at l) ≡ (if eqb d 36 then suc (suc n) else 0)
        unfolding delimiter
        delimiter_by =
            let z : at + suc n ≡ at + 1 + n = omega arith in
            rw (byte_here l at, ← eb, eq-eqb b 36 h, drop-drop 1 at l, ← en, byte_behind l at (suc n), z, ← ed)

        pub delimiter_open : (d ≡ 36 → ⊥) → 0 ≡ delimiter (drop at l)
        delimiter_open q = sym (delimiter_by ∙ rw (ne_eqb d 36 q))

        pub delimiter_closed : d ≡ 36 → n + 2 ≡ delimiter (drop at l)
        delimiter_closed q = let two : n + 2 ≡ suc (suc n) = omega arith in two ∙ sym (delimiter_by ∙ rw (eq-eqb d 36 q))

-- EQUAL DELIMITERS of n bytes at both ends
starts_same : (p u : List ℕ) → length p ≡ length u → starts p u ≡ same p u
starts_same [] [] h = refl
starts_same [] (c ∷ u) h = absurd (omega arith)
starts_same (b ∷ p) [] h = absurd (omega arith)
starts_same (b ∷ p) (c ∷ u) h = ap (λ (x : Bool). eqb b c && x) (starts_same p u (omega arith))

dollar_some : (t : List ℕ) (n : ℕ) → (n ≡ 0 → ⊥)
    → dollar_by t n ≡ (if leb (n + n) (length t) && same (take n t) (drop (length t - n) t) then dollar n (length t - n) else unspelt)
dollar_some t zero z = absurd (z refl)
dollar_some t (suc n) z = refl

module _ (t : List ℕ) (n : ℕ) (en : n ≡ delimiter (drop 0 t)) where
  pub dollar_fits : n ≤ length t
  dollar_fits = omega (arith, delimiter_length t, en)

  pub dollar_none : n ≡ 0 → Dollars t Unspelt
  dollar_none z = record { means = rw (← en, z); family = tt }

  module _ (z : n ≡ 0 → ⊥) where
    module _ (h : n ≤ length t - n) (x : Bool) (ex : x ≡ starts (take n t) (drop (length t - n) t)) where
      dollar_by_lem : dollar_by t (delimiter t) ≡ (if x then dollar n (length t - n) else unspelt)
      dollar_by_lem =
          let k : length (take n t) ≡ length (drop (length t - n) t) = omega (arith, length-take n t, length-drop (length t - n) t) in
          rw (← en, dollar_some t n z, le-leb (n + n) (length t) (omega arith), ← starts_same (take n t) (drop (length t - n) t) k, ← ex)

      pub dollar_equal : x ≡ true → Dollars t (Dollar n (length t - n))
      dollar_equal e = record { means = sym (dollar_by_lem ∙ rw e); family = tt }

      pub dollar_other : x ≡ false → Dollars t Unspelt
      dollar_other e = record { means = sym (dollar_by_lem ∙ rw e); family = tt }
