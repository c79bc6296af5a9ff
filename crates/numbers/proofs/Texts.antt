-- A text by its base: in base ten, and behind a radix prefix. Assumes nothing.
use mathlib.Core.Path.{◌≡◌, refl, ap, ◌∙◌}
use mathlib.Core.Bool.{Bool, true, false, not}
use mathlib.Core.List.{List, [], ◌∷◌}
use Prim.Native.Nat.{ℕ, ◌-◌, ◌≤◌}
use Prim.Native.Char.{code}
use native.Mathlib.Omega.{arith}
use borrow.Author.Tests.{ne_eqb, eqb-true}
use lib.Dec.{eqb, ltb}
use lib.ListN.{length, take, drop}
use Rattle.meaning.specs.declared.RadixPrefix.{RadixPrefix}
use Rattle.meaning.specs.Bytes.{◌!◌, ascii, has, within, digit}
use Rattle.std.specs.Prelude.{if◌then◌else◌}
use Rattle.meaning.specs.Numbers.{sign_length, is_minus, base_by, radix_prefix, placed, strip, none}
use Rattle.meaning.specs.Numbers.{parsed, within_bits, negated_by, unsigned, base_of, number_body, separated, radix_value}
use Rattle.laws.proofs.basics.Tests.{if_same}
use Rattle.numbers.specs.Values.{parsed_apart}
use Rattle.numbers.proofs.Prefixes.{tail_part}

-- THE PREFIX of a text u: where it ends follows from the base
start_is : (u : List ℕ) → (radix_prefix u).start ≡ (if eqb (radix_prefix u).base 10 then 0 else 2)
unfolding radix_prefix
start_is u = refl

-- the base is 2, 8, 10 or 16; any but ten takes two bytes
pub data IsBase : ℕ → Type 0 where
  two : IsBase 2
  eight : IsBase 8
  ten : IsBase 10
  sixteen : IsBase 16

base_by_lem : (c : ℕ) → IsBase (base_by c)
unfolding base_by
base_by_lem c = go (has c (ascii "xX")) (has c (ascii "oO")) (has c (ascii "bB"))
  where
    go : (x y z : Bool) → IsBase (if x then 16 else if y then 8 else if z then 2 else 10)
    go true y z = sixteen
    go false true z = eight
    go false false true = two
    go false false false = ten

pub is_base : (u : List ℕ) → IsBase (radix_prefix u).base
unfolding radix_prefix
is_base u = go (eqb (u ! 0) (code "0"))
  where
    go : (x : Bool) → IsBase (if x then base_by (u ! 1) else 10)
    go true = base_by_lem (u ! 1)
    go false = ten

pub radix_long : (u : List ℕ) → ((radix_prefix u).base ≡ 10 → ⊥) → 2 ≤ length u
unfolding radix_prefix base_by
radix_long [] n = absurd (n refl)
radix_long (b ∷ []) n = absurd (n (if_same (eqb b (code "0")) 10))
radix_long (b ∷ c ∷ u) n = omega arith

-- SEPARATORS. The byte before counts only as a digit or none
placed_by : (β p q : ℕ) (t : List ℕ) → ltb (digit p) β ≡ ltb (digit q) β → placed β p t ≡ placed β q t
placed_by β p q [] e = refl
placed_by β p q (b ∷ t) e = rw e

-- so a sign in front changes nothing
placed_signed : (t : List ℕ) → placed 10 0 (unsigned t) ≡ placed 10 0 t
unfolding sign_length digit within
placed_signed [] = refl
placed_signed (b ∷ t) = go (eqb b 43) (eqb b 45) refl refl
  where
    go : (x y : Bool) → eqb b 43 ≡ x → eqb b 45 ≡ y → placed 10 0 (unsigned (b ∷ t)) ≡ placed 10 0 (b ∷ t)
    go true y ex ey = rw (eqb-true b 43 ex) (placed_by 10 0 43 t refl)
    go false true ex ey = rw (eqb-true b 45 ey) (placed_by 10 0 45 t refl)
    go false false ex ey = rw (ex, ey)

module _ (t : List ℕ) where
  -- BASE TEN
  pub separated_ten : base_of t ≡ 10 → separated t ≡ placed 10 0 t
  unfolding separated
  separated_ten e = rw (start_is (unsigned t), e) (placed_signed t)

  -- A RADIX
  module _ (n : base_of t ≡ 10 → ⊥) where
    pub body_radix : number_body t ≡ drop 2 (unsigned t)
    body_radix = rw (start_is (unsigned t), ne_eqb (base_of t) 10 n)

    pub radix_apart : (k : ℕ) → (if not (separated t) then none else radix_value k t)
        ≡ within_bits k (negated_by (is_minus t) (parsed_apart k (base_of t) (drop 2 (unsigned t))))
    unfolding separated radix_value parsed_apart
    radix_apart k = rw (body_radix) (go (placed (base_of t) 0 (drop 2 (unsigned t))))
      where
        go : (x : Bool) → (if not x then none else within_bits k (negated_by (is_minus t) (parsed k (base_of t) (strip (drop 2 (unsigned t))))))
            ≡ within_bits k (negated_by (is_minus t) (if x then parsed k (base_of t) (strip (drop 2 (unsigned t))) else none))
        go true = refl
        go false = refl

-- THE CODE's parts: behind s bytes of sign, with a prefix p
module _ (t : List ℕ) (s : ℕ) (p : RadixPrefix) (e : s ≡ sign_length t) (q : p ≡ radix_prefix (take (length t - s) (drop s t))) where
  pub rest_is : take (length t - s) (drop s t) ≡ unsigned t
  rest_is = tail_part s t ∙ ap (λ (n : ℕ). drop n t) e

  pub prefix_is : p ≡ radix_prefix (unsigned t)
  prefix_is = q ∙ ap radix_prefix rest_is

  pub base_is : p.base ≡ base_of t
  base_is = ap (λ (x : RadixPrefix). x.base) prefix_is

  pub base_known : IsBase p.base
  base_known = rw base_is (is_base (unsigned t))

  module _ (n : p.base ≡ 10 → ⊥) where
    pub rest_long : 2 ≤ length (take (length t - s) (drop s t))
    rest_long = rw rest_is (radix_long (unsigned t) (λ z. n (base_is ∙ z)))

    pub body_is : take (length (take (length t - s) (drop s t)) - 2) (drop 2 (take (length t - s) (drop s t))) ≡ drop 2 (unsigned t)
    body_is = tail_part 2 (take (length t - s) (drop s t)) ∙ ap (drop 2) rest_is
