-- The digit that a byte is, as one of two sums. Assumes nothing.
use Rattle.std.proofs.Common.{◌≡◌, ℕ, ◌+◌, ◌-◌, ◌*◌, ◌/◌, ◌%◌, ◌^◌, ◌<◌, ◌≤◌, Bool, true, false, ltb, refl, arith, ltb-false, ltb-true, le-ltb, lt-ltb}
use Rattle.meaning.specs.Bytes.{within, digit}
use Rattle.std.specs.Prelude.{if◌then◌else◌}
use Rattle.laws.proofs.basics.Tests.{within_bounds, within_below, within_above, within_outside}
use Rattle.leaves.specs.Digits.{capped}

-- `loose_digit`, up to 9 and above it
outside : {A : Type 0} (lo hi b : ℕ) → within lo hi b ≡ false → (b < lo → A) → (hi < b → A) → A
outside {A} lo hi b w f g = go (ltb b lo) refl
  where
    go : (x : Bool) → ltb b lo ≡ x → A
    go true e = f (ltb-true b lo e)
    go false e = g (within_outside lo hi b w (ltb-false b lo e))

module _ (b r : ℕ) where
  pub of_decimal : b ≤ 57 → r < 2 ^ 8 → (r + 48) % 2 ^ 8 ≡ b → capped r ≡ digit b
  unfolding digit
  of_decimal h f e = go (within 48 57 b) refl
    where
      go : (x : Bool) → within 48 57 b ≡ x
          → capped r ≡ (if x then b - 48 else if within 65 70 b then b - 55 else if within 97 102 b then b - 87 else 16)
      go true w = let k = within_bounds 48 57 b w in let z : r ≡ b - 48 = omega arith in rw (lt-ltb r 16 (omega arith)) z
      go false w =
          let k : b < 48 = outside 48 57 b w (λ z. z) (λ z. absurd (omega arith)) in
          rw (within_below 65 70 b (omega arith), within_below 97 102 b (omega arith), le-ltb r 16 (omega arith))

  pub of_letter : 57 < b → b < 2 ^ 8 → r < 2 ^ 8 → (r + 65) % 2 ^ 8 ≡ b → capped (r / 64 * 64 + r % 32 + 10) ≡ digit b
  unfolding digit
  of_letter h g f e = rw (within_above 48 57 b h) (go (within 65 70 b) (within 97 102 b) refl refl)
    where
      go : (x y : Bool) → within 65 70 b ≡ x → within 97 102 b ≡ y
          → capped (r / 64 * 64 + r % 32 + 10) ≡ (if x then b - 55 else if y then b - 87 else 16)
      go true y wx wy =
          let k = within_bounds 65 70 b wx in
          rw (lt-ltb (r / 64 * 64 + r % 32 + 10) 16 (omega arith)) (omega arith)
      go false true wx wy =
          let k = within_bounds 97 102 b wy in
          rw (lt-ltb (r / 64 * 64 + r % 32 + 10) 16 (omega arith)) (omega arith)
      go false false wx wy = rw (le-ltb (r / 64 * 64 + r % 32 + 10) 16 none)
        where
          none : 16 ≤ r / 64 * 64 + r % 32 + 10
          none =
              outside 65 70 b wx (λ p. omega arith) (λ p. outside 97 102 b wy (λ q. omega arith) (λ q. omega arith))
