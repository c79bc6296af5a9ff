-- Long division, limb by limb, for any base and divisor; and two halves by a billion. Assumes nothing.
use Rattle.std.proofs.Common.{◌≡◌, ℕ, ◌+◌, ◌*◌, ◌/◌, ◌%◌, ◌^◌, ◌<◌, sym, refl, ap, ◌∙◌, add_assoc, mul_assoc, mul_comm, add-mul, div-add-mod', arith, w64, Fits}
use native.Mathlib.Nat.{mul-add-div_right, mul-add-mod_self_right}
use Rattle.meaning.specs.Halves.{joined_halves}

module _ (h l B d : ℕ) (pos : 0 < d) where
  spread : h * B + l ≡ h / d * B * d + (h % d * B + l)
  spread = ap (λ (x : ℕ). x * B + l) (sym (div-add-mod' h d)) ∙ simp (add-mul, mul_assoc, mul_comm d B, add_assoc)

  -- the quotient's limb h / d, and the next division of what is left
  long_div : (h * B + l) / d ≡ h / d * B + (h % d * B + l) / d
  long_div = ap (λ (x : ℕ). x / d) spread ∙ mul-add-div_right pos (h / d * B) (h % d * B + l)

  long_mod : (h * B + l) % d ≡ (h % d * B + l) % d
  long_mod = ap (λ (x : ℕ). x % d) spread ∙ mul-add-mod_self_right (h / d * B) d (h % d * B + l)

-- two halves as three limbs
limbs : (hi lo : ℕ) → joined_halves hi lo ≡ (hi * 2 ^ 32 + lo / 2 ^ 32) * 2 ^ 32 + lo % 2 ^ 32
limbs hi lo = omega arith

pub limb_fits : (hi lo : ℕ) → Fits w64 lo → Fits w64 (hi % 1000000000 * 2 ^ 32 + lo / 2 ^ 32)
limb_fits hi lo f = omega arith

module _ (hi lo : ℕ) where
  abbrev a : ℕ
  a = hi % 1000000000 * 2 ^ 32 + lo / 2 ^ 32

  abbrev b : ℕ
  b = a % 1000000000 * 2 ^ 32 + lo % 2 ^ 32

  pub billion_div : joined_halves (hi / 1000000000) (a / 1000000000 * 2 ^ 32 + b / 1000000000) ≡ joined_halves hi lo / 1000000000
  billion_div =
      (let q = hi / 1000000000 in let x = a / 1000000000 in let y = b / 1000000000 in
      let e : joined_halves q (x * 2 ^ 32 + y) ≡ (q * 2 ^ 32 + x) * 2 ^ 32 + y = omega arith in e)
      ∙ sym (ap (λ (n : ℕ). n / 1000000000) (limbs hi lo)
      ∙ long_div (hi * 2 ^ 32 + lo / 2 ^ 32) (lo % 2 ^ 32) (2 ^ 32) 1000000000 (omega arith)
      ∙ rw (long_div hi (lo / 2 ^ 32) (2 ^ 32) 1000000000 (omega arith), long_mod hi (lo / 2 ^ 32) (2 ^ 32) 1000000000 (omega arith)) refl)

  pub billion_mod : b % 1000000000 ≡ joined_halves hi lo % 1000000000
  billion_mod =
      sym (ap (λ (n : ℕ). n % 1000000000) (limbs hi lo)
      ∙ long_mod (hi * 2 ^ 32 + lo / 2 ^ 32) (lo % 2 ^ 32) (2 ^ 32) 1000000000 (omega arith)
      ∙ rw (long_mod hi (lo / 2 ^ 32) (2 ^ 32) 1000000000 (omega arith)) refl)
