-- The width and the bits that a first byte brings, from RFC 3629's rows. Assumes nothing.
use mathlib.Core.Path.{◌≡◌}
use Prim.Native.Nat.{ℕ}
use Rattle.meaning.specs.Chars.{leads, width, width_by}
use Rattle.laws.proofs.utf8.Leads.{By, lead_by}
use Rattle.scalars.specs.Scalars.{lead_bits, lead_bits_by}

pub width_is : (n b : ℕ) → By (λ d. n ≡ width_by d) 0 leads b → n ≡ width b
unfolding width
width_is n b h = lead_by (λ d. n ≡ width_by d) b h

pub bits_is : (v b : ℕ) → By (λ d. v ≡ lead_bits_by d b) 0 leads b → v ≡ lead_bits b
unfolding lead_bits
bits_is v b h = lead_by (λ d. v ≡ lead_bits_by d b) b h
