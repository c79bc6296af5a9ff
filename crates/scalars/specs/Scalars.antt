-- A character's number at a place, and its encoding in a buffer. Assumes nothing.
use Rattle.std.specs.Prelude.{Bool, true, false, ◌&&◌, ◌≡◌, List, [], ◌∷◌, ℕ, zero, suc, ◌-◌, leb, length}
use Rattle.std.specs.Prelude.{if◌then◌else◌}
use Rattle.meaning.specs.Chars.{Due, due, broken, lead, gather, base, encode, is_scalar}
use Rattle.meaning.specs.Answers.{filled}

-- a later byte is due
abbrev pub pending : Due → Bool
pending broken = false
pending (due zero lo hi) = false
pending (due (suc n) lo hi) = true

-- what a first byte adds to its character's number; 0 for a byte that begins none
abbrev pub lead_bits_by : Due → ℕ → ℕ
lead_bits_by broken b = 0
lead_bits_by (due n lo hi) b = b - base n

unfoldable pub lead_bits : ℕ → ℕ
lead_bits b = lead_bits_by (lead b) b

-- the number that the bytes of the character at the front make; 0 where none begins there, or one of its bytes is missing or not as due
abbrev pub scalar_from : Due → ℕ → List ℕ → ℕ
scalar_from broken b t = 0
scalar_from (due n lo hi) b t = gather n lo hi (b - base n) t

abbrev pub scalar_of : List ℕ → ℕ
scalar_of [] = 0
scalar_of (b ∷ t) = scalar_from (lead b) b t

-- a scalar's encoding is put at the buffer's start, where there is room for it
pub record Encodes (c : ℕ) (out : List ℕ) (r : ℕ) (after : List ℕ) : Type 0 where
  pub answer : r ≡ (if is_scalar c && leb (length (encode c)) (length out) then length (encode c) else 0)
  pub buffer : after ≡ (if is_scalar c then filled (encode c) out else out)
