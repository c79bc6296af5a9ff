-- Words of bytes, what flags in a word tell, and runs of eight bytes at the most. Assumes nothing.
use Rattle.std.specs.Prelude.{◌≡◌, ℕ, ◌+◌, ◌*◌, ◌/◌, ◌%◌, ◌<◌, ◌≤◌, Bool, true, false, not, ◌&&◌, List, [], ◌∷◌, length, take, drop, ◌==◌, nat_le}
use Rattle.meaning.specs.Bytes.{span}
use Rattle.std.specs.Prelude.{if◌then◌else◌}

-- not this byte; none of two
abbrev pub other : ℕ → ℕ → Bool
other a x = not (x == a)

unfoldable pub neither : ℕ → ℕ → ℕ → Bool
neither a b x = other a x && other b x

-- how many of the eight bytes at a place pass a test before the first that does not; 0 where eight are not there
unfoldable pub eight_run : (ℕ → Bool) → List ℕ → ℕ → ℕ
eight_run p t at = if nat_le (at + 8) (length t) then span p (take 8 (drop at t)) else 0

-- the number that bytes make, the first the lowest
pub data Word : List ℕ → ℕ → Type 0 where
  none : Word [] 0
  byte : {b w : ℕ} {t : List ℕ} → b < 256 → Word t w → Word (b ∷ t) (w * 256 + b)

-- bit 7 of each byte as a flag: clear up to the first byte that does not pass, and set there; above it, either
pub data Flags (p : ℕ → Bool) : List ℕ → ℕ → Type 0 where
  end : {f : ℕ} → Flags p [] f
  stopped : {b f : ℕ} {t : List ℕ} → p b ≡ false → 128 ≤ f % 256 → Flags p (b ∷ t) f
  passed : {b f : ℕ} {t : List ℕ} → p b ≡ true → f % 256 < 128 → Flags p t (f / 256) → Flags p (b ∷ t) f
