-- What is asked of a value before it is measured and written, and what is put into a buffer. Assumes nothing.
use Rattle.std.specs.Prelude.{Bool, true, false, not, ◌||◌, ◌≡◌, List, ◌++◌, ℕ, ◌≤◌, ◌<◌, length, drop, eqb}
use Rattle.meaning.specs.Bytes.{◌!◌, has, quote, backslash}
use Rattle.meaning.specs.Chars.{utf8, width}
use Rattle.leaves.specs.Blocks.{passes}
use Rattle.writer.specs.Manners.{Manner}
use Rattle.writer.specs.Manners.{Plain, Escape, Unicode}
use Rattle.writer.specs.declared.lengths.Measured.{Measured}
use Rattle.writer.specs.Manners.{kept_by, keeps, unit_by, text_by}

-- a form spells no NUL; between quote marks the tests before have seen to it
abbrev pub nul_free : Manner → List ℕ → Bool
nul_free (Plain bs) v = true
nul_free Escape v = not (has 0 v)
nul_free Unicode v = not (has 0 v)

-- a value that has passed the tests
pub record Spellable (m : Manner) (v : List ℕ) : Type 0 where
  pub short : length v ≤ 268435456
  pub valid : utf8 v ≡ true
  pub free : nul_free m v ≡ true

-- each byte of a value stands for itself
abbrev pub all_kept : Manner → List ℕ → Bool
all_kept m v = passes (keeps (kept_by m)) (length v) v

abbrev pub measured_by : Manner → List ℕ → Measured
measured_by m v = record { len = length (text_by m v); whole = all_kept m v }

-- n bytes hold the text t of a value; who calls it whole is right
pub record Fits (m : Manner) (whole : Bool) (v t : List ℕ) (n : ℕ) : Type 0 where
  pub valid : utf8 v ≡ true
  pub copied : whole ≡ true → all_kept m v ≡ true
  pub room : length t ≤ n

-- a character begins at a place that does not stand for itself, and n bytes hold its spelling
pub record UnitAt (m : Manner) (v : List ℕ) (at n : ℕ) : Type 0 where
  pub inside : at < length v
  pub changed : keeps (kept_by m) (v ! at) ≡ false
  pub begins : m ≡ Unicode → 0 < width (v ! at)
  pub room : length (unit_by m (drop at v)) ≤ n

-- and it is none of the two bytes that are doubled
pub record OtherAt (m : Manner) (v : List ℕ) (at n : ℕ) : Type 0 where
  pub unit : UnitAt m v at n
  pub single : (eqb (v ! at) quote || eqb (v ! at) backslash) ≡ false

-- bytes are put at a buffer's start, and counted
pub record PutBytes (t out : List ℕ) (n : ℕ) (after : List ℕ) : Type 0 where
  pub answer : n ≡ length t
  pub buffer : after ≡ t ++ drop (length t) out
