-- Bytes put into a buffer: behind those that it has, or at its end. Assumes nothing.
use Rattle.std.specs.Prelude.{◌≡◌, List, ◌++◌, ℕ, ◌-◌, ◌≤◌, length, take, drop}

-- v behind a line's bytes: as many of its bytes as the 192 places have room for
abbrev pub pushed : List ℕ → List ℕ → List ℕ
pushed before v = before ++ take (192 - length before) v

-- v stands at the end of 21 bytes, from r on, and r is `low` or more
pub record EndsIn (v : List ℕ) (low r : ℕ) (after : List ℕ) : Type 0 where
  pub above : low ≤ r
  pub inside : r ≤ 21
  pub long : length after ≡ 21
  pub bytes : drop r after ≡ v
