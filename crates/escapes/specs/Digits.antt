-- A run of digits that was read, and hex digits by a number of them. Assumes nothing.
use Rattle.std.specs.Prelude.{◌≡◌, List, ℕ, ◌≤◌, eqb}
use Rattle.meaning.specs.Bytes.{digits, number}
use Rattle.std.specs.Prelude.{if◌then◌else◌}
use Rattle.escapes.specs.declared.digits.Digits.{Digits}

-- the digits of base β at the front of t, w at the most, and the number that they make
pub record Run (β w : ℕ) (t : List ℕ) (r : Digits) : Type 0 where
  pub count : r.count ≡ digits β w t
  pub value : r.value ≡ number β (digits β w t) 0 t
  pub most : r.count ≤ w

-- the number that w hex digits at the front of t make; 0 where they are fewer
unfoldable pub hex_by : ℕ → List ℕ → ℕ
hex_by w t = if eqb (digits 16 w t) w then number 16 w 0 t else 0
