-- UTF-8 by places: whether a byte may stand behind the three before it. That this is RFC 3629's rule is a theorem (proofs/ByPlaces). Assumes nothing.
use Rattle.std.specs.Prelude.{ℕ, Bool, ◌&&◌, ◌||◌, List, [], ◌∷◌, ◌==◌, nat_le, nat_lt}
use Rattle.meaning.specs.Bytes.{within}
use Rattle.std.specs.Prelude.{if◌then◌else◌}

-- from where to where the second byte of a character may lie, by its first
unfoldable pub low_of : ℕ → ℕ
low_of b = if b == 0xE0 then 0xA0 else if b == 0xF0 then 0x90 else 0x80

unfoldable pub high_of : ℕ → ℕ
high_of b = if b == 0xED then 0x9F else if b == 0xF4 then 0x8F else 0xBF

-- behind p₃, p₂ and p₁ a later byte is due
unfoldable pub is_due : ℕ → ℕ → ℕ → Bool
is_due p₃ p₂ p₁ = nat_le 0xC0 p₁ || nat_le 0xE0 p₂ || nat_le 0xF0 p₃

-- a byte begins a character
unfoldable pub begins : ℕ → Bool
begins b = nat_lt b 0x80 || within 0xC2 0xF4 b

-- a byte may stand behind three
unfoldable pub follows : ℕ → ℕ → ℕ → ℕ → Bool
follows p₃ p₂ p₁ b = if is_due p₃ p₂ p₁ then within (low_of p₁) (high_of p₁) b else begins b

-- and is not below the least one
unfoldable pub fits : ℕ → ℕ → ℕ → ℕ → ℕ → Bool
fits least p₃ p₂ p₁ b = nat_le least b && follows p₃ p₂ p₁ b

-- for each byte of a text behind three bytes 1 if it fits, and 0 if not
abbrev pub fitted : ℕ → ℕ → ℕ → ℕ → List ℕ → List ℕ
fitted least p₃ p₂ p₁ [] = []
fitted least p₃ p₂ p₁ (b ∷ t) = (if fits least p₃ p₂ p₁ b then 1 else 0) ∷ fitted least p₂ p₁ b t

abbrev pub is_one : ℕ → Bool
is_one x = x == 1

-- a text behind three bytes that make nothing due
abbrev pub padded : List ℕ → List ℕ
padded t = 0 ∷ 0 ∷ 0 ∷ t
