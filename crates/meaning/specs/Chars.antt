-- Characters in UTF-8 (RFC 3629), and white space (Unicode White_Space). Assumes nothing.
use Rattle.std.specs.Prelude.{Bool, true, false, ◌&&◌, ◌||◌, not, List, [], ◌∷◌, ℕ, zero, suc, ◌+◌, ◌-◌, ◌*◌, ◌/◌, ◌%◌, ◌^◌, leb, ltb}
use Rattle.meaning.specs.Bytes.{within}
use Rattle.std.specs.Prelude.{if◌then◌else◌}

-- What may come next: n more bytes of a character, the first of them from lo to hi and the others from 80 to BF; at n = 0 a
-- character begins. Or the bytes so far begin no UTF-8 text.
pub data Due : Type 0 where
  due : ℕ → ℕ → ℕ → Due
  broken : Due

abbrev pub fresh : Due
fresh = due 0 0x80 0xBF

-- RFC 3629, section 4, the rules UTF8-1 to UTF8-4: first bytes from .. to .., and what they make due
abbrev pub leads : List (ℕ × ℕ × ℕ × ℕ × ℕ)
leads =
    (0x00, 0x7F, 0, 0x80, 0xBF) ∷
    (0xC2, 0xDF, 1, 0x80, 0xBF) ∷
    (0xE0, 0xE0, 2, 0xA0, 0xBF) ∷
    (0xE1, 0xEC, 2, 0x80, 0xBF) ∷
    (0xED, 0xED, 2, 0x80, 0x9F) ∷
    (0xEE, 0xEF, 2, 0x80, 0xBF) ∷
    (0xF0, 0xF0, 3, 0x90, 0xBF) ∷
    (0xF1, 0xF3, 3, 0x80, 0xBF) ∷
    (0xF4, 0xF4, 3, 0x80, 0x8F) ∷ []

abbrev pub lead_in : List (ℕ × ℕ × ℕ × ℕ × ℕ) → ℕ → Due
lead_in [] b = broken
lead_in (r ∷ rs) b = if within r.0 r.1 b then due r.2 r.3 r.4 else lead_in rs b

unfoldable pub lead : ℕ → Due
lead b = lead_in leads b

abbrev pub push : Due → ℕ → Due
push broken b = broken
push (due zero lo hi) b = lead b
push (due (suc n) lo hi) b = if within lo hi b then due n 0x80 0xBF else broken

abbrev pub pushes : Due → List ℕ → Due
pushes d [] = d
pushes d (b ∷ t) = pushes (push d b) t

abbrev pub whole : Due → Bool
whole broken = false
whole (due zero lo hi) = true
whole (due (suc n) lo hi) = false

unfoldable pub utf8 : List ℕ → Bool
utf8 t = whole (pushes fresh t)

-- RFC 3629, section 3. A character of n + 1 bytes: what its first byte adds, and its n later bytes, six bits each, the high ones first
abbrev pub base : ℕ → ℕ
base zero = 0
base (suc zero) = 0xC0
base (suc (suc zero)) = 0xE0
base (suc (suc (suc n))) = 0xF0

abbrev pub later : ℕ → ℕ → List ℕ
later zero c = []
later (suc n) c = (0x80 + c / 64 ^ n % 64) ∷ later n c

unfoldable pub more : ℕ → ℕ
more c = if ltb c 0x80 then 0 else if ltb c 0x800 then 1 else if ltb c 0x10000 then 2 else 3

unfoldable pub encode : ℕ → List ℕ
unfolding more
encode c = (base (more c) + c / 64 ^ more c) ∷ later (more c) c

unfoldable pub is_scalar : ℕ → Bool
is_scalar c = leb c 0x10FFFF && not (within 0xD800 0xDFFF c)

-- the number that v and the n bytes that are due make; 0 where one is missing or not as due
abbrev pub gather : ℕ → ℕ → ℕ → ℕ → List ℕ → ℕ
gather zero lo hi v t = v
gather (suc n) lo hi v [] = 0
gather (suc n) lo hi v (b ∷ t) = if within lo hi b then gather n 0x80 0xBF (v * 64 + (b - 0x80)) t else 0

-- n later bytes, 80 to BF each, and nothing more
abbrev pub laters : ℕ → List ℕ → Bool
laters zero [] = true
laters zero (b ∷ t) = false
laters (suc n) [] = false
laters (suc n) (b ∷ t) = within 0x80 0xBF b && laters n t

-- how many bytes the character has that a byte begins; 0: it begins none
abbrev pub width_by : Due → ℕ
width_by broken = 0
width_by (due n lo hi) = suc n

unfoldable pub width : ℕ → ℕ
width b = width_by (lead b)

-- [01 Cutting] White space: ten ranges
abbrev pub spaces : List (ℕ × ℕ)
spaces =
    (0x9, 0xD) ∷ (0x20, 0x20) ∷ (0x85, 0x85) ∷ (0xA0, 0xA0) ∷ (0x1680, 0x1680) ∷
    (0x2000, 0x200A) ∷ (0x2028, 0x2029) ∷ (0x202F, 0x202F) ∷ (0x205F, 0x205F) ∷ (0x3000, 0x3000) ∷ []

abbrev pub in_ranges : List (ℕ × ℕ) → ℕ → Bool
in_ranges [] c = false
in_ranges (r ∷ rs) c = within r.0 r.1 c || in_ranges rs c

unfoldable pub is_space : ℕ → Bool
is_space c = in_ranges spaces c

-- how many bytes the white-space character at the front has; 0: none is there
abbrev pub space_at : Due → ℕ → List ℕ → ℕ
space_at broken b t = 0
space_at (due n lo hi) b t = if is_space (gather n lo hi (b - base n) t) then suc n else 0

abbrev pub space : List ℕ → ℕ
space [] = 0
space (b ∷ t) = space_at (lead b) b t
