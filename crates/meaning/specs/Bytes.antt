-- Bytes, their classes, and runs of digits. A text is a list of bytes; `t ! i` is the byte at place i, and 0 past the end.
-- Assumes nothing.
use Rattle.std.specs.Prelude.{if◌then◌else◌, Bool, true, false, ◌&&◌, ◌||◌, List, [], ◌∷◌, ℕ, zero, suc, ◌+◌, ◌-◌, ◌*◌, eqb, leb, ltb, length, get_or, take, drop}
use Prim.Native.Char.{code}
use Prim.Native.String.{String}

infixl 80 ◌!◌
abbrev pub ◌!◌ : List ℕ → ℕ → ℕ
t ! i = get_or t i 0

-- the bytes from place f up to place u
abbrev pub part : ℕ → ℕ → List ℕ → List ℕ
part f u t = take (u - f) (drop f t)

-- the bytes of an ASCII text between quotes
abbrev pub ascii : String → List ℕ
ascii String.[] = []
ascii (String.◌∷◌ c s) = code c ∷ ascii s

abbrev pub has : ℕ → List ℕ → Bool
has b [] = false
has b (c ∷ t) = eqb b c || has b t

abbrev pub all_zero : List ℕ → Bool
all_zero [] = true
all_zero (b ∷ t) = eqb b 0 && all_zero t

-- two texts are the same; the first begins the second
abbrev pub same : List ℕ → List ℕ → Bool
same [] [] = true
same [] (c ∷ u) = false
same (b ∷ t) [] = false
same (b ∷ t) (c ∷ u) = eqb b c && same t u

abbrev pub starts : List ℕ → List ℕ → Bool
starts [] u = true
starts (b ∷ t) [] = false
starts (b ∷ t) (c ∷ u) = eqb b c && starts t u

-- how many bytes at the front pass a test
abbrev pub span : (ℕ → Bool) → List ℕ → ℕ
span p [] = 0
span p (b ∷ t) = if p b then suc (span p t) else 0

abbrev pub quote : ℕ
quote = 39

abbrev pub dquote : ℕ
dquote = 34

abbrev pub backslash : ℕ
backslash = 92

unfoldable pub within : ℕ → ℕ → ℕ → Bool
within lo hi b = leb lo b && leb b hi

unfoldable pub is_mark : ℕ → Bool
is_mark b = has b (quote ∷ dquote ∷ [])

unfoldable pub is_letter : ℕ → Bool
unfolding within
is_letter b = within 65 90 b || within 97 122 b

unfoldable pub is_decimal : ℕ → Bool
unfolding within
is_decimal b = within 48 57 b

-- [01 Cutting] a charset name's bytes: ASCII letters, digits and _
unfoldable pub in_name : ℕ → Bool
unfolding is_letter is_decimal
in_name b = is_letter b || is_decimal b || eqb b 95

-- [01 One segment, Dollar] a tag starts with a letter, _ or a byte from 80 hex, then also digits
unfoldable pub starts_tag : ℕ → Bool
unfolding is_letter
starts_tag b = is_letter b || eqb b 95 || leb 0x80 b

unfoldable pub in_tag : ℕ → Bool
unfolding starts_tag is_decimal
in_tag b = starts_tag b || is_decimal b

-- the digit that a byte is, 0 to 15, in either case; 16 if it is none. It is a digit of base β if it is below β
unfoldable pub digit : ℕ → ℕ
unfolding within
digit b = if within 48 57 b then b - 48 else if within 65 70 b then b - 55 else if within 97 102 b then b - 87 else 16

-- how many digits of base β stand at the front, w at the most; and the number that v and the next n digits make, where there are n
abbrev pub digits : ℕ → ℕ → List ℕ → ℕ
digits β zero t = 0
digits β (suc w) [] = 0
digits β (suc w) (b ∷ t) = if ltb (digit b) β then suc (digits β w t) else 0

abbrev pub number : ℕ → ℕ → ℕ → List ℕ → ℕ
number β zero v t = v
number β (suc n) v [] = v
number β (suc n) v (b ∷ t) = number β n (v * β + digit b) t

-- every byte is a digit of base β
unfoldable pub all_digits : ℕ → List ℕ → Bool
all_digits β t = eqb (digits β (length t) t) (length t)
