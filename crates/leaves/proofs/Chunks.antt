-- Runs of bytes that pass a test, by the chunks that a text is cut into. Assumes nothing.
use Rattle.std.proofs.Common.{◌≡◌, ℕ, zero, suc, ◌+◌, ◌*◌, ◌/◌, ◌<◌, ◌≤◌, Bool, true, false, ◌&&◌, List, [], ◌∷◌, length, take, drop, get_or, sym, refl, ap, ◌∙◌, arith, length-take-le, drop_of_length-le, drop-cons, drop-drop, eqb, zero-add}
use Rattle.std.proofs.Math.Nat.{mul-le-mul_left}
use mathlib.Core.Bool.{and-true}
use mir.Val.{bool_byte}
use Rattle.std.specs.List.{list_all}
use Rattle.std.specs.Simd.{first_chunks}
use Rattle.std.specs.Prelude.{if◌then◌else◌}
use Rattle.meaning.specs.Bytes.{span}
use Rattle.leaves.specs.Blocks.{passes}
use Rattle.leaves.proofs.Scans.{passes_append, passes_span, Before, Counting, counting_on, counting_end}

pub all_passes : (p : ℕ → Bool) (t : List ℕ) → list_all p t ≡ passes p (length t) t
all_passes p [] = refl
all_passes p (b ∷ t) = ap (p b &&◌) (all_passes p t)

chunk_get : (n count k : ℕ) (xs d : List ℕ) → k < count → get_or (first_chunks n count xs) k d ≡ take n (drop (k * n) xs)
chunk_get n zero k xs d h = absurd (omega arith)
chunk_get n (suc c) zero xs d h = let z : 0 * n ≡ 0 = omega arith in ap (λ (i : ℕ). take n (drop i xs)) (sym z)
chunk_get n (suc c) (suc k) xs d h =
    let z : n + k * n ≡ suc k * n = omega arith in
    chunk_get n c k (drop n xs) d (omega arith) ∙ ap (take n) (drop-drop (k * n) n xs ∙ ap (λ (i : ℕ). drop i xs) z)

passes_take : (p : ℕ → Bool) (n m : ℕ) (t : List ℕ) → n ≤ m → passes p n (take m t) ≡ passes p n t
passes_take p zero m t h = refl
passes_take p (suc n) zero t h = absurd (omega arith)
passes_take p (suc n) (suc m) [] h = refl
passes_take p (suc n) (suc m) (b ∷ t) h = ap (p b &&◌) (passes_take p n m t (omega arith))

pub passes_front : (p : ℕ → Bool) (i n m : ℕ) (t : List ℕ) → i + n ≤ m → passes p n (drop i (take m t)) ≡ passes p n (drop i t)
passes_front p zero n m t h = passes_take p n m t (omega arith)
passes_front p (suc i) n zero t h = absurd (omega arith)
passes_front p (suc i) n (suc m) [] h = refl
passes_front p (suc i) n (suc m) (b ∷ t) h = passes_front p i n m t (omega arith)

-- a chunk by its place, and what it answers
pub chunk_at : (n k : ℕ) (xs : List ℕ) (chunks : List (List ℕ)) (d : List ℕ) → chunks ≡ first_chunks n (length xs / n) xs → k < length xs / n
    → get_or chunks k d ≡ take n (drop (k * n) xs)
chunk_at n k xs chunks d e h = ap (λ (l : List (List ℕ)). get_or l k d) e ∙ chunk_get n (length xs / n) k xs d h

pub chunk_passes : (p : ℕ → Bool) (n k : ℕ) (xs : List ℕ) (chunks : List (List ℕ)) (chunk : List ℕ) (x : Bool) → chunks ≡ first_chunks n (length xs / n) xs
    → k < length xs / n → chunk ≡ get_or chunks k chunk → x ≡ passes p n chunk → x ≡ passes p n (drop (k * n) xs)
chunk_passes p n k xs chunks chunk x e h g q =
    q ∙ ap (passes p n) (g ∙ chunk_at n k xs chunks chunk e h) ∙ passes_take p n n (drop (k * n) xs) (omega arith)

pub chunk_room : (n k m : ℕ) → 0 < n → k < m / n → k * n + n ≤ m
chunk_room n k m z h = let l : suc k ≤ m / n = omega arith in omega (arith, mul-le-mul_left n l)

pub chunk_end : (n k m : ℕ) → 0 < n → m / n ≤ k → m < k * n + n
chunk_end n k m z h = omega (arith, mul-le-mul_left n h)

-- the same of a text's front
pub front_passes : (p : ℕ → Bool) (n k m : ℕ) (t : List ℕ) (chunks : List (List ℕ)) (chunk : List ℕ) (x : Bool) → m ≤ length t → 0 < n
    → chunks ≡ first_chunks n (length (take m t) / n) (take m t) → k < length (take m t) / n → chunk ≡ get_or chunks k chunk → x ≡ passes p n chunk
    → (k * n + n ≤ m) × (x ≡ passes p n (drop (k * n) t))
front_passes p n k m t chunks chunk x h z e l g q =
    let w : length (take m t) ≡ m = length-take-le m t h in
    let r : k * n + n ≤ m = omega (arith, chunk_room n k (length (take m t)) z l, w) in
    (r, chunk_passes p n k (take m t) chunks chunk x e l g q ∙ passes_front p (k * n) n m t r)

pub before_more : (p : ℕ → Bool) (s : List ℕ) (i n : ℕ) → Before p s i → i + n ≤ length s → (x : Bool) → x ≡ passes p n (drop i s) → x ≡ true → Before p s (i + n)
before_more p s i n v h x e t = record { inside = h; pass = passes_append p i n (i + n) s refl ∙ rw v.pass (sym e ∙ t) }

-- A RUN at a text's front, byte by byte
module _ (p : ℕ → Bool) (s : List ℕ) (i : ℕ) (v : Before p s i) where
  pub before_byte : i < length s → (x : Bool) → x ≡ p (get_or s i 0) → x ≡ true → Before p s (i + 1)
  before_byte h x e t = before_more p s i 1 v (omega arith) x (e ∙ sym (ap (passes p 1) (drop-cons s i 0 h) ∙ and-true (p (get_or s i 0)))) t

  before_whole : span p (drop i s) ≡ 0 → i ≡ span p s
  before_whole e = omega (arith, passes_span p i s v.pass, e)

  pub before_stop : i < length s → (x : Bool) → x ≡ p (get_or s i 0) → x ≡ false → i ≡ span p s
  before_stop h x e t = before_whole (ap (span p) (drop-cons s i 0 h) ∙ rw (sym e ∙ t))

  pub before_end : length s ≤ i → i ≡ span p s
  before_end h = before_whole (ap (span p) (drop_of_length-le s h))

-- A BLOCK, counted byte by byte
pub byte_one : (x : Bool) (k : ℕ) → k ≡ bool_byte x → k ≡ (if x then 1 else 0)
byte_one true k e = e
byte_one false k e = e

module _ {p : ℕ → Bool} {n : ℕ} {s : List ℕ} {c j : ℕ} (v : Counting p n s 0 c j) where
  pub counting_next : j < n → (x : Bool) → x ≡ p (get_or s j 0) → (k : ℕ) → k ≡ bool_byte x → Counting p n s 0 (c + k) (j + 1)
  counting_next h x e k ek = counting_on v h x (e ∙ ap (λ (i : ℕ). p (get_or s i 0)) (sym (zero-add j))) k (byte_one x k ek)

  pub counting_done : n ≤ j → eqb c n ≡ passes p n s
  counting_done h = counting_end v h
