-- [02 T-07] Numbers as bits and bits as numbers, once over the width w: bytes (8), binary digits (1) and hex digits (4) are all such numbers. Each undoes the
-- other; how many there are; and zeros behind. Assumes nothing.
use mathlib.Core.Path.{◌≡◌, refl, ap, sym, ◌∙◌}
use mathlib.Core.Bool.{Bool, true, false}
use mathlib.Core.List.{List, [], ◌∷◌, ◌++◌, map, map-append, append_assoc, append-nil}
use Prim.Native.Nat.{ℕ, zero, suc, ◌+◌, ◌-◌, ◌*◌, ◌/◌, ◌%◌, ◌^◌, ◌≤◌, ◌<◌}
use native.Mathlib.Nat.{zero-add, suc-add, add_comm, add-zero, zero-mul, mul-zero, mul-one, mul-suc, mul-add, mul_comm, mul_assoc, pow-zero, pow-suc}
use native.Mathlib.Nat.{pow-succ', mul-lt-mul_of_pos_right, lt_of_mul-lt-mul_left, mod-lt, div-one, div-add-mod, div-eq_of_lt}
use native.Mathlib.Nat.{div-div-eq-div-mul, mul-div_cancel, mul-mod_left}
use native.Mathlib.Omega.{arith}
use borrow.Author.Tests.{ne_eqb, eqb-true, eqb-false}
use lib.Dec.{eqb}
use lib.Pow.{pow-add, pow_pos}
use lib.ListN.{length, replicate, length-append, length-map, length-replicate}
use Rattle.meaning.specs.Bytes.{◌!◌, digit}
use Rattle.std.specs.Prelude.{if◌then◌else◌}
use Rattle.meaning.specs.Packing.{bits_of_number, spread, gathered, gather, bits_in, pack_bits, packed_length}
use Rattle.laws.proofs.basics.Tests.{eqb_same}

-- every number is below m: bits are below 2, bytes below 256, numbers of w bits below 2 ^ w
abbrev pub Below : ℕ → List ℕ → Type 0
Below m [] = Unit {0}
Below m (b ∷ t) = (b < m) × Below m t

pub below_append : (m : ℕ) (s t : List ℕ) → Below m s → Below m t → Below m (s ++ t)
below_append m [] t h k = k
below_append m (b ∷ s) t h k = (h.0, below_append m s t h.1 k)

-- by places, as a lent slice has it
pub below_places : (m : ℕ) (t : List ℕ) → ((i : ℕ) → i < length t → t ! i < m) → Below m t
below_places m [] h = tt
below_places m (b ∷ t) h = (h 0 (omega arith), below_places m t (λ i k. h (suc i) (omega arith)))

-- THE BITS OF NUMBERS
pub length_bits_of_number : (w d : ℕ) → length (bits_of_number w d) ≡ w
length_bits_of_number zero d = refl
length_bits_of_number (suc w) d = ap suc (length_bits_of_number w d)

pub bits_of_number_below : (w d : ℕ) → Below 2 (bits_of_number w d)
bits_of_number_below zero d = tt
bits_of_number_below (suc w) d = (mod-lt (d / 2 ^ w) (omega arith), bits_of_number_below w d)

-- the high bits, then the low ones
pub bits_of_number_add : (k n d : ℕ) → bits_of_number (k + n) d ≡ bits_of_number k (d / 2 ^ n) ++ bits_of_number n d
bits_of_number_add zero n d = rw (zero-add n)
bits_of_number_add (suc k) n d =
    rw (suc-add k n, div-div-eq-div-mul d (2 ^ n) (2 ^ k), ← pow-add 2 n k, add_comm n k, bits_of_number_add k n d)

pub bits_of_number_split : (w n d : ℕ) → n ≤ w → bits_of_number w d ≡ bits_of_number (w - n) (d / 2 ^ n) ++ bits_of_number n d
bits_of_number_split w n d h =
    let e : w - n + n ≡ w = omega arith in
    ap (λ (k : ℕ). bits_of_number k d) (sym e) ∙ bits_of_number_add (w - n) n d

-- a number with n zeros behind it
pub bits_of_number_zeros : (n v : ℕ) → bits_of_number n (v * 2 ^ n) ≡ replicate n 0
bits_of_number_zeros zero v = refl
bits_of_number_zeros (suc n) v =
    rw (pow-succ' 2 n, ← mul_assoc v 2 (2 ^ n), mul-div_cancel (v * 2) (pow_pos n), mul-mod_left v 2, bits_of_number_zeros n (v * 2))

pub length_spread : (w : ℕ) (ns : List ℕ) → length (spread w ns) ≡ w * length ns
length_spread w [] = sym (mul-zero w)
length_spread w (d ∷ ns) = rw (length-append, length_bits_of_number, length_spread w ns, mul-suc) (omega arith)

pub spread_append : (w : ℕ) (a b : List ℕ) → spread w (a ++ b) ≡ spread w a ++ spread w b
spread_append w [] b = refl
spread_append w (d ∷ a) b = rw (spread_append w a b, append_assoc)

pub spread_below : (w : ℕ) (ns : List ℕ) → Below 2 (spread w ns)
spread_below w [] = tt
spread_below w (d ∷ ns) = below_append 2 (bits_of_number w d) (spread w ns) (bits_of_number_below w d) (spread_below w ns)

-- BITS AS NUMBERS. What is left to gather with v as the number so far and n bits missing: with none missing, v is the number
abbrev pub next : ℕ → ℕ → ℕ → List ℕ → List ℕ
next w zero v t = v ∷ gathered w w 0 t
next w (suc n) v t = gathered w (suc n) v t

pub gathered_bit : (w n v b : ℕ) (t : List ℕ) → gathered w (suc n) v (b ∷ t) ≡ next w n (v * 2 + b) t
gathered_bit w zero v b t = refl
gathered_bit w (suc n) v b t =
    let e : suc (suc n) - 1 ≡ suc n = omega arith in
    rw (ne_eqb (suc (suc n)) 1 (λ z. absurd (omega arith)), e)

-- the bits of a number that is added to v, once its higher bits are in v
next_behind : (w k n q d : ℕ) (t : List ℕ) → next w (k + n) (q + d / 2 ^ k) (bits_of_number k d ++ t) ≡ next w n (q * 2 ^ k + d) t
next_behind w zero n q d t = rw (zero-add n, pow-zero 2, div-one d, mul-one q)
next_behind w (suc k) n q d t =
    let e : (q + d / 2 ^ k / 2) * 2 + d / 2 ^ k % 2 ≡ q * 2 + d / 2 ^ k = omega arith in
    rw (
      suc-add k n,
      gathered_bit w (k + n) (q + d / 2 ^ suc k) (d / 2 ^ k % 2) (bits_of_number k d ++ t),
      pow-suc 2 k,
      ← div-div-eq-div-mul d (2 ^ k) 2,
      e,
      next_behind w k n (q * 2) d t,
      mul_assoc q 2 (2 ^ k),
      mul_comm 2 (2 ^ k),
    )

-- the bits of a whole number behind v
pub next_number : (w k n v d : ℕ) (t : List ℕ) → d < 2 ^ k → next w (k + n) v (bits_of_number k d ++ t) ≡ next w n (v * 2 ^ k + d) t
next_number w k n v d t h = rw (div-eq_of_lt h, add-zero) at (next_behind w k n v d t)

pub gathered_number : (w k n v d : ℕ) (t : List ℕ) → 0 < k → d < 2 ^ k
    → gathered w (k + n) v (bits_of_number k d ++ t) ≡ next w n (v * 2 ^ k + d) t
gathered_number w zero n v d t z h = absurd (omega arith)
gathered_number w (suc k) n v d t z h = rw (suc-add k n) (rw (suc-add k n) at (next_number w (suc k) n v d t h))

pub gather_spread : (w : ℕ) → 0 < w → (ns : List ℕ) → Below (2 ^ w) ns → gather w (spread w ns) ≡ ns
gather_spread w z [] h = rw (eqb_same w)
gather_spread w z (d ∷ ns) h =
    let e = gathered_number w w 0 0 d (spread w ns) z h.0 in
    (rw (add-zero w) at e) ∙ rw (zero-mul (2 ^ w), zero-add d, gather_spread w z ns h.1)

-- BACK. How many zeros the last number is filled up with, l bits on
abbrev pub missing : ℕ → ℕ → ℕ → ℕ
missing w n zero = if eqb n w then 0 else n
missing w n (suc l) = if eqb n 1 then missing w w l else missing w (n - 1) l

pub missing_bit : (w n l : ℕ) → missing w (suc (suc n)) (suc l) ≡ missing w (suc n) l
missing_bit w n l =
    let e : suc (suc n) - 1 ≡ suc n = omega arith in
    rw (ne_eqb (suc (suc n)) 1 (λ z. absurd (omega arith)), e)

pub missing_lt : (w n l : ℕ) → 0 < n → n ≤ w → missing w n l < w
missing_lt w n zero z h = go (eqb n w) refl
  where
    go : (x : Bool) → eqb n w ≡ x → (if x then 0 else n) < w
    go true e = omega arith
    go false e = omega (arith, eqb-false n w e)
missing_lt w zero (suc l) z h = absurd (omega arith)
missing_lt w (suc zero) (suc l) z h = missing_lt w w l (omega arith) (omega arith)
missing_lt w (suc (suc n)) (suc l) z h = rw (missing_bit w n l) (missing_lt w (suc n) l (omega arith) (omega arith))

pub length_gathered : (w n v : ℕ) (t : List ℕ) → 0 < n → n ≤ w
    → w * length (gathered w n v t) ≡ w - n + length t + missing w n (length t)
length_gathered w n v [] z h = go (eqb n w) refl
  where
    go : (x : Bool) → eqb n w ≡ x → w * length (if x then [] else (v * 2 ^ n ∷ [])) ≡ w - n + 0 + (if x then 0 else n)
    go true e = rw (mul-zero w, eqb-true n w e) (omega arith)
    go false e = rw (mul-one w) (omega arith)
length_gathered w zero v (b ∷ t) z h = absurd (omega arith)
length_gathered w (suc zero) v (b ∷ t) z h =
    rw (mul-suc w (length (gathered w w 0 t)), length_gathered w w 0 t (omega arith) (omega arith)) (omega arith)
length_gathered w (suc (suc n)) v (b ∷ t) z h =
    rw (gathered_bit w (suc n) v b t, missing_bit w n (length t), length_gathered w (suc n) (v * 2 + b) t (omega arith) (omega arith)) (omega arith)

-- a bit behind a number
bits_of_number_bit : (w v b : ℕ) → 0 < w → b < 2 → bits_of_number w (v * 2 + b) ≡ bits_of_number (w - 1) v ++ (b ∷ [])
bits_of_number_bit w v b z h =
    let e : (v * 2 + b) / 2 ^ 1 ≡ v = omega arith in
    let f : (v * 2 + b) / 2 ^ 0 % 2 ≡ b = omega arith in
    rw (e, f) at (bits_of_number_split w 1 (v * 2 + b) z)

pub spread_gathered : (w n v : ℕ) (t : List ℕ) → 0 < n → n ≤ w → Below 2 t
    → spread w (gathered w n v t) ≡ bits_of_number (w - n) v ++ (t ++ replicate (missing w n (length t)) 0)
spread_gathered w n v [] z h b = go (eqb n w) refl
  where
    go : (x : Bool) → eqb n w ≡ x
        → spread w (if x then [] else (v * 2 ^ n ∷ [])) ≡ bits_of_number (w - n) v ++ replicate (if x then 0 else n) 0
    go true e =
        let k : w - n ≡ 0 = omega (arith, eqb-true n w e) in
        rw k
    go false e =
        append-nil (bits_of_number w (v * 2 ^ n)) ∙ bits_of_number_split w n (v * 2 ^ n) h
        ∙ rw (mul-div_cancel v (pow_pos n), bits_of_number_zeros n v)
spread_gathered w zero v (c ∷ t) z h b = absurd (omega arith)
spread_gathered w (suc zero) v (c ∷ t) z h b =
    let e : w - w ≡ 0 = omega arith in
    rw (bits_of_number_bit w v c h b.0, spread_gathered w w 0 t h (omega arith) b.1, e, append_assoc)
spread_gathered w (suc (suc n)) v (c ∷ t) z h b =
    let e : w - suc n - 1 ≡ w - suc (suc n) = omega arith in
    rw (
      gathered_bit w (suc n) v c t,
      missing_bit w n (length t),
      spread_gathered w (suc n) (v * 2 + c) t (omega arith) (omega arith) b.1,
      bits_of_number_bit (w - suc n) v c (omega arith) b.0,
      e,
      append_assoc,
    )

-- the numbers are below 2 ^ w
next_lt : (k v b : ℕ) → v < 2 ^ k → b < 2 → v * 2 + b < 2 ^ suc k
next_lt k v b h l = rw (pow-suc 2 k) (omega arith)

pub gathered_below : (w n v : ℕ) (t : List ℕ) → 0 < n → n ≤ w → v < 2 ^ (w - n) → Below 2 t → Below (2 ^ w) (gathered w n v t)
gathered_below w n v [] z h l b = go (eqb n w)
  where
    e : w - n + n ≡ w
    e = omega arith

    go : (x : Bool) → Below (2 ^ w) (if x then [] else (v * 2 ^ n ∷ []))
    go true = tt
    go false = (rw (← pow-add 2 (w - n) n, e) at (mul-lt-mul_of_pos_right l (pow_pos n)), tt)
gathered_below w zero v (c ∷ t) z h l b = absurd (omega arith)
gathered_below w (suc zero) v (c ∷ t) z h l b =
    let e : suc (w - 1) ≡ w = omega arith in
    let f : w - w ≡ 0 = omega arith in
    (rw e at (next_lt (w - 1) v c l b.0), gathered_below w w 0 t h (omega arith) (rw f (omega arith)) b.1)
gathered_below w (suc (suc n)) v (c ∷ t) z h l b =
    let e : suc (w - suc (suc n)) ≡ w - suc n = omega arith in
    rw (gathered_bit w (suc n) v c t)
    (gathered_below w (suc n) (v * 2 + c) t (omega arith) (omega arith) (rw e at (next_lt (w - suc (suc n)) v c l b.0)) b.1)

-- zeros behind the bits, no more than are missing: the same numbers
zeros_alone : (w n v m : ℕ) → 0 < n → n < w → m ≤ n → gathered w n v (replicate m 0) ≡ v * 2 ^ n ∷ []
zeros_alone w n v zero z h l = rw (ne_eqb n w (λ e. absurd (omega arith)))
zeros_alone w zero v (suc m) z h l = absurd (omega arith)
zeros_alone w (suc zero) v (suc m) z h l =
    let e : m ≡ 0 = omega arith in
    rw (e, eqb_same w, add-zero (v * 2))
zeros_alone w (suc (suc n)) v (suc m) z h l =
    rw (
      gathered_bit w (suc n) v 0 (replicate m 0),
      zeros_alone w (suc n) (v * 2 + 0) m (omega arith) (omega arith) (omega arith),
      add-zero (v * 2),
      pow-succ' 2 (suc n),
      mul_assoc v 2 (2 ^ suc n),
    )

pub gathered_zeros : (w n v m : ℕ) (t : List ℕ) → 0 < n → n ≤ w → m ≤ missing w n (length t)
    → gathered w n v (t ++ replicate m 0) ≡ gathered w n v t
gathered_zeros w n v m [] z h l = go (eqb n w) refl l
  where
    go : (x : Bool) → eqb n w ≡ x → m ≤ (if x then 0 else n) → gathered w n v (replicate m 0) ≡ (if x then [] else (v * 2 ^ n ∷ []))
    go true e l =
        let k : m ≡ 0 = omega arith in
        rw (k, e)
    go false e l = zeros_alone w n v m z (omega (arith, eqb-false n w e)) l
gathered_zeros w zero v m (c ∷ t) z h l = absurd (omega arith)
gathered_zeros w (suc zero) v m (c ∷ t) z h l = rw (gathered_zeros w w 0 m t h (omega arith) l)
gathered_zeros w (suc (suc n)) v m (c ∷ t) z h l =
    rw (gathered_bit w (suc n) v c (t ++ replicate m 0), gathered_bit w (suc n) v c t)
    (gathered_zeros w (suc n) (v * 2 + c) m t (omega arith) (omega arith) (rw (missing_bit w n (length t)) at l))

-- FROM THE START. The length rounded up to whole numbers
abbrev pub units : ℕ → ℕ → ℕ
units w l = l / w + (if eqb (l % w) 0 then 0 else 1)

module _ (w : ℕ) (some : 0 < w) where
  pub units_most : (l : ℕ) → (l ≤ w * units w l) × (w * units w l < l + w)
  units_most l = go (eqb (l % w) 0) refl
    where
      go : (x : Bool) → eqb (l % w) 0 ≡ x → (l ≤ w * (l / w + (if x then 0 else 1))) × (w * (l / w + (if x then 0 else 1)) < l + w)
      go true e = rw (add-zero (l / w)) (omega (arith, div-add-mod l w, eqb-true (l % w) 0 e))
      go false e = rw (mul-add w (l / w) 1, mul-one w) (omega (arith, div-add-mod l w, eqb-false (l % w) 0 e, mod-lt l some))

  -- only one number is so
  units_only : (l a : ℕ) → l ≤ w * a → w * a < l + w → a ≡ units w l
  units_only l a p q =
      let k = units_most l in
      let u : w * suc a ≡ w * a + w = mul-suc w a in
      let u' : w * suc (units w l) ≡ w * units w l + w = mul-suc w (units w l) in
      let m : a < suc (units w l) = lt_of_mul-lt-mul_left w (omega arith) in
      let m' : units w l < suc a = lt_of_mul-lt-mul_left w (omega arith) in
      omega arith

  pub length_gather : (t : List ℕ) → length (gather w t) ≡ units w (length t)
  length_gather t =
      units_only (length t) (length (gather w t)) (omega (arith, length_gathered w w 0 t some (omega arith)))
      (omega (arith, length_gathered w w 0 t some (omega arith), missing_lt w w (length t) some (omega arith)))

  -- the zeros that fill the last number up
  pub missing_units : (l : ℕ) → missing w w l ≡ w * units w l - l
  missing_units l =
      let e = length_gathered w w 0 (replicate l 0) some (omega arith) in
      let f = rw (length_gather (replicate l 0), length-replicate l) at e in
      omega arith

  pub spread_gather : (t : List ℕ) → Below 2 t → spread w (gather w t) ≡ t ++ replicate (w * units w (length t) - length t) 0
  spread_gather t b =
      let e : w - w ≡ 0 = omega arith in
      rw (e, missing_units (length t)) at (spread_gathered w w 0 t some (omega arith) b)

  pub gather_below : (t : List ℕ) → Below 2 t → Below (2 ^ w) (gather w t)
  gather_below t b =
      let f : w - w ≡ 0 = omega arith in
      gathered_below w w 0 t some (omega arith) (rw f (omega arith)) b

  pub gather_zeros : (m : ℕ) (t : List ℕ) → length t + m ≤ w * units w (length t) → gather w (t ++ replicate m 0) ≡ gather w t
  gather_zeros m t h = gathered_zeros w w 0 m t some (omega arith) (omega (arith, missing_units (length t)))

-- THE DIGITS OF A TEXT
pub length_bits_in : (k : ℕ) (v : List ℕ) → length (bits_in k v) ≡ k * length v
unfolding bits_in
length_bits_in k v = rw (length_spread, length-map)

pub bits_in_append : (k : ℕ) (a b : List ℕ) → bits_in k (a ++ b) ≡ bits_in k a ++ bits_in k b
unfolding bits_in
bits_in_append k a b = rw (map-append, spread_append)

pub bits_in_below : (k : ℕ) (v : List ℕ) → Below 2 (bits_in k v)
unfolding bits_in
bits_in_below k v = spread_below k (map digit v)

-- BYTES
pub length_pack_bits : (t : List ℕ) → length (pack_bits t) ≡ packed_length (length t)
unfolding pack_bits
length_pack_bits t = length_gather 8 (omega arith) t
