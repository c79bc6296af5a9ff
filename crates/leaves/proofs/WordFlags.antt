-- Words of bytes: a word read byte by byte, the flags that a search for one byte sets in it, and the run that flags tell. Assumes nothing.
use Rattle.std.proofs.Common.{◌≡◌, ℕ, zero, suc, ◌+◌, ◌*◌, ◌/◌, ◌%◌, ◌^◌, ◌<◌, ◌≤◌, Bool, true, false, not, ◌&&◌, eqb, List, [], ◌∷◌, length, get_or, take, drop, sym, refl, ap, ◌∙◌, subst, ap₂, mul-one, arith, length-drop, length-take-le, eqb-true, le-leb, get_or-drop}
use lib.Bits.{bit_and, bit_or, bit_xor, and_block, and_le_l, and_le_r, and_mask, and_high, or_lt, or_mod, or_shr, or_add_and}
use lib.Bits.{xor_block, xor_lt, xor_self, xor_add_and, shifted_half, shifted_even}
use lib.Pow.{split}
use mir.Syntax.{w64, w8}
use mir.Val.{Fits}
use Rattle.std.specs.Int.{from_le_bytes}
use lib.Count.{count_trailing_zeros}
use borrow.Author.Tests.{lt-leb, eqb-false}
use Rattle.meaning.specs.Bytes.{span}
use Rattle.leaves.specs.Words.{other, neither, eight_run, Word, none, byte, Flags, end, stopped, passed}

-- n bytes that are the same; k behind n bytes; n steps past k
abbrev alike : ℕ → ℕ → ℕ
alike b zero = 0
alike b (suc n) = alike b n * 256 + b

abbrev behind : ℕ → ℕ → ℕ
behind k zero = k
behind k (suc n) = behind k n * 256

abbrev more : ℕ → ℕ → ℕ
more zero k = k
more (suc n) k = suc (more n k)

-- THE FLAGS that a search for one byte sets
abbrev flagged : ℕ → ℕ → ℕ → ℕ
flagged d y full = bit_and d (bit_xor y full)

-- two bytes that differ by no bit are the same
differs : (b s : ℕ) → (b ≡ s → ⊥) → bit_xor b s ≡ 0 → ⊥
differs b s n e = n (omega (arith, xor_add_and b s, and_le_l b s, and_le_r b s))

-- one byte: flagged if the borrow made 255 of 0, and not if it is one less than it was
zero_flagged : (x d : ℕ) → x ≡ 0 → d ≡ 255 → flagged d x 255 ≡ 255
zero_flagged x d e q = ap₂ (λ (k l : ℕ). flagged k l 255) q e

other_clear : (x d : ℕ) → x < 256 → d + 1 ≡ x → flagged d x 255 < 128
other_clear x d h e = omega (arith, and_le_l d (bit_xor x 255), and_le_r d (bit_xor x 255), xor_add_and x 255, and_mask x 8)

-- the lowest byte b of a word, and the bytes w behind it
module _ (s b w sames fulls d : ℕ) (hs : s < 256) (hb : b < 256) where
  -- what is told of all is told of the lowest byte and of the others
  word_is : bit_xor (w * 256 + b) (sames * 256 + s) ≡ bit_xor w sames * 256 + bit_xor b s
  word_is = xor_block 8 w sames b s hb hs

  flags_are : flagged d (bit_xor (w * 256 + b) (sames * 256 + s)) (fulls * 256 + 255)
      ≡ flagged (d / 256) (bit_xor w sames) fulls * 256 + flagged (d % 256) (bit_xor b s) 255
  flags_are =
      ap₂ bit_and (sym (split d 8)) (ap (λ (z : ℕ). bit_xor z (fulls * 256 + 255)) word_is
      ∙ xor_block 8 (bit_xor w sames) fulls (bit_xor b s) 255 (xor_lt 8 b s hb hs) (omega arith))
      ∙ and_block 8 (d / 256) (bit_xor (bit_xor w sames) fulls) (d % 256) (bit_xor (bit_xor b s) 255) (omega arith)
      (xor_lt 8 (bit_xor b s) 255 (xor_lt 8 b s hb hs) (omega arith))

  lowest_is : flagged d (bit_xor (w * 256 + b) (sames * 256 + s)) (fulls * 256 + 255) % 256 ≡ flagged (d % 256) (bit_xor b s) 255
  lowest_is = omega (arith, flags_are, and_le_l (d % 256) (bit_xor (bit_xor b s) 255))

  others_are : flagged d (bit_xor (w * 256 + b) (sames * 256 + s)) (fulls * 256 + 255) / 256 ≡ flagged (d / 256) (bit_xor w sames) fulls
  others_are = omega (arith, flags_are, and_le_l (d % 256) (bit_xor (bit_xor b s) 255))

  module _ (ones over : ℕ) (e : d + (ones * 256 + 1) ≡ bit_xor (w * 256 + b) (sames * 256 + s) + over * 256) where
    same_flagged : b ≡ s → 128 ≤ flagged d (bit_xor (w * 256 + b) (sames * 256 + s)) (fulls * 256 + 255) % 256
    same_flagged q =
        let x : bit_xor b s ≡ 0 = ap (bit_xor b) (sym q) ∙ xor_self b in
        let l : d % 256 ≡ 255 = omega (arith, word_is) in
        omega (arith, lowest_is, zero_flagged (bit_xor b s) (d % 256) x l)

    module _ (n : b ≡ s → ⊥) where
      one_less : d % 256 + 1 ≡ bit_xor b s
      one_less = let x = differs b s n in omega (arith, word_is, xor_lt 8 b s hb hs)

      other_passed : flagged d (bit_xor (w * 256 + b) (sames * 256 + s)) (fulls * 256 + 255) % 256 < 128
      other_passed = omega (arith, lowest_is, other_clear (bit_xor b s) (d % 256) (xor_lt 8 b s hb hs) one_less)

      others_less : d / 256 + ones ≡ bit_xor w sames + over
      others_less = omega (arith, word_is, one_less)

flags_in : (s : ℕ) → s < 256 → {t : List ℕ} {w : ℕ} → Word t w → (d k : ℕ)
    → d + alike 1 (length t) ≡ bit_xor w (alike s (length t)) + behind k (length t)
    → Flags (other s) t (flagged d (bit_xor w (alike s (length t))) (alike 255 (length t)))
flags_in s hs none d k e = end
flags_in s hs (byte {b} {w} {t} hb v) d k e = go (eqb b s) refl (λ d k e. flags_in s hs v d k e)
  where
    n : ℕ
    n = length t

    go : (z : Bool) → eqb b s ≡ z
        → ((d k : ℕ) → d + alike 1 n ≡ bit_xor w (alike s n) + behind k n → Flags (other s) t (flagged d (bit_xor w (alike s n)) (alike 255 n)))
        → Flags (other s) (b ∷ t) (flagged d (bit_xor (w * 256 + b) (alike s (suc n))) (alike 255 (suc n)))
    go true q ih = stopped (ap not q) (same_flagged s b w (alike s n) (alike 255 n) d hs hb (alike 1 n) (behind k n) e (eqb-true b s q))
    go false q ih =
        let o = eqb-false b s q in
        passed (ap not q) (other_passed s b w (alike s n) (alike 255 n) d hs hb (alike 1 n) (behind k n) e o)
        (subst (Flags (other s) t) (sym (others_are s b w (alike s n) (alike 255 n) d hs hb))
        (ih (d / 256) k (others_less s b w (alike s n) (alike 255 n) d hs hb (alike 1 n) (behind k n) e o)))

-- eight bytes, and a difference that wraps at 64 bits
pub flags_of : (w s d : ℕ) → s < 2 ^ 8 → (d + 0x0101010101010101) % 2 ^ 64 ≡ bit_xor w (s * 0x0101010101010101) → (t : List ℕ) → length t ≡ 8
    → Word t w → Flags (other s) t (flagged d (bit_xor w (s * 0x0101010101010101)) 0xFFFFFFFFFFFFFFFF)
flags_of w s d hs e t len v = subst At sames eight (omega arith)
  where
    k : ℕ
    k = (d + 0x0101010101010101) / 2 ^ 64

    At : ℕ → Type 0
    At a = d + 0x0101010101010101 ≡ bit_xor w a + behind k 8 → Flags (other s) t (flagged d (bit_xor w a) 0xFFFFFFFFFFFFFFFF)

    eight : At (alike s 8)
    eight =
        subst (λ (n : ℕ). d + alike 1 n ≡ bit_xor w (alike s n) + behind k n → Flags (other s) t (flagged d (bit_xor w (alike s n)) (alike 255 n))) len
        (flags_in s hs v d k)

    sames : alike s 8 ≡ s * 0x0101010101010101
    sames = omega arith

-- FLAGS of two searches
either_low : (f g : ℕ) → f ≤ bit_or f g
either_low f g = omega (arith, or_add_and f g, and_le_r f g)

either_high : (f g : ℕ) → g ≤ bit_or f g
either_high f g = omega (arith, or_add_and f g, and_le_l f g)

both_flags : {p q : ℕ → Bool} {t : List ℕ} {f g : ℕ} → Flags p t f → Flags q t g → Flags (λ (b : ℕ). p b && q b) t (bit_or f g)
both_flags end end = end
both_flags {p} {q} {f = f} {g = g} (stopped {b} e h) m =
    stopped {f = bit_or f g} (ap (λ (x : Bool). x && q b) e) (omega (arith, or_mod f g 8, either_low (f % 256) (g % 256)))
both_flags {f = f} {g = g} (passed e h v) (stopped k l) =
    stopped {f = bit_or f g} (ap₂ ◌&&◌ e k) (omega (arith, or_mod f g 8, either_high (f % 256) (g % 256)))
both_flags {p} {q} {f = f} {g = g} (passed {t = t} e h v) (passed k l m) =
    passed {f = bit_or f g} (ap₂ ◌&&◌ e k) (omega (arith, or_mod f g 8, or_lt 7 (f % 256) (g % 256) h l))
    (subst (Flags (λ (b : ℕ). p b && q b) t) (sym (or_shr f g 8)) (both_flags v m))

-- THE RUN that flags tell: zeros below the lowest flag, eight for each byte
zeros_more : (j k g : ℕ) → count_trailing_zeros (more j k) (g * 2 ^ j) ≡ more j (count_trailing_zeros k g)
unfolding count_trailing_zeros
zeros_more zero k g = ap (count_trailing_zeros k) (mul-one g)
zeros_more (suc j) k g = rw (shifted_even g j, shifted_half g j) (ap suc (zeros_more j k g))

odd_none : (k g : ℕ) → count_trailing_zeros (suc k) (g * 2 + 1) ≡ 0
unfolding count_trailing_zeros
odd_none k g = let z : (g * 2 + 1) % 2 ≡ 1 = omega arith in rw z

eight_more : (k : ℕ) → more 8 k / 8 ≡ suc (k / 8)
eight_more k = omega arith

-- the bits of n bytes
abbrev bits : ℕ → ℕ
bits zero = 0
bits (suc n) = more 8 (bits n)

module _ (f m : ℕ) where
  masked : bit_and f (m * 256 + 128) ≡ bit_and (f / 256) m * 256 + f % 256 / 128 * 128
  masked =
      let top : bit_and (f % 256) 128 ≡ f % 256 / 128 * 128 = omega (arith, and_high (f % 256) 1 7) in
      ap (λ (x : ℕ). bit_and x (m * 256 + 128)) (sym (split f 8)) ∙ and_block 8 (f / 256) m (f % 256) 128 (omega arith) (omega arith)
      ∙ ap (λ (x : ℕ). bit_and (f / 256) m * 256 + x) top

  run_none : (n : ℕ) → 128 ≤ f % 256 → count_trailing_zeros (more 8 n) (bit_and f (m * 256 + 128)) / 8 ≡ 0
  run_none n h =
      let z : bit_and f (m * 256 + 128) ≡ (bit_and (f / 256) m * 2 + 1) * 128 = omega (arith, masked) in
      ap (λ (x : ℕ). count_trailing_zeros (more 8 n) x / 8) z
      ∙ ap (λ (x : ℕ). x / 8) (zeros_more 7 (suc n) (bit_and (f / 256) m * 2 + 1) ∙ ap (more 7) (odd_none n (bit_and (f / 256) m)))

  run_one : (n : ℕ) → f % 256 < 128 → count_trailing_zeros (more 8 n) (bit_and f (m * 256 + 128)) / 8 ≡ suc (count_trailing_zeros n (bit_and (f / 256) m) / 8)
  run_one n h =
      let z : bit_and f (m * 256 + 128) ≡ bit_and (f / 256) m * 256 = omega (arith, masked) in
      ap (λ (x : ℕ). count_trailing_zeros (more 8 n) x / 8) z ∙ ap (λ (x : ℕ). x / 8) (zeros_more 8 n (bit_and (f / 256) m))
      ∙ eight_more (count_trailing_zeros n (bit_and (f / 256) m))

run_of : {p : ℕ → Bool} {t : List ℕ} {f : ℕ} → Flags p t f → count_trailing_zeros (bits (length t)) (bit_and f (alike 128 (length t))) / 8 ≡ span p t
unfolding count_trailing_zeros
run_of end = refl
run_of {f = f} (stopped {t = t} e h) = rw e (run_none f (alike 128 (length t)) (bits (length t)) h)
run_of {f = f} (passed {t = t} e h v) = rw e (run_one f (alike 128 (length t)) (bits (length t)) h ∙ ap suc (run_of v))

-- EIGHT BYTES at a place of a text
module _ (p : ℕ → Bool) (s : List ℕ) (at : ℕ) where
  pub eight_short : length s < at + 8 → 0 ≡ eight_run p s at
  unfolding eight_run
  eight_short h = rw (lt-leb (at + 8) (length s) h)

pub eight_told : (s : List ℕ) (at a b w f g : ℕ) → at + 8 ≤ length s → Word (take 8 (drop at s)) w
    → ((t : List ℕ) → length t ≡ 8 → Word t w → Flags (other a) t f)
    → ((t : List ℕ) → length t ≡ 8 → Word t w → Flags (other b) t g)
    → count_trailing_zeros 64 (bit_and (bit_or f g) 0x8080808080808080) / 8 ≡ eight_run (neither a b) s at
unfolding eight_run neither
eight_told s at a b w f g m v ka kb =
    let t = take 8 (drop at s) in
    let len : length t ≡ 8 = length-take-le 8 (drop at s) (omega (arith, length-drop at s)) in
    subst (λ (n : ℕ). count_trailing_zeros (bits n) (bit_and (bit_or f g) (alike 128 n)) / 8 ≡ span (neither a b) t) len
    (run_of (both_flags (ka t len v) (kb t len v)))
    ∙ rw (le-leb (at + 8) (length s) (omega arith))

-- EIGHT BYTES, read as one number
bytes_fit : (n : ℕ) (t : List ℕ) → ((i : ℕ) → get_or t i 0 < 256) → (i : ℕ) → get_or (take n t) i 0 < 256
bytes_fit zero t s i = omega arith
bytes_fit (suc n) [] s i = omega arith
bytes_fit (suc n) (b ∷ t) s zero = s 0
bytes_fit (suc n) (b ∷ t) s (suc i) = bytes_fit n t (λ j. s (suc j)) i

word_eight : (t : List ℕ) → length t ≡ 8 → ((i : ℕ) → get_or t i 0 < 256) → Word t (from_le_bytes w64 t)
word_eight (a ∷ b ∷ c ∷ d ∷ e ∷ f ∷ g ∷ h ∷ []) l s =
    let w = byte (s 0) (byte (s 1) (byte (s 2) (byte (s 3) (byte (s 4) (byte (s 5) (byte (s 6) (byte (s 7) none))))))) in
    subst (λ (n : ℕ). Word (a ∷ b ∷ c ∷ d ∷ e ∷ f ∷ g ∷ h ∷ []) n) (omega arith) w
word_eight t l s = absurd (omega arith)

pub word_at : (t : List ℕ) (at r : ℕ) (f : List ℕ) → at + 8 ≤ length t → ((i : ℕ) → Fits w8 (get_or t i 0)) → f ≡ take 8 (drop at t)
    → r ≡ from_le_bytes w64 f → Word (take 8 (drop at t)) r
word_at t at r f h s e q =
    let l : length (take 8 (drop at t)) ≡ 8 = length-take-le 8 (drop at t) (omega (arith, length-drop at t)) in
    let b : (i : ℕ) → get_or (drop at t) i 0 < 256 = λ i. rw (get_or-drop at t i 0) (s (at + i)).fits in
    subst (λ (n : ℕ). Word (take 8 (drop at t)) n) (sym (q ∙ ap (from_le_bytes w64) e)) (word_eight (take 8 (drop at t)) l (bytes_fit 8 (drop at t) b))
