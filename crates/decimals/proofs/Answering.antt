-- What is answered and left in the buffer by a function that writes a text there: no room, the text, a text behind one byte, decimal text of 128
-- bits. Assumes nothing.
use Rattle.std.specs.Prelude.{Result, Ok, Err}
use Rattle.std.proofs.Common.{◌≡◌, ℕ, suc, ◌+◌, ◌-◌, ◌*◌, ◌^◌, ◌<◌, ◌≤◌, List, [], ◌∷◌, ◌++◌, length, drop, set, refl, ap, ◌∙◌, le_trans, lt_of_lt_of_le, le-add_right, mul-le-mul_right, mod-eq_of_lt, one-add, arith, lit<, lit≤, w64, Fits, le-ltb, lt-ltb, le-leb}
use borrow.Author.Tests.{lt-leb}
use borrow.Rule.Slice.PartMut.{put_mid}
use Rattle.meaning.specs.declared.ReadText.{ReadText}
use Rattle.meaning.specs.declared.ReadRefusal.{ReadRefusal}
use Rattle.meaning.specs.declared.ReadText.TheVariants.{Written}
use Rattle.meaning.specs.declared.ReadRefusal.TheVariants.{NoRoom}
use Rattle.meaning.specs.Reading.{written}
use Rattle.meaning.specs.Answers.{filled}
use Rattle.meaning.specs.Reads.{Reads}
use Rattle.meaning.specs.Numbers.{digits_of}
use Rattle.meaning.specs.Halves.{joined_halves, text_of, negated_low, negated_high}
use Rattle.laws.proofs.basics.Halves.{joined_halves_negated, digits_of_length, joined_halves_lt}
use Rattle.numbers.specs.declared.radix.Halves.{Halves}
use Rattle.numbers.specs.Values.{in_halves}
use Rattle.decimals.proofs.Halving.{below_half}

module _ (t out : List ℕ) (k : ℕ) (e : k ≡ length t) where
  pub reads_short : length out < k → Reads (written t) out (Err (NoRoom k)) out
  unfolding filled
  reads_short h =
      let s = lt-leb (length t) (length out) (rw e at h) in
      record { answer = rw (s, e); buffer = rw s }

  pub reads_wrote : k ≤ length out → (new : List ℕ) → new ≡ t ++ drop k out → Reads (written t) out (Ok (Written k)) new
  unfolding filled
  reads_wrote h new g =
      let s = le-leb (length t) (length out) (rw e at h) in
      record { answer = rw (s, e); buffer = rw (s, g, e) }

  pub reads_filled : k ≤ length out → (d : List ℕ) → d ≡ t → Reads (written t) out (Ok (Written k)) (d ++ drop k out)
  reads_filled h d g = reads_wrote h (d ++ drop k out) (ap (◌++ drop k out) g)

-- behind one byte
module _ (b : ℕ) (t out : List ℕ) (k : ℕ) (e : k ≡ length t) where
  behind : 1 + k ≡ length (b ∷ t)
  behind = one-add k ∙ ap suc e

  pub behind_short : length out < 1 + k → Reads (written (b ∷ t)) out (Err (NoRoom (1 + k))) out
  behind_short h = reads_short (b ∷ t) out (1 + k) behind h

  first : (out d : List ℕ) → 1 ≤ length out → d ≡ t → set (put_mid 1 k out d) 0 b ≡ (b ∷ t) ++ drop (1 + k) out
  first [] d h g = absurd (omega arith)
  first (x ∷ xs) d h g = rw (g, one-add k) refl

  pub behind_wrote : 1 + k ≤ length out → (d : List ℕ) → d ≡ t → Reads (written (b ∷ t)) out (Ok (Written (1 + k))) (set (put_mid 1 (1 + k - 1) out d) 0 b)
  behind_wrote h d g =
      let n : 1 + k - 1 ≡ k = omega arith in
      reads_wrote (b ∷ t) out (1 + k) behind h (set (put_mid 1 (1 + k - 1) out d) 0 b)
      (ap (λ (j : ℕ). set (put_mid 1 j out d) 0 b) n ∙ first out d (omega arith) g)

-- the digits of 128 bits and a byte more
pub digits_fit : (hi lo k : ℕ) → Fits w64 hi → Fits w64 lo → k ≡ length (digits_of (joined_halves hi lo)) → Fits w64 (1 + k)
digits_fit hi lo k f g e =
    let h = digits_of_length 38 (joined_halves hi lo) (lt_of_lt_of_le (joined_halves_lt hi lo f.fits g.fits) (lit≤ tt)) in omega arith

-- `print_halves`, over variables so that no number of 39 digits comes to omega
less : (N n : ℕ) → 0 < N → 0 < n → N - n < N
less N n h k = omega arith

above : (hi lo : ℕ) → 2 ^ 63 ≤ hi → 2 ^ 127 ≤ joined_halves hi lo
above hi lo h = le_trans (mul-le-mul_right (2 ^ 64) h) (le-add_right (hi * 2 ^ 64) lo)

module _ (hi lo : ℕ) {out after : List ℕ} {r : Result ReadText ReadRefusal} (f : Fits w64 lo) where
  pub text_plus : hi < 2 ^ 63 → Reads (written (digits_of (joined_halves hi lo))) out r after → Reads (written (text_of (joined_halves hi lo))) out r after
  unfolding text_of
  text_plus h p = rw (lt-ltb (joined_halves hi lo) (2 ^ 127) (below_half hi lo h f.fits)) p

  pub text_minus : 2 ^ 63 ≤ hi → Fits w64 hi → (m : Halves) → m ≡ in_halves (negated_high hi lo) (negated_low lo)
      → Reads (written (45 ∷ digits_of (joined_halves m.hi m.lo))) out r after → Reads (written (text_of (joined_halves hi lo))) out r after
  unfolding text_of
  text_minus k g m e p =
      let j : joined_halves m.hi m.lo ≡ 2 ^ 128 - joined_halves hi lo =
      ap (λ (x : Halves). joined_halves x.hi x.lo) e ∙ joined_halves_negated hi lo g.fits f.fits
      ∙ mod-eq_of_lt (less (2 ^ 128) (joined_halves hi lo) (lit< tt) (lt_of_lt_of_le (lit< {m = 0} {n = 2 ^ 127} tt) (above hi lo k))) in
      rw (le-ltb (joined_halves hi lo) (2 ^ 127) (above hi lo k)) (rw j at p)
