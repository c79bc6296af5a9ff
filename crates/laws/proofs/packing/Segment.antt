-- [02 T-07] A text that is one segment of bits: a letter, and digits between quote marks. What it means at every setting; and a text that is one segment,
-- begins with its kind's letter and means something is so. Assumes nothing.
use mathlib.Core.Path.{◌≡◌, refl, ap, sym, ◌∙◌}
use mathlib.Core.Bool.{Bool, true, false, ◌&&◌, ◌||◌, and-false, false≢true}
use mathlib.Core.List.{List, [], ◌∷◌, ◌++◌}
use Prim.Native.Nat.{ℕ, zero, suc, ◌+◌, ◌-◌, ◌≤◌, ◌<◌}
use native.Mathlib.Nat.{zero-add, add-zero, lt_of_lt_of_le}
use native.Mathlib.Omega.{arith}
use borrow.Author.Tests.{eqb-true}
use lib.Dec.{eqb}
use lib.ListN.{length, take, drop, length-append}
use lib.Seq.{take-length, drop-length, get_or-drop}
use Rattle.meaning.specs.declared.Settings.{Settings}
use Rattle.meaning.specs.declared.BitStringRadix.{BitStringRadix}
use Rattle.meaning.specs.declared.BitStringRadix.TheVariants.{Binary, Hex}
use Rattle.meaning.specs.Bytes.{◌!◌, part, ascii, has, quote, backslash, is_mark, within, digit, all_digits}
use Rattle.std.specs.Prelude.{if◌then◌else◌}
use Rattle.meaning.specs.Chars.{Due, utf8, whole, pushes}
use Rattle.meaning.specs.Walk.{keep, give, stop, gave, ended, after, walk, size, stops}
use Rattle.meaning.specs.Steps.{closing_step, doubled}
use Rattle.meaning.specs.Cutting.{hides, opening, segment, segment_by, segment_step, cut}
use Rattle.meaning.specs.Reading.{borrowed, Value, means, fails, value_of, both, as_written}
use Rattle.meaning.specs.Kinds.{bit_body, first_bits, borrowed_as, bits_by, bits}
use Rattle.meaning.specs.Packing.{radix_letter}
use Rattle.laws.proofs.basics.Tests.{true→T, eqb_same, and_right}
use Rattle.laws.proofs.basics.Digits.{DigitsTo, digit_low, all_digits_of, all_digits_at}
use Rattle.laws.proofs.basics.Enclosed.{part_behind}
use Rattle.laws.proofs.utf8.Utf8.{low_lead}
use Rattle.laws.proofs.walking.Walks.{walk_drop, Exact, stop_at}
use Rattle.laws.proofs.cutting.Openings.{Opens, by_mark, by_letter, by_unicode, by_name, opens, segment_of_lem, segment_fits}
use Rattle.laws.proofs.questions.Ranges.{AnswerIn}
use Rattle.laws.proofs.writing.Written.{closes_behind}
use Rattle.laws.proofs.joining.Joining.{fails≢means}
use Rattle.laws.proofs.dates.Joined.{quoted_end}
use Rattle.laws.proofs.packing.Gathered.{Below, below_append}

-- A TEXT THAT IS ONE SEGMENT is cut into itself
alone_cut : (σ : Settings) (b : ℕ) (u : List ℕ) → segment σ (b ∷ u) ≡ suc (length u) → cut σ (b ∷ u) ≡ gave (length u) (b ∷ u) ended
unfolding cut segment_step
alone_cut σ b u h =
    rw (h, drop-length u, add-zero (length u), take-length u, walk_drop (segment_step σ) (length u) u, drop-length u)

pub alone_bits : (σ : Settings) (β : ℕ) (t : List ℕ) → 0 < length t → segment σ t ≡ length t → bits σ β t ≡ borrowed_as 2 (length t - 1) (first_bits β t)
unfolding bits
alone_bits σ β [] some h = absurd (omega arith)
alone_bits σ β (b ∷ u) some h = rw (alone_cut σ b u h, eqb_same (suc (length u)))

-- A LETTER AND DIGITS
abbrev pub bit_text : BitStringRadix → List ℕ → List ℕ
bit_text r ds = radix_letter r ∷ (quote ∷ (ds ++ (quote ∷ [])))

-- a digit is neither a quote mark nor a backslash
digit_apart : (b : ℕ) → digit b < 16 → (eqb b backslash ≡ false) × (eqb b quote ≡ false)
unfolding digit within
digit_apart b h = (go backslash refl (eqb b backslash) refl, go quote refl (eqb b quote) refl)
  where
    go : (c : ℕ) → digit c ≡ 16 → (x : Bool) → eqb b c ≡ x → x ≡ false
    go c n true e = absurd (let k = ap digit (eqb-true b c e) in omega arith)
    go c n false e = refl

pub digits_exact : (h : Bool) (ds : List ℕ) → DigitsTo 16 (length ds) ds → Exact (closing_step h quote) ds
digits_exact h [] d = refl
digits_exact h (b ∷ ds) d =
    let a = digit_apart b (d 0 (omega arith)) in
    rw (a.0, and-false h, a.1) (ap suc (digits_exact h ds (λ i k. d (suc i) (omega arith))))

pub bit_text_segment : (r : BitStringRadix) (σ : Settings) (ds : List ℕ) → DigitsTo 16 (length ds) ds
    → segment σ (bit_text r ds) ≡ length (bit_text r ds)
unfolding segment is_mark
bit_text_segment Binary σ ds d = closes_behind (hides σ (bit_text Binary ds)) ds [] (digits_exact _ ds d) refl 2 ∙ omega (arith, length-append ds (quote ∷ []))
bit_text_segment Hex σ ds d = closes_behind (hides σ (bit_text Hex ds)) ds [] (digits_exact _ ds d) refl 2 ∙ omega (arith, length-append ds (quote ∷ []))

letter_right : (r : BitStringRadix) → has (radix_letter r) (ascii "BbXx") ≡ true
letter_right Binary = refl
letter_right Hex = refl

-- it means its digits, at every setting
module _ (r : BitStringRadix) (σ : Settings) (β : ℕ) (low : β ≤ 16) (ds : List ℕ) (d : DigitsTo β (length ds) ds) where
  abbrev t : List ℕ
  t = bit_text r ds

  body_is : part 2 (length t - 1) t ≡ ds
  body_is = part_behind (radix_letter r ∷ (quote ∷ [])) quote ds

  pub bit_text_first : first_bits β t ≡ means ds
  unfolding bit_body
  bit_text_first = rw (letter_right r, body_is, all_digits_of β ds d)

  pub bit_text_bits : bits σ β t ≡ borrowed 2 (length t - 1)
  bit_text_bits =
      alone_bits σ β t (omega arith) (bit_text_segment r σ ds (λ i k. lt_of_lt_of_le (d i k) low)) ∙ ap (borrowed_as 2 (length t - 1)) bit_text_first

  pub bit_text_means : value_of t (bits σ β t) ≡ means ds
  bit_text_means = ap (value_of t) bit_text_bits ∙ ap means body_is

-- and is UTF-8
pub low_utf8 : (t : List ℕ) → Below 0x80 t → utf8 t ≡ true
unfolding utf8
low_utf8 [] h = refl
low_utf8 (b ∷ t) h = ap (λ (d : Due). whole (pushes d t)) (low_lead b h.0) ∙ low_utf8 t h.1

pub digits_low : (ds : List ℕ) → DigitsTo 16 (length ds) ds → Below 0x80 ds
digits_low [] d = tt
digits_low (b ∷ ds) d = (digit_low b (d 0 (omega arith)), digits_low ds (λ i k. d (suc i) (omega arith)))

pub bit_text_utf8 : (r : BitStringRadix) (ds : List ℕ) → DigitsTo 16 (length ds) ds → utf8 (bit_text r ds) ≡ true
bit_text_utf8 r ds d =
    low_utf8 (bit_text r ds)
    (letter_low r, (omega arith, below_append 0x80 ds (quote ∷ []) (digits_low ds d) (omega arith, tt)))
  where
    letter_low : (r : BitStringRadix) → radix_letter r < 0x80
    letter_low Binary = omega arith
    letter_low Hex = omega arith

-- BACK. The last byte of a segment is its mark
closing_stop : (h : Bool) (q d : ℕ) (t : List ℕ) → closing_step h q (d ∷ t) ≡ stop → d ≡ q
closing_stop h q d t = go (h && eqb d backslash) (eqb d q) refl
  where
    go : (x y : Bool) → eqb d q ≡ y → (if x then give 1 [] else if y then doubled q t else keep) ≡ stop → d ≡ q
    go true y e s = let z : ◌≡◌ {A = ℕ} 0 1 = cc in absurd (omega arith)
    go false true e s = eqb-true d q e
    go false false e s = let z : ◌≡◌ {A = ℕ} 0 1 = cc in absurd (omega arith)

closing_at : (h : Bool) (q : ℕ) (t : List ℕ) → stops (walk (closing_step h q) 0 t) ≡ true → t ! size (walk (closing_step h q) 0 t) ≡ q
closing_at h q t s =
    let m : ℕ = size (walk (closing_step h q) 0 t) in
    let d = stop_at (closing_step h q) 0 t (true→T (stops (walk (closing_step h q) 0 t)) s) m (zero-add m) in
    ap (t !◌) (sym (add-zero m)) ∙ sym (get_or-drop m t 0 0) ∙ ap (◌! 0) d.2 ∙ closing_stop h q d.0 d.1 d.3

pub segment_last : (σ : Settings) (t : List ℕ) (n e : ℕ) → opening t ≡ suc n → segment σ t ≡ suc e → t ! e ≡ t ! n
segment_last σ t n e o h =
    let s = segment_of_lem σ t e h in
    let k : ℕ = s.0 in
    let same : k ≡ n = omega (arith, s.1, o) in
    let m : ℕ = size (walk (closing_step (hides σ t) (t ! k)) 0 (drop (suc k) t)) in
    let place : e ≡ suc k + m = omega (arith, s.3) in
    ap (t !◌) place ∙ sym (get_or-drop (suc k) t m 0) ∙ closing_at (hides σ t) (t ! k) (drop (suc k) t) s.2 ∙ ap (t !◌) same

-- a letter of bits opens a segment with the mark behind it
letter_of_lem : (b : ℕ) → has b (ascii "BbXx") ≡ true → (is_mark b ≡ false) × (has b (ascii "EeNnBbXx") ≡ true)
unfolding is_mark
letter_of_lem b h = go (eqb b 66) (eqb b 98) (eqb b 88) (eqb b 120) refl refl refl refl h
  where
    at : (c : ℕ) → eqb b c ≡ true → (is_mark c ≡ false) × (has c (ascii "EeNnBbXx") ≡ true) → (is_mark b ≡ false) × (has b (ascii "EeNnBbXx") ≡ true)
    at c e f = rw (eqb-true b c e) f

    go : (x y z w : Bool) → eqb b 66 ≡ x → eqb b 98 ≡ y → eqb b 88 ≡ z → eqb b 120 ≡ w → (x || (y || (z || (w || false)))) ≡ true
        → (is_mark b ≡ false) × (has b (ascii "EeNnBbXx") ≡ true)
    go true y z w e f g i h = at 66 e (refl, refl)
    go false true z w e f g i h = at 98 f (refl, refl)
    go false false true w e f g i h = at 88 g (refl, refl)
    go false false false true e f g i h = at 120 i (refl, refl)
    go false false false false e f g i h = absurd (false≢true h)

pub letter_opens : (b : ℕ) (u : List ℕ) (n : ℕ) → has b (ascii "BbXx") ≡ true → opening (b ∷ u) ≡ suc n → (n ≡ 1) × (u ! 0 ≡ quote)
letter_opens b u n h o = go (opens b u n o)
  where
    go : {n : ℕ} → Opens b u n → (n ≡ 1) × (u ! 0 ≡ quote)
    go (by_mark m) = absurd (false≢true (sym (letter_of_lem b h).0 ∙ m))
    go (by_letter m l q) = (refl, eqb-true (u ! 0) quote q)
    go (by_unicode m l a e q) = absurd (false≢true (sym l ∙ (letter_of_lem b h).1))
    go (by_name m l a e q s) = absurd (false≢true (sym l ∙ (letter_of_lem b h).1))

-- WHAT IS BORROWED lies in the text: a letter, a mark and, behind the digits, the closing mark
written_in : (n : ℕ) (z : Value) → AnswerIn n (as_written z)
written_in n (means v) = tt
written_in n (fails p) = tt

pub body_right : (β : ℕ) (s v : List ℕ) (x : Bool) → bit_body β 2 x s ≡ means v → x ≡ true
unfolding bit_body
body_right β s v true e = refl
body_right β s v false e = absurd (fails≢means 0 v e)

pub bits_inside : (σ : Settings) (β : ℕ) (t : List ℕ) → AnswerIn (length t) (bits σ β t)
unfolding bits cut segment_step
bits_inside σ β [] = tt
bits_inside σ β (b ∷ u) = go (segment σ (b ∷ u)) refl
  where
    go : (m : ℕ) → segment σ (b ∷ u) ≡ m
        → AnswerIn (length (b ∷ u)) (bits_by β (b ∷ u) (after (segment_by (b ∷ u) m) b (λ n. walk (segment_step σ) n u)))
    go zero e = tt
    go (suc n) e = lone (eqb (length (b ∷ take n u)) (length (b ∷ u))) refl (first_bits β (b ∷ take n u)) refl _
      where
        lone : (x : Bool) → eqb (length (b ∷ take n u)) (length (b ∷ u)) ≡ x → (y : Value) → first_bits β (b ∷ take n u) ≡ y → (z : Value)
            → AnswerIn (length (b ∷ u)) (if x then borrowed_as 2 (length (b ∷ u) - 1) y else as_written (both y z))
        lone false q y f z = written_in (length (b ∷ u)) (both y z)
        lone true q (fails p) f z = tt
        lone true q (means v) f z =
            let s = segment_of_lem σ (b ∷ u) n e in
            let o = letter_opens b u s.0 (body_right β (b ∷ take n u) v (has b (ascii "BbXx")) f) s.1 in
            let k = segment_fits σ (b ∷ u) n e in
            record { ordered = omega (arith, s.3, o.0); inside = omega arith }

-- a text that begins with the letter of a kind, is one segment and means something
module _ (r : BitStringRadix) (σ : Settings) (β : ℕ) where
  borrowed_means : (t v : List ℕ) (x : Bool) → value_of t (borrowed_as 2 (length t - 1) (bit_body β 2 x t)) ≡ means v
      → (v ≡ part 2 (length t - 1) t) × (all_digits β (part 2 (length t - 1) t) ≡ true)
  unfolding bit_body
  borrowed_means t v x e = go (x && all_digits β (part 2 (length t - 1) t)) refl e
    where
      go : (y : Bool) → (x && all_digits β (part 2 (length t - 1) t)) ≡ y
          → value_of t (borrowed_as 2 (length t - 1) (if y then means (part 2 (length t - 1) t) else fails 0)) ≡ means v
          → (v ≡ part 2 (length t - 1) t) × (all_digits β (part 2 (length t - 1) t) ≡ true)
      go true q e = (cc, and_right x (all_digits β (part 2 (length t - 1) t)) q)
      go false q e = absurd (fails≢means 0 v e)

  pub bits_shape : (t v : List ℕ) → segment σ t ≡ length t → t ! 0 ≡ radix_letter r → value_of t (bits σ β t) ≡ means v
      → (t ≡ bit_text r v) × DigitsTo β (length v) v
  bits_shape [] v all letter value = absurd (no_letter r letter)
    where
      no_letter : (r : BitStringRadix) → 0 ≡ radix_letter r → ⊥
      no_letter Binary e = omega arith
      no_letter Hex e = omega arith
  bits_shape (b ∷ u) v all letter value =
      let t : List ℕ = b ∷ u in
      let s = segment_of_lem σ t (length u) all in
      let o = letter_opens b u s.0 (rw letter (letter_right r)) s.1 in
      let last : t ! length u ≡ quote = segment_last σ t 1 (length u) (s.1 ∙ ap suc o.0) all ∙ o.1 in
      let w = borrowed_means t v (has (t ! 0) (ascii "BbXx")) (rw (alone_bits σ β t (omega arith) all) at value) in
      let long : 1 + 2 ≤ length t = omega (arith, s.3, o.0) in
      let n : length t - 1 ≡ length u = omega arith in (
        quoted_end t 1 long o.1 (ap (t !◌) n ∙ last) ∙ rw letter (ap (λ (x : List ℕ). bit_text r x) (sym w.0)),
        rw w.0 (all_digits_at β (part 2 (length t - 1) t) w.1),
      )
