-- Digits with separators are what the definitions make of them: separators that are placed, a text less `_`, and Rust's parse of that.
-- Once for every base up to 16 and every number of bits. Assumes nothing.
use mathlib.Core.Path.{◌≡◌, refl, ap, sym, ◌∙◌}
use mathlib.Core.Bool.{Bool, true, false, ◌&&◌, ◌||◌, and-false, or-true, false≢true}
use mathlib.Core.List.{List, [], ◌∷◌}
use Prim.Native.Nat.{ℕ, zero, suc, ◌+◌, ◌*◌, ◌^◌, ◌≤◌, ◌<◌}
use native.Mathlib.Omega.{arith}
use borrow.Author.Tests.{lt-ltb, le-ltb, ltb-true, ltb-false, ne_eqb, eqb-true}
use lib.Dec.{eqb, ltb, eqb-zero-suc, eqb-suc-suc, leb-suc-suc}
use lib.IntN.{ℤ}
use lib.ListN.{length, drop}
use Rattle.meaning.specs.Bytes.{◌!◌, ascii, has, within, digit, digits, number, all_digits}
use Rattle.std.specs.Prelude.{if◌then◌else◌}
use Rattle.meaning.specs.Numbers.{placed, strip, Parsed, none, int, fits, signed, within_bits, sign_length, is_minus, parsed, unsigned}
use Rattle.numbers.specs.Values.{Spelt, misspelt, spelt, digits_from, parsed_apart}
use Rattle.numbers.proofs.Spelled.{Above}

abbrev pub signed_by : Bool → Spelt → Parsed
signed_by m misspelt = none
signed_by m (spelt n) = int (signed m n)

-- what passes the test of k bits is within them
pub within_fits : (k : ℕ) (z : ℤ) (x : Parsed) → within_bits k x ≡ int z → fits k z ≡ true
within_fits k z none e = cc
within_fits k z (int y) e = go (fits k y) refl e
  where
    go : (x : Bool) → fits k y ≡ x → (if x then int y else none) ≡ int z → fits k z ≡ true
    go true f e = let q : y ≡ z = cc in rw q at f
    go false f e = cc

-- `_` is no digit, and a digit is not `_`
not_apart : (β b : ℕ) → β ≤ 16 → digit b < β → eqb b 95 ≡ false
unfolding digit within
not_apart β b small h = ne_eqb b 95 (λ e. let z : 16 < β = rw e at h in omega arith)

module _ (β : ℕ) where
  -- all digits, from the first byte
  all_first : (b : ℕ) (t : List ℕ) → digit b < β → all_digits β (b ∷ t) ≡ all_digits β t
  unfolding all_digits
  all_first b t h = rw (lt-ltb (digit b) β h, eqb-suc-suc (digits β (length t) t) (length t))

  all_not : (b : ℕ) (t : List ℕ) → β ≤ digit b → all_digits β (b ∷ t) ≡ false
  unfolding all_digits
  all_not b t h = rw (le-ltb (digit b) β h, eqb-zero-suc (length t))

  -- the number behind v, with p the byte before: what the definitions say
  abbrev placed_value : ℕ → ℕ → List ℕ → Spelt
  placed_value v p t = if placed β p t && all_digits β (strip t) then spelt (number β (length (strip t)) v (strip t)) else misspelt

  value_digit : (b p v : ℕ) (t : List ℕ) → eqb b 95 ≡ false → digit b < β → placed_value v p (b ∷ t) ≡ placed_value (v * β + digit b) b t
  value_digit b p v t n h = rw (n, all_first b (strip t) h)

  value_apart : (b p v : ℕ) (t : List ℕ) → eqb b 95 ≡ true → digit p < β
      → placed_value v p (b ∷ t) ≡ (if ltb (digit (t ! 0)) β then placed_value v b t else misspelt)
  value_apart b p v t u h = rw (u, lt-ltb (digit p) β h) (go (ltb (digit (t ! 0)) β))
    where
      go : (z : Bool) → (if (z && placed β b t) && all_digits β (strip t) then spelt (number β (length (strip t)) v (strip t)) else misspelt)
          ≡ (if z then placed_value v b t else misspelt)
      go true = refl
      go false = refl

  value_other : (b p v : ℕ) (t : List ℕ) → eqb b 95 ≡ false → β ≤ digit b → placed_value v p (b ∷ t) ≡ misspelt
  value_other b p v t n h = rw (n, all_not b (strip t) h, and-false (placed β b t))

module _ (β : ℕ) (small : β ≤ 16) where
  from_placed : (a : Bool) (p v : ℕ) (t : List ℕ) → (a ≡ true → digit p < β)
      → digits_from β v a t ≡ (if a || ltb (digit (t ! 0)) β then placed_value β v p t else misspelt)
  unfolding all_digits digit within
  from_placed true p v [] h = refl
  from_placed false p v [] h = rw (le-ltb 16 β small)
  from_placed a p v (b ∷ t) h =
      go (ltb (digit b) β) (eqb b 95) a refl refl h (from_placed true b (v * β + digit b) t) (from_placed false b v t (λ e. absurd (false≢true e)))
    where
      go : (x y a : Bool) → ltb (digit b) β ≡ x → eqb b 95 ≡ y → (a ≡ true → digit p < β)
          → ((true ≡ true → digit b < β) → digits_from β (v * β + digit b) true t ≡ placed_value β (v * β + digit b) b t)
          → digits_from β v false t ≡ (if ltb (digit (t ! 0)) β then placed_value β v b t else misspelt)
          → (if x then digits_from β (v * β + digit b) true t else if y && a then digits_from β v false t else misspelt)
          ≡ (if a || x then placed_value β v p (b ∷ t) else misspelt)
      go true y a ex ey h ih jh =
          let d : digit b < β = ltb-true (digit b) β ex in
          rw (or-true a) (ih (λ e. d) ∙ sym (value_digit β b p v t (not_apart β b small d) d))
      go false true true ex ey h ih jh = jh ∙ sym (value_apart β b p v t ey (h refl))
      go false true false ex ey h ih jh = refl
      go false false true ex ey h ih jh = sym (value_other β b p v t ey (ltb-false (digit b) β ex))
      go false false false ex ey h ih jh = refl

  -- what may follow a byte p that is no digit
  abbrev whole : ℕ → List ℕ → Spelt
  whole p t =
      if placed β p t
      then (if ltb 0 (length (strip t)) && all_digits β (strip t) then spelt (number β (length (strip t)) 0 (strip t)) else misspelt)
      else misspelt

  pub spelled_whole : (p : ℕ) (t : List ℕ) → β ≤ digit p → digits_from β 0 false t ≡ whole p t
  spelled_whole p [] n = refl
  spelled_whole p (b ∷ t) n = from_placed false p 0 (b ∷ t) (λ e. absurd (false≢true e)) ∙ go (ltb (digit b) β) (eqb b 95) refl refl
    where
      nested : (x y : Bool) (s : Spelt) → (if x && y then s else misspelt) ≡ (if x then (if y then s else misspelt) else misspelt)
      nested true y s = refl
      nested false y s = refl

      same : (x : Bool) → misspelt ≡ (if x then misspelt else misspelt)
      same true = refl
      same false = refl

      go : (x y : Bool) → ltb (digit b) β ≡ x → eqb b 95 ≡ y → (if x then placed_value β 0 p (b ∷ t) else misspelt) ≡ whole p (b ∷ t)
      go true y ex ey =
          let d : digit b < β = ltb-true (digit b) β ex in
          rw (not_apart β b small d, lt-ltb 0 (suc (length (strip t))) (omega arith))
          (nested (placed β b t) (all_digits β (b ∷ strip t)) (spelt (number β (suc (length (strip t))) 0 (b ∷ strip t))))
      go false true ex ey = rw (ey, le-ltb (digit p) β n)
      go false false ex ey =
          rw (ey, all_not β b (strip t) (ltb-false (digit b) β ex), and-false (ltb 0 (suc (length (strip t))))) (same (placed β b t))

  -- RUST'S PARSE, with the sign in front
  pushed : (k : ℕ) (m : Bool) (n : ℕ) (x y : Bool) → (if x then (if y then within_bits k (int (signed m n)) else none) else none)
      ≡ within_bits k (signed_by m (if x then (if y then spelt n else misspelt) else misspelt))
  pushed k m n true true = refl
  pushed k m n true false = refl
  pushed k m n false y = refl

  abbrev Parses : ℕ → List ℕ → Type 0
  Parses k t = parsed_apart k β t ≡ within_bits k (signed_by (is_minus t) (digits_from β 0 false (drop (sign_length t) t)))

  behind_sign : (k s : ℕ) (t : List ℕ) → has s (ascii "+-") ≡ true → eqb s 95 ≡ false → β ≤ digit s → Parses k (s ∷ t)
  unfolding parsed_apart parsed sign_length is_minus
  behind_sign k s t sign other bar =
      rw (other, sign, spelled_whole s t bar, leb-suc-suc 1 (length (strip t)))
      (pushed k (eqb s 45) (number β (length (strip t)) 0 (strip t)) (placed β s t) (ltb 0 (length (strip t)) && all_digits β (strip t)))

  without_sign : (k b : ℕ) (t : List ℕ) → has b (ascii "+-") ≡ false → β ≤ digit 0 → Parses k (b ∷ t)
  unfolding parsed_apart parsed sign_length is_minus
  without_sign k b t sign bar = rw (sign, spelled_whole 0 (b ∷ t) bar) (go (eqb b 95) refl)
    where
      go : (y : Bool) → eqb b 95 ≡ y → parsed_apart k β (b ∷ t) ≡ within_bits k (signed_by (eqb b 45) (whole 0 (b ∷ t)))
      go true ey = rw (ey, le-ltb (digit 0) β bar)
      go false ey =
          rw (ey, sign)
          (pushed k (eqb b 45) (number β (suc (length (strip t))) 0 (b ∷ strip t)) (placed β b t)
          (ltb 0 (suc (length (strip t))) && all_digits β (b ∷ strip t)))

  pub parses : (k : ℕ) (t : List ℕ) → Parses k t
  unfolding parsed_apart parsed sign_length is_minus digit within
  parses k [] = refl
  parses k (b ∷ t) = go (eqb b 43) (eqb b 45) refl refl
    where
      go : (x y : Bool) → eqb b 43 ≡ x → eqb b 45 ≡ y → Parses k (b ∷ t)
      go true y ex ey = rw (eqb-true b 43 ex) (behind_sign k 43 t refl refl small)
      go false true ex ey = rw (eqb-true b 45 ey) (behind_sign k 45 t refl refl small)
      go false false ex ey = without_sign k b t (rw (ex, ey)) small

  -- so of digits that make a number it is that number with its sign, and of no digits or too great a number it is none
  pub parsed_value : (k : ℕ) (t : List ℕ) (m : ℕ) → digits_from β 0 false (unsigned t) ≡ spelt m
      → parsed_apart k β t ≡ within_bits k (int (signed (is_minus t) m))
  parsed_value k t m e = parses k t ∙ ap (λ (x : Spelt). within_bits k (signed_by (is_minus t) x)) e

  pub parsed_great : (k l : ℕ) (t : List ℕ) → 2 ^ k < l → Above l (digits_from β 0 false (unsigned t)) → parsed_apart k β t ≡ none
  parsed_great k l t h a = parses k t ∙ go (is_minus t) (digits_from β 0 false (unsigned t)) a
    where
      go : (minus : Bool) (s : Spelt) → Above l s → within_bits k (signed_by minus s) ≡ none
      go minus misspelt a = refl
      go true (spelt zero) a = absurd (let z = a 0 refl in let y : ⊥ = omega arith in y)
      go true (spelt (suc n)) a = rw (le-ltb n (2 ^ k) (let z = a (suc n) refl in omega arith))
      go false (spelt n) a = rw (le-ltb n (2 ^ k) (let z = a n refl in omega arith))

  pub parsed_fits : (k : ℕ) (t : List ℕ) (z : ℤ) → parsed_apart k β t ≡ int z → fits k z ≡ true
  parsed_fits k t z e = within_fits k z (signed_by (is_minus t) (digits_from β 0 false (unsigned t))) (sym (parses k t) ∙ e)
