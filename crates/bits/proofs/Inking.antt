-- [02 T-07] A pen that packs digits: what a digit, a whole byte and the end of the digits do to it, once over the bits of a digit. Assumes nothing.
use mathlib.Core.Path.{◌≡◌, refl, ap, sym, ◌∙◌, subst}
use mathlib.Core.Bool.{Bool, true, false}
use mathlib.Core.List.{List, [], ◌∷◌, ◌++◌}
use Prim.Native.Nat.{ℕ, zero, suc, ◌+◌, ◌-◌, ◌*◌, ◌/◌, ◌%◌, ◌^◌, ◌≤◌, ◌<◌}
use native.Mathlib.Nat.{mod-eq_of_lt, zero-add, add_comm, add-zero, zero-mul, mul-one, mul-suc, mul_comm, mul_assoc, le_trans, mul-le-mul_right}
use native.Mathlib.Omega.{arith}
use borrow.Author.Tests.{ne_eqb, eq-eqb}
use lib.Pow.{pow-add, pow_pos}
use lib.ListN.{length, get_or, drop, set, length-drop}
use lib.Seq.{get_or-drop, drop-cons}
use Rattle.meaning.specs.declared.BitStringRadix.{BitStringRadix}
use Rattle.meaning.specs.declared.BitStringRadix.TheVariants.{Binary, Hex}
use Rattle.meaning.specs.Bytes.{within, digit, number}
use Rattle.std.specs.Prelude.{if◌then◌else◌}
use Rattle.meaning.specs.Packing.{gathered, bits_in, radix_bits}
use Rattle.laws.proofs.basics.Tests.{within_bounds}
use Rattle.laws.proofs.basics.Digits.{DigitsTo, number_suc}
use Rattle.laws.proofs.basics.Laying.{laid_all, laid_inside, laid_byte, laid_rest}
use Rattle.laws.proofs.packing.Gathered.{next, gathered_number}
use Rattle.bits.specs.declared.pens.Pen.{Pen}
use Rattle.bits.specs.Pens.{Low, DigitsAt, Packing, Closable}

-- NUMBERS. A digit more leaves one bit fewer missing for each of its own
pub low_turn : (k n v d : ℕ) → Low v (k + n) → d < 2 ^ k → Low (v * 2 ^ k + d) n
low_turn k n v d h l =
    let s : suc (v * 2 ^ k + d) ≤ suc v * 2 ^ k = omega arith in
    le_trans (mul-le-mul_right (2 ^ n) s) (rw (mul_assoc (suc v) (2 ^ k) (2 ^ n), ← pow-add 2 k n) h)

low_byte : (v n : ℕ) → Low v n → v < 256
low_byte v n h =
    let p : suc v * 1 ≤ suc v * 2 ^ n = rw (mul_comm (suc v) 1, mul_comm (suc v) (2 ^ n)) (mul-le-mul_right (suc v) (pow_pos n)) in
    omega (arith, mul-one (suc v))

pub low_fits : (k n v d : ℕ) → Low v (k + n) → d < 2 ^ k → v * 2 ^ k + d < 256
low_fits k n v d h l = low_byte (v * 2 ^ k + d) n (low_turn k n v d h l)

-- EIGHT BINARY DIGITS, j of which are read
pub record Reading (t : List ℕ) (at j v : ℕ) : Type 0 where
  pub most : j ≤ 8
  pub number_so_far : v ≡ number 2 j 0 (drop at t)
  pub low : Low v (8 - j)

pub reading_none : (t : List ℕ) (at : ℕ) → Reading t at 0 0
reading_none t at = record { most = omega arith; number_so_far = refl; low = omega arith }

-- a digit by its byte's low half, and nine more for a letter
pub digit_known : (b : ℕ) → digit b < 16 → b % 16 + b / 64 * 9 ≡ digit b
unfolding digit
digit_known b h = go (within 48 57 b) (within 65 70 b) (within 97 102 b) refl refl refl h
  where
    go : (x y z : Bool) → within 48 57 b ≡ x → within 65 70 b ≡ y → within 97 102 b ≡ z
        → (if x then b - 48 else if y then b - 55 else if z then b - 87 else 16) < 16
        → b % 16 + b / 64 * 9 ≡ (if x then b - 48 else if y then b - 55 else if z then b - 87 else 16)
    go true y z e f g h = let k = within_bounds 48 57 b e in omega arith
    go false true z e f g h = let k = within_bounds 65 70 b f in omega arith
    go false false true e f g h = let k = within_bounds 97 102 b g in omega arith
    go false false false e f g h = absurd (omega arith)

-- a binary digit is its byte's lowest bit
binary_digit : (b : ℕ) → digit b < 2 → digit b ≡ b % 2
unfolding digit
binary_digit b h = go (within 48 57 b) (within 65 70 b) (within 97 102 b) refl refl refl h
  where
    go : (x y z : Bool) → within 48 57 b ≡ x → within 65 70 b ≡ y → within 97 102 b ≡ z
        → (if x then b - 48 else if y then b - 55 else if z then b - 87 else 16) < 2
        → (if x then b - 48 else if y then b - 55 else if z then b - 87 else 16) ≡ b % 2
    go true y z e f g h = let k = within_bounds 48 57 b e in omega arith
    go false true z e f g h = let k = within_bounds 65 70 b f in absurd (omega arith)
    go false false true e f g h = let k = within_bounds 97 102 b g in absurd (omega arith)
    go false false false e f g h = absurd (omega arith)

module _ {t : List ℕ} {at j v : ℕ} (r : Reading t at j v) (d : DigitsAt 2 8 at t) (h : j < 8) where
  bit : digit (get_or t (at + j) 0) ≡ get_or t (at + j) 0 % 2
  bit = binary_digit (get_or t (at + j) 0) (subst (λ (x : ℕ). digit x < 2) (get_or-drop at t j 0) (d.digits j h))

  pub reading_inside : at + j < length t
  reading_inside = omega (arith, d.inside)

  shorter : 8 - j ≡ 1 + (8 - (j + 1))
  shorter = omega arith

  low_next : Low (v * 2 + get_or t (at + j) 0 % 2) (8 - (j + 1))
  low_next = low_turn 1 (8 - (j + 1)) v (get_or t (at + j) 0 % 2) (rw shorter at r.low) (omega arith)

  pub reading_double : v * 2 < 256
  reading_double = omega (arith, low_byte (v * 2 + get_or t (at + j) 0 % 2) (8 - (j + 1)) low_next)

  pub reading_fits : v * 2 + get_or t (at + j) 0 % 2 < 256
  reading_fits = low_byte (v * 2 + get_or t (at + j) 0 % 2) (8 - (j + 1)) low_next

  pub reading_turn : Reading t at (j + 1) (v * 2 + get_or t (at + j) 0 % 2)
  reading_turn =
      let e : j + 1 ≡ suc j = omega arith in
      record {
        most = omega arith;
        number_so_far =
            rw (e, number_suc 2 j 0 (drop at t) (omega (arith, length-drop at t, d.inside)), ← r.number_so_far, get_or-drop at t j 0, bit);
        low = low_next;
      }

pub reading_end : {t : List ℕ} {at j v : ℕ} → Reading t at j v → 8 ≤ j → v ≡ number 2 8 0 (drop at t)
reading_end {t} {at} {j} r h = let e : j ≡ 8 = omega (arith, r.most) in rw e at r.number_so_far

-- A WHOLE BYTE, by the radix
module _ (t : List ℕ) (at : ℕ) (r : BitStringRadix) (d : DigitsAt (2 ^ radix_bits r) (8 / radix_bits r) at t) where
  pub whole_binary : r ≡ Binary → DigitsAt 2 8 at t
  whole_binary e = rw e at d

  pub binary_whole : r ≡ Binary → (v : ℕ) → v ≡ number 2 8 0 (drop at t) → v ≡ number (2 ^ radix_bits r) (8 / radix_bits r) 0 (drop at t)
  binary_whole e v q = rw e q

  module _ (e : r ≡ Hex) where
    hex : DigitsAt 16 2 at t
    hex = rw e at d

    pub hex_first : at < length t
    hex_first = omega (arith, hex.inside)

    pub hex_inside : at + 1 < length t
    hex_inside = omega (arith, hex.inside)

    pub hex_one : digit (get_or t at 0) < 16
    hex_one = subst (λ (x : ℕ). digit x < 16) (get_or-drop at t 0 0 ∙ ap (λ (i : ℕ). get_or t i 0) (add-zero at)) (hex.digits 0 (omega arith))

    pub hex_two : digit (get_or t (at + 1) 0) < 16
    hex_two = subst (λ (x : ℕ). digit x < 16) (get_or-drop at t 1 0) (hex.digits 1 (omega arith))

    pub hex_high : (a : ℕ) → a ≡ digit (get_or t at 0) → a * 16 < 256
    hex_high a ea = omega (arith, hex_one)

    module _ (a b : ℕ) (ea : a ≡ digit (get_or t at 0)) (eb : b ≡ digit (get_or t (at + 1) 0)) where
      pub hex_fits : a * 16 + b < 256
      hex_fits = omega (arith, hex_one, hex_two)

      pub hex_whole : a * 16 + b ≡ number (2 ^ radix_bits r) (8 / radix_bits r) 0 (drop at t)
      hex_whole =
          let n : suc at ≡ at + 1 = omega arith in
          rw (e, drop-cons t at 0 (omega (arith, hex_inside)), drop-cons t (suc at) 0 (omega (arith, hex_inside)), n, ea, eb)
          (ap (λ (x : ℕ). x * 16 + digit (get_or t (at + 1) 0)) (sym (zero-add (digit (get_or t at 0))))
          ∙ ap (λ (x : ℕ). (x + digit (get_or t at 0)) * 16 + digit (get_or t (at + 1) 0)) (sym (zero-mul 16)))

-- DIGITS GATHERED, as many as are missing: the number that they make is the next byte
pub gathered_digits : (k j v : ℕ) (t : List ℕ) → 0 < k → suc j ≤ length t → DigitsTo (2 ^ k) (suc j) t
    → gathered 8 (k * suc j) v (bits_in k t) ≡ number (2 ^ k) (suc j) v t ∷ gathered 8 8 0 (bits_in k (drop (suc j) t))
unfolding bits_in
gathered_digits k j v [] z h d = absurd (omega arith)
gathered_digits k zero v (c ∷ t) z h d =
    let e = gathered_number 8 k 0 v (digit c) (bits_in k t) z (d 0 (omega arith)) in
    rw (mul-one k) (rw (add-zero k) at e)
gathered_digits k (suc j) v (c ∷ t) z h d =
    let e = gathered_number 8 k (k * suc j) v (digit c) (bits_in k t) z (d 0 (omega arith)) in
    let m : k + k * suc j ≡ k * suc (suc j) = sym (mul-suc k (suc j) ∙ add_comm (k * suc j) k) in
    (rw m at e) ∙ behind (k * suc j) (v * 2 ^ k + digit c) (omega (arith, mul-suc k j))
    ∙ gathered_digits k j (v * 2 ^ k + digit c) t z (omega arith) (λ i l. d (suc i) (omega arith))
  where
    behind : (n x : ℕ) → 0 < n → next 8 n x (bits_in k t) ≡ gathered 8 n x (bits_in k t)
    behind zero x l = absurd (omega arith)
    behind (suc n) x l = refl

-- A PEN before a digit
module _ {k : ℕ} {whole d out : List ℕ} {p : Pen} {c : ℕ} {rest : List ℕ} (a : Packing k whole d out p (c ∷ rest)) (z : 0 < k) where
  below : digit c < 2 ^ k
  below = a.digits 0 (omega arith)

  tail : DigitsTo (2 ^ k) (length rest) rest
  tail i h = a.digits (suc i) (omega arith)

  split : (left : ℕ) → a.left ≡ left → p.missing ≡ k + k * left
  split left e = a.room ∙ mul-suc k a.left ∙ rw e (add_comm (k * left) k)

  pub digit_fits : p.byte * 2 ^ k + digit c < 256
  digit_fits = low_fits k (k * a.left) p.byte (digit c) (rw (split a.left refl) at a.low) below

  pub double_fits : p.byte * 2 ^ k < 256
  double_fits = omega (arith, digit_fits)

  -- it is the last that the byte has room for
  module _ (e : p.missing ≡ k) where
    full : drop p.at whole ≡ (p.byte * 2 ^ k + digit c) ∷ gathered 8 8 0 (bits_in k rest)
    unfolding bits_in
    full =
        a.next ∙ ap (λ (n : ℕ). gathered 8 n p.byte (bits_in k (c ∷ rest))) (e ∙ sym (add-zero k))
        ∙ gathered_number 8 k 0 p.byte (digit c) (bits_in k rest) z below

    pub full_inside : p.at < length out
    full_inside = laid_inside a.laid (p.byte * 2 ^ k + digit c) (gathered 8 8 0 (bits_in k rest)) full

    pub packing_full : (m : ℕ) → 8 ≡ k * suc m
        → Packing k whole d (set out p.at (p.byte * 2 ^ k + digit c)) (record { at = p.at + 1; byte = 0; missing = 8 }) rest
    packing_full m q = record {
      laid = laid_byte a.laid (p.byte * 2 ^ k + digit c) (gathered 8 8 0 (bits_in k rest)) full;
      next = laid_rest a.laid ((p.byte * 2 ^ k + digit c) ∷ []) (gathered 8 8 0 (bits_in k rest)) full (p.at + 1) refl;
      left = m;
      room = q;
      most = omega arith;
      low = omega arith;
      digits = tail;
    }

  -- more are missing
  pub more_left : (p.missing ≡ k → ⊥) → k < p.missing
  more_left n = go a.left refl
    where
      go : (l : ℕ) → a.left ≡ l → k < p.missing
      go zero e = absurd (n (split zero e ∙ omega (arith, mul_comm k 0)))
      go (suc l) e = omega (arith, split (suc l) e, mul-suc k l)

  behind : (n : ℕ) → 0 < n → next 8 n (p.byte * 2 ^ k + digit c) (bits_in k rest) ≡ gathered 8 n (p.byte * 2 ^ k + digit c) (bits_in k rest)
  behind zero h = absurd (omega arith)
  behind (suc n) h = refl

  further : (l : ℕ) → p.missing ≡ k + k * suc l → drop p.at whole ≡ gathered 8 (k * suc l) (p.byte * 2 ^ k + digit c) (bits_in k rest)
  unfolding bits_in
  further l s =
      a.next ∙ ap (λ (n : ℕ). gathered 8 n p.byte (bits_in k (c ∷ rest))) s
      ∙ gathered_number 8 k (k * suc l) p.byte (digit c) (bits_in k rest) z below
      ∙ behind (k * suc l) (omega (arith, mul-suc k l))

  pub packing_more : (p.missing ≡ k → ⊥)
      → Packing k whole d out (record { at = p.at; byte = p.byte * 2 ^ k + digit c; missing = p.missing - k }) rest
  packing_more n = go a.left refl
    where
      go : (l : ℕ) → a.left ≡ l → Packing k whole d out (record { at = p.at; byte = p.byte * 2 ^ k + digit c; missing = p.missing - k }) rest
      go zero e = absurd (n (split zero e ∙ omega (arith, mul_comm k 0)))
      go (suc l) e =
          let m : p.missing - k ≡ k * suc l = omega (arith, split (suc l) e) in
          record {
            laid = a.laid;
            next = rw m (further l (split (suc l) e));
            left = l;
            room = m;
            most = omega (arith, a.most);
            low = rw m (low_turn k (k * suc l) p.byte (digit c) (rw (split (suc l) e) at a.low) below);
            digits = tail;
          }

-- a fresh one, before as many digits as a byte has room for
module _ {k : ℕ} {whole d out : List ℕ} {p : Pen} {t : List ℕ} (a : Packing k whole d out p t) (z : 0 < k) (e : p.missing ≡ 8) (m : ℕ) (q : 8 ≡ k * suc m)
    (h : suc m ≤ length t) where
  fresh : p.byte ≡ 0
  fresh = let l = rw e at a.low in omega arith

  byte : drop p.at whole ≡ number (2 ^ k) (suc m) 0 t ∷ gathered 8 8 0 (bits_in k (drop (suc m) t))
  byte =
      (rw (fresh, e) at a.next)
      ∙ ap (λ (n : ℕ). gathered 8 n 0 (bits_in k t)) q
      ∙ gathered_digits k m 0 t z h (λ i l. a.digits i (omega arith))

  pub whole_inside : p.at < length out
  whole_inside = laid_inside a.laid (number (2 ^ k) (suc m) 0 t) (gathered 8 8 0 (bits_in k (drop (suc m) t))) byte

  pub packing_whole : Packing k whole d (set out p.at (number (2 ^ k) (suc m) 0 t)) (record { at = p.at + 1; byte = p.byte; missing = p.missing }) (drop (suc m) t)
  packing_whole = record {
    laid = laid_byte a.laid (number (2 ^ k) (suc m) 0 t) (gathered 8 8 0 (bits_in k (drop (suc m) t))) byte;
    next =
        rw (fresh, e) (laid_rest a.laid (number (2 ^ k) (suc m) 0 t ∷ []) (gathered 8 8 0 (bits_in k (drop (suc m) t))) byte (p.at + 1) refl);
    left = a.left;
    room = a.room;
    most = a.most;
    low = a.low;
    digits = λ i l. subst (λ (x : ℕ). digit x < 2 ^ k) (sym (get_or-drop (suc m) t i 0)) (a.digits (suc m + i) (omega (arith, length-drop (suc m) t)));
  }

-- AT THE END. The missing bits are zero, and none is pushed out
pub filled_shift : (v n : ℕ) → Low v n → v * 2 ^ n % 256 ≡ v * 2 ^ n
filled_shift v n l =
    let s : v * 2 ^ n < suc v * 2 ^ n = omega (arith, pow_pos n) in
    let h : v * 2 ^ n < 256 = omega arith in mod-eq_of_lt h

module _ {k : ℕ} {whole d out : List ℕ} {p : Pen} (a : Packing k whole d out p []) where
  -- a byte is at hand
  module _ (h : p.missing < 8) where
    last : drop p.at whole ≡ p.byte * 2 ^ p.missing ∷ []
    unfolding bits_in
    last = a.next ∙ rw (ne_eqb p.missing 8 (λ e. absurd (omega arith)))

    pub close_inside : p.at < length out
    close_inside = laid_inside a.laid (p.byte * 2 ^ p.missing) [] last

    pub closed_byte : set out p.at (p.byte * 2 ^ p.missing) ≡ whole ++ drop (length whole) d
    closed_byte =
        (laid_all (laid_byte a.laid (p.byte * 2 ^ p.missing) [] last)
        (laid_rest a.laid (p.byte * 2 ^ p.missing ∷ []) [] last (p.at + 1) refl)).1

  -- none is
  pub closed_fresh : 8 ≤ p.missing → out ≡ whole ++ drop (length whole) d
  unfolding bits_in
  closed_fresh h =
      let e : p.missing ≡ 8 = omega (arith, a.most) in
      (laid_all a.laid (a.next ∙ rw (eq-eqb p.missing 8 e))).1

-- as a call has it
pub close_room : (k : ℕ) {p : Pen} {out : List ℕ} → Closable k p out → p.missing < 8 → p.at < length out
close_room k c h = close_inside c.holds h

pub close_written : (k : ℕ) (p : Pen) (out : List ℕ) (v : ℕ) → p.missing < 8 → v ≡ p.byte * 2 ^ p.missing → (whole d : List ℕ)
    → Packing k whole d out p [] → set out p.at v ≡ whole ++ drop (length whole) d
close_written k p out v h e whole d a = ap (set out p.at) e ∙ closed_byte a h

pub close_idle : (k : ℕ) (p : Pen) (out : List ℕ) → 8 ≤ p.missing → (whole d : List ℕ) → Packing k whole d out p [] → out ≡ whole ++ drop (length whole) d
close_idle k p out h whole d a = closed_fresh a h
