-- What a step of a family takes is there, and it stands for no more bytes than it takes. So no place and no length that a pass counts
-- exceeds the text's length. Assumes nothing.
use mathlib.Core.Path.{◌≡◌, refl, ap, ◌∙◌}
use mathlib.Core.Bool.{Bool, true, false, ◌&&◌, false≢true}
use mathlib.Core.List.{List, [], ◌∷◌}
use Prim.Native.Nat.{ℕ, suc, ◌+◌, ◌-◌, ◌%◌, ◌≤◌, ◌<◌}
use Prim.Native.Char.{code}
use native.Mathlib.Omega.{arith}
use lib.Dec.{eqb, ltb}
use lib.ListN.{length, get_or, drop, length-drop}
use lib.Seq.{drop-cons}
use borrow.Author.Tests.{eqb-true}
use Rattle.meaning.specs.Bytes.{◌!◌, ascii, has, starts, within, quote, backslash, digits, number}
use Rattle.std.specs.Prelude.{if◌then◌else◌}
use Rattle.meaning.specs.Chars.{more, encode}
use Rattle.meaning.specs.Walk.{Step, keep, give, stop}
use Rattle.meaning.specs.Steps.{byte_of, doubled, mysql_table, mysql, standard_step, escape_table, one_byte, may_escape, scalar_by, escaped, escape_step, pair, low_half}
use Rattle.meaning.specs.Steps.{uescaped, unicode_step}
use Rattle.laws.proofs.basics.Tests.{and_right}
use Rattle.laws.proofs.utf8.Encode.{encode_length}
use Rattle.laws.proofs.basics.Digits.{digits_length}

-- of a unit before n bytes more
abbrev pub Bounded : Step → ℕ → Type 0
Bounded keep n = Unit {0}
Bounded (give k out) n = (k ≤ n) × (length out ≤ suc k)
Bounded stop n = Unit {0}

abbrev pub Steady : (List ℕ → Step) → Type 0
Steady step = (b : ℕ) (t : List ℕ) → Bounded (step (b ∷ t)) (length t)

-- at a place of a text
pub steady_at : (step : List ℕ → Step) → Steady step → (l : List ℕ) (at : ℕ) → at < length l → (s : Step) → step (drop at l) ≡ s
    → Bounded s (length l - suc at)
steady_at step ok l at h s e =
    let b : Bounded (step (drop at l)) (length (drop (suc at) l)) = rw (drop-cons l at 0 h) (ok (get_or l at 0) (drop (suc at) l)) in
    rw (length-drop, e) at b

-- a choice is bounded where each of its sides is, the test being known there
choose : (x : Bool) (a b : Step) (n : ℕ) → (x ≡ true → Bounded a n) → (x ≡ false → Bounded b n) → Bounded (if x then a else b) n
choose true a b n p q = p refl
choose false a b n p q = q refl

-- a scalar has at most four bytes
more_three : (c : ℕ) → more c ≤ 3
unfolding more
more_three c = go (ltb c 0x80) (ltb c 0x800) (ltb c 0x10000)
  where
    go : (x y z : Bool) → (if x then 0 else if y then 1 else if z then 2 else 3) ≤ 3
    go true y z = omega arith
    go false true z = omega arith
    go false false true = omega arith
    go false false false = omega arith

pub encode_most : (c : ℕ) → length (encode c) ≤ 4
encode_most c = let h = more_three c in omega (arith, encode_length c)

-- THE MARK, which is not zero: a byte past the end is
doubled_bounded : (q : ℕ) (t : List ℕ) → eqb 0 q ≡ false → Bounded (doubled q t) (length t)
unfolding doubled
doubled_bounded q [] z = rw z tt
doubled_bounded q (c ∷ t) z = choose (eqb c q) (give 1 (q ∷ [])) stop (suc (length t)) (λ e. omega arith) (λ e. tt)

-- STANDARD
mysql_bounded : (t : List ℕ) → Bounded (mysql t) (length t)
mysql_bounded [] = omega arith
mysql_bounded (c ∷ t) = go (ltb (byte_of mysql_table c) 256) (has c (ascii "%_"))
  where
    go : (x y : Bool) → Bounded (if x then give 1 (byte_of mysql_table c ∷ []) else if y then give 1 (backslash ∷ c ∷ []) else give 1 (c ∷ [])) (suc (length t))
    go true y = omega arith
    go false true = omega arith
    go false false = omega arith

pub standard_steady : (bs : Bool) (q : ℕ) → eqb 0 q ≡ false → Steady (standard_step bs q)
standard_steady bs q z b t = go (bs && eqb b backslash) (eqb b q)
  where
    go : (x y : Bool) → Bounded (if x then mysql t else if y then doubled q t else keep) (length t)
    go true y = mysql_bounded t
    go false true = doubled_bounded q t z
    go false false = tt

-- E
one_bounded : (k b n : ℕ) → k ≤ n → Bounded (one_byte k b) n
unfolding one_byte
one_bounded k b n h = choose (eqb b 0) stop (give k (b ∷ [])) n (λ e. tt) (λ e. omega arith)

-- w digits are there, so that the unit is
scalar_bounded : (w k : ℕ) (t : List ℕ) (n : ℕ) → 3 ≤ k → (w ≤ length t → k ≤ n) → Bounded (scalar_by w k t) n
unfolding scalar_by
scalar_bounded w k t n h f = go (eqb (digits 16 w t) w) (may_escape (number 16 w 0 t)) refl
  where
    go : (x y : Bool) → eqb (digits 16 w t) w ≡ x → Bounded (if x && y then give k (encode (number 16 w 0 t)) else stop) n
    go true true e =
        let g = f (omega (arith, digits_length 16 w t, eqb-true (digits 16 w t) w e)) in
        omega (arith, encode_most (number 16 w 0 t))
    go true false e = tt
    go false y e = tt

escaped_bounded : (t : List ℕ) → Bounded (escaped t) (length t)
escaped_bounded [] = tt
escaped_bounded (c ∷ t) =
    go (ltb (byte_of escape_table c) 256) (ltb 0 (digits 8 3 (c ∷ t))) (eqb c (code "x") && ltb 0 (digits 16 2 t)) (eqb c (code "u")) (eqb c (code "U"))
  where
    go : (x1 x2 x3 x4 x5 : Bool)
        → Bounded
        (if x1 then give 1 (byte_of escape_table c ∷ [])
        else if x2 then one_byte (digits 8 3 (c ∷ t)) (number 8 (digits 8 3 (c ∷ t)) 0 (c ∷ t) % 256)
        else if x3 then one_byte (suc (digits 16 2 t)) (number 16 (digits 16 2 t) 0 t)
        else if x4 then scalar_by 4 5 t
        else if x5 then scalar_by 8 9 t
        else one_byte 1 c) (suc (length t))
    go true x2 x3 x4 x5 = omega arith
    go false true x3 x4 x5 =
        one_bounded (digits 8 3 (c ∷ t)) (number 8 (digits 8 3 (c ∷ t)) 0 (c ∷ t) % 256) (suc (length t)) (digits_length 8 3 (c ∷ t))
    go false false true x4 x5 =
        one_bounded (suc (digits 16 2 t)) (number 16 (digits 16 2 t) 0 t) (suc (length t)) (omega (arith, digits_length 16 2 t))
    go false false false true x5 = scalar_bounded 4 5 t (suc (length t)) (omega arith) (λ h. omega arith)
    go false false false false true = scalar_bounded 8 9 t (suc (length t)) (omega arith) (λ h. omega arith)
    go false false false false false = one_bounded 1 c (suc (length t)) (omega arith)

pub escape_steady : Steady escape_step
escape_steady b t = go (eqb b backslash) (eqb b quote)
  where
    go : (x y : Bool) → Bounded (if x then escaped t else if y then doubled quote t else keep) (length t)
    go true y = escaped_bounded t
    go false true = doubled_bounded quote t refl
    go false false = tt

-- U&. What begins a text is no longer than it
pub starts_length : (e t : List ℕ) → starts e t ≡ true → length e ≤ length t
starts_length [] t h = omega arith
starts_length (c ∷ e) [] h = absurd (false≢true h)
starts_length (c ∷ e) (b ∷ t) h = let r = starts_length e t (and_right (eqb c b) (starts e t) h) in omega arith

-- u stands behind the escape, with n bytes behind the escape's first
module _ (e u : List ℕ) (n : ℕ) (there : length e + length u ≡ suc n) where
  low_bounded : (h : ℕ) → Bounded (low_half e h (drop 4 u)) n
  unfolding low_half
  low_bounded h =
      let v = drop (length e) (drop 4 u) in
      go (starts e (drop 4 u)) (eqb (digits 16 4 v) 4) (within 0xDC00 0xDFFF (number 16 4 0 v)) v refl refl
    where
      go : (x y z : Bool) (v : List ℕ) → v ≡ drop (length e) (drop 4 u) → eqb (digits 16 4 v) 4 ≡ y
          → Bounded (if x && y && z then give (length e + length e + 7) (encode (pair h (number 16 4 0 v))) else stop) n
      go true true true v w k =
          let l = digits_length 16 4 v in
          let d = ap length w ∙ length-drop (length e) (drop 4 u) in
          let f = length-drop 4 u in
          let m = eqb-true (digits 16 4 v) 4 k in
          omega (arith, encode_most (pair h (number 16 4 0 v)))
      go true true false v w k = tt
      go true false z v w k = tt
      go false y z v w k = tt

  uescaped_bounded : Bounded (uescaped e u) n
  unfolding uescaped
  uescaped_bounded =
      go (starts e u) (eqb (u ! 0) (code "+")) (eqb (digits 16 4 u) 4 && within 0xD800 0xDBFF (number 16 4 0 u)) refl
    where
      go : (x y z : Bool) → starts e u ≡ x
          → Bounded (if x then give (length e + length e - 1) e
          else if y then scalar_by 6 (length e + 6) (drop 1 u)
          else if z then low_half e (number 16 4 0 u) (drop 4 u)
          else scalar_by 4 (length e + 3) u) n
      go true y z k = let l = starts_length e u k in omega arith
      go false true z k = scalar_bounded 6 (length e + 6) (drop 1 u) n (omega arith) (λ h. omega (arith, length-drop 1 u))
      go false false true k = low_bounded (number 16 4 0 u)
      go false false false k = scalar_bounded 4 (length e + 3) u n (omega arith) (λ h. omega arith)

pub unicode_steady : (e : List ℕ) (q : ℕ) → eqb 0 q ≡ false → Steady (unicode_step e q)
unicode_steady e q z b t = go (eqb b q) (starts e (b ∷ t)) refl
  where
    go : (x y : Bool) → starts e (b ∷ t) ≡ y → Bounded (if x then doubled q t else if y then uescaped e (drop (length e) (b ∷ t)) else keep) (length t)
    go true y k = doubled_bounded q t z
    go false true k =
        let l = starts_length e (b ∷ t) k in
        let d = length-drop (length e) (b ∷ t) in
        uescaped_bounded e (drop (length e) (b ∷ t)) (length t) (omega arith)
    go false false k = tt
