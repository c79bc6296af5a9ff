-- What each way out of the functions that read a unit says, over a body l and a place of it. Assumes nothing.
use mathlib.Core.Path.{◌≡◌, refl, ap, ap₂, sym, ◌∙◌}
use mathlib.Core.Bool.{Bool, true, false, ◌&&◌, not, false≢true}
use mathlib.Core.List.{List, [], ◌∷◌}
use Prim.Native.Nat.{ℕ, suc, ◌+◌, ◌-◌, ◌*◌, ◌%◌, ◌≤◌, ◌<◌}
use Prim.Native.Char.{code}
use native.Mathlib.Nat.{add-zero, mod-eq_of_lt, lt_of_lt_of_le, pow-le-pow_right}
use native.Mathlib.Numerals.{add-one}
use native.Mathlib.Omega.{arith}
use borrow.Author.Tests.{eq-eqb, ne_eqb, lt-ltb, le-ltb, ltb-true, ltb-false, le-leb, leb-true, not-true, not-false}
use lib.Dec.{eqb, ltb, leb}
use lib.ListN.{length, take, drop, length-drop, drop_of_length-le}
use lib.Seq.{drop-cons, drop-drop, get_or-drop}
use Rattle.meaning.specs.Bytes.{◌!◌, ascii, has, starts, within, backslash, digit, digits, number}
use Rattle.std.specs.Prelude.{if◌then◌else◌}
use Rattle.meaning.specs.Chars.{encode, is_scalar}
use Rattle.meaning.specs.Walk.{Step, keep, give, stop}
use Rattle.meaning.specs.Steps.{byte_of, mysql_table, escape_table, doubled, mysql, one_byte, may_escape, scalar_by, escaped, pair, low_half, uescaped, standard_step}
use Rattle.meaning.specs.Steps.{escape_step, unicode_step}
use Rattle.laws.proofs.basics.Lists.{part_tail}
use Rattle.laws.proofs.basics.Tests.{and_left, and_right, eqb_sym, within_yes, within_below, within_above, within_bounds}
use Rattle.laws.proofs.utf8.Encode.{is_scalar_yes}
use Rattle.laws.proofs.basics.Digits.{digits_le, number_digits_lt}
use Rattle.laws.proofs.walking.StepBounds.{starts_length}
use Rattle.escapes.specs.declared.digits.Digits.{Digits}
use Rattle.escapes.specs.declared.pieces.Piece.{Piece}
use Rattle.escapes.specs.declared.pieces.Piece.TheVariants.{Keep, Byte, Two, Scalar, Escape, Refused}
use Rattle.escapes.specs.Digits.{Run, hex_by}
use Rattle.escapes.specs.Pieces.{Is, IsBy, scalar_of, letter_of, Behind, HighHalf}
use Rattle.escapes.proofs.Hexes.{hex_inside}

-- the front of what stands at a place
pub front : (l : List ℕ) (at : ℕ) → drop at l ! 0 ≡ l ! at
front l at = get_or-drop at l 0 0 ∙ ap (λ (n : ℕ). l ! n) (add-zero at)

pub cut : (l : List ℕ) (at : ℕ) → at < length l → drop at l ≡ l ! at ∷ drop (at + 1) l
cut l at h = rw add-one (drop-cons l at 0 h)

is_by : {r : Piece} {s s' : Step} (e : List ℕ) → Is r s → s ≡ s' → IsBy e r s'
is_by e i p = record { means = i.means e ∙ p }

is_at : {r : Piece} {s s' : Step} → Is r s → s ≡ s' → Is r s'
is_at i p = record { means = λ e. i.means e ∙ p }

-- THE MARK q, or a byte that stands for itself
module _ (l : List ℕ) (at : ℕ) (h : at < length l) (mark q : ℕ) (m : mark ≡ q) where
  mark_here : standard_step false q (drop at l) ≡ (if eqb (l ! at) q then doubled q (drop (at + 1) l) else keep)
  mark_here = ap (standard_step false q) (cut l at h)

  module _ (y : l ! at ≡ mark) (b : ℕ) (e : b ≡ l ! (at + 1)) where
    doubled_here : standard_step false q (drop at l) ≡ (if eqb b q then give 1 (q ∷ []) else stop)
    unfolding doubled
    doubled_here = mark_here ∙ rw (eq-eqb (l ! at) q (y ∙ m), front l (at + 1), ← e)

    pub mark_alone : (b ≡ mark → ⊥) → Is Refused (standard_step false q (drop at l))
    mark_alone n = record { means = λ _. sym (doubled_here ∙ rw (ne_eqb b q (λ k. n (k ∙ sym m)))) }

    pub mark_pair : b ≡ mark → Is (Byte mark 1) (standard_step false q (drop at l))
    mark_pair k = record { means = λ _. sym (doubled_here ∙ rw (eq-eqb b q (k ∙ m), m)) }

-- LETTERS that a table does not have
abbrev Other : List (ℕ × ℕ) → ℕ → Type 0
Other [] c = Unit {0}
Other (r ∷ rs) c = (c ≡ r.0 → ⊥) × Other rs c

other_none : (rs : List (ℕ × ℕ)) (c : ℕ) → Other rs c → 256 ≡ byte_of rs c
other_none [] c o = refl
other_none (r ∷ rs) c o = rw (ne_eqb r.0 c (λ e. o.0 (sym e))) (other_none rs c o.1)

-- STANDARD
module _ (l : List ℕ) (at : ℕ) (h : at < length l) where
  mysql_at : (k v : ℕ) → l ! at ≡ k → byte_of mysql_table k ≡ v → mysql (drop at l)
      ≡ (if ltb v 256 then give 1 (v ∷ []) else if has k (ascii "%_") then give 1 (backslash ∷ k ∷ []) else give 1 (k ∷ []))
  mysql_at k v e f =
      ap mysql (cut l at h ∙ ap (◌∷ drop (at + 1) l) e)
      ∙ ap (λ (v : ℕ). if ltb v 256 then give 1 (v ∷ []) else if has k (ascii "%_") then give 1 (backslash ∷ k ∷ []) else give 1 (k ∷ [])) f

-- E
pub one_zero : (k b : ℕ) → b ≡ 0 → Is Refused (one_byte k b)
unfolding one_byte
one_zero k b h = record { means = λ e. rw (eq-eqb b 0 h) }

pub one_byte_lem : (k b : ℕ) → (b ≡ 0 → ⊥) → Is (Byte b k) (one_byte k b)
unfolding one_byte
one_byte_lem k b h = record { means = λ e. rw (ne_eqb b 0 h) }

-- a scalar by hex digits, of which the number is told
pub scalar_by_lem : (w n : ℕ) (t : List ℕ) → scalar_by w n t ≡ scalar_of n (hex_by w t)
unfolding scalar_by scalar_of hex_by may_escape
scalar_by_lem w n t = go (eqb (digits 16 w t) w)
  where
    go : (x : Bool) → (if x && may_escape (number 16 w 0 t) then give n (encode (number 16 w 0 t)) else stop)
        ≡ (if may_escape (if x then number 16 w 0 t else 0) then give n (encode (if x then number 16 w 0 t else 0)) else stop)
    go true = refl
    go false = refl

-- two hex digits make a byte
two_hex : (t : List ℕ) → number 16 (digits 16 2 t) 0 t < 256
two_hex t =
    let o : 0 < 16 = omega arith in
    lt_of_lt_of_le (number_digits_lt 16 2 (digits 16 2 t) t (omega arith)) (pow-le-pow_right o (digits_le 16 2 t))

-- AN OCTAL DIGIT
module _ (b : ℕ) where
  octal_bound : digit b < 8 → (48 ≤ b) × (b ≤ 55)
  unfolding digit
  octal_bound h = go (within 48 57 b) (within 65 70 b) (within 97 102 b) refl refl refl h
    where
      go : (x y z : Bool) → within 48 57 b ≡ x → within 65 70 b ≡ y → within 97 102 b ≡ z
          → (if x then b - 48 else if y then b - 55 else if z then b - 87 else 16) < 8 → (48 ≤ b) × (b ≤ 55)
      go true y z e f g h = let k = within_bounds 48 57 b e in omega arith
      go false true z e f g h = let k = within_bounds 65 70 b f in absurd (omega arith)
      go false false true e f g h = let k = within_bounds 97 102 b g in absurd (omega arith)
      go false false false e f g h = absurd (omega arith)

  octal_small : 48 ≤ b → b ≤ 55 → digit b < 8
  unfolding digit
  octal_small h k = rw (within_yes 48 57 b h (omega arith)) (omega arith)

  octal_not : 8 ≤ digit b → (w : Bool) → (leb 48 b && leb b 55) ≡ w → w ≡ false
  octal_not h false e = refl
  octal_not h true e =
      let d = octal_small (leb-true 48 b (and_left (leb 48 b) (leb b 55) e)) (leb-true b 55 (and_right (leb 48 b) (leb b 55) e)) in
      absurd (omega arith)

  pub octal_test : (leb 48 b && leb b 55) ≡ ltb (digit b) 8
  octal_test = go (ltb (digit b) 8) refl
    where
      go : (z : Bool) → ltb (digit b) 8 ≡ z → (leb 48 b && leb b 55) ≡ z
      go true e = let k = octal_bound (ltb-true (digit b) 8 e) in rw (le-leb 48 b k.0, le-leb b 55 k.1)
      go false e = octal_not (ltb-false (digit b) 8 e) (leb 48 b && leb b 55) refl

-- LETTERS
-- the byte by E's table, by which letter it is
abbrev told_by : Bool → Bool → Bool → Bool → Bool → ℕ
told_by x y z w u = if x then 8 else if y then 12 else if z then 10 else if w then 13 else if u then 9 else 256

pub letter_of_lem : (c : ℕ)
    → (if eqb c 98 then 8 else if eqb c 102 then 12 else if eqb c 110 then 10 else if eqb c 114 then 13 else if eqb c 116 then 9 else c) ≡ letter_of c
unfolding letter_of
letter_of_lem c =
    rw (eqb_sym c 98, eqb_sym c 102, eqb_sym c 110, eqb_sym c 114, eqb_sym c 116)
    (go (eqb 98 c) (eqb 102 c) (eqb 110 c) (eqb 114 c) (eqb 116 c))
  where
    go : (x y z w u : Bool)
        → (if x then 8 else if y then 12 else if z then 10 else if w then 13 else if u then 9 else c)
        ≡ (if ltb (told_by x y z w u) 256 then told_by x y z w u else c)
    go true y z w u = refl
    go false true z w u = refl
    go false false true w u = refl
    go false false false true u = refl
    go false false false false true = refl
    go false false false false false = refl

-- as five choices make it
pub letter_chosen : (c t r n f v : ℕ) → t ≡ (if eqb c 116 then 9 else c) → r ≡ (if eqb c 114 then 13 else t) → n ≡ (if eqb c 110 then 10 else r)
    → f ≡ (if eqb c 102 then 12 else n) → v ≡ (if eqb c 98 then 8 else f) → v ≡ letter_of c
letter_chosen c t r n f v et er en ef ev = rw (ev, ef, en, er, et) (letter_of_lem c)

-- what follows E's backslash, by the letter c
escaped_by : (c : ℕ) (t : List ℕ) (v n : ℕ) → byte_of escape_table c ≡ v → digits 8 3 (c ∷ t) ≡ n
    → escaped (c ∷ t)
    ≡ (if ltb v 256 then give 1 (v ∷ [])
    else if ltb 0 n then one_byte n (number 8 n 0 (c ∷ t) % 256)
    else if eqb c (code "x") && ltb 0 (digits 16 2 t) then one_byte (suc (digits 16 2 t)) (number 16 (digits 16 2 t) 0 t)
    else if eqb c (code "u") then scalar_by 4 5 t
    else if eqb c (code "U") then scalar_by 8 9 t
    else one_byte 1 c)
escaped_by c t v n e f =
    ap₂ (λ (v n : ℕ).
    if ltb v 256 then give 1 (v ∷ [])
    else if ltb 0 n then one_byte n (number 8 n 0 (c ∷ t) % 256)
    else if eqb c (code "x") && ltb 0 (digits 16 2 t) then one_byte (suc (digits 16 2 t)) (number 16 (digits 16 2 t) 0 t)
    else if eqb c (code "u") then scalar_by 4 5 t
    else if eqb c (code "U") then scalar_by 8 9 t
    else one_byte 1 c) e f

octal_first : (c : ℕ) (t : List ℕ) (n : ℕ) → digit c < 8 → digits 8 3 (c ∷ t) ≡ n → escaped (c ∷ t) ≡ one_byte n (number 8 n 0 (c ∷ t) % 256)
octal_first c t n h e =
    let k = octal_bound c h in
    let o : 256 ≡ byte_of escape_table c =
    other_none escape_table c ((λ e. omega arith), ((λ e. omega arith), ((λ e. omega arith), ((λ e. omega arith), ((λ e. omega arith), tt))))) in
    let z : suc (digits 8 2 t) ≡ n = rw (lt-ltb (digit c) 8 h) at e in
    let p : 0 < n = omega arith in
    escaped_by c t 256 n (sym o) e ∙ rw (lt-ltb 0 n p)

pub letter_last : (c : ℕ) (t : List ℕ) → 8 ≤ digit c → (c ≡ 120 → ⊥) → (c ≡ 117 → ⊥) → (c ≡ 85 → ⊥) → escaped (c ∷ t) ≡ one_byte 1 (letter_of c)
unfolding letter_of one_byte
letter_last c t h x u w =
    rw (le-ltb (digit c) 8 h, ne_eqb c 120 x, ne_eqb c 117 u, ne_eqb c 85 w)
    (go (eqb 98 c) (eqb 102 c) (eqb 110 c) (eqb 114 c) (eqb 116 c))
  where
    go : (x y z w u : Bool)
        → (if ltb (told_by x y z w u) 256 then give 1 (told_by x y z w u ∷ []) else if eqb c 0 then stop else give 1 (c ∷ []))
        ≡ (if eqb (if ltb (told_by x y z w u) 256 then told_by x y z w u else c) 0 then stop
        else give 1 ((if ltb (told_by x y z w u) 256 then told_by x y z w u else c) ∷ []))
    go true y z w u = refl
    go false true z w u = refl
    go false false true w u = refl
    go false false false true u = refl
    go false false false false true = refl
    go false false false false false = refl

module _ (l : List ℕ) (at : ℕ) (h : at < length l) where
  here : {s : Step} → escaped (l ! at ∷ drop (at + 1) l) ≡ s → (p : Piece) → Is p s → Is p (escaped (drop at l))
  here e p i = is_at i (sym (ap escaped (cut l at h) ∙ e))

  module _ (y : Bool) (ey : y ≡ ltb (digit (l ! at)) 8) where
    pub escaped_octal : y ≡ true → (d : Digits) → Run 8 3 (drop at l) d → (p : Piece) → Is p (one_byte d.count (d.value % 256))
        → Is p (escaped (drop at l))
    escaped_octal o d r p i =
        let c = cut l at h in
        let n : digits 8 3 (l ! at ∷ drop (at + 1) l) ≡ d.count = ap (digits 8 3) (sym c) ∙ sym r.count in
        let m : number 8 d.count 0 (l ! at ∷ drop (at + 1) l) ≡ d.value =
        ap₂ (λ (n : ℕ) (t : List ℕ). number 8 n 0 t) r.count (sym c) ∙ sym r.value in
        here (octal_first (l ! at) (drop (at + 1) l) d.count (ltb-true (digit (l ! at)) 8 (sym ey ∙ o)) n ∙ rw m) p i

    pub escaped_letter : y ≡ false → (l ! at ≡ 120 → ⊥) → (l ! at ≡ 117 → ⊥) → (l ! at ≡ 85 → ⊥) → (v : ℕ) → v ≡ letter_of (l ! at)
        → (p : Piece) → Is p (one_byte 1 v) → Is p (escaped (drop at l))
    escaped_letter o x u w v e p i =
        here (letter_last (l ! at) (drop (at + 1) l) (ltb-false (digit (l ! at)) 8 (sym ey ∙ o)) x u w ∙ ap (one_byte 1) (sym e)) p i

  module _ (c : l ! at ≡ 120) (x : Digits) (s : Run 16 2 (drop (at + 1) l) x) where
    x_here : escaped (l ! at ∷ drop (at + 1) l)
        ≡ (if ltb 0 (digits 16 2 (drop (at + 1) l)) then one_byte (suc (digits 16 2 (drop (at + 1) l)))
        (number 16 (digits 16 2 (drop (at + 1) l)) 0 (drop (at + 1) l))
        else one_byte 1 120)
    unfolding digit within
    x_here = rw c

    pub escaped_hex : 0 < x.count → (p : Piece) → Is p (one_byte (x.count + 1) (x.value % 256)) → Is p (escaped (drop at l))
    escaped_hex n p i =
        let t = drop (at + 1) l in
        let lt : x.value < 256 = rw s.value (two_hex t) in
        here (x_here
        ∙ rw (← s.count, lt-ltb 0 x.count n) (ap₂ one_byte (sym (add-one x.count)) (rw s.count (sym s.value) ∙ sym (mod-eq_of_lt lt)))) p i

  pub escaped_four : l ! at ≡ 117 → (v : ℕ) → v ≡ hex_by 4 (drop (at + 1) l) → Is (Scalar v 5) (escaped (drop at l))
  unfolding digit within
  escaped_four c v e = here (rw c (scalar_by_lem 4 5 (drop (at + 1) l) ∙ ap (scalar_of 5) (sym e))) (Scalar v 5) (record { means = λ _. refl })

  pub escaped_eight : l ! at ≡ 85 → (v : ℕ) → v ≡ hex_by 8 (drop 1 (take (length l - at) (drop at l))) → Is (Scalar v 9) (escaped (drop at l))
  unfolding digit within
  escaped_eight c v e =
      let e' : v ≡ hex_by 8 (drop (at + 1) l) = e ∙ ap (λ (t : List ℕ). hex_by 8 (drop 1 t)) (part_tail l at) ∙ ap (hex_by 8) (drop-drop 1 at l) in
      here (rw c (scalar_by_lem 8 9 (drop (at + 1) l) ∙ ap (scalar_of 9) (sym e'))) (Scalar v 9) (record { means = λ _. refl })

-- U&. The low half that a high half h needs next
module _ (e l : List ℕ) (at h : ℕ) (x : Bool) (ex : x ≡ starts e (drop at l)) where
  pub low_absent : not x ≡ true → Is Refused (low_half e h (drop at l))
  unfolding low_half
  low_absent n = record { means = λ _. rw (sym ex ∙ not-true x n) }

  module _ (n : not x ≡ false) (v : ℕ) (r : v ≡ hex_by 4 (drop (at + length e) l)) where
    low_here : low_half e h (drop at l) ≡ (if within 0xDC00 0xDFFF v then give (length e + length e + 7) (encode (pair h v)) else stop)
    unfolding low_half hex_by within
    low_here = rw (sym ex ∙ not-false x n, drop-drop, r) (go (eqb (digits 16 4 (drop (at + length e) l)) 4) (number 16 4 0 (drop (at + length e) l)))
      where
        go : (x : Bool) (k : ℕ) → (if x && within 0xDC00 0xDFFF k then give (length e + length e + 7) (encode (pair h k)) else stop)
            ≡ (if within 0xDC00 0xDFFF (if x then k else 0) then give (length e + length e + 7) (encode (pair h (if x then k else 0))) else stop)
        go true k = refl
        go false k = refl

    pub low_below : v < 0xDC00 → Is Refused (low_half e h (drop at l))
    low_below b = record { means = λ _. sym (low_here ∙ rw (within_below 0xDC00 0xDFFF v b)) }

    pub low_above : 0xDFFF < v → Is Refused (low_half e h (drop at l))
    low_above b = record { means = λ _. sym (low_here ∙ rw (within_above 0xDC00 0xDFFF v b)) }

    pub low_is : 0xD800 ≤ h → h ≤ 0xDBFF → 0xDC00 ≤ v → v ≤ 0xDFFF
        → Is (Scalar (0x10000 + (h - 0xD800) * 0x400 + (v - 0xDC00)) (length e + length e + 7)) (low_half e h (drop at l))
    unfolding pair scalar_of may_escape
    low_is p q a b =
        let w = 0x10000 + (h - 0xD800) * 0x400 + (v - 0xDC00) in
        let o : 0 < w = omega arith in
        let s : is_scalar w ≡ true = is_scalar_yes w (omega arith) (λ _. omega arith) in
        record { means = λ _. rw (lt-ltb 0 w o, s) (sym (low_here ∙ rw (within_yes 0xDC00 0xDFFF v a b))) }

-- a high half that was told by its bounds
pub high_half : (e l : List ℕ) (at : ℕ) → Behind e l at → (v : ℕ) → v ≡ hex_by 4 (drop at l) → (leb 0xD800 v && leb v 0xDBFF) ≡ true
    → HighHalf e l (at + 4) v
high_half e l at b v r w =
    let h = leb-true 0xD800 v (and_left (leb 0xD800 v) (leb v 0xDBFF) w) in
    record {
      behind = omega (arith, b.behind);
      inside = hex_inside 4 l at v r (omega arith) b.inside;
      least = h;
      most = leb-true v 0xDBFF (and_right (leb 0xD800 v) (leb v 0xDBFF) w);
    }

-- what follows the escape character
module _ (e l : List ℕ) (at : ℕ) (x : Bool) (ex : x ≡ starts e (drop at l)) where
  pub uescaped_again : x ≡ true → IsBy e (Escape (length e + length e - 1)) (uescaped e (drop at l))
  unfolding uescaped
  uescaped_again s = record { means = rw (sym ex ∙ s) }

  pub uescaped_empty : x ≡ true → length e ≡ 0 → IsBy e (Escape 0) (uescaped e (drop at l))
  uescaped_empty s n = let z : 0 ≡ length e + length e - 1 = omega arith in rw z (uescaped_again s)

  module _ (s : x ≡ false) (b : ℕ) (eb : b ≡ l ! at) where
    pub uescaped_plus : b ≡ 43 → (v : ℕ) → v ≡ hex_by 6 (drop (at + 1) l) → IsBy e (Scalar v (length e + 6)) (uescaped e (drop at l))
    unfolding uescaped
    uescaped_plus c v r = record {
      means =
          rw (sym ex ∙ s, front l at, eq-eqb (l ! at) 43 (sym eb ∙ c), drop-drop)
          (sym (scalar_by_lem 6 (length e + 6) (drop (at + 1) l) ∙ ap (scalar_of (length e + 6)) (sym r)));
    }

    module _ (c : b ≡ 43 → ⊥) (v : ℕ) (r : v ≡ hex_by 4 (drop at l)) where
      four_here : uescaped e (drop at l) ≡ (if within 0xD800 0xDBFF v then low_half e v (drop (at + 4) l) else scalar_of (length e + 3) v)
      unfolding uescaped hex_by within
      four_here =
          rw (sym ex ∙ s, front l at, ne_eqb (l ! at) 43 (λ k. c (eb ∙ k)), drop-drop, scalar_by_lem 4 (length e + 3) (drop at l), r)
          (go (eqb (digits 16 4 (drop at l)) 4) (number 16 4 0 (drop at l)))
        where
          go : (x : Bool) (k : ℕ) → (if x && within 0xD800 0xDBFF k then low_half e k (drop (at + 4) l) else scalar_of (length e + 3) (if x then k else 0))
              ≡ (if within 0xD800 0xDBFF (if x then k else 0) then low_half e (if x then k else 0) (drop (at + 4) l)
              else scalar_of (length e + 3) (if x then k else 0))
          go true k = refl
          go false k = refl

      pub uescaped_high : (leb 0xD800 v && leb v 0xDBFF) ≡ true → (p : Piece) → Is p (low_half e v (drop (at + 4) l)) → IsBy e p (uescaped e (drop at l))
      unfolding within
      uescaped_high w p i = is_by e i (sym (four_here ∙ rw w))

      pub uescaped_four : (leb 0xD800 v && leb v 0xDBFF) ≡ false → IsBy e (Scalar v (length e + 3)) (uescaped e (drop at l))
      unfolding within
      uescaped_four w = record { means = sym (four_here ∙ rw w) }

-- an escape character, y saying that it is no mark, stands inside
pub escape_inside : (e l : List ℕ) (at : ℕ) (x y : Bool) → at < length l → x ≡ starts e (drop at l) → (y && x) ≡ true → Behind e l (at + length e)
escape_inside e l at x y h ex w =
    record { behind = omega arith; inside = omega (arith, starts_length e (drop at l) (sym ex ∙ and_right y x w), length-drop at l) }
