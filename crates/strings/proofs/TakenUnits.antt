-- Units at a text's front: what each family's step says of the first bytes, and what a way out of the functions that take one says. Assumes nothing.
use mathlib.Core.Logic.{◌⊎◌, inl, inr}
use mathlib.Core.Path.{◌≡◌, refl, ap, sym, ◌∙◌, subst}
use mathlib.Core.Bool.{Bool, true, false, ◌&&◌, ◌||◌, not, or-false, false≢true}
use mathlib.Core.List.{List, [], ◌∷◌, ◌++◌}
use Prim.Native.Nat.{ℕ, zero, suc, ◌+◌, ◌-◌, ◌*◌, ◌%◌, ◌≤◌, ◌<◌}
use Prim.Native.Char.{code}
use native.Mathlib.Numerals.{add-one}
use native.Mathlib.Omega.{arith}
use borrow.Author.Tests.{le-leb, ne_eqb, eqb-true, eqb-false, lt-ltb, ltb-true, ltb-false, leb-true, not-true, not-false}
use lib.Dec.{eqb, ltb, leb}
use lib.ListN.{length, take, drop, length-append}
use lib.Seq.{drop-drop, take-append_seam}
use Rattle.meaning.specs.Bytes.{◌!◌, ascii, has, starts, within, backslash, digit, digits, number}
use Rattle.std.specs.Prelude.{if◌then◌else◌}
use Rattle.meaning.specs.Answers.{filled}
use Rattle.meaning.specs.Chars.{encode, is_scalar, whole, utf8}
use Rattle.meaning.specs.Walk.{Step, keep, give, stop}
use Rattle.meaning.specs.Steps.{byte_of, mysql_table, escape_table, doubled, mysql, one_byte, may_escape, scalar_by, escaped, escape_step, low_half, uescaped, unicode_step}
use Rattle.meaning.specs.Steps.{standard_step}
use Rattle.laws.proofs.basics.Digits.{digit_low}
use Rattle.laws.proofs.basics.Tests.{and_left, and_right, or_left, or_right, eqb_sym}
use Rattle.laws.proofs.utf8.Utf8.{low_lead}
use Rattle.laws.proofs.utf8.Encode.{encode_utf8}
use Rattle.laws.proofs.utf8.Abreast.{Lows, Abreast, abreast_whole, abreast_hidden}
use Rattle.laws.proofs.walking.StepBounds.{Bounded, encode_most}
use Rattle.laws.proofs.walking.Fronts.{Front, front_unit}
use Rattle.cutting.specs.declared.marks.Mark.{Mark}
use Rattle.cutting.specs.declared.marks.Mark.TheVariants.{Quote, DoubleQuote}
use Rattle.cutting.specs.Marks.{mark_of}
use Rattle.scalars.specs.Scalars.{Encodes}
use Rattle.escapes.specs.declared.units.Family.{Family}
use Rattle.escapes.specs.declared.units.Family.TheVariants.{Standard, Escape, Unicode}
use Rattle.escapes.specs.declared.pieces.Piece.{Piece}
use Rattle.escapes.specs.declared.pieces.Piece.TheVariants.{Byte}
use Rattle.escapes.specs.Digits.{hex_by}
use Rattle.escapes.specs.Pieces.{meaning_of, Is, scalar_of, letter_of}
use Rattle.escapes.specs.Families.{checks}
use Rattle.escapes.proofs.UnitLaws.{front, octal_test, letter_of_lem, letter_last, scalar_by_lem, low_is}
use Rattle.escapes.proofs.Turns.{steady}
use Rattle.strings.specs.declared.taking.Taken.{Taken}
use Rattle.strings.specs.Quick.{step_by, mysql_of, Takes, Scalars, Pairs, Raws}

-- % and _, which MySQL's backslash leaves as they are, are not in the table of its letters
abbrev wild : ℕ → Bool
wild c = eqb c 37 || eqb c 95

not_wild : (c : ℕ) → wild c ≡ true → ltb (byte_of mysql_table c) 256 ≡ false
not_wild c h = go (eqb c 37) refl h
  where
    go : (x : Bool) → eqb c 37 ≡ x → (x || eqb c 95) ≡ true → ltb (byte_of mysql_table c) 256 ≡ false
    go true e k = rw (eqb-true c 37 e)
    go false e k = rw (eqb-true c 95 k)

wild_has : (c : ℕ) → has c (ascii "%_") ≡ wild c
wild_has c = ap (eqb c 37 ||◌) (or-false (eqb c 95))

-- the part that an encoding fills
encoded_part : (c : ℕ) (out : List ℕ) (r : ℕ) (after : List ℕ) → is_scalar c ≡ true → 4 ≤ length out → Encodes c out r after
    → (take r after ≡ encode c) × (r ≤ length after)
unfolding filled
encoded_part c out r after s h e =
    let f : leb (length (encode c)) (length out) ≡ true = le-leb (length (encode c)) (length out) (omega (arith, encode_most c)) in
    let a : r ≡ length (encode c) = rw (s, f) at e.answer in
    let b : after ≡ encode c ++ drop (length (encode c)) out = rw (s, f) at e.buffer in
    (rw (a, b) (take-append_seam (encode c) (drop (length (encode c)) out)), rw (a, b, length-append) (omega arith))

-- NOTHING
abbrev pub nothing : Taken
nothing = record { len = 0; put = 0; bytes = 0 ∷ 0 ∷ 0 ∷ 0 ∷ [] }

pub takes_none : (f : Family) (text : List ℕ) (r : Taken) → r ≡ nothing → Takes f text r
takes_none f text r e =
    subst (Takes f text) (sym e)
    (record { few = omega arith; four = refl; front = λ h. absurd (omega arith); abreast = λ h. absurd (omega arith) })

pub scalars_none : (len value : ℕ) (r : Taken) → r ≡ nothing → Scalars len value r
scalars_none len value r e =
    subst (Scalars len value) (sym e)
    (record { few = omega arith; four = refl; long = λ h. absurd (omega arith); may = λ h. absurd (omega arith); put = λ h. absurd (omega arith) })

pub pairs_none : (high : ℕ) (text : List ℕ) (r : Taken) → r ≡ nothing → Pairs high text r
pairs_none high text r e =
    subst (Pairs high text) (sym e)
    (record { few = omega arith; four = refl; long = λ h. absurd (omega arith); step = λ h. absurd (omega arith) })

pub raws_none : (text : List ℕ) → Raws text (record { len = 0; byte = 0 })
raws_none text = record { front = λ h. absurd (omega arith); lows = λ h. absurd (omega arith) }

-- A UNIT, if something is taken
there : (f : Family) (b : ℕ) (t : List ℕ) (k : ℕ) (out : List ℕ) → step_by f (b ∷ t) ≡ give k out → Front (step_by f) (b ∷ t) (suc k) out false
there f b t k out e =
    let i : Bounded (give k out) (length t) = subst (λ (s : Step). Bounded s (length t)) e (steady f (backslash ∷ []) b t) in
    front_unit (step_by f) (b ∷ t) k out e (omega arith)

takes_unit : (f : Family) (b : ℕ) (t : List ℕ) (k : ℕ) (r : Taken) → r.put ≤ 4 → length r.bytes ≡ 4 → (0 < r.len → r.len ≡ suc k)
    → (0 < r.len → step_by f (b ∷ t) ≡ give k (take r.put r.bytes))
    → (0 < r.len → checks f ≡ true → Abreast (b ∷ take k t) (take r.put r.bytes))
    → Takes f (b ∷ t) r
takes_unit f b t k r few four l e a = record {
  few = few;
  four = four;
  front = λ h. rw (l h) (there f b t k (take r.put r.bytes) (e h));
  abreast = λ h c. rw (l h) (a h c);
}

-- the first byte, or the first two, are there
first : (text : List ℕ) (b : ℕ) → b ≡ text ! 0 → 0 < b → b ∷ drop 1 text ≡ text
first [] b e h = absurd (omega arith)
first (a ∷ t) b e h = ap (◌∷ t) e

second : (text : List ℕ) (b c : ℕ) → b ≡ text ! 0 → c ≡ text ! 1 → 0 < c → b ∷ c ∷ drop 2 text ≡ text
second [] b c e f h = absurd (omega arith)
second (a ∷ []) b c e f h = absurd (omega arith)
second (a ∷ d ∷ t) b c e f h = cc

-- STANDARD
pub mysql_of_lem : (c u v w x y z : ℕ) → u ≡ (if eqb c 90 then 26 else c) → v ≡ (if eqb c 116 then 9 else u) → w ≡ (if eqb c 114 then 13 else v)
    → x ≡ (if eqb c 110 then 10 else w) → y ≡ (if eqb c 98 then 8 else x) → z ≡ (if eqb c 48 then 0 else y) → z ≡ mysql_of c
unfolding mysql_of
mysql_of_lem c u v w x y z eu ev ew ex ey ez =
    rw (ez, ey, ex, ew, ev, eu, eqb_sym c 48, eqb_sym c 98, eqb_sym c 110, eqb_sym c 114, eqb_sym c 116, eqb_sym c 90)
    (go (eqb 48 c) (eqb 98 c) (eqb 110 c) (eqb 114 c) (eqb 116 c) (eqb 90 c))
  where
    by : Bool → Bool → Bool → Bool → Bool → Bool → ℕ → ℕ
    by x y z w u v n = if x then 0 else if y then 8 else if z then 10 else if w then 13 else if u then 9 else if v then 26 else n

    go : (x y z w u v : Bool) → by x y z w u v c ≡ (if ltb (by x y z w u v 256) 256 then by x y z w u v 256 else c)
    go true y z w u v = refl
    go false true z w u v = refl
    go false false true w u v = refl
    go false false false true u v = refl
    go false false false false true v = refl
    go false false false false false true = refl
    go false false false false false false = refl

module _ (bs : Bool) (q b c : ℕ) (t : List ℕ) where
  standard_two : not ((bs && eqb b 92) || (eqb b q && eqb c q)) ≡ false
      → standard_step bs q (b ∷ c ∷ t)
      ≡ give 1 (take (1 + (if (bs && eqb b 92) && (eqb c 37 || eqb c 95) then 1 else 0))
      ((if (bs && eqb b 92) && (eqb c 37 || eqb c 95) then b else if bs && eqb b 92 then mysql_of c else q) ∷ c ∷ 0 ∷ 0 ∷ []))
  unfolding mysql_of doubled
  standard_two h = go (bs && eqb b 92) refl h
    where
      letter : b ≡ 92 → (y z : Bool) → (eqb c 37 || eqb c 95) ≡ y → ltb (byte_of mysql_table c) 256 ≡ z
          → mysql (c ∷ t) ≡ give 1 (take (1 + (if y then 1 else 0)) ((if y then b else mysql_of c) ∷ c ∷ 0 ∷ 0 ∷ []))
      letter e true true y z = absurd (false≢true (sym (not_wild c y) ∙ z))
      letter e true false y z = rw (z, wild_has c, y, e)
      letter e false true y z = rw z
      letter e false false y z = rw (z, wild_has c, y)

      go : (x : Bool) → (bs && eqb b 92) ≡ x → not (x || (eqb b q && eqb c q)) ≡ false
          → (if x then mysql (c ∷ t) else if eqb b q then doubled q (c ∷ t) else keep)
          ≡ give 1 (take (1 + (if x && (eqb c 37 || eqb c 95) then 1 else 0))
          ((if x && (eqb c 37 || eqb c 95) then b else if x then mysql_of c else q) ∷ c ∷ 0 ∷ 0 ∷ []))
      go true e k =
          letter (eqb-true b 92 (and_right bs (eqb b 92) e)) (eqb c 37 || eqb c 95) (ltb (byte_of mysql_table c) 256) refl refl
      go false e k =
          let d = not-false (eqb b q && eqb c q) k in
          rw (and_left (eqb b q) (eqb c q) d, and_right (eqb b q) (eqb c q) d)

pub standard_takes : (m : Mark) (bs : Bool) (text : List ℕ) (q b c mb v o f : ℕ) (r : Taken) → q ≡ mark_of m → b ≡ text ! 0 → c ≡ text ! 1
    → (eqb c 0 || not ((bs && eqb b 92) || (eqb b q && eqb c q))) ≡ false
    → mb ≡ mysql_of c → v ≡ (if bs && eqb b 92 then mb else q)
    → o ≡ (if (bs && eqb b 92) && (eqb c 37 || eqb c 95) then 1 else 0) → f ≡ (if (bs && eqb b 92) && (eqb c 37 || eqb c 95) then b else v)
    → r ≡ record { len = 2; put = 1 + o; bytes = f ∷ c ∷ 0 ∷ 0 ∷ [] } → Takes (Standard m bs) text r
standard_takes m bs text q b c mb v o f r eq eb ec h em ev eo ef er =
    let z = eqb-false c 0 (or_left (eqb c 0) (not ((bs && eqb b 92) || (eqb b q && eqb c q))) h) in
    let s = standard_two bs q b c (drop 2 text) (or_right (eqb c 0) (not ((bs && eqb b 92) || (eqb b q && eqb c q))) h) in
    let k : o ≤ 1 = rw eo (small ((bs && eqb b 92) && (eqb c 37 || eqb c 95))) in
    let s2 : standard_step bs (mark_of m) (b ∷ c ∷ drop 2 text) ≡ give 1 (take (1 + o) (f ∷ c ∷ 0 ∷ 0 ∷ [])) = rw (ef, eo, ev, em, ← eq) s in
    subst (λ (t : List ℕ). Takes (Standard m bs) t r) (second text b c eb ec (omega arith))
    (subst (Takes (Standard m bs) (b ∷ c ∷ drop 2 text)) (sym er)
    (takes_unit (Standard m bs) b (c ∷ drop 2 text) 1 (record { len = 2; put = 1 + o; bytes = f ∷ c ∷ 0 ∷ 0 ∷ [] }) (omega arith) refl (λ _. refl)
    (λ _. s2) (λ _ x. absurd (false≢true x))))
  where
    small : (x : Bool) → (if x then 1 else 0) ≤ 1
    small true = omega arith
    small false = omega arith

-- with the setting off
pub doubled_takes : (m : Mark) (bs : Bool) (text : List ℕ) (q b c : ℕ) (r : Taken) → q ≡ mark_of m → b ≡ text ! 0 → c ≡ text ! 1
    → (eqb c 0 || not ((bs && eqb b 92) || (eqb b q && eqb c q))) ≡ false → not bs ≡ true → r ≡ record { len = 2; put = 1; bytes = q ∷ c ∷ 0 ∷ 0 ∷ [] }
    → Takes (Standard m bs) text r
doubled_takes m bs text q b c r eq eb ec h o er =
    let e = not-true bs o in standard_takes m bs text q b c (mysql_of c) q 0 q r eq eb ec h refl (rw e refl) (rw e refl) (rw e refl) er

-- A CHARACTER BY ITS NUMBER
pub scalars_put : (len value : ℕ) (n : ℕ) (after : List ℕ) → (value ≡ 0 → ⊥) → (x : Bool) → x ≡ is_scalar value → not x ≡ false
    → Encodes value (0 ∷ 0 ∷ 0 ∷ 0 ∷ []) n after → length after ≡ 4 → Scalars len value (record { len = len; put = n; bytes = after })
unfolding may_escape
scalars_put len value n after z x ex t e l =
    let s : is_scalar value ≡ true = sym ex ∙ not-false x t in
    let p = encoded_part value (0 ∷ 0 ∷ 0 ∷ 0 ∷ []) n after s (omega arith) e in
    let o : 0 < value = omega arith in
    record { few = omega arith; four = l; long = λ _. refl; may = λ _. rw (lt-ltb 0 value o, s); put = λ _. p.0 }

-- the step that a number is
scalar_step : {len value : ℕ} {r : Taken} (n : ℕ) → Scalars len value r → 0 < r.len → scalar_of n value ≡ give n (take r.put r.bytes)
unfolding scalar_of
scalar_step {len} {value} {r} n s h = rw (s.may h) (ap (give n) (sym (s.put h)))

-- E. What its escapes take is ASCII, where the letter is
digits_low : (β w : ℕ) (t : List ℕ) → β ≤ 16 → Lows (take (digits β w t) t)
digits_low β zero t h = tt
digits_low β (suc w) [] h = tt
digits_low β (suc w) (b ∷ t) h = go (ltb (digit b) β) refl (digits_low β w t h)
  where
    go : (x : Bool) → ltb (digit b) β ≡ x → Lows (take (digits β w t) t) → Lows (take (if x then suc (digits β w t) else 0) (b ∷ t))
    go true e l = let k = ltb-true (digit b) β e in (digit_low b (omega arith), l)
    go false e l = tt

abbrev LowBy : Step → List ℕ → Type 0
LowBy keep t = Unit {0}
LowBy (give k out) t = Lows (take k t)
LowBy stop t = Unit {0}

low_one : (k b : ℕ) (t : List ℕ) → Lows (take k t) → LowBy (one_byte k b) t
unfolding one_byte
low_one k b t l = go (eqb b 0)
  where
    go : (x : Bool) → LowBy (if x then stop else give k (b ∷ [])) t
    go true = tt
    go false = l

low_scalar : (w c : ℕ) (t : List ℕ) → c < 0x80 → LowBy (scalar_by w (suc w) t) (c ∷ t)
unfolding scalar_by
low_scalar w c t h = go (eqb (digits 16 w t) w) (may_escape (number 16 w 0 t)) refl
  where
    go : (x y : Bool) → eqb (digits 16 w t) w ≡ x → LowBy (if x && y then give (suc w) (encode (number 16 w 0 t)) else stop) (c ∷ t)
    go true true e = (h, subst (λ (n : ℕ). Lows (take n t)) (eqb-true (digits 16 w t) w e) (digits_low 16 w t (omega arith)))
    go true false e = tt
    go false y e = tt

escaped_low : (c : ℕ) (t : List ℕ) → c < 0x80 → LowBy (escaped (c ∷ t)) (c ∷ t)
escaped_low c t h =
    go (ltb (byte_of escape_table c) 256) (ltb 0 (digits 8 3 (c ∷ t))) (eqb c (code "x") && ltb 0 (digits 16 2 t)) (eqb c (code "u")) (eqb c (code "U"))
  where
    go : (x y z u w : Bool)
        → LowBy
        (if x then give 1 (byte_of escape_table c ∷ [])
        else if y then one_byte (digits 8 3 (c ∷ t)) (number 8 (digits 8 3 (c ∷ t)) 0 (c ∷ t) % 256)
        else if z then one_byte (suc (digits 16 2 t)) (number 16 (digits 16 2 t) 0 t)
        else if u then scalar_by 4 5 t
        else if w then scalar_by 8 9 t
        else one_byte 1 c) (c ∷ t)
    go true y z u w = (h, tt)
    go false true z u w = low_one (digits 8 3 (c ∷ t)) (number 8 (digits 8 3 (c ∷ t)) 0 (c ∷ t) % 256) (c ∷ t) (digits_low 8 3 (c ∷ t) (omega arith))
    go false false true u w = low_one (suc (digits 16 2 t)) (number 16 (digits 16 2 t) 0 t) (c ∷ t) (h, digits_low 16 2 t (omega arith))
    go false false false true w = low_scalar 4 c t h
    go false false false false true = low_scalar 8 c t h
    go false false false false false = low_one 1 c (c ∷ t) (h, tt)

-- a text that begins by a backslash and such a letter
unit_low : (c : ℕ) (t : List ℕ) → c < 0x80 → (k : ℕ) (out : List ℕ) → escaped (c ∷ t) ≡ give k out → Lows (92 ∷ take k (c ∷ t))
unit_low c t h k out e = (omega arith, subst (λ (s : Step). LowBy s (c ∷ t)) e (escaped_low c t h))

-- a byte by digits
raw_letter : (c : ℕ) → (ltb (digit c) 8 || eqb c 120) ≡ true → (0 < c) × (c < 0x80)
raw_letter c h = go (ltb (digit c) 8) refl h
  where
    go : (x : Bool) → ltb (digit c) 8 ≡ x → (x || eqb c 120) ≡ true → (0 < c) × (c < 0x80)
    go true e k =
        let o = octal_test c ∙ e in
        omega (arith, leb-true 48 c (and_left (leb 48 c) (leb c 55) o), leb-true c 55 (and_right (leb 48 c) (leb c 55) o))
    go false e k = omega (arith, eqb-true c 120 k)

module _ (text : List ℕ) (c b : ℕ) (x : Bool) (p : Piece) (byte more : ℕ) (ec : c ≡ text ! 1) (eb : b ≡ text ! 0) (ex : x ≡ ltb (digit c) 8)
    (h : (eqb b 92 && (x || eqb c 120)) ≡ true) (i : Is p (escaped (drop 1 text))) (ep : p ≡ Byte byte more) where
  pub raws_byte : Raws text (record { len = more + 1; byte = byte })
  raws_byte =
      let k = raw_letter c (rw ex at (and_right (eqb b 92) (x || eqb c 120) h)) in
      let d = second text b c eb ec k.0 in
      let n : 92 ∷ c ∷ drop 2 text ≡ text = ap (◌∷ (c ∷ drop 2 text)) (sym (eqb-true b 92 (and_left (eqb b 92) (x || eqb c 120) h))) ∙ d in
      let s : escaped (c ∷ drop 2 text) ≡ give more (byte ∷ []) = ap (λ (t : List ℕ). escaped (drop 1 t)) d ∙ sym (ap (meaning_of []) (sym ep) ∙ i.means []) in
      subst (λ (t : List ℕ). Raws t (record { len = more + 1; byte = byte })) n
      (rw add-one (record {
        front = λ _. there Escape 92 (c ∷ drop 2 text) more (byte ∷ []) s;
        lows = λ _. unit_low c (drop 2 text) k.1 more (byte ∷ []) s;
      }))

  pub raws_there : more + 1 ≤ length text
  raws_there = (raws_byte.front (omega arith)).so_far.inside

-- ASCII that stands for whole characters
pub abreast_low : (a v : List ℕ) → 0 < length a → Lows a → utf8 v ≡ true → Abreast a v
abreast_low [] v h l u = absurd (omega arith)
abreast_low (b ∷ a) v h l u = abreast_whole b a v l u

low_utf8 : (b : ℕ) → b < 0x80 → utf8 (b ∷ []) ≡ true
unfolding utf8
low_utf8 b h = ap whole (low_lead b h)

may_scalar : (v : ℕ) → may_escape v ≡ true → is_scalar v ≡ true
unfolding may_escape
may_scalar v h = and_right (ltb 0 v) (is_scalar v) h

-- w digits follow the letter l
pub escape_scalar : (w l : ℕ) → 0 < l → l < 0x80 → ((t : List ℕ) → escaped (l ∷ t) ≡ scalar_by w (suc w) t) → (text : List ℕ) (b c v : ℕ) (r : Taken)
    → b ≡ text ! 0 → c ≡ text ! 1 → (eqb b 92 && eqb c l) ≡ true → v ≡ hex_by w (drop 2 text) → Scalars (suc (suc w)) v r → Takes Escape text r
escape_scalar w l o low s text b c v r eb ec h ev k =
    let n : 92 ∷ l ∷ drop 2 text ≡ text = second text 92 l (sym (eqb-true b 92 (and_left (eqb b 92) (eqb c l) h)) ∙ eb)
    (sym (eqb-true c l (and_right (eqb b 92) (eqb c l) h)) ∙ ec) o in
    let st : 0 < r.len → escaped (l ∷ drop 2 text) ≡ give (suc w) (take r.put r.bytes) =
    λ h. s (drop 2 text) ∙ scalar_by_lem w (suc w) (drop 2 text) ∙ ap (scalar_of (suc w)) (sym ev) ∙ scalar_step (suc w) k h in
    subst (λ (t : List ℕ). Takes Escape t r) n
    (takes_unit Escape 92 (l ∷ drop 2 text) (suc w) r k.few k.four k.long st
    (λ h _. abreast_whole 92 (take (suc w) (l ∷ drop 2 text)) (take r.put r.bytes)
    (unit_low l (drop 2 text) low (suc w) (take r.put r.bytes) (st h))
    (rw (k.put h) (encode_utf8 v (may_scalar v (k.may h))))))

pub escape_four : (t : List ℕ) → escaped (117 ∷ t) ≡ scalar_by 4 5 t
unfolding digit within
escape_four t = refl

pub escape_eight : (t : List ℕ) → escaped (85 ∷ t) ≡ scalar_by 8 9 t
unfolding digit within
escape_eight t = refl

-- a letter is itself, or it and its byte are ASCII
letter_kind : (c : ℕ) → (letter_of c ≡ c) ⊎ ((0 < letter_of c) × (letter_of c < 0x80) × (c < 0x80))
letter_kind c = rw (← letter_of_lem c) (go (eqb c 98) (eqb c 102) (eqb c 110) (eqb c 114) (eqb c 116) refl refl refl refl refl)
  where
    go : (x y z w u : Bool) → eqb c 98 ≡ x → eqb c 102 ≡ y → eqb c 110 ≡ z → eqb c 114 ≡ w → eqb c 116 ≡ u
        → let v = if x then 8 else if y then 12 else if z then 10 else if w then 13 else if u then 9 else c in
        (v ≡ c) ⊎ ((0 < v) × (v < 0x80) × (c < 0x80))
    go true y z w u e f g h i = inr (omega (arith, eqb-true c 98 e))
    go false true z w u e f g h i = inr (omega (arith, eqb-true c 102 f))
    go false false true w u e f g h i = inr (omega (arith, eqb-true c 110 g))
    go false false false true u e f g h i = inr (omega (arith, eqb-true c 114 h))
    go false false false false true e f g h i = inr (omega (arith, eqb-true c 116 i))
    go false false false false false e f g h i = inl refl

module _ (c : ℕ) where
  letter_some : (c ≡ 0 → ⊥) → letter_of c ≡ 0 → ⊥
  letter_some z e = go (letter_kind c)
    where
      go : (letter_of c ≡ c) ⊎ ((0 < letter_of c) × (letter_of c < 0x80) × (c < 0x80)) → ⊥
      go (inl k) = z (sym k ∙ e)
      go (inr k) = omega arith

  letter_abreast : Abreast (92 ∷ c ∷ []) (letter_of c ∷ [])
  letter_abreast = go (letter_kind c)
    where
      go : (letter_of c ≡ c) ⊎ ((0 < letter_of c) × (letter_of c < 0x80) × (c < 0x80)) → Abreast (92 ∷ c ∷ []) (letter_of c ∷ [])
      go (inl k) = rw k (abreast_hidden c)
      go (inr k) = abreast_whole 92 (c ∷ []) (letter_of c ∷ []) (omega arith, (k.2, tt)) (low_utf8 (letter_of c) k.1)

record Two (b c : ℕ) (t : List ℕ) (v : ℕ) : Type 0 where
  step : escape_step (b ∷ c ∷ t) ≡ give 1 (v ∷ [])
  abreast : Abreast (b ∷ c ∷ []) (v ∷ [])

escape_two : (b c : ℕ) (t : List ℕ) → (c ≡ 0 → ⊥) → not (eqb b 92 || (eqb b 39 && eqb c 39)) ≡ false → (eqb b 92 && eqb c 117) ≡ false
    → (eqb b 92 && eqb c 85) ≡ false → (eqb b 92 && (ltb (digit c) 8 || eqb c 120)) ≡ false → Two b c t (letter_of c)
unfolding doubled letter_of one_byte
escape_two b c t z m u w d = go (eqb b 92) refl m u w d
  where
    go : (x : Bool) → eqb b 92 ≡ x → not (x || (eqb b 39 && eqb c 39)) ≡ false → (x && eqb c 117) ≡ false → (x && eqb c 85) ≡ false
        → (x && (ltb (digit c) 8 || eqb c 120)) ≡ false → Two b c t (letter_of c)
    go true e m u w d =
        let l : escaped (c ∷ t) ≡ one_byte 1 (letter_of c) =
        letter_last c t (ltb-false (digit c) 8 (or_left (ltb (digit c) 8) (eqb c 120) d)) (eqb-false c 120 (or_right (ltb (digit c) 8) (eqb c 120) d))
        (eqb-false c 117 u) (eqb-false c 85 w) in
        let o : one_byte 1 (letter_of c) ≡ give 1 (letter_of c ∷ []) = rw (ne_eqb (letter_of c) 0 (letter_some c z)) in
        subst (λ (b : ℕ). Two b c t (letter_of c)) (sym (eqb-true b 92 e)) (record { step = l ∙ o; abreast = letter_abreast c })
    go false e m u w d =
        let k = not-false (eqb b 39 && eqb c 39) m in
        rw (eqb-true b 39 (and_left (eqb b 39) (eqb c 39) k), eqb-true c 39 (and_right (eqb b 39) (eqb c 39) k))
        (record { step = refl; abreast = abreast_whole 39 (39 ∷ []) (39 ∷ []) (omega arith) (low_utf8 39 (omega arith)) })

pub escape_takes : (text : List ℕ) (b c : ℕ) (x : Bool) (v : ℕ) (r : Taken) → b ≡ text ! 0 → c ≡ text ! 1
    → (eqb c 0 || not (eqb b 92 || (eqb b 39 && eqb c 39))) ≡ false → (eqb b 92 && eqb c 117) ≡ false → (eqb b 92 && eqb c 85) ≡ false
    → x ≡ ltb (digit c) 8 → (eqb b 92 && (x || eqb c 120)) ≡ false → v ≡ letter_of c
    → r ≡ record { len = 2; put = 1; bytes = v ∷ 0 ∷ 0 ∷ 0 ∷ [] } → Takes Escape text r
escape_takes text b c x v r eb ec m u w ex d ev er =
    let z = eqb-false c 0 (or_left (eqb c 0) (not (eqb b 92 || (eqb b 39 && eqb c 39))) m) in
    let k : Two b c (drop 2 text) v =
    rw ev (escape_two b c (drop 2 text) z (or_right (eqb c 0) (not (eqb b 92 || (eqb b 39 && eqb c 39))) m) u w (rw ex at d)) in
    subst (λ (t : List ℕ). Takes Escape t r) (second text b c eb ec (omega arith))
    (subst (Takes Escape (b ∷ c ∷ drop 2 text)) (sym er)
    (takes_unit Escape b (c ∷ drop 2 text) 1 (record { len = 2; put = 1; bytes = v ∷ 0 ∷ 0 ∷ 0 ∷ [] }) (omega arith) refl (λ _. refl)
    (λ _. k.step) (λ _ _. k.abreast)))

-- U&
unicode_two : (q b : ℕ) (t : List ℕ) → (eqb b 92 || eqb b q) ≡ true → unicode_step (92 ∷ []) q (b ∷ b ∷ t) ≡ give 1 (b ∷ [])
unfolding doubled uescaped
unicode_two q b t k = go (eqb b q) refl k
  where
    go : (y : Bool) → eqb b q ≡ y → (eqb b 92 || y) ≡ true
        → (if y then doubled q (b ∷ t) else if starts (92 ∷ []) (b ∷ b ∷ t) then uescaped (92 ∷ []) (b ∷ t) else keep) ≡ give 1 (b ∷ [])
    go true e k = rw e (ap (λ (n : ℕ). give 1 (n ∷ [])) (sym (eqb-true b q e)))
    go false e k = rw (eqb-true b 92 (rw or-false at k))

pub unicode_takes : (m : Mark) (text : List ℕ) (b c q : ℕ) (r : Taken) → b ≡ text ! 0 → c ≡ text ! 1 → q ≡ mark_of m
    → (eqb b c && (eqb b 92 || eqb b q)) ≡ true → r ≡ record { len = 2; put = 1; bytes = b ∷ 0 ∷ 0 ∷ 0 ∷ [] } → Takes (Unicode m) text r
unicode_takes m text b c q r eb ec eq h er =
    let d : b ≡ c = eqb-true b c (and_left (eqb b c) (eqb b 92 || eqb b q) h) in
    let k : (eqb b 92 || eqb b (mark_of m)) ≡ true = rw eq at (and_right (eqb b c) (eqb b 92 || eqb b q) h) in
    subst (λ (t : List ℕ). Takes (Unicode m) t r) (second text b b eb (d ∙ ec) (omega (arith, some m k)))
    (subst (Takes (Unicode m) (b ∷ b ∷ drop 2 text)) (sym er)
    (takes_unit (Unicode m) b (b ∷ drop 2 text) 1 (record { len = 2; put = 1; bytes = b ∷ 0 ∷ 0 ∷ 0 ∷ [] }) (omega arith) refl (λ _. refl)
    (λ _. unicode_two (mark_of m) b (drop 2 text) k) (λ _ x. absurd (false≢true x))))
  where
    some : (m : Mark) → (eqb b 92 || eqb b (mark_of m)) ≡ true → b ≡ 0 → ⊥
    some Quote k e = false≢true (rw e at k)
    some DoubleQuote k e = false≢true (rw e at k)

-- what follows the backslash
unicode_by_lem : (m : Mark) (text : List ℕ) (b k : ℕ) (r : Taken) → b ≡ text ! 0 → b ≡ 92 → r.put ≤ 4 → length r.bytes ≡ 4 → (0 < r.len → r.len ≡ suc k)
    → (0 < r.len → uescaped (92 ∷ []) (drop 1 text) ≡ give k (take r.put r.bytes)) → Takes (Unicode m) text r
unicode_by_lem m text b k r eb e few four l s =
    subst (λ (t : List ℕ). Takes (Unicode m) t r) (first text 92 (sym e ∙ eb) (omega arith))
    (takes_unit (Unicode m) 92 (drop 1 text) k r few four l (λ h. here m (drop 1 text) ∙ s h) (λ _ x. absurd (false≢true x)))
  where
    here : (m : Mark) (u : List ℕ) → unicode_step (92 ∷ []) (mark_of m) (92 ∷ u) ≡ uescaped (92 ∷ []) u
    here Quote u = refl
    here DoubleQuote u = refl

pub unicode_six : (m : Mark) (text : List ℕ) (b c v : ℕ) (r : Taken) → b ≡ text ! 0 → c ≡ text ! 1 → b ≡ 92 → c ≡ 43 → v ≡ hex_by 6 (drop 2 text)
    → Scalars 8 v r → Takes (Unicode m) text r
unfolding uescaped
unicode_six m text b c v r eb ec e f ev k =
    let n : drop 1 text ≡ 43 ∷ drop 2 text = ap (drop 1) (sym (second text b 43 eb (sym f ∙ ec) (omega arith))) in
    unicode_by_lem m text b 7 r eb e k.few k.four k.long
    (λ h. ap (uescaped (92 ∷ [])) n ∙ scalar_by_lem 6 7 (drop 2 text) ∙ ap (scalar_of 7) (sym ev) ∙ scalar_step 7 k h)

module _ (u : List ℕ) (v : ℕ) (s : starts (92 ∷ []) u ≡ false) (p : eqb (u ! 0) 43 ≡ false) (ev : v ≡ hex_by 4 u) where
  four_by_lem : uescaped (92 ∷ []) u ≡ (if within 0xD800 0xDBFF v then low_half (92 ∷ []) v (drop 4 u) else scalar_of 4 v)
  unfolding uescaped hex_by within
  four_by_lem = rw (s, p, scalar_by_lem 4 4 u, ev) (go (eqb (digits 16 4 u) 4) (number 16 4 0 u))
    where
      go : (x : Bool) (k : ℕ) → (if x && within 0xD800 0xDBFF k then low_half (92 ∷ []) k (drop 4 u) else scalar_of 4 (if x then k else 0))
          ≡ (if within 0xD800 0xDBFF (if x then k else 0) then low_half (92 ∷ []) (if x then k else 0) (drop 4 u) else scalar_of 4 (if x then k else 0))
      go true k = refl
      go false k = refl

-- no backslash, and no + behind the first: four digits
module _ (m : Mark) (text : List ℕ) (b c q v : ℕ) (r : Taken) (eb : b ≡ text ! 0) (ec : c ≡ text ! 1) (h : (eqb b c && (eqb b 92 || eqb b q)) ≡ false)
    (e : b ≡ 92) (n : c ≡ 43 → ⊥) (ev : v ≡ hex_by 4 (drop 1 text)) where
  four_front : c ≡ drop 1 text ! 0
  four_front = ec ∙ sym (front text 1)

  four_alone : starts (92 ∷ []) (drop 1 text) ≡ false
  four_alone = go (drop 1 text) four_front (rw e at h)
    where
      go : (u : List ℕ) → c ≡ u ! 0 → (eqb 92 c && true) ≡ false → starts (92 ∷ []) u ≡ false
      go [] f k = refl
      go (a ∷ u) f k = rw (← f) k

  four_here : uescaped (92 ∷ []) (drop 1 text) ≡ (if leb 0xD800 v && leb v 0xDBFF then low_half (92 ∷ []) v (drop 5 text) else scalar_of 4 v)
  unfolding within
  four_here =
      four_by_lem (drop 1 text) v four_alone (ne_eqb (drop 1 text ! 0) 43 (λ k. n (four_front ∙ k))) ev
      ∙ ap (λ (u : List ℕ). if leb 0xD800 v && leb v 0xDBFF then low_half (92 ∷ []) v u else scalar_of 4 v) (drop-drop 4 1 text)

  pub unicode_pair : (leb 0xD800 v && leb v 0xDBFF) ≡ true → Pairs v text r → Takes (Unicode m) text r
  unicode_pair w k = unicode_by_lem m text b 9 r eb e k.few k.four k.long (λ h. four_here ∙ rw w (k.step h))

  pub unicode_four : (leb 0xD800 v && leb v 0xDBFF) ≡ false → Scalars 5 v r → Takes (Unicode m) text r
  unicode_four w k = unicode_by_lem m text b 4 r eb e k.few k.four k.long (λ h. four_here ∙ rw w (scalar_step 4 k h))

-- the tests for a half tell its bounds
pub half_bounds : (lo hi v : ℕ) → (leb lo v && leb v hi) ≡ true → (lo ≤ v) × (v ≤ hi)
half_bounds lo hi v h = (leb-true lo v (and_left (leb lo v) (leb v hi) h), leb-true v hi (and_right (leb lo v) (leb v hi) h))

pub low_bounds : (b v : ℕ) → (eqb b 92 && (leb 56320 v && leb v 57343)) ≡ true → (56320 ≤ v) × (v ≤ 57343)
low_bounds b v h = half_bounds 56320 57343 v (and_right (eqb b 92) (leb 56320 v && leb v 57343) h)

pub pairs_put : (high : ℕ) (text : List ℕ) (low b : ℕ) (r : Taken) → (55296 ≤ high) × (high ≤ 56319) → low ≡ hex_by 4 (drop 6 text) → b ≡ text ! 5
    → (eqb b 92 && (leb 56320 low && leb low 57343)) ≡ true → Scalars 10 (65536 + (high - 55296) * 1024 + (low - 56320)) r → Pairs high text r
pairs_put high text low b r p el eb h k =
    let l = low_bounds b low h in
    let d : 92 ≡ drop 5 text ! 0 = sym (eqb-true b 92 (and_left (eqb b 92) (leb 56320 low && leb low 57343) h)) ∙ eb ∙ sym (front text 5) in
    let s : starts (92 ∷ []) (drop 5 text) ≡ true = ap (starts (92 ∷ [])) (sym (first (drop 5 text) 92 d (omega arith))) in
    let i = low_is (92 ∷ []) text 5 high true (sym s) refl low el p.0 p.1 l.0 l.1 in
    record { few = k.few; four = k.four; long = k.long; step = λ h. sym (i.means []) ∙ scalar_step 9 k h }
