-- The spelling of a character that does not stand for itself, in the order of the code's tests. Assumes nothing.
use mathlib.Core.Path.{◌≡◌, refl, ap, sym, subst, ◌∙◌}
use mathlib.Core.Bool.{Bool, true, false, ◌&&◌, ◌||◌, not, and-true, or-true, false≢true}
use mathlib.Core.List.{List, [], ◌∷◌}
use Prim.Native.Nat.{ℕ, suc, ◌-◌, ◌≤◌, ◌<◌}
use native.Mathlib.Decide.{dec_lt}
use native.Mathlib.Omega.{arith}
use lib.Dec.{eqb, leb, ltb}
use lib.ListN.{length, drop}
use lib.Seq.{drop-cons}
use borrow.Author.Tests.{eqb-true, eq-eqb, le-leb, leb-true, ltb-false}
use Rattle.meaning.specs.Bytes.{◌!◌, within, quote, backslash}
use Rattle.std.specs.Prelude.{if◌then◌else◌}
use Rattle.meaning.specs.Chars.{Due, due, broken, lead, width}
use Rattle.meaning.specs.Chars as chars
use Rattle.meaning.specs.Walk.{keep, give}
use Rattle.meaning.specs.Steps.{escape_table}
use Rattle.meaning.specs.Writer.{spell}
use Rattle.meaning.specs.Forms.{figures, letter_of, is_doubled, escape_form, unicode_figures, unicode_form}
use Rattle.laws.proofs.basics.Tests.{or_left, or_right}
use Rattle.laws.proofs.utf8.Utf8.{low_lead}
use Rattle.laws.proofs.writing.FormText.{letter_none}
use Rattle.scalars.specs.Scalars.{scalar_from, scalar_of}
use Rattle.writer.specs.Manners.{Manner, Plain, Escape, Unicode, kept_by, keeps, given, unit_by, letter_for}
use Rattle.writer.specs.declared.manners.Kept.{Kept}
use Rattle.writer.specs.Texts.{UnitAt, OtherAt, PutBytes}
use Rattle.std.specs.Prelude.{Some, None}
use Rattle.writer.proofs.Putting.{put_same, unicode_low}
use Rattle.writer.proofs.Steps.{escape_keeps, unicode_keeps, doubled_lead}

-- the code's test for a byte that is doubled
abbrev twice : ℕ → Bool
twice b = eqb b 39 || eqb b 92

twice_doubled : (b : ℕ) (x : Bool) → twice b ≡ x → is_doubled b ≡ x
unfolding is_doubled
twice_doubled b x e = go (eqb b quote) (eqb b backslash) ∙ e
  where
    go : (q s : Bool) → (s || (q || false)) ≡ (q || s)
    go true true = refl
    go true false = refl
    go false true = refl
    go false false = refl

twice_either : (b : ℕ) (P : ℕ → Type 0) → twice b ≡ true → P 39 → P 92 → P b
twice_either b P e p q = go (eqb b 39) (eqb b 92) refl refl e
  where
    go : (x y : Bool) → eqb b 39 ≡ x → eqb b 92 ≡ y → (x || y) ≡ true → P b
    go true y ex ey h = rw (eqb-true b 39 ex) p
    go false true ex ey h = rw (eqb-true b 92 ey) q
    go false false ex ey h = absurd (false≢true h)

-- DOUBLED. With the setting off a backslash is kept, so it is not asked about
plain_twice : (bs : Bool) (b : ℕ) → keeps (kept_by (Plain bs)) b ≡ false → twice b ≡ true → spell bs b ≡ b ∷ b ∷ []
unfolding keeps spell
plain_twice true b h e = twice_either b (λ b. keeps (kept_by (Plain true)) b ≡ false → spell true b ≡ b ∷ b ∷ []) e (λ h. refl) (λ h. refl) h
plain_twice false b h e =
    twice_either b (λ b. keeps (kept_by (Plain false)) b ≡ false → spell false b ≡ b ∷ b ∷ []) e (λ h. refl) (λ h. absurd (false≢true (sym h))) h

-- NUL: it alone is left, with the setting on
keeps_wide : (k : Kept) (b : ℕ) → k.low ≤ b → k.wide ≡ true → eqb b quote ≡ false → eqb b k.other ≡ false → keeps k b ≡ true
unfolding keeps
keeps_wide k b l w q o = rw (le-leb k.low b l, w, or-true (leb b 0x7E), q, o)

plain_nul : (bs : Bool) (b : ℕ) → keeps (kept_by (Plain bs)) b ≡ false → twice b ≡ false → spell bs b ≡ 92 ∷ 48 ∷ []
unfolding spell
plain_nul true b h e = go (dec_lt 0 b)
  where
    go : Dec (0 < b) → spell true b ≡ 92 ∷ 48 ∷ []
    go (yes l) =
        absurd (false≢true (sym h ∙ keeps_wide (kept_by (Plain true)) b l refl (or_left (eqb b 39) (eqb b 92) e) (or_right (eqb b 39) (eqb b 92) e)))
    go (no l) = let z : b ≡ 0 = omega arith in rw z
plain_nul false b h e =
    let q = or_left (eqb b 39) (eqb b 92) e in
    absurd (false≢true (sym h ∙ keeps_wide (kept_by (Plain false)) b (omega arith) refl q q))

-- E's letters
pub letter_other : (b : ℕ) → (b ≡ 8 → ⊥) → (b ≡ 9 → ⊥) → (b ≡ 10 → ⊥) → (b ≡ 12 → ⊥) → (b ≡ 13 → ⊥) → None ≡ letter_for b
unfolding letter_for
letter_other b p q r s t = sym (ap (λ (n : ℕ). if ltb n 256 then Some n else None) (letter_none b p q r s t))

-- the code's test for a byte that has one; of these 13 is the one behind the others
abbrev lettered : ℕ → Bool
lettered b = leb 8 b && leb b 13 && not (eqb b 11)

pub letter_outside : (b : ℕ) → not (lettered b) ≡ true → None ≡ letter_for b
letter_outside b h =
    letter_other b (λ e. false≢true (at 8 e)) (λ e. false≢true (at 9 e)) (λ e. false≢true (at 10 e)) (λ e. false≢true (at 12 e)) (λ e. false≢true (at 13 e))
  where
    at : (n : ℕ) → b ≡ n → not (lettered n) ≡ true
    at n e = subst (λ (b : ℕ). not (lettered b) ≡ true) e h

pub letter_last : (b : ℕ) → not (lettered b) ≡ false → (b ≡ 8 → ⊥) → (b ≡ 9 → ⊥) → (b ≡ 10 → ⊥) → (b ≡ 12 → ⊥) → b ≡ 13
letter_last b h p q r s = go (leb 8 b) (leb b 13) (eqb b 11) refl refl refl h
  where
    go : (x y z : Bool) → leb 8 b ≡ x → leb b 13 ≡ y → eqb b 11 ≡ z → not (x && y && not z) ≡ false → b ≡ 13
    go true true false ex ey ez h =
        let low : 8 ≤ b = leb-true 8 b ex in
        let high : b ≤ 13 = leb-true b 13 ey in
        let other : b ≡ 11 → ⊥ = λ e. false≢true (sym ez ∙ eq-eqb b 11 e) in
        omega (arith, p, q, r, s, other)
    go false y z ex ey ez h = absurd (false≢true (sym h))
    go true false z ex ey ez h = absurd (false≢true (sym h))
    go true true true ex ey ez h = absurd (false≢true (sym h))

-- A CHARACTER, b its first byte
module _ (b : ℕ) (t : List ℕ) where
  unit_doubled : (m : Manner) → keeps (kept_by m) b ≡ false → twice b ≡ true → unit_by m (b ∷ t) ≡ b ∷ b ∷ []
  unfolding escape_form
  unit_doubled (Plain bs) h e = rw h (plain_twice bs b h e)
  unit_doubled Escape h e = rw (twice_doubled b true e)
  unit_doubled Unicode h e = let d = twice_doubled b true e in rw (doubled_lead b d, d)

  unit_nul : (bs : Bool) → keeps (kept_by (Plain bs)) b ≡ false → twice b ≡ false → unit_by (Plain bs) (b ∷ t) ≡ 92 ∷ 48 ∷ []
  unit_nul bs h e = rw h (plain_nul bs b h e)

  -- E: the letter, or octal digits
  unit_letter : (l : ℕ) → letter_for b ≡ Some l → twice b ≡ false → unit_by Escape (b ∷ t) ≡ 92 ∷ l ∷ []
  unfolding escape_form letter_for
  unit_letter l e f = rw (twice_doubled b false f) (go (ltb (letter_of escape_table b) 256) e)
    where
      go : (x : Bool) → (if x then Some (letter_of escape_table b) else None) ≡ Some l
          → given (if x then give 0 (backslash ∷ letter_of escape_table b ∷ []) else if ltb b 0x20 then give 0 (backslash ∷ figures 8 3 b) else keep)
          ≡ 92 ∷ l ∷ []
      go true e = let z : letter_of escape_table b ≡ l = cc in rw z
      go false e = let z : ◌≡◌ {A = ℕ} 0 1 = cc in absurd (omega arith)

  unit_octal : letter_for b ≡ None → keeps (kept_by Escape) b ≡ false → twice b ≡ false → unit_by Escape (b ∷ t) ≡ 92 ∷ figures 8 3 b
  unfolding escape_form letter_for
  unit_octal e h f = rw (twice_doubled b false f) (go (ltb (letter_of escape_table b) 256) (ltb b 0x20) refl e)
    where
      go : (x y : Bool) → ltb b 0x20 ≡ y → (if x then Some (letter_of escape_table b) else None) ≡ None
          → given (if x then give 0 (backslash ∷ letter_of escape_table b ∷ []) else if y then give 0 (backslash ∷ figures 8 3 b) else keep)
          ≡ 92 ∷ figures 8 3 b
      go true y ey e = let z : ◌≡◌ {A = ℕ} 0 1 = cc in absurd (omega arith)
      go false true ey e = refl
      go false false ey e =
          absurd (false≢true (sym h ∙ escape_keeps b ∙ rw (twice_doubled b false f, le-leb 0x20 b (ltb-false b 0x20 ey))))

  -- U&: its number
  unit_scalar : keeps (kept_by Unicode) b ≡ false → twice b ≡ false → 0 < width b → unit_by Unicode (b ∷ t) ≡ unicode_figures (scalar_of (b ∷ t))
  unfolding width
  unit_scalar h e some = go (lead b) some
    where
      d : is_doubled b ≡ false
      d = twice_doubled b false e

      hidden : within 0x20 0x7E b ≡ false
      hidden = sym (and-true (within 0x20 0x7E b)) ∙ ap (λ (x : Bool). within 0x20 0x7E b && not x) (sym d) ∙ sym (unicode_keeps b) ∙ h

      go : (l : Due) → 0 < chars.width_by l → given (unicode_form l b t) ≡ unicode_figures (scalar_from l b t)
      go broken s = absurd (omega arith)
      go (due n lo hi) s = rw (d, hidden)

-- AT A PLACE
module _ {m : Manner} {v : List ℕ} {at n : ℕ} (u : UnitAt m v at n) where
  front : drop at v ≡ v ! at ∷ drop (suc at) v
  front = drop-cons v at 0 u.inside

  pub at_doubled : twice (v ! at) ≡ true → unit_by m (drop at v) ≡ v ! at ∷ v ! at ∷ []
  at_doubled e = ap (unit_by m) front ∙ unit_doubled (v ! at) (drop (suc at) v) m u.changed e

  -- there is room for it
  pub at_room : {s : List ℕ} → unit_by m (drop at v) ≡ s → length s ≤ n
  at_room e = rw e at u.room

-- AND NOT DOUBLED, in each manner
module _ {v : List ℕ} {at n : ℕ} where
  pub at_nul : {bs : Bool} → OtherAt (Plain bs) v at n → unit_by (Plain bs) (drop at v) ≡ 92 ∷ 48 ∷ []
  at_nul {bs} o = ap (unit_by (Plain bs)) (front o.unit) ∙ unit_nul (v ! at) (drop (suc at) v) bs o.unit.changed o.single

  pub at_letter : OtherAt Escape v at n → (l : ℕ) → letter_for (v ! at) ≡ Some l → unit_by Escape (drop at v) ≡ 92 ∷ l ∷ []
  at_letter o l e = ap (unit_by Escape) (front o.unit) ∙ unit_letter (v ! at) (drop (suc at) v) l e o.single

  pub at_octal : OtherAt Escape v at n → letter_for (v ! at) ≡ None → unit_by Escape (drop at v) ≡ 92 ∷ figures 8 3 (v ! at)
  at_octal o e = ap (unit_by Escape) (front o.unit) ∙ unit_octal (v ! at) (drop (suc at) v) e o.unit.changed o.single

  pub at_scalar : OtherAt Unicode v at n → unit_by Unicode (drop at v) ≡ unicode_figures (scalar_of (drop at v))
  at_scalar o = rw (front o.unit) (unit_scalar (v ! at) (drop (suc at) v) o.unit.changed o.single (o.unit.begins refl))

-- A CHARACTER BY ITS NUMBER; an ASCII one is its own, of which two digits are zeros
low_figures : (v : List ℕ) (at : ℕ) → at < length v → v ! at < 128 → unicode_figures (scalar_of (drop at v)) ≡ 92 ∷ 48 ∷ 48 ∷ figures 16 2 (v ! at)
low_figures v at h l =
    let z : v ! at - 0 ≡ v ! at = omega arith in
    rw (drop-cons v at 0 h, low_lead (v ! at) l, z) (unicode_low (v ! at) l)

module _ (v : List ℕ) (at : ℕ) (h : at < length v) where
  pub low_room : v ! at < 128 → (n : ℕ) → length (unicode_figures (scalar_of (drop at v))) ≤ n → 5 ≤ n
  low_room l n r = omega (arith, ap length (low_figures v at h l))

  pub low_put : v ! at < 128 → (out : List ℕ) (r : ℕ) (after : List ℕ) → PutBytes (92 ∷ 48 ∷ 48 ∷ figures 16 2 (v ! at)) out r after
      → PutBytes (unicode_figures (scalar_of (drop at v))) out r after
  low_put l out r after p = put_same (low_figures v at h l) p
