-- Laws of openings and segments: what follows a segment changes nothing in it. Assumes nothing.
use mathlib.Core.Path.{◌≡◌, refl, ap, sym, ◌∙◌, subst}
use mathlib.Core.Bool.{Bool, true, false, ◌&&◌}
use mathlib.Core.List.{List, [], ◌∷◌, ◌++◌}
use Prim.Native.Nat.{ℕ, zero, suc, ◌+◌, ◌≤◌, ◌<◌}
use Prim.Native.Char.{code}
use native.Mathlib.Omega.{arith}
use lib.Dec.{T, eqb, ltb}
use borrow.Author.Tests.{eqb-true}
use lib.ListN.{length, drop, length-drop, get_or-append}
use lib.Seq.{drop-append-le}
use Rattle.meaning.specs.declared.Settings.{Settings}
use Rattle.meaning.specs.Bytes.{◌!◌, has, ascii, within, is_mark, quote, in_name, span}
use Rattle.std.specs.Prelude.{if◌then◌else◌}
use Rattle.meaning.specs.Chars.{lead, is_space}
use Rattle.meaning.specs.Walk.{walk, size, stops}
use Rattle.meaning.specs.Steps.{closing_step, doubled}
use Rattle.meaning.specs.Cutting.{opening, named, hides, segment_at, segment}
use Rattle.laws.proofs.basics.Tests.{true→T, if_suc, and_left, and_right}
use Rattle.laws.proofs.walking.Walks.{Local, walk_extend, stops_inside}
use Rattle.laws.proofs.basics.Enclosed.{has_append}
use Rattle.laws.proofs.cutting.Gaps.{AllP, has_all, Solid}

-- a byte other than 0 lies inside the text
pub inside : (f : ℕ → Bool) → f 0 ≡ false → (t : List ℕ) (i : ℕ) → f (t ! i) ≡ true → i < length t
inside f z [] i h = absurd (subst T (sym h ∙ z) tt)
inside f z (b ∷ t) zero h = omega arith
inside f z (b ∷ t) (suc i) h = let r = inside f z t i h in omega arith

pub mark_inside : (t : List ℕ) (i : ℕ) → is_mark (t ! i) ≡ true → i < length t
unfolding is_mark
mark_inside t i h = inside is_mark refl t i h

pub same_byte : (f : ℕ → Bool) → f 0 ≡ false → (t r : List ℕ) (i : ℕ) → f (t ! i) ≡ true → (t ++ r) ! i ≡ t ! i
same_byte f z t r i h = get_or-append t r 0 i (inside f z t i h)

span_extend : (p : ℕ → Bool) (t r : List ℕ) → is_mark (t ! span p t) ≡ true → span p (t ++ r) ≡ span p t
unfolding is_mark
span_extend p [] r h = absurd (subst T (sym h) tt)
span_extend p (b ∷ t) r h = go (p b) refl h (span_extend p t r)
  where
    go : (x : Bool) → p b ≡ x → is_mark ((b ∷ t) ! (if x then suc (span p t) else 0)) ≡ true → (is_mark (t ! span p t) ≡ true → span p (t ++ r) ≡ span p t)
        → span p (b ∷ (t ++ r)) ≡ span p (b ∷ t)
    go true e g ih = rw e (ap suc (ih g))
    go false e g ih = rw e

-- HOW A TEXT OPENS: the byte b, t behind it, and n bytes before the mark
pub data Opens (b : ℕ) (t : List ℕ) : ℕ → Type 0 where
  by_mark : is_mark b ≡ true → Opens b t 0
  by_letter : is_mark b ≡ false → has b (ascii "EeNnBbXx") ≡ true → eqb (t ! 0) quote ≡ true → Opens b t 1
  by_unicode : is_mark b ≡ false → has b (ascii "EeNnBbXx") ≡ false → has b (ascii "Uu") ≡ true → eqb (t ! 0) (code "&") ≡ true
      → eqb (t ! 1) quote ≡ true → Opens b t 2
  by_name : is_mark b ≡ false → has b (ascii "EeNnBbXx") ≡ false → has b (ascii "Uu") ≡ false → eqb b (code "_") ≡ true
      → ltb 0 (span in_name t) ≡ true → is_mark (t ! span in_name t) ≡ true → Opens b t (suc (span in_name t))

pub opens : (b : ℕ) (t : List ℕ) (n : ℕ) → opening (b ∷ t) ≡ suc n → Opens b t n
unfolding named
opens b t n e = go (is_mark b) (has b (ascii "EeNnBbXx")) (has b (ascii "Uu")) (eqb b (code "_")) refl refl refl refl e
  where
    at : (m : ℕ) → suc m ≡ suc n → Opens b t m → Opens b t n
    at m k o = let z : m ≡ n = omega arith in subst (Opens b t) z o

    go : (x y z u : Bool) → is_mark b ≡ x → has b (ascii "EeNnBbXx") ≡ y → has b (ascii "Uu") ≡ z → eqb b (code "_") ≡ u
        → (if x then 1
        else if y then (if eqb (t ! 0) quote then 2 else 0)
        else if z then (if eqb (t ! 0) (code "&") && eqb (t ! 1) quote then 3 else 0)
        else if u then named t else 0) ≡ suc n
        → Opens b t n
    go true y z u ex ey ez eu g = at 0 g (by_mark ex)
    go false true z u ex ey ez eu g = let c = if_suc (eqb (t ! 0) quote) 2 n g in at 1 c.1 (by_letter ex ey c.0)
    go false false true u ex ey ez eu g =
        let c = if_suc (eqb (t ! 0) (code "&") && eqb (t ! 1) quote) 3 n g in
        at 2 c.1 (by_unicode ex ey ez (and_left (eqb (t ! 0) (code "&")) (eqb (t ! 1) quote) c.0)
        (and_right (eqb (t ! 0) (code "&")) (eqb (t ! 1) quote) c.0))
    go false false false true ex ey ez eu g =
        let c = if_suc (ltb 0 (span in_name t) && is_mark (t ! span in_name t)) (suc (suc (span in_name t))) n g in
        at (suc (span in_name t)) c.1
        (by_name ex ey ez eu (and_left (ltb 0 (span in_name t)) (is_mark (t ! span in_name t)) c.0)
        (and_right (ltb 0 (span in_name t)) (is_mark (t ! span in_name t)) c.0))
    go false false false false ex ey ez eu g = absurd (omega arith)

pub opening_extend : (t r : List ℕ) (n : ℕ) → opening t ≡ suc n → opening (t ++ r) ≡ suc n
unfolding named is_mark
opening_extend [] r n e = absurd (omega arith)
opening_extend (b ∷ t) r n e = go (opens b t n e)
  where
    go : {n : ℕ} → Opens b t n → opening (b ∷ (t ++ r)) ≡ suc n
    go (by_mark m) = rw m
    go (by_letter m l q) = rw (m, l, same_byte (λ x. eqb x quote) refl t r 0 q, q)
    go (by_unicode m l u a q) =
        rw (m, l, u, same_byte (λ x. eqb x (code "&")) refl t r 0 a, a, same_byte (λ x. eqb x quote) refl t r 1 q, q)
    go (by_name m l u s f k) = rw (m, l, u, s, span_extend in_name t r k, same_byte is_mark refl t r (span in_name t) k, f, k)

-- the opening's last byte is its mark, and its first is no white space
eqb_mark : (b : ℕ) → eqb b quote ≡ true → is_mark b ≡ true
unfolding is_mark
eqb_mark b e = rw e

pub opening_mark : (t : List ℕ) (n : ℕ) → opening t ≡ suc n → is_mark (t ! n) ≡ true
opening_mark [] n e = absurd (omega arith)
opening_mark (b ∷ t) n e = go (opens b t n e)
  where
    go : {n : ℕ} → Opens b t n → is_mark ((b ∷ t) ! n) ≡ true
    go (by_mark m) = m
    go (by_letter m l q) = eqb_mark (t ! 0) q
    go (by_unicode m l u a q) = eqb_mark (t ! 1) q
    go (by_name m l u s f k) = k

-- what holds of every byte that may open a segment holds of the one that does
opening_all : (P : ℕ → Type 0) → AllP P (ascii "'\"") → AllP P (ascii "EeNnBbXx") → AllP P (ascii "Uu_")
    → (b : ℕ) (t : List ℕ) (n : ℕ) → opening (b ∷ t) ≡ suc n → P b
unfolding is_mark
opening_all P a c d b t n e = go (opens b t n e)
  where
    go : {n : ℕ} → Opens b t n → P b
    go (by_mark m) = has_all P b (ascii "'\"") a m
    go (by_letter m l q) = has_all P b (ascii "EeNnBbXx") c l
    go (by_unicode m l u a q) = has_all P b (ascii "Uu_") d (has_append b (ascii "Uu") (ascii "_") ∙ rw u)
    go (by_name m l u s f k) = has_all P b (ascii "Uu_") d (has_append b (ascii "Uu") (ascii "_") ∙ rw (u, s))

pub opening_solid : (b : ℕ) (t : List ℕ) (n : ℕ) → opening (b ∷ t) ≡ suc n → Solid b
unfolding lead within is_space
opening_solid =
    opening_all Solid ((λ t. refl), ((λ t. refl), tt))
    ((λ t. refl), ((λ t. refl), ((λ t. refl), ((λ t. refl), ((λ t. refl), ((λ t. refl), ((λ t. refl), ((λ t. refl), tt))))))))
    ((λ t. refl), ((λ t. refl), ((λ t. refl), tt)))

-- it is ASCII: no later byte of a character
pub opening_begins : (b : ℕ) (t : List ℕ) (n : ℕ) → opening (b ∷ t) ≡ suc n → within 0x80 0xBF b ≡ false
unfolding within
opening_begins =
    opening_all (λ b. within 0x80 0xBF b ≡ false) (refl, (refl, tt))
    (refl, (refl, (refl, (refl, (refl, (refl, (refl, (refl, tt)))))))) (refl, (refl, (refl, tt)))

-- the search for the mark q does not look past a text that is followed by another byte than q
pub closing_local_all : (h : Bool) (q : ℕ) (r : List ℕ) → eqb 0 q ≡ false → eqb (r ! 0) q ≡ false → Local (closing_step h q) r
unfolding doubled
closing_local_all h q r nz na b (c ∷ t) = refl
closing_local_all h q r nz na b [] = rw (na, nz)

-- a mark is not 0, and no other byte is a mark's equal
pub apart_of_mark : (q b : ℕ) → is_mark q ≡ true → is_mark b ≡ false → eqb b q ≡ false
apart_of_mark q b m n = go (eqb b q) refl
  where
    go : (x : Bool) → eqb b q ≡ x → x ≡ false
    go true e = sym m ∙ ap is_mark (sym (eqb-true b q e)) ∙ n
    go false e = refl

pub mark_0 : is_mark 0 ≡ false
unfolding is_mark
mark_0 = refl

hides_extend : (σ : Settings) (t r : List ℕ) (n : ℕ) → opening t ≡ suc n → hides σ (t ++ r) ≡ hides σ t
hides_extend σ [] r n e = absurd (omega arith)
hides_extend σ (b ∷ t) r n e = refl

-- what a segment is, by parts
pub segment_of_lem : (σ : Settings) (t : List ℕ) (e : ℕ) → segment σ t ≡ suc e
    → (n : ℕ) × (opening t ≡ suc n)
    × (stops (walk (closing_step (hides σ t) (t ! n)) 0 (drop (suc n) t)) ≡ true)
    × (suc n + size (walk (closing_step (hides σ t) (t ! n)) 0 (drop (suc n) t)) + 1 ≡ suc e)
unfolding segment
segment_of_lem σ t e h = go (opening t) refl h
  where
    go : (o : ℕ) → opening t ≡ o → segment_at σ t o ≡ suc e
        → (n : ℕ) × (opening t ≡ suc n)
        × (stops (walk (closing_step (hides σ t) (t ! n)) 0 (drop (suc n) t)) ≡ true)
        × (suc n + size (walk (closing_step (hides σ t) (t ! n)) 0 (drop (suc n) t)) + 1 ≡ suc e)
    go zero p g = absurd (omega arith)
    go (suc n) p g =
        let c = if_suc (stops (walk (closing_step (hides σ t) (t ! n)) 0 (drop (suc n) t)))
        (suc n + size (walk (closing_step (hides σ t) (t ! n)) 0 (drop (suc n) t)) + 1) e g in
        (n, p, c.0, c.1)

pub segment_fits : (σ : Settings) (t : List ℕ) (e : ℕ) → segment σ t ≡ suc e → suc e ≤ length t
segment_fits σ t e h =
    let s = segment_of_lem σ t e h in
    let i = stops_inside (closing_step (hides σ t) (t ! s.0)) 0 (drop (suc s.0) t) (true→T _ s.2) in
    let m = mark_inside t s.0 (opening_mark t s.0 s.1) in
    let k = s.3 in
    omega (arith, length-drop (suc s.0) t)

pub segment_extend : (σ : Settings) (t r : List ℕ) (e : ℕ) → is_mark (r ! 0) ≡ false → segment σ t ≡ suc e → segment σ (t ++ r) ≡ suc e
unfolding segment
segment_extend σ t r e a h =
    let s = segment_of_lem σ t e h in
    let n : ℕ = s.0 in
    let m = opening_mark t n s.1 in
    let i = mark_inside t n m in
    rw (
      opening_extend t r n s.1,
      hides_extend σ t r n s.1,
      get_or-append t r 0 n i,
      drop-append-le (suc n) t r i,
      walk_extend (closing_step (hides σ t) (t ! n)) r
          (closing_local_all (hides σ t) (t ! n) r (apart_of_mark (t ! n) 0 m mark_0) (apart_of_mark (t ! n) (r ! 0) m a)) 0 (drop (suc n) t) (true→T _ s.2),
      s.2,
    )
    s.3
