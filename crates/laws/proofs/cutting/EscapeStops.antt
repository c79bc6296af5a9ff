-- Where the search for the closing mark stops inside an E body, so does reading its escapes, and the check for UTF-8 undoes no stop. Assumes nothing.
use mathlib.Core.Path.{◌≡◌, refl, ap, sym, ◌∙◌, subst}
use mathlib.Core.Bool.{Bool, true, false, ◌&&◌}
use mathlib.Core.List.{List, [], ◌∷◌}
use Prim.Native.Nat.{ℕ, zero, suc, ◌%◌}
use Prim.Native.Char.{code}
use lib.Dec.{T, eqb, ltb}
use borrow.Author.Tests.{eqb-true}
use Rattle.meaning.specs.Bytes.{◌!◌, quote, backslash, within, digit, digits, number}
use Rattle.std.specs.Prelude.{if◌then◌else◌}
use Rattle.meaning.specs.Chars.{Due, due, broken, push, pushes, encode}
use Rattle.meaning.specs.Walk.{Step, keep, give, stop, Trace, ended, stopped, kept, gave, after, walk, stops}
use Rattle.meaning.specs.Steps.{may_escape, closing_step, doubled, escape_step, escaped, escape_table, byte_of, one_byte, scalar_by, checked, unless_broken}
use Rattle.laws.proofs.basics.Tests.{true→T}

abbrev pub Tame : ℕ → Type 0
Tame b = (eqb b backslash ≡ false) × (eqb b quote ≡ false)

-- two walks that have i and j bytes still to pass: the bytes that only the second passes are tame
abbrev pub Ahead : ℕ → ℕ → List ℕ → Type 0
Ahead zero zero u = Unit {0}
Ahead (suc i) zero u = ⊥
Ahead i (suc j) [] = ⊥
Ahead zero (suc j) (b ∷ u) = Tame b × Ahead zero j u
Ahead (suc i) (suc j) (b ∷ u) = Ahead i j u

digit_tame : (β b : ℕ) → ltb 16 β ≡ false → ltb (digit b) β ≡ true → Tame b
unfolding digit within
digit_tame β b n h = (go backslash (eqb b backslash) refl refl, go quote (eqb b quote) refl refl)
  where
    go : (c : ℕ) (x : Bool) → eqb b c ≡ x → ltb (digit c) β ≡ ltb 16 β → x ≡ false
    go c true e k = sym h ∙ ap (λ (m : ℕ). ltb (digit m) β) (eqb-true b c e) ∙ k ∙ n
    go c false e k = refl

pub digits_tame : (β w : ℕ) (u : List ℕ) → ltb 16 β ≡ false → Ahead zero (digits β w u) u
digits_tame β zero u n = tt
digits_tame β (suc w) [] n = tt
digits_tame β (suc w) (b ∷ u) n = go (ltb (digit b) β) refl (digits_tame β w u n)
  where
    go : (x : Bool) → ltb (digit b) β ≡ x → Ahead zero (digits β w u) u → Ahead zero (if x then suc (digits β w u) else 0) (b ∷ u)
    go true e ih = (digit_tame β b n e, ih)
    go false e ih = tt

-- whatever an escape is, it stops, or it takes the hidden byte and tame bytes behind it
abbrev pub Hidden : Step → List ℕ → Type 0
Hidden keep u = ⊥
Hidden (give k out) u = Ahead 1 k u
Hidden stop u = Unit {0}

module _ (c : ℕ) (u : List ℕ) where
  by_one : (n v : ℕ) → Ahead zero n u → Hidden (one_byte (suc n) v) (c ∷ u)
  unfolding one_byte
  by_one n v a = go (eqb v 0)
    where
      go : (x : Bool) → Hidden (if x then stop else give (suc n) (v ∷ [])) (c ∷ u)
      go true = tt
      go false = a

  by_scalar : (w : ℕ) → Hidden (scalar_by w (suc w) u) (c ∷ u)
  unfolding scalar_by
  by_scalar w = go (eqb (digits 16 w u) w) (may_escape (number 16 w 0 u)) refl
    where
      go : (x y : Bool) → eqb (digits 16 w u) w ≡ x → Hidden (if x && y then give (suc w) (encode (number 16 w 0 u)) else stop) (c ∷ u)
      go true true e = subst (λ (j : ℕ). Ahead zero j u) (eqb-true (digits 16 w u) w e) (digits_tame 16 w u refl)
      go true false e = tt
      go false y e = tt

  by_octal : (x : Bool) → ltb (digit c) 8 ≡ x → (v : ℕ) → ltb 0 (digits 8 3 (c ∷ u)) ≡ true → Hidden (one_byte (digits 8 3 (c ∷ u)) v) (c ∷ u)
  by_octal true e v p = rw e (by_one (digits 8 2 u) v (digits_tame 8 2 u refl))
  by_octal false e v p = absurd (true→T (ltb 0 0) (rw e at p))

pub escaped_hidden : (u : List ℕ) → Hidden (escaped u) u
escaped_hidden [] = tt
escaped_hidden (c ∷ u) =
    go (ltb (byte_of escape_table c) 256) (ltb 0 (digits 8 3 (c ∷ u))) (eqb c (code "x") && ltb 0 (digits 16 2 u)) (eqb c (code "u")) (eqb c (code "U")) refl
  where
    go : (x1 x2 x3 x4 x5 : Bool) → ltb 0 (digits 8 3 (c ∷ u)) ≡ x2
        → Hidden
        (if x1 then give 1 (byte_of escape_table c ∷ [])
        else if x2 then one_byte (digits 8 3 (c ∷ u)) (number 8 (digits 8 3 (c ∷ u)) 0 (c ∷ u) % 256)
        else if x3 then one_byte (suc (digits 16 2 u)) (number 16 (digits 16 2 u) 0 u)
        else if x4 then scalar_by 4 5 u
        else if x5 then scalar_by 8 9 u
        else one_byte 1 c) (c ∷ u)
    go true x2 x3 x4 x5 e = tt
    go false true x3 x4 x5 e = by_octal c u (ltb (digit c) 8) refl (number 8 (digits 8 3 (c ∷ u)) 0 (c ∷ u) % 256) e
    go false false true x4 x5 e = by_one c u (digits 16 2 u) (number 16 (digits 16 2 u) 0 u) (digits_tame 16 2 u refl)
    go false false false true x5 e = by_scalar c u 4
    go false false false false true e = by_scalar c u 8
    go false false false false false e = by_one c u 0 c tt

pub escape_stops : (i j : ℕ) (u : List ℕ) → Ahead i j u → T (stops (walk (closing_step true quote) i u)) → T (stops (walk escape_step j u))
unfolding doubled
escape_stops i j [] a h = absurd (nothing i h)
  where
    nothing : (i : ℕ) → T (stops (walk (closing_step true quote) i [])) → ⊥
    nothing zero h = h
    nothing (suc i) h = h
escape_stops (suc i) zero (b ∷ u) a h = absurd a
escape_stops (suc i) (suc j) (b ∷ u) a h = escape_stops i j u a h
escape_stops zero (suc j) (b ∷ u) a h = escape_stops zero j u a.1 (rw (a.0.0, a.0.1) at h)
escape_stops zero zero (b ∷ u) a h = go (eqb b backslash) (eqb b quote) (eqb (u ! 0) quote) u refl h (λ i j. escape_stops i j u)
  where
    hidden : (s : Step) → Hidden s u → (f : ℕ → Trace) → ((j : ℕ) → Ahead 1 j u → T (stops (f j))) → T (stops (after s b f))
    hidden keep p f ih = absurd p
    hidden (give k out) p f ih = ih k p
    hidden stop p f ih = tt

    go : (x y z : Bool) (w : List ℕ) → u ≡ w
        → T (stops (after (if x then give 1 [] else if y then (if z then give 1 (quote ∷ []) else stop) else keep) b (λ n. walk (closing_step true quote) n u)))
        → ((i j : ℕ) → Ahead i j u → T (stops (walk (closing_step true quote) i u)) → T (stops (walk escape_step j u)))
        → T (stops (after (if x then escaped u else if y then (if z then give 1 (quote ∷ []) else stop) else keep) b (λ n. walk escape_step n u)))
    go true y z w e g ih = hidden (escaped u) (escaped_hidden u) (λ n. walk escape_step n u) (λ j p. ih 1 j p g)
    go false true true [] e g ih = absurd (subst (λ (v : List ℕ). T (stops (walk (closing_step true quote) 1 v))) e g)
    go false true true (c ∷ w) e g ih = ih 1 1 (subst (λ (v : List ℕ). Ahead 1 1 v) (sym e) tt) g
    go false true false w e g ih = tt
    go false false z w e g ih = ih 0 0 tt g

pub checked_stops : (d : Due) (r : Trace) → T (stops r) → T (stops (checked d r))
checked_stops d ended h = absurd h
checked_stops d stopped h = tt
checked_stops d (kept b r) h = go (push d b) (λ d'. checked_stops d' r h)
  where
    go : (e : Due) → ((d' : Due) → T (stops (checked d' r))) → T (stops (unless_broken e (λ d'. kept b (checked d' r))))
    go broken ih = tt
    go (due n lo hi) ih = ih (due n lo hi)
checked_stops d (gave n out r) h = go (pushes d out) (λ d'. checked_stops d' r h)
  where
    go : (e : Due) → ((d' : Due) → T (stops (checked d' r))) → T (stops (unless_broken e (λ d'. gave n out (checked d' r))))
    go broken ih = tt
    go (due k lo hi) ih = ih (due k lo hi)
