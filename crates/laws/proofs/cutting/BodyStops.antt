-- Where the search for the closing mark stops inside a body, reading the body by the standard steps stops too, and a course that stops means nothing.
-- Assumes nothing.
use mathlib.Core.Path.{◌≡◌, refl, subst}
use mathlib.Core.Bool.{Bool, true, false, ◌&&◌}
use mathlib.Core.List.{List, [], ◌∷◌}
use Prim.Native.Nat.{ℕ, zero, suc, ◌+◌, ◌-◌, ◌<◌}
use native.Mathlib.Omega.{arith}
use lib.Dec.{T, eqb, ltb}
use lib.ListN.{length, take, drop, length-drop, length-take, take-append-drop}
use Rattle.meaning.specs.Bytes.{◌!◌, has, ascii, backslash, part}
use Rattle.std.specs.Prelude.{if◌then◌else◌}
use Rattle.meaning.specs.Walk.{keep, give, stop, Trace, ended, stopped, kept, gave, after, walk, size, stops, plain}
use Rattle.meaning.specs.Steps.{closing_step, doubled, standard_step, mysql, mysql_table, byte_of}
use Rattle.meaning.specs.Reading.{borrowed, written, refused, means, fails, value_of, answer}
use Rattle.laws.proofs.basics.Tests.{T→true, true→T}
use Rattle.laws.proofs.cutting.Alone.{walk_restrict, closing_back}

-- where the search for the closing mark stops in a body, so does reading it
mysql_take : (c : ℕ) (u : List ℕ) (b : ℕ) (f : ℕ → Trace) → T (stops (f 1)) → T (stops (after (mysql (c ∷ u)) b f))
mysql_take c u b f h = go (ltb (byte_of mysql_table c) 256) (has c (ascii "%_"))
  where
    go : (x y : Bool) → T (stops (after (if x then give 1 (byte_of mysql_table c ∷ []) else if y then give 1 (backslash ∷ c ∷ []) else give 1 (c ∷ [])) b f))
    go true y = h
    go false true = h
    go false false = h

pub standard_stops : (bs : Bool) (q k : ℕ) (u : List ℕ) → T (stops (walk (closing_step bs q) k u)) → T (stops (walk (standard_step bs q) k u))
unfolding doubled
standard_stops bs q zero [] h = absurd h
standard_stops bs q (suc k) [] h = absurd h
standard_stops bs q (suc k) (b ∷ u) h = standard_stops bs q k u h
standard_stops bs q zero (b ∷ u) h = go (bs && eqb b backslash) (eqb b q) (eqb (u ! 0) q) refl h (λ n. standard_stops bs q n u)
  where
    hidden : (w : List ℕ) (f g : ℕ → Trace) → (T (stops (f 1)) → T (stops (g 1))) → (w ≡ [] → T (stops (f 1)) → ⊥) → T (stops (f 1))
        → T (stops (after (mysql w) b g))
    hidden [] f g i z j = absurd (z refl j)
    hidden (c ∷ w) f g i z j = mysql_take c w b g (i j)

    go : (x y z : Bool) → eqb (u ! 0) q ≡ z
        → T (stops (after (if x then give 1 [] else if y then (if z then give 1 (q ∷ []) else stop) else keep) b (λ n. walk (closing_step bs q) n u)))
        → ((n : ℕ) → T (stops (walk (closing_step bs q) n u)) → T (stops (walk (standard_step bs q) n u)))
        → T (stops (after (if x then mysql u else if y then (if z then give 1 (q ∷ []) else stop) else keep) b (λ n. walk (standard_step bs q) n u)))
    go true y z ez g ih = hidden u (λ n. walk (closing_step bs q) n u) (λ n. walk (standard_step bs q) n u) (ih 1)
        (λ e j. subst (λ (w : List ℕ). T (stops (walk (closing_step bs q) 1 w))) e j) g
    go false true true ez g ih = ih 1 g
    go false true false ez g ih = tt
    go false false z ez g ih = ih 0 g

-- a course that stops means nothing
pub stops_fails : (t : List ℕ) (f u : ℕ) (r : Trace) (v : List ℕ) → T (stops r) → value_of t (answer f u r) ≡ means v → ⊥
unfolding answer
stops_fails t f u r v h e = go (plain r) refl (not_plain r h) (rw (T→true (stops r) h) at e)
  where
    not_plain : (r : Trace) → T (stops r) → plain r ≡ false
    not_plain ended h = absurd h
    not_plain stopped h = refl
    not_plain (kept b r) h = not_plain r h
    not_plain (gave n out r) h = refl

    go : (x : Bool) → plain r ≡ x → plain r ≡ false
        → value_of t (if plain r then borrowed f u else (if true then refused (f + size r) else written (Rattle.meaning.specs.Walk.value r))) ≡ means v → ⊥
    go x p q g = let z : fails (f + size r) ≡ means v = rw q at g in let y : ◌≡◌ {A = ℕ} 0 1 = cc in omega arith

-- the body from place n + 1 to the last byte: the search stops in it, if it stops before the last byte
module _ (t : List ℕ) (n : ℕ) (h : Bool) (q : ℕ) (nz : eqb 0 q ≡ false) (st : stops (walk (closing_step h q) 0 (drop (suc n) t)) ≡ true)
    (early : suc n + size (walk (closing_step h q) 0 (drop (suc n) t)) + 1 < length t) where
  pub body_stops : T (stops (walk (closing_step h q) 0 (part (suc n) (length t - 1) t)))
  body_stops =
      let m : ℕ = length t - 1 - suc n in
      let d = take-append-drop m (drop (suc n) t) in
      let w = walk_restrict (closing_step h q) (drop m (drop (suc n) t)) (closing_back h q (drop m (drop (suc n) t)) nz) 0 (take m (drop (suc n) t))
      (rw d (true→T _ st))
      (rw (d, length-take m (drop (suc n) t)) (omega (arith, length-drop (suc n) t))) in
      rw (w, d) (true→T _ st)
