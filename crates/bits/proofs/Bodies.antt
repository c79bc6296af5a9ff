-- Segments by their openings and bodies, as bits read them. Assumes nothing.
use mathlib.Core.Path.{◌≡◌, refl, ap, sym, ◌∙◌}
use mathlib.Core.Bool.{Bool, true, false, ◌&&◌, false≢true}
use mathlib.Core.List.{List, [], ◌∷◌, ◌++◌}
use Prim.Native.Nat.{ℕ, zero, suc, ◌+◌, ◌-◌, ◌<◌}
use native.Mathlib.Omega.{arith}
use lib.Dec.{eqb}
use lib.ListN.{length, take, drop, get_or, length-take, length-drop}
use lib.Seq.{get_or-drop, get_or-take}
use Rattle.meaning.specs.declared.Settings.{Settings}
use Rattle.meaning.specs.Bytes.{◌!◌, part, ascii, has, quote, is_mark, all_digits}
use Rattle.std.specs.Prelude.{if◌then◌else◌}
use Rattle.meaning.specs.Walk.{Step, keep, give, stop, Trace, ended, stopped, kept, gave, after, walk, stops, value}
use Rattle.meaning.specs.Cutting.{opening, segment, segment_by, segment_step}
use Rattle.meaning.specs.Reading.{means, fails, each}
use Rattle.meaning.specs.Kinds.{bit_body, first_bits, later_bits}
use Rattle.laws.proofs.basics.Tests.{and_right}
use Rattle.laws.proofs.basics.Digits.{DigitsTo, all_digits_at}
use Rattle.laws.proofs.cutting.Gaps.{gap_fits}
use Rattle.laws.proofs.cutting.Openings.{segment_fits}
use Rattle.laws.proofs.joining.Joining.{fails≢means, both_means}
use Rattle.laws.proofs.packing.Segment as openings
use Rattle.laws.proofs.questions.Ranges.{part_inside}
use Rattle.laws.proofs.walking.StepBounds.{Bounded, Steady}
use Rattle.cutting.proofs.Cursors.{UnitAt}
use Rattle.bits.specs.Bodies.{body_by, body_step}

-- OPENINGS: ' has one byte, and B' and X', in either case, two
quote_opens : (s : List ℕ) → eqb (s ! 0) quote ≡ true → opening s ≡ 1
unfolding is_mark
quote_opens [] e = absurd (false≢true e)
quote_opens (b ∷ s) e = rw e

pub letter_opens : (s : List ℕ) (n : ℕ) → has (s ! 0) (ascii "BbXx") ≡ true → opening s ≡ suc n → suc n ≡ 2
letter_opens [] n e o = absurd (omega arith)
letter_opens (b ∷ s) n e o = omega (arith, (openings.letter_opens b s n e o).0)

-- A BODY, by its test and its digits; o bytes open the segment, n if the test holds
bits_by_lem : (β n o : ℕ) (x d : Bool) (s v : List ℕ) → (x ≡ true → o ≡ n) → part o (length s - 1) s ≡ v → d ≡ all_digits β v
    → bit_body β n x s ≡ (if x && d then means v else fails 0)
unfolding bit_body
bits_by_lem β n o false d s v k e q = refl
bits_by_lem β n o true d s v k e q = rw (← k refl, e, q)

-- what a later segment means is its body
later_body : (β : ℕ) (s v : List ℕ) → later_bits β s ≡ means v → part (opening s) (length s - 1) s ≡ v
later_body β s v h =
    let w = part (opening s) (length s - 1) s in
    go (eqb (s ! 0) quote && all_digits β w) (sym (bits_by_lem β 1 (opening s) (eqb (s ! 0) quote) (all_digits β w) s w (quote_opens s) refl refl) ∙ h)
  where
    go : (y : Bool) → (if y then means (part (opening s) (length s - 1) s) else fails 0) ≡ means v → part (opening s) (length s - 1) s ≡ v
    go true q = cc
    go false q = absurd (fails≢means 0 v q)

-- so the bodies of later segments are what these mean
pub each_bodies : (σ : Settings) (β k : ℕ) (t w : List ℕ) → each (later_bits β) (walk (segment_step σ) k t) ≡ means w
    → (stops (walk (body_step σ) k t) ≡ false) × (value (walk (body_step σ) k t) ≡ w)
unfolding body_step
each_bodies σ β zero [] w h = (refl, cc)
each_bodies σ β (suc k) [] w h = (refl, cc)
each_bodies σ β (suc k) (b ∷ t) w h = each_bodies σ β k t w h
each_bodies σ β zero (b ∷ t) w h = go (segment_step σ (b ∷ t)) h (λ k v. each_bodies σ β k t v)
  where
    go : (x : Step) → each (later_bits β) (after x b (λ n. walk (segment_step σ) n t)) ≡ means w
        → ((k : ℕ) (v : List ℕ) → each (later_bits β) (walk (segment_step σ) k t) ≡ means v
        → (stops (walk (body_step σ) k t) ≡ false) × (value (walk (body_step σ) k t) ≡ v))
        → (stops (after (body_by x) b (λ n. walk (body_step σ) n t)) ≡ false) × (value (after (body_by x) b (λ n. walk (body_step σ) n t)) ≡ w)
    go keep q ih = absurd (fails≢means 0 w q)
    go stop q ih = absurd (fails≢means 0 w q)
    go (give n s) q ih =
        let m = both_means (later_bits β s) (each (later_bits β) (walk (segment_step σ) n t)) (suc n) w q in
        let r = ih n m.1 m.3 in
        (r.0, ap (◌++ value (walk (body_step σ) n t)) (later_body β s m.0 m.2) ∙ ap (m.0 ++◌) r.1 ∙ sym m.4)

-- and all of it is digits
later_digits : (β : ℕ) (s v : List ℕ) → later_bits β s ≡ means v → all_digits β v ≡ true
unfolding bit_body
later_digits β s v h = go (eqb (s ! 0) quote && all_digits β (part 1 (length s - 1) s)) refl h
  where
    go : (y : Bool) → (eqb (s ! 0) quote && all_digits β (part 1 (length s - 1) s)) ≡ y
        → (if y then means (part 1 (length s - 1) s) else fails 0) ≡ means v → all_digits β v ≡ true
    go true e q =
        let w : part 1 (length s - 1) s ≡ v = cc in
        rw w at (and_right (eqb (s ! 0) quote) (all_digits β (part 1 (length s - 1) s)) e)
    go false e q = absurd (fails≢means 0 v q)

pub digits_append : (β : ℕ) (v w : List ℕ) → DigitsTo β (length v) v → DigitsTo β (length w) w → DigitsTo β (length (v ++ w)) (v ++ w)
digits_append β [] w a b i h = b i h
digits_append β (x ∷ v) w a b zero h = a 0 (omega arith)
digits_append β (x ∷ v) w a b (suc i) h = digits_append β v w (λ j k. a (suc j) (omega arith)) b i (omega arith)

pub each_digits : (β : ℕ) (r : Trace) (w : List ℕ) → each (later_bits β) r ≡ means w → DigitsTo β (length w) w
each_digits β ended w h = let e : [] ≡ w = cc in rw (← e) (λ i k. absurd (omega arith))
each_digits β stopped w h = absurd (fails≢means 0 w h)
each_digits β (kept b r) w h = absurd (fails≢means 0 w h)
each_digits β (gave n s r) w h =
    let m = both_means (later_bits β s) (each (later_bits β) r) (suc n) w h in
    rw m.4
    (digits_append β m.0 m.1 (all_digits_at β m.0 (later_digits β s m.0 m.2)) (each_digits β r m.1 m.3))

-- a body is there, and is no longer than what its segment takes
pub body_steady : (σ : Settings) → Steady (body_step σ)
unfolding body_step segment_step
body_steady σ b t = go (segment σ (b ∷ t)) refl
  where
    go : (n : ℕ) → segment σ (b ∷ t) ≡ n → Bounded (body_by (segment_by (b ∷ t) n)) (length t)
    go zero e = tt
    go (suc n) e =
        let s = take (suc n) (b ∷ t) in
        let f = segment_fits σ (b ∷ t) n e in (
          omega (arith, f, gap_fits (drop n t), length-drop n t),
          omega (arith, length-take (length s - 1 - opening s) (drop (opening s) s), length-drop (opening s) s, length-take (suc n) (b ∷ t)),
        )

-- IN A TEXT: the segment from s to u, its first byte, and its body from s + o to the byte before u
module _ {σ : Settings} {t : List ℕ} {i s o u v : ℕ} (a : UnitAt σ t i s o u v) where
  pub own_length : length (take (u - s) (drop s t)) ≡ u - s
  own_length = length-take (u - s) (drop s t) ∙ omega (arith, length-drop s t, a.some, a.ends, a.inside)

  own_head : take (u - s) (drop s t) ! 0 ≡ get_or t s 0
  own_head =
      let h : 0 < u - s = omega (arith, a.some) in
      rw (get_or-take, get_or-drop) (ap (λ (k : ℕ). get_or t k 0) (omega arith))

  pub own_body : part o (length (take (u - s) (drop s t)) - 1) (take (u - s) (drop s t)) ≡ take (u - 1 - (s + o)) (drop (s + o) t)
  own_body =
      let l : length (take (u - s) (drop s t)) - 1 ≡ u - s - 1 = omega (arith, own_length) in
      let e : s + (u - s - 1) ≡ u - 1 = omega (arith, a.some) in
      ap (λ (k : ℕ). part o k (take (u - s) (drop s t))) l
      ∙ sym (part_inside s u o (u - s - 1) t (record { ordered = omega (arith, a.some); inside = omega (arith, own_length) }))
      ∙ ap (λ (k : ℕ). take (k - (s + o)) (drop (s + o) t)) e

  pub body_length : length (take (u - 1 - (s + o)) (drop (s + o) t)) ≡ u - 1 - (s + o)
  body_length = length-take (u - 1 - (s + o)) (drop (s + o) t) ∙ omega (arith, length-drop (s + o) t, a.some, a.ends, a.inside)

  module _ (β b : ℕ) (d : Bool) (eb : b ≡ get_or t s 0) (ed : d ≡ all_digits β (take (u - 1 - (s + o)) (drop (s + o) t))) where
    pub later_by : later_bits β (take (u - s) (drop s t)) ≡ (if eqb b 39 && d then means (take (u - 1 - (s + o)) (drop (s + o) t)) else fails 0)
    later_by =
        rw (own_head, ← eb)
        (bits_by_lem β 1 o (eqb b 39) d (take (u - s) (drop s t)) (take (u - 1 - (s + o)) (drop (s + o) t))
        (λ q. sym a.opens ∙ quote_opens (take (u - s) (drop s t)) (ap (λ (x : ℕ). eqb x 39) (own_head ∙ sym eb) ∙ q)) own_body ed)

    pub letter_two : has b (ascii "BbXx") ≡ true → o ≡ 2
    letter_two q = go o a.opens a.mark
      where
        go : (o : ℕ) → opening (take (u - s) (drop s t)) ≡ o → 0 < o → o ≡ 2
        go zero e m = absurd (omega arith)
        go (suc n) e m = letter_opens (take (u - s) (drop s t)) n (ap (λ (x : ℕ). has x (ascii "BbXx")) (own_head ∙ sym eb) ∙ q) e

    pub first_by : (x : Bool) → x ≡ has b (ascii "BbXx")
        → first_bits β (take (u - s) (drop s t)) ≡ (if x && d then means (take (u - 1 - (s + o)) (drop (s + o) t)) else fails 0)
    first_by x ex =
        rw (own_head, ← eb, ← ex)
        (bits_by_lem β 2 o x d (take (u - s) (drop s t)) (take (u - 1 - (s + o)) (drop (s + o) t)) (λ q. letter_two (sym ex ∙ q)) own_body ed)
