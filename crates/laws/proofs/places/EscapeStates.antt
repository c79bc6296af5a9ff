-- E: how the UTF-8 of the expansion goes beside that of the bytes it is spelled with. Wherever the spelling stands inside a character, the expansion stands at
-- the same place of the same character; so a later byte of the spelling never breaks the expansion. Assumes nothing.
use mathlib.Core.Logic.{◌⊎◌, inl, inr}
use mathlib.Core.Path.{◌≡◌, refl, ap, sym, ◌∙◌, subst}
use mathlib.Core.Bool.{Bool, true, false, ◌&&◌, false≢true}
use mathlib.Core.List.{List, [], ◌∷◌, ◌++◌}
use Prim.Native.Nat.{ℕ, zero, suc, ◌%◌, ◌≤◌, ◌<◌}
use Prim.Native.Char.{code}
use native.Mathlib.Omega.{arith}
use lib.Dec.{eqb, ltb}
use lib.ListN.{length, take, take-append-drop, drop}
use borrow.Author.Tests.{eqb-true, ltb-true}
use Rattle.meaning.specs.Bytes.{◌!◌, quote, backslash, within, digits, number}
use Rattle.std.specs.Prelude.{if◌then◌else◌}
use Rattle.meaning.specs.Chars.{Due, due, broken, fresh, push, pushes, whole, lead, encode}
use Rattle.meaning.specs.Walk.{Step, keep, give, stop, after, walk, stops, value}
use Rattle.meaning.specs.Steps.{byte_of, doubled, escape_table, one_byte, may_escape, scalar_by, escaped, escape_step}
use Rattle.laws.proofs.basics.Tests.{and_right, within_yes, within_bounds}
use Rattle.laws.proofs.basics.Digits.{digits_at, digit_low}
use Rattle.laws.proofs.utf8.Utf8.{pushes_append, pushes_broken, Good, push_good, pushes_good, later_lead}
use Rattle.laws.proofs.utf8.Abreast.{whole_fresh, low_next}
use Rattle.laws.proofs.walking.StepBounds.{Bounded, escape_steady}
use Rattle.laws.proofs.places.Bodies.{escape_kept}

-- a state of the spelling, and one of the expansion: the spelling stands between characters, or the expansion stands where it stands
abbrev pub Aligned : Due → Due → Type 0
Aligned raw d = (whole raw ≡ true) ⊎ (d ≡ raw)

-- what breaks at the front is broken
pub front_sound : (d : Due) (a b : List ℕ) → (pushes d (a ++ b) ≡ broken → ⊥) → pushes d a ≡ broken → ⊥
front_sound d a b h e = h (pushes_append d a b ∙ ap (λ (s : Due). pushes s b) e ∙ pushes_broken b)

-- BYTES. One that stands for itself, and that breaks neither
byte_aligned : (raw d : Due) (b : ℕ) → Good raw → Good d → (push raw b ≡ broken → ⊥) → (push d b ≡ broken → ⊥) → Aligned raw d → Aligned (push raw b) (push d b)
byte_aligned raw d b g k h i (inr e) = inr (ap (λ (s : Due). push s b) e)
byte_aligned raw d b g k h i (inl w) = go d k i (ap (λ (s : Due). push s b) (whole_fresh raw g w))
  where
    due_later : (n lo hi : ℕ) (x : Bool) → Good (due (suc n) lo hi) → within lo hi b ≡ x → ((if x then due n 0x80 0xBF else broken) ≡ broken → ⊥)
        → lead b ≡ broken
    due_later n lo hi true k e i = let r = within_bounds lo hi b e in later_lead b (within_yes 0x80 0xBF b (omega arith) (omega arith))
    due_later n lo hi false k e i = absurd (i refl)

    go : (d : Due) → Good d → (push d b ≡ broken → ⊥) → push raw b ≡ lead b → Aligned (push raw b) (push d b)
    go broken k i e = absurd (i refl)
    go (due zero lo hi) k i e = inr (sym e)
    go (due (suc n) lo hi) k i e = absurd (h (e ∙ due_later n lo hi (within lo hi b) k refl i))

-- behind an ASCII byte the spelling stands between characters
pub last_whole : (d : Due) (a : List ℕ) (k : ℕ) → Good d → k < length a → a ! k < 0x80 → (pushes d (take (suc k) a) ≡ broken → ⊥)
    → whole (pushes d (take (suc k) a)) ≡ true
last_whole d [] k g l c h = absurd (omega arith)
last_whole d (b ∷ a) zero g l c h = ap whole (low_next d b [] g c h).1
last_whole d (b ∷ a) (suc k) g l c h = last_whole (push d b) a k (push_good d b g) (omega arith) c h

-- UNITS. Digits and letters of escapes are ASCII
digits_low : (β w : ℕ) (t : List ℕ) (k : ℕ) → β ≤ 16 → k < digits β w t → t ! k < 0x80
digits_low β w t k l h = digit_low (t ! k) (omega (arith, digits_at β w t k h))

abbrev LettersLow : List (ℕ × ℕ) → Type 0
LettersLow [] = Unit {0}
LettersLow (r ∷ rs) = (r.0 < 0x80) × LettersLow rs

letter_low : (rs : List (ℕ × ℕ)) → LettersLow rs → (c : ℕ) → ltb (byte_of rs c) 256 ≡ true → c < 0x80
letter_low [] a c h = absurd (omega (arith, ltb-true 256 256 h))
letter_low (r ∷ rs) a c h = go (eqb r.0 c) refl h (letter_low rs a.1 c)
  where
    go : (x : Bool) → eqb r.0 c ≡ x → ltb (if x then r.1 else byte_of rs c) 256 ≡ true → (ltb (byte_of rs c) 256 ≡ true → c < 0x80) → c < 0x80
    go true e h ih = omega (arith, eqb-true r.0 c e, a.0)
    go false e h ih = ih h

-- a unit of more than one byte ends by an ASCII byte, or it is a byte behind its first that stands for itself; u stands behind its first
abbrev EndsLow : Step → List ℕ → Type 0
EndsLow keep u = Unit {0}
EndsLow (give zero out) u = ⊥
EndsLow (give (suc k) out) u = (u ! k < 0x80) ⊎ ((k ≡ 0) × (out ≡ u ! 0 ∷ []))
EndsLow stop u = Unit {0}

one_ends : (n v : ℕ) (u : List ℕ) → 0 < n → ((k : ℕ) → suc k ≡ n → u ! k < 0x80) → EndsLow (one_byte n v) u
unfolding one_byte
one_ends n v u some low = go (eqb v 0) n some low
  where
    go : (x : Bool) (n : ℕ) → 0 < n → ((k : ℕ) → suc k ≡ n → u ! k < 0x80) → EndsLow (if x then stop else give n (v ∷ [])) u
    go true n some low = tt
    go false zero some low = absurd (omega arith)
    go false (suc k) some low = inl (low k refl)

byte_ends : (c : ℕ) (t : List ℕ) → EndsLow (one_byte 1 c) (c ∷ t)
unfolding one_byte
byte_ends c t = go (eqb c 0)
  where
    go : (x : Bool) → EndsLow (if x then stop else give 1 (c ∷ [])) (c ∷ t)
    go true = tt
    go false = inr (refl, refl)

scalar_ends : (w c : ℕ) (t : List ℕ) → EndsLow (scalar_by (suc w) (suc (suc w)) t) (c ∷ t)
unfolding scalar_by
scalar_ends w c t = go (eqb (digits 16 (suc w) t) (suc w)) (may_escape (number 16 (suc w) 0 t)) refl
  where
    go : (x y : Bool) → eqb (digits 16 (suc w) t) (suc w) ≡ x
        → EndsLow (if x && y then give (suc (suc w)) (encode (number 16 (suc w) 0 t)) else stop) (c ∷ t)
    go true true e = inl (digits_low 16 (suc w) t w (omega arith) (omega (arith, eqb-true (digits 16 (suc w) t) (suc w) e)))
    go true false e = tt
    go false y e = tt

escaped_ends : (u : List ℕ) → EndsLow (escaped u) u
escaped_ends [] = tt
escaped_ends (c ∷ t) =
    go (ltb (byte_of escape_table c) 256) (ltb 0 (digits 8 3 (c ∷ t))) (eqb c (code "x") && ltb 0 (digits 16 2 t)) (eqb c (code "u")) (eqb c (code "U"))
    refl refl refl
  where
    behind : (k : ℕ) → 0 < digits 16 2 t → k ≡ digits 16 2 t → (c ∷ t) ! k < 0x80
    behind zero some e = absurd (omega arith)
    behind (suc k) some e = digits_low 16 2 t k (omega arith) (omega arith)

    go : (x1 x2 x3 x4 x5 : Bool) → ltb (byte_of escape_table c) 256 ≡ x1 → ltb 0 (digits 8 3 (c ∷ t)) ≡ x2 → (eqb c (code "x") && ltb 0 (digits 16 2 t)) ≡ x3
        → EndsLow
        (if x1 then give 1 (byte_of escape_table c ∷ [])
        else if x2 then one_byte (digits 8 3 (c ∷ t)) (number 8 (digits 8 3 (c ∷ t)) 0 (c ∷ t) % 256)
        else if x3 then one_byte (suc (digits 16 2 t)) (number 16 (digits 16 2 t) 0 t)
        else if x4 then scalar_by 4 5 t
        else if x5 then scalar_by 8 9 t
        else one_byte 1 c) (c ∷ t)
    go true x2 x3 x4 x5 e1 e2 e3 = inl (letter_low escape_table (omega arith) c e1)
    go false true x3 x4 x5 e1 e2 e3 =
        one_ends (digits 8 3 (c ∷ t)) (number 8 (digits 8 3 (c ∷ t)) 0 (c ∷ t) % 256) (c ∷ t) (ltb-true 0 (digits 8 3 (c ∷ t)) e2)
        (λ k e. digits_low 8 3 (c ∷ t) k (omega arith) (omega arith))
    go false false true x4 x5 e1 e2 e3 =
        let some = ltb-true 0 (digits 16 2 t) (and_right (eqb c (code "x")) (ltb 0 (digits 16 2 t)) e3) in
        one_ends (suc (digits 16 2 t)) (number 16 (digits 16 2 t) 0 t) (c ∷ t) (omega arith) (λ k e. behind k some (omega arith))
    go false false false true x5 e1 e2 e3 = scalar_ends 3 c t
    go false false false false true e1 e2 e3 = scalar_ends 7 c t
    go false false false false false e1 e2 e3 = byte_ends c t

escape_ends : (b : ℕ) (u : List ℕ) → EndsLow (escape_step (b ∷ u)) u
unfolding doubled
escape_ends b u = go (eqb b backslash) (eqb b quote) (eqb (u ! 0) quote) refl
  where
    go : (x y z : Bool) → eqb (u ! 0) quote ≡ z → EndsLow (if x then escaped u else if y then (if z then give 1 (quote ∷ []) else stop) else keep) u
    go true y z e = escaped_ends u
    go false true true e = inl (omega (arith, eqb-true (u ! 0) quote e))
    go false true false e = tt
    go false false z e = tt

-- a unit of more than one byte begins by an ASCII byte, so the spelling stands between characters there; and behind it both are aligned
unit_aligned : (raw d : Due) (b : ℕ) (a : List ℕ) (n : ℕ) (out : List ℕ) → Good raw → Good d → escape_step (b ∷ a) ≡ give n out → n ≤ length a
    → (pushes raw (b ∷ a) ≡ broken → ⊥) → (pushes d out ≡ broken → ⊥) → Aligned (pushes (push raw b) (take n a)) (pushes d out)
unit_aligned raw d b a n out g k e l h i = go n a l sound (subst (λ (s : Step). EndsLow s a) e (escape_ends b a))
  where
    low : (escape_step (b ∷ a) ≡ keep) ⊎ ((b ≡ backslash) ⊎ (b ≡ quote)) → b < 0x80
    low (inl f) = absurd (let z : ◌≡◌ {A = ℕ} 0 1 = cc in omega arith)
    low (inr (inl f)) = omega arith
    low (inr (inr f)) = omega arith

    begins : push raw b ≡ fresh
    begins = (low_next raw b a g (low (escape_kept b a)) h).1

    sound : pushes (push raw b) (take n a) ≡ broken → ⊥
    sound = front_sound (push raw b) (take n a) (drop n a) (rw (take-append-drop n a) h)

    go : (n : ℕ) (a : List ℕ) → n ≤ length a → (pushes (push raw b) (take n a) ≡ broken → ⊥) → EndsLow (give n out) a
        → Aligned (pushes (push raw b) (take n a)) (pushes d out)
    go zero a l s x = absurd x
    go (suc m) a l s (inl c) = inl (last_whole (push raw b) a m (push_good raw b g) l c s)
    go (suc m) [] l s (inr x) = absurd (omega arith)
    go (suc zero) (c ∷ a) l s (inr x) =
        rw x.1 (byte_aligned (push raw b) d c (push_good raw b g) k s (λ f. i (rw x.1 f)) (inl (ap whole begins)))
    go (suc (suc m)) (c ∷ a) l s (inr x) = absurd (omega arith)

-- A WALK that goes through keeps both aligned, from behind k bytes of a unit already taken
pub walk_aligned : (k : ℕ) (a : List ℕ) (raw d : Due) → Good raw → Good d → k ≤ length a → stops (walk escape_step k a) ≡ false
    → (pushes raw a ≡ broken → ⊥) → (pushes d (value (walk escape_step k a)) ≡ broken → ⊥) → Aligned (pushes raw (take k a)) d
    → Aligned (pushes raw a) (pushes d (value (walk escape_step k a)))
walk_aligned zero [] raw d g i l s h j x = x
walk_aligned (suc k) [] raw d g i l s h j x = absurd (omega arith)
walk_aligned (suc k) (b ∷ a) raw d g i l s h j x = walk_aligned k a (push raw b) d (push_good raw b g) i (omega arith) s h j x
walk_aligned zero (b ∷ a) raw d g i l s h j x =
    go (escape_step (b ∷ a)) refl (escape_steady b a) s j (λ k d. walk_aligned k a (push raw b) d (push_good raw b g))
  where
    go : (u : Step) → escape_step (b ∷ a) ≡ u → Bounded u (length a) → stops (after u b (λ n. walk escape_step n a)) ≡ false
        → (pushes d (value (after u b (λ n. walk escape_step n a))) ≡ broken → ⊥)
        → ((k : ℕ) (d : Due) → Good d → k ≤ length a → stops (walk escape_step k a) ≡ false → (pushes (push raw b) a ≡ broken → ⊥)
        → (pushes d (value (walk escape_step k a)) ≡ broken → ⊥) → Aligned (pushes (push raw b) (take k a)) d
        → Aligned (pushes (push raw b) a) (pushes d (value (walk escape_step k a))))
        → Aligned (pushes raw (b ∷ a)) (pushes d (value (after u b (λ n. walk escape_step n a))))
    go keep e f s j ih =
        ih 0 (push d b) (push_good d b i) (omega arith) s h j
        (byte_aligned raw d b g i (front_sound raw (b ∷ []) a h) (front_sound d (b ∷ []) (value (walk escape_step 0 a)) j) x)
    go (give n out) e f s j ih =
        rw (pushes_append d out (value (walk escape_step n a)))
        (ih n (pushes d out) (pushes_good d out i) f.0 s h (rw (pushes_append d out (value (walk escape_step n a))) at j)
        (unit_aligned raw d b a n out g i e f.0 h (front_sound d out (value (walk escape_step n a)) j)))
    go stop e f s j ih = absurd (false≢true (sym s))
