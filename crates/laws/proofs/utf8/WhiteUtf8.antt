-- White space is UTF-8. Assumes nothing.
use mathlib.Core.Path.{◌≡◌, refl, ap, sym, ◌∙◌}
use mathlib.Core.Bool.{Bool, true, false, false≢true}
use mathlib.Core.List.{List, [], ◌∷◌}
use Prim.Native.Nat.{ℕ, zero, suc, ◌+◌, ◌-◌, ◌*◌}
use native.Mathlib.Nat.{zero-add, suc-add}
use lib.ListN.{take}
use lib.Seq.{take-nil, take-length}
use Rattle.meaning.specs.Bytes.{within}
use Rattle.std.specs.Prelude.{if◌then◌else◌}
use Rattle.meaning.specs.Chars.{Due, due, broken, fresh, push, pushes, whole, utf8, lead, base, gather, is_space}
use Rattle.meaning.specs.Walk.{after, walk, size}
use Rattle.meaning.specs.Steps.{space_step, space_by, gap}
use Rattle.laws.proofs.utf8.Utf8.{whole_next}
use Rattle.laws.proofs.cutting.Gaps.{no_space}
use Rattle.laws.proofs.joining.Joining.{White}

-- a white-space character has the bytes that are due
gather_whole : (n lo hi v : ℕ) (t : List ℕ) → is_space (gather n lo hi v t) ≡ true → whole (pushes (due n lo hi) (take n t)) ≡ true
gather_whole zero lo hi v [] h = refl
gather_whole zero lo hi v (b ∷ t) h = refl
gather_whole (suc n) lo hi v [] h = absurd (false≢true (sym no_space ∙ h))
gather_whole (suc n) lo hi v (b ∷ t) h = go (within lo hi b) h (gather_whole n 0x80 0xBF (v * 64 + (b - 0x80)) t)
  where
    go : (x : Bool) → is_space (if x then gather n 0x80 0xBF (v * 64 + (b - 0x80)) t else 0) ≡ true
        → (is_space (gather n 0x80 0xBF (v * 64 + (b - 0x80)) t) ≡ true → whole (pushes (due n 0x80 0xBF) (take n t)) ≡ true)
        → whole (pushes (if x then due n 0x80 0xBF else broken) (take n t)) ≡ true
    go true h ih = ih h
    go false h ih = absurd (false≢true (sym no_space ∙ h))

-- past k bytes that end a character, and the white space behind them
white_whole : (k : ℕ) (t : List ℕ) (d : Due) → whole (pushes d (take k t)) ≡ true → whole (pushes d (take (k + size (walk space_step k t)) t)) ≡ true
white_whole zero [] d h = h
white_whole (suc k) [] d h = rw (take-nil (suc k + 0)) h
white_whole (suc k) (b ∷ t) d h = rw (suc-add k (size (walk space_step k t))) (white_whole k t (push d b) h)
white_whole zero (b ∷ t) d h = go (lead b) refl (λ k. white_whole k t)
  where
    at : (n lo hi : ℕ) → lead b ≡ due n lo hi → (x : Bool) → is_space (gather n lo hi (b - base n) t) ≡ x
        → ((k : ℕ) (d : Due) → whole (pushes d (take k t)) ≡ true → whole (pushes d (take (k + size (walk space_step k t)) t)) ≡ true)
        → whole (pushes d (take (0 + size (after (space_by (if x then suc n else 0)) b (λ k. walk space_step k t))) (b ∷ t))) ≡ true
    at n lo hi l true s ih =
        rw (zero-add (suc (n + size (walk space_step n t))))
        (whole_next d h (b ∷ take (n + size (walk space_step n t)) t)
        ∙ ap (λ (d : Due). whole (pushes d (take (n + size (walk space_step n t)) t))) l ∙ ih n (due n lo hi) (gather_whole n lo hi (b - base n) t s))
    at n lo hi l false s ih = h

    go : (e : Due) → lead b ≡ e
        → ((k : ℕ) (d : Due) → whole (pushes d (take k t)) ≡ true → whole (pushes d (take (k + size (walk space_step k t)) t)) ≡ true)
        → whole (pushes d (take (0 + size (walk space_step 0 (b ∷ t))) (b ∷ t))) ≡ true
    go broken l ih = rw l h
    go (due n lo hi) l ih = rw l (at n lo hi l (is_space (gather n lo hi (b - base n) t)) refl ih)

-- the white space at the front of a text; a text of nothing else
pub gap_utf8 : (t : List ℕ) → utf8 (take (gap t) t) ≡ true
unfolding utf8
gap_utf8 t = rw (zero-add (gap t)) at (white_whole 0 t fresh refl)

pub white_utf8 : (g : List ℕ) → White g → utf8 g ≡ true
white_utf8 g w = rw (w, take-length g) at (gap_utf8 g)
