-- Places of a text, and the part of a buffer that is lent from a place on. Assumes nothing.
use mathlib.Core.Path.{◌≡◌, ap, sym, ◌∙◌}
use mathlib.Core.List.{List, ◌++◌, append-nil}
use Prim.Native.Nat.{ℕ, ◌+◌, ◌-◌, ◌≤◌, ◌<◌}
use native.Mathlib.Nat.{le_of_eq}
use native.Mathlib.Omega.{arith}
use mir.Syntax.{w64}
use mir.Val.{Fits}
use lib.ListN.{length, take, drop, length-append, length-take, length-drop, drop_of_length-le}
use lib.Seq.{length-take-le, take-append-add}

-- a place of a text, or its end, is a usize
pub place_fits : {n : ℕ} (t : List ℕ) → n ≤ length t → length t < 18446744073709551616 → Fits w64 n
place_fits t h l = record { fits = omega arith }

-- A BUFFER'S PART from n on was lent, and has come back as `last`
abbrev pub lent : ℕ → List ℕ → List ℕ
lent n o = take (length o - n) (drop n o)

abbrev pub back : ℕ → List ℕ → List ℕ → List ℕ
back n o last = take n o ++ (last ++ drop (length o - n) (drop n o))

module _ (o last : List ℕ) (n : ℕ) (h : n ≤ length o) (e : length last ≡ length (lent n o)) where
  pub back_whole : back n o last ≡ take n o ++ last
  back_whole = ap (take n o ++◌) (ap (last ++◌) (drop_of_length-le (drop n o) (le_of_eq (length-drop n o))) ∙ append-nil last)

  pub back_same : length (back n o last) ≡ length o
  back_same =
      ap length back_whole ∙ length-append (take n o) last
      ∙ omega (arith, length-take-le n o h, e, length-take (length o - n) (drop n o), length-drop n o)

  pub back_take : (k : ℕ) → take (n + k) (back n o last) ≡ take n o ++ take k last
  back_take k = ap (take (n + k)) back_whole ∙ ap (λ (i : ℕ). take (i + k) (take n o ++ last)) (sym (length-take-le n o h)) ∙ take-append-add (take n o) last k
