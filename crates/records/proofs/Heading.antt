-- A line, piece by piece. Assumes nothing.
use mathlib.Core.Path.{◌≡◌, ap, ◌∙◌}
use mathlib.Core.List.{List, [], ◌∷◌, ◌++◌, append_assoc}
use Prim.Native.Nat.{ℕ}
use lib.IntN.{ℤ}
use mir.Syntax.{w64}
use mir.Val.{SFits, to_z, of_z}
use mir.Facts.{to_z-of_z}
use Rattle.meaning.specs.Numbers.{digits_of, printed}
use Rattle.meaning.specs.Records.{line, hex_text}
use Rattle.records.specs.Adding.{pushed}
use Rattle.records.specs.Heads.{front_of, back_of}
use Rattle.records.proofs.Adding.{pushed_more}

module _ (b : List ℕ) where
  -- what is put in two pieces, and in three
  two : (v w m r : List ℕ) → m ≡ pushed b v → r ≡ pushed m w → r ≡ pushed b (v ++ w)
  two v w m r em er = er ∙ ap (λ (z : List ℕ). pushed z w) em ∙ pushed_more b v w

  three : (u v w m p r : List ℕ) → m ≡ pushed b u → p ≡ pushed m v → r ≡ pushed p w → r ≡ pushed b ((u ++ v) ++ w)
  three u v w m p r em ep er = two (u ++ v) w p r (two u v m p em ep) er

  pub front_pushed : (n how : ℕ) (m r : List ℕ) → m ≡ pushed b (digits_of n) → r ≡ pushed m (32 ∷ how ∷ 32 ∷ []) → r ≡ pushed b (front_of n how)
  front_pushed n how m r em er = two (digits_of n) (32 ∷ how ∷ 32 ∷ []) m r em er

  pub back_pushed : (t m p r : List ℕ) → m ≡ pushed b (32 ∷ []) → p ≡ pushed m (hex_text t) → r ≡ pushed p (10 ∷ []) → r ≡ pushed b (back_of t)
  back_pushed t m p r em ep er = three (32 ∷ []) (hex_text t) (10 ∷ []) m p r em ep er

  pub line_pushed : (n how : ℕ) (count t m p r : List ℕ) → m ≡ pushed b (front_of n how) → p ≡ pushed m count → r ≡ pushed p (back_of t)
      → r ≡ pushed b (line n how count t)
  unfolding line
  line_pushed n how count t m p r em ep er =
      three (front_of n how) count (back_of t) m p r em ep er ∙ ap (pushed b)
      (append_assoc (front_of n how) count (back_of t) ∙ append_assoc (digits_of n) (32 ∷ how ∷ 32 ∷ []) (count ++ back_of t))

  -- an integer that the machine gives back
  pub value_pushed : (z : ℤ) → SFits w64 z → (how : ℕ) (t m p r : List ℕ) → m ≡ pushed b (front_of 0 how)
      → p ≡ pushed m (printed (to_z w64 (of_z w64 z))) → r ≡ pushed p (back_of t) → r ≡ pushed b (line 0 how (printed z) t)
  value_pushed z f how t m p r em ep =
      line_pushed 0 how (printed z) t m p r em (ep ∙ ap (λ (y : ℤ). pushed m (printed y)) (to_z-of_z {w = w64} f))
