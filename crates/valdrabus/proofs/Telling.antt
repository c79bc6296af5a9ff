-- The numbers of a refusal, by its case. Assumes nothing.
use mathlib.Core.Path.{◌≡◌, sym, ap, ◌∙◌}
use Prim.Native.Nat.{ℕ}
use Rattle.meaning.specs.declared.LiteralExpected.{LiteralExpected}
use Rattle.meaning.specs.declared.LiteralKind.{LiteralKind}
use Rattle.meaning.specs.declared.Refusal.{Refusal}
use Rattle.meaning.specs.declared.Refusal.TheVariants as Refusal'
use Rattle.meaning.specs.Answers.{expected_code, kind_code}
use Rattle.valdrabus.specs.declared.told.Told.{Told}
use Rattle.valdrabus.specs.Numbers.{five_told, four_told, number_told, refusal_told}

module _ (w : Refusal) where
  pub wrong_kind : (e : LiteralExpected) (k : LiteralKind) → w ≡ Refusal'.WrongKind e k → (t : Told) → t ≡ number_told 1 → (x y : ℕ) → x ≡ expected_code e
      → y ≡ kind_code k → five_told t.number t.how x y t.place ≡ refusal_told w
  wrong_kind e k q t p x y a b =
      ap (λ (z : Told). five_told z.number z.how x y z.place) p ∙ ap (λ (z : ℕ). four_told 1 0 z y) a ∙ ap (λ (z : ℕ). four_told 1 0 (expected_code e) z) b
      ∙ ap refusal_told (sym q)

  pub refusal_by : (w' : Refusal) → w ≡ w' → (t : Told) → t ≡ refusal_told w' → t ≡ refusal_told w
  refusal_by w' q t p = p ∙ ap refusal_told (sym q)
