-- Bytes asked one by one for digits of a base, as the definition asks all at once. Assumes nothing.
use Rattle.std.proofs.Common.{◌≡◌, ℕ, suc, Bool, true, false, ◌&&◌, eqb, List, [], ◌∷◌, length, refl, sym, ap, ◌∙◌, arith, eq-eqb, ne_eqb, eqb-true}
use borrow.Author.Tests.{eqb-false}
use lib.Dec.{ltb}
use Rattle.std.specs.List.{list_all}
use Rattle.std.specs.Prelude.{if◌then◌else◌}
use Rattle.meaning.specs.Bytes.{digit, digits, all_digits}

pub asked_all : (β : ℕ) (t : List ℕ) → list_all (λ b. ltb (digit b) β) t ≡ all_digits β t
unfolding all_digits
asked_all β [] = refl
asked_all β (b ∷ t) = go (ltb (digit b) β) refl (asked_all β t)
  where
    go : (x : Bool) → ltb (digit b) β ≡ x → list_all (λ b. ltb (digit b) β) t ≡ eqb (digits β (length t) t) (length t)
        → (ltb (digit b) β && list_all (λ b. ltb (digit b) β) t) ≡ eqb (if ltb (digit b) β then suc (digits β (length t) t) else 0) (suc (length t))
    go true e ih = rw e (ih ∙ step (eqb (digits β (length t) t) (length t)) refl)
      where
        step : (y : Bool) → eqb (digits β (length t) t) (length t) ≡ y → y ≡ eqb (suc (digits β (length t) t)) (suc (length t))
        step true q = sym (eq-eqb (suc (digits β (length t) t)) (suc (length t)) (ap suc (eqb-true (digits β (length t) t) (length t) q)))
        step false q = sym (ne_eqb (suc (digits β (length t) t)) (suc (length t)) (λ h. eqb-false (digits β (length t) t) (length t) q (omega arith)))
    go false e ih = rw e (sym (ne_eqb 0 (suc (length t)) (λ h. absurd (omega arith))))
