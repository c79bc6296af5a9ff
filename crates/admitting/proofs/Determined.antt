-- What the tests 1 to 4 tell is determined: two results that the contract permits are equal. Assumes nothing.
use mathlib.Core.Path.{◌≡◌, sym, ap, ◌∙◌}
use mathlib.Core.List.{List}
use native.Mathlib.Omega.{arith}
use Prim.Native.Nat.{ℕ}
use Rattle.meaning.specs.declared.Literal.{Literal}
use Rattle.meaning.specs.declared.Refusal.{Refusal}
use Rattle.meaning.specs.Questions as Definition
use Rattle.meaning.specs.Questions.{passes, barred}
use Rattle.std.specs.Prelude.{Result, Ok, Err}
use Rattle.meaning.specs.declared.Part.{Part}
use Rattle.meaning.specs.Answers.{part_at}
use Rattle.admitting.specs.Tests.{Tests}

two : {a b c d : ℕ} → a ≡ c → b ≡ d → ◌≡◌ {A = Result Part Refusal} (Ok (part_at a b)) (Ok (part_at c d))
two {a} {b} {c} {d} p q = ap (λ (x : ℕ). Ok (part_at x b)) p ∙ ap (λ (x : ℕ). Ok (part_at c x)) q

apart : {A : Type 0} (t : List ℕ) (w : Refusal) → passes t ≡ barred w → A
apart t w e = let z : ◌≡◌ {A = ℕ} 0 1 = cc in absurd (omega arith)

same : (w v : Refusal) → barred w ≡ barred v → ◌≡◌ {A = Result Part Refusal} (Err w) (Err v)
same w v e = cc

pub tests_unique : (l : Literal) (S : List ℕ) (r r' : Result Part Refusal) (x : Definition.Tested) → Tests l S r x → Tests l S r' x → r ≡ r'
tests_unique l S (Ok π) (Ok ρ) x a b = two (a.inside.0 ∙ sym b.inside.0) (a.inside.1 ∙ sym b.inside.1)
tests_unique l S (Ok π) (Err w) x a b = apart _ w (a.means ∙ sym b.means)
tests_unique l S (Err w) (Ok π) x a b = apart _ w (b.means ∙ sym a.means)
tests_unique l S (Err w) (Err v) x a b = same w v (a.means ∙ sym b.means)
