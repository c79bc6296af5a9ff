-- `admitting::literals::literal_of` meets its contract. Assumes nothing.
use mathlib.Core.Path.{◌≡◌, ap}
use Prim.Native.Nat.{ℕ}
use lib.Dec.{eqb}
use borrow.Author.Rules.{rules}
use Rattle.meaning.specs.declared.LiteralKind.{LiteralKind}
use Rattle.meaning.specs.declared.Literal.{Literal}
use Rattle.meaning.specs.Codes.{kind_of, literal_of}
use Rattle.admitting.proofs.literals.literal_of.Goals as goal

literal_by_lem : (k y s e : ℕ) (x : LiteralKind) → x ≡ kind_of k
    → ◌≡◌ {A = Literal} (record { kind = x; synthetic = eqb y 1; span = record { start = s; end = e } }) (literal_of k y s e)
literal_by_lem k y s e x p = ap (λ (z : LiteralKind). record { kind = z; synthetic = eqb y 1; span = record { start = s; end = e } }) p

pub returns : goal.returns
returns c = search literal_by_lem
