-- What the tests 1 to 4 tell: a range of the source, whose text they pass, or why there is none. Assumes nothing.
use mathlib.Core.Path.{◌≡◌, sym, ap, ◌∙◌, subst}
use mathlib.Core.List.{List}
use Prim.Native.Nat.{ℕ, ◌+◌, ◌-◌, ◌≤◌}
use native.Mathlib.Omega.{arith}
use lib.ListN.{length, drop, length-drop, length-take}
use Rattle.meaning.specs.declared.Literal.{Literal}
use Rattle.meaning.specs.declared.Refusal.{Refusal}
use Rattle.meaning.specs.Bytes.{part}
use Rattle.meaning.specs.Questions.{passes, barred}
use Rattle.meaning.specs.Questions as Definition
use Rattle.std.specs.Prelude.{Result, Ok, Err}
use Rattle.meaning.specs.declared.Part.{Part}
use Rattle.admitting.specs.Tests.{Tests, SpanInside, tested_of}

module _ {l : Literal} {S : List ℕ} {r : Result Part Refusal} {x : Definition.Tested} (v : Tests l S r x) where
  pub span_barred : (w : Refusal) → r ≡ Err w → x ≡ barred w
  span_barred w q = sym v.means ∙ ap (tested_of S) q

  module _ (π : Part) (q : r ≡ Ok π) where
    range : SpanInside l (length S) (Ok π)
    range = subst (SpanInside l (length S)) q v.inside

    pub span_passes : x ≡ passes (part π.start π.end S)
    span_passes = sym v.means ∙ ap (tested_of S) q

    pub span_start : π.start ≡ l.span.start
    span_start = range.0

    pub span_end : π.end ≡ l.span.end
    span_end = range.1

    pub span_ordered : π.start ≤ π.end
    span_ordered = range.2

    pub span_inside : π.end ≤ length S
    span_inside = range.3

    pub span_length : π.start + length (part π.start π.end S) ≡ π.end
    span_length = omega (arith, length-take (π.end - π.start) (drop π.start S), length-drop π.start S, range.2, range.3)
