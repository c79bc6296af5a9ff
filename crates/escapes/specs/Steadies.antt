-- Each family's step is steady, since no mark is zero. Assumes nothing.
use Rattle.std.specs.Prelude.{◌≡◌, Bool, false, List, ℕ, refl, eqb}
use Rattle.meaning.specs.Steps.{standard_step, escape_step, unicode_step}
use Rattle.laws.proofs.walking.StepBounds.{Steady, standard_steady, escape_steady, unicode_steady}
use Rattle.cutting.specs.declared.marks.Mark.{Mark}
use Rattle.cutting.specs.declared.marks.Mark.TheVariants.{Quote, DoubleQuote}
use Rattle.cutting.specs.Marks.{mark_of}

mark_not_zero : (m : Mark) → eqb 0 (mark_of m) ≡ false
mark_not_zero Quote = refl
mark_not_zero DoubleQuote = refl

pub steady_standard : (bs : Bool) (m : Mark) → Steady (standard_step bs (mark_of m))
steady_standard bs m = standard_steady bs (mark_of m) (mark_not_zero m)

pub steady_escape : Steady escape_step
steady_escape = escape_steady

pub steady_unicode : (e : List ℕ) (m : Mark) → Steady (unicode_step e (mark_of m))
steady_unicode e m = unicode_steady e (mark_of m) (mark_not_zero m)
