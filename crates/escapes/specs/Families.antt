-- The families' steps and courses, and what measuring says of a course. Assumes nothing.
use Rattle.std.specs.Prelude.{Bool, true, false, List, ℕ, length, Option, Some, None, Result, Ok, Err}
use Rattle.std.specs.Prelude.{if◌then◌else◌}
use Rattle.meaning.specs.Chars.{Due, fresh, pushes}
use Rattle.meaning.specs.Walk.{Step, Trace, walk, size, stops, plain, value}
use Rattle.meaning.specs.Steps.{standard_step, escape_step, checked, unicode_step}
use Rattle.cutting.specs.Marks.{mark_of}
use Rattle.escapes.specs.declared.units.Family.{Family}
use Rattle.escapes.specs.declared.units.Family.TheVariants.{Standard, Escape, Unicode}

-- by the escape character's bytes e
abbrev pub step_of : Family → List ℕ → List ℕ → Step
step_of (Standard m bs) e t = standard_step bs (mark_of m) t
step_of Escape e t = escape_step t
step_of (Unicode m) e t = unicode_step e (mark_of m) t

-- E's expansion must be UTF-8
abbrev pub checks : Family → Bool
checks (Standard m bs) = false
checks Escape = true
checks (Unicode m) = false

-- what is due behind some bytes, where it is checked
abbrev pub due_by : Bool → Due → List ℕ → Due
due_by x d v = if x then pushes d v else d

-- a text's course by a step
abbrev pub course_by : (List ℕ → Step) → Bool → List ℕ → Trace
course_by st x t = if x then checked fresh (walk st 0 t) else walk st 0 t

abbrev pub course_of : Family → List ℕ → List ℕ → Trace
course_of f e t = course_by (step_of f e) (checks f) t

abbrev pub measured_of : Trace → Result (Option ℕ) ℕ
measured_of r = if plain r then Ok None else if stops r then Err (size r) else Ok (Some (length (value r)))
