-- The first segment, and what stands at a cursor. Assumes nothing.
use Rattle.std.specs.Prelude.{List, ℕ, zero, suc, ◌+◌, ltb, length, drop, Option, Some, None}
use Rattle.meaning.specs.declared.Settings.{Settings}
use Rattle.std.specs.Prelude.{if◌then◌else◌}
use Rattle.meaning.specs.Steps.{gap}
use Rattle.meaning.specs.Cutting.{opening, segment}
use Rattle.cutting.specs.declared.segments.Segment.{Segment}
use Rattle.cutting.specs.declared.cursor.Next.{Next}
use Rattle.cutting.specs.declared.cursor.Next.TheVariants as Next'

abbrev pub found_by : ℕ → ℕ → Option Segment
found_by o zero = None
found_by o (suc n) = Some (record { opening = o; len = suc n })

unfoldable pub segment_of : Settings → List ℕ → Option Segment
segment_of σ t = found_by (opening t) (segment σ t)

-- at the place i of t: the segment there, and past the white space behind it
abbrev pub next_by : List ℕ → ℕ → ℕ → ℕ → Next
next_by t i o zero = Next'.Remainder
next_by t i o (suc n) = Next'.Segment i o (i + suc n) (record { at = i + suc n + gap (drop (i + suc n) t) })

unfoldable pub next_of : Settings → List ℕ → ℕ → Next
next_of σ t i = if ltb i (length t) then next_by t i (opening (drop i t)) (segment σ (drop i t)) else Next'.End
