-- The marks' bytes, and what the search for a closing mark answers. Assumes nothing.
use Rattle.std.specs.Prelude.{Bool, ℕ}
use Rattle.meaning.specs.Bytes.{quote, dquote, backslash}
use Rattle.std.specs.Prelude.{if◌then◌else◌}
use Rattle.meaning.specs.Walk.{Trace, size, stops}
use Rattle.leaves.specs.declared.blocks.Stops.{Stops}
use Rattle.cutting.specs.declared.marks.Mark.{Mark}
use Rattle.cutting.specs.declared.marks.Mark.TheVariants.{Quote, DoubleQuote}
use Rattle.std.specs.Prelude.{Option, Some, None}

abbrev pub mark_of : Mark → ℕ
mark_of Quote = quote
mark_of DoubleQuote = dquote

-- where the walk stops, a mark closes
abbrev pub closed_of : Trace → Option ℕ
closed_of r = if stops r then Some (size r) else None

-- the mark q, and the backslash where it hides something
unfoldable pub stops_by : Bool → ℕ → Stops
stops_by hides q = record { first = q; second = if hides then backslash else q; third = q }
