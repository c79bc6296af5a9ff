-- What a quick look at a date's text tells: where it tells a day, that is the day of the text's value; of any other text it tells nothing. Assumes nothing.
use Rattle.std.specs.Prelude.{◌≡◌, List, ℕ}
use Rattle.meaning.specs.declared.CalendarDay.{CalendarDay}
use Rattle.meaning.specs.Cutting.{off}
use Rattle.meaning.specs.Reading.{means, value_of}
use Rattle.meaning.specs.Kinds.{temporal}
use Rattle.meaning.specs.Dates.{day_in}
use Rattle.std.specs.Prelude.{Option, Some}

pub record Quick (t : List ℕ) (r : Option CalendarDay) : Type 0 where
  pub tells : (c : CalendarDay) → r ≡ Some c → (v : List ℕ) × (value_of t (temporal off t) ≡ means v) × (day_in v ≡ Some c)
