-- [01 Record program litrec] What a block of records is answered with. Assumes nothing.
use Rattle.std.specs.Prelude.{◌≡◌, List, ◌++◌, ℕ, length, drop}
use Rattle.meaning.specs.Records.{output}

-- the lines of the records at hand, in their order, fill the buffer's start, and are counted; the rest is as it was lent
pub record Lines (input before : List ℕ) (r : ℕ) (after : List ℕ) : Type 0 where
  pub long : r ≡ length (output input)
  pub buffer : after ≡ output input ++ drop (length (output input)) before
