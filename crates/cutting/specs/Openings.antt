-- The letters that may stand before a quote. Assumes nothing.
use Rattle.std.specs.Prelude.{Bool, ℕ}
use Rattle.meaning.specs.Bytes.{ascii, has}

abbrev pub is_letter_prefix : ℕ → Bool
is_letter_prefix b = has b (ascii "EeNnBbXx")
