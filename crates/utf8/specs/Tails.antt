-- What the states of the UTF-8 step mean. Assumes nothing.
use Rattle.std.specs.Prelude.{ℕ}
use Rattle.meaning.specs.Bytes.{within}
use Rattle.std.specs.Prelude.{if◌then◌else◌}
use Rattle.meaning.specs.Chars.{Due, due, broken}
use Rattle.utf8.specs.declared.tail.Utf8Tail.{Utf8Tail}
use Rattle.utf8.specs.declared.tail.Utf8Tail.TheVariants.{Start, One, Two, TwoFromA0, TwoUpTo9F, Three, ThreeFrom90, ThreeUpTo8F, Broken}

-- what is due in each state
abbrev pub due_of : Utf8Tail → Due
due_of Start = due 0 0x80 0xBF
due_of One = due 1 0x80 0xBF
due_of Two = due 2 0x80 0xBF
due_of TwoFromA0 = due 2 0xA0 0xBF
due_of TwoUpTo9F = due 2 0x80 0x9F
due_of Three = due 3 0x80 0xBF
due_of ThreeFrom90 = due 3 0x90 0xBF
due_of ThreeUpTo8F = due 3 0x80 0x8F
due_of Broken = broken

abbrev pub due_next : ℕ → ℕ → Utf8Tail → ℕ → Utf8Tail
due_next lo hi next b = if within lo hi b then next else Broken
