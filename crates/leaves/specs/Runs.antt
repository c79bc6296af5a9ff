-- The classes of bytes that names are made of. Assumes nothing.
use Rattle.std.specs.Prelude.{ℕ, Bool}
use Rattle.meaning.specs.Bytes.{in_name, in_tag}
use Rattle.leaves.specs.declared.runs.NameClass.{NameClass}
use Rattle.leaves.specs.declared.runs.NameClass.TheVariants.{Charset, DollarTag}

abbrev pub in_class : NameClass → ℕ → Bool
in_class Charset = in_name
in_class DollarTag = in_tag
