-- [01 Cutting, String reading; One segment] What a string's text means at a setting, segment by segment. A refusal keeps its place.
-- Assumes nothing.
use Rattle.std.specs.Prelude.{List, [], ◌++◌, ℕ, suc, ◌+◌}
use Rattle.meaning.specs.declared.Settings.{Settings}
use Rattle.meaning.specs.Bytes.{part, has, quote}
use Rattle.std.specs.Prelude.{if◌then◌else◌}
use Rattle.meaning.specs.Chars.{fresh}
use Rattle.meaning.specs.Walk.{Trace, ended, stopped, kept, gave, walk, size, stops, plain, value}
use Rattle.meaning.specs.Steps.{standard_step, escape_step, checked, unicode_step}
use Rattle.meaning.specs.Cutting.{cut, continues}
use Rattle.meaning.specs.Spelling.{Spelling, standard, escape, unicode, dollar, unspelt, spelling}

-- A part of the text; bytes of their own; a refusal, at a place of the text
pub data Answer : Type 0 where
  borrowed : ℕ → ℕ → Answer
  written : List ℕ → Answer
  refused : ℕ → Answer

-- the same, without the way
pub data Value : Type 0 where
  means : List ℕ → Value
  fails : ℕ → Value

abbrev pub value_of : List ℕ → Answer → Value
value_of t (borrowed f u) = means (part f u t)
value_of t (written v) = means v
value_of t (refused p) = fails p

-- what a body's course means: "Written exactly where .. the body holds its mark or an active escape"; each other byte stands for itself
unfoldable pub answer : ℕ → ℕ → Trace → Answer
answer f u r = if plain r then borrowed f u else if stops r then refused (f + size r) else written (value r)

abbrev pub read_as : Settings → List ℕ → Spelling → Answer
read_as σ t (standard q f u) = answer f u (walk (standard_step σ.backslash q) 0 (part f u t))
read_as σ t (escape f u) = answer f u (checked fresh (walk escape_step 0 (part f u t)))
read_as σ t (unicode e f u) = answer f u (walk (unicode_step e quote) 0 (part f u t))
read_as σ t (dollar f u) = borrowed f u
read_as σ t unspelt = refused 0

-- ONE SEGMENT, or a whole text read as one. "A raw NUL refuses"
unfoldable pub one : Settings → List ℕ → Answer
one σ t = if has 0 t then refused 0 else read_as σ t (spelling t)

-- JOINED TEXT. Each segment is read alone, the first refused one counts, and a remainder that is no segment refuses
abbrev pub onward : ℕ → Value → Value
onward n (means v) = means v
onward n (fails p) = fails (n + p)

abbrev pub both : Value → Value → Value
both (fails p) y = fails p
both (means v) (means w) = means (v ++ w)
both (means v) (fails p) = fails p

-- the segments of a cut, each read by itself, one value after the other. (A cut keeps no byte)
abbrev pub each : (List ℕ → Value) → Trace → Value
each f ended = means []
each f stopped = fails 0
each f (kept b r) = fails 0
each f (gave n s r) = both (f s) (onward (suc n) (each f r))

abbrev pub alone : Settings → List ℕ → Value
alone σ s = value_of s (one σ s)

abbrev pub joined : Settings → Trace → Value
joined σ r = each (alone σ) r

abbrev pub as_written : Value → Answer
as_written (means v) = written v
as_written (fails p) = refused p

-- "If what follows, past white space, begins with ' or \", cut to the end .. Otherwise the whole text is read as one."
unfoldable pub read : Settings → List ℕ → Answer
read σ t = if continues σ t then as_written (joined σ (cut σ t)) else one σ t

-- the value alone
abbrev pub meaning : Settings → List ℕ → Value
meaning σ t = value_of t (read σ t)
