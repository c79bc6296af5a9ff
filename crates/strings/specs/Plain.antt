-- A string in ' that is read as its own body: no mark, no NUL and no active backslash in it. Assumes nothing.
use Rattle.std.specs.Prelude.{Bool, ◌&&◌, List, ℕ, ◌-◌, length}
use Rattle.meaning.specs.declared.Settings.{Settings}
use Rattle.meaning.specs.Bytes.{part, quote, backslash}
use Rattle.std.specs.Prelude.{if◌then◌else◌}
use Rattle.meaning.specs.Spelling.{encloses}
use Rattle.leaves.specs.declared.blocks.Stops.{Stops}
use Rattle.leaves.specs.Blocks.{free_of, passes}
use Rattle.utf8.specs.Plain.{plain_of}

abbrev pub setting_stops : Settings → Stops
setting_stops σ = record { first = quote; second = if σ.backslash then backslash else quote; third = 0 }

abbrev pub free_body : Settings → List ℕ → Bool
free_body σ v = passes (free_of (setting_stops σ)) (length v) v

unfoldable pub is_plain : Settings → List ℕ → Bool
is_plain σ t = encloses 0 quote t && free_body σ (part 1 (length t - 1) t)

-- the same in ASCII
abbrev pub plain_body : Settings → List ℕ → Bool
plain_body σ v = passes (plain_of quote (setting_stops σ).second) (length v) v

unfoldable pub is_plain_ascii : Settings → List ℕ → Bool
is_plain_ascii σ t = encloses 0 quote t && plain_body σ (part 1 (length t - 1) t)
