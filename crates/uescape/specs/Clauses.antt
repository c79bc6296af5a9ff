-- What the code's UESCAPE arguments and clauses mean. Assumes nothing.
use Rattle.std.specs.Prelude.{Bool, List, [], ◌∷◌, map, ℕ, suc, ◌+◌, ◌-◌, length, take, drop, Option, Some, None, Result, Ok, Err}
use Rattle.std.specs.List.{list_all}
use Rattle.meaning.specs.Bytes.{ascii, same, within}
use Rattle.std.specs.Prelude.{if◌then◌else◌}
use Rattle.meaning.specs.Steps.{gap, trim}
use Rattle.meaning.specs.Spelling.{upper, argument}
use Rattle.uescape.specs.declared.Argument.{Argument}
use Rattle.uescape.specs.declared.Argument.TheVariants.{Legal, Illegal}
use Rattle.uescape.specs.declared.EscapeCharacter.{EscapeCharacter}
use Rattle.uescape.specs.declared.BadClause.{BadClause}

-- each byte is a later one of a character
abbrev pub all_later : List ℕ → Bool
all_later t = list_all (within 0x80 0xBF) t

unfoldable pub is_keyword : List ℕ → Bool
is_keyword t = same (map upper (take 7 t)) (ascii "UESCAPE")

-- a legal argument's character is all that stands between its marks
abbrev pub legal_by : List ℕ → Argument
legal_by [] = Illegal
legal_by (b ∷ e) = Legal

unfoldable pub argument_of : List ℕ → Argument
argument_of a = legal_by (argument a)

abbrev pub bad : BadClause
bad = record {}

-- what follows the place i of t, past white space: nothing, or a clause whose character lies between two places of t, or something else
abbrev pub chosen_at : List ℕ → ℕ → Argument → Result (Option EscapeCharacter) BadClause
chosen_at t i Legal = Ok (Some (record { start = suc i; end = length t - 1 }))
chosen_at t i Illegal = Err bad

abbrev pub clause_at : List ℕ → ℕ → List ℕ → Result (Option EscapeCharacter) BadClause
clause_at t i [] = Ok None
clause_at t i (b ∷ u) = if is_keyword (b ∷ u) then chosen_at t (i + 7 + gap (drop 7 (b ∷ u))) (argument_of (trim (drop 7 (b ∷ u)))) else Err bad

unfoldable pub clause_of : List ℕ → ℕ → Result (Option EscapeCharacter) BadClause
clause_of t i = clause_at t (i + gap (drop i t)) (trim (drop i t))
