-- What the words behind a program's name ask for, and by which statuses a program may end then. Assumes nothing.
use Rattle.std.specs.Prelude.{◌≡◌, List, [], ◌∷◌, ◌++◌, ℕ, ◌≤◌, eqb, length}
use Rattle.meaning.specs.Bytes.{ascii, starts}
use Rattle.std.specs.Prelude.{if◌then◌else◌}
use Rattle.words.specs.declared.Asked.{Asked}
use Rattle.words.specs.declared.Asked.TheVariants.{Work, Help, Other}

-- none, or --help and its 0 byte, or others
unfoldable pub asked_of : List ℕ → Asked
asked_of words =
    if eqb (length words) 0 then Work else
    if eqb (length words) 7 then if starts (ascii "--help" ++ (0 ∷ [])) words then Help else Other else Other

-- no status of the work is above the highest; help may fail to be written; what is not understood ends with 2
abbrev pub Ends : ℕ → Asked → ℕ → Type 0
Ends most Work r = r ≤ most
Ends most Help r = r ≤ 2
Ends most Other r = r ≡ 2
