-- Rows with keys, and which of them stood before. The keys stand one behind the other in a text, the store; `ends` tells of each row where its key ends
-- there. A key that does not fit the store is empty. Assumes nothing.
use Rattle.std.specs.Prelude.{Bool, List, [], ◌∷◌, ◌++◌, ℕ, zero, suc}
use Rattle.std.specs.Borrow.{Bor}
use Rattle.meaning.specs.Answers.{part_shown, part_place}
use Rattle.meaning.specs.Bytes.{◌!◌, same}
use Rattle.std.specs.Prelude.{if◌then◌else◌}

-- where the key of a row begins: where the row before it ends, the first at 0
abbrev pub start_of : List ℕ → ℕ → ℕ
start_of ends zero = 0
start_of ends (suc i) = ends ! i

-- the key of a row: from there to its own end, where both lie in the store
unfoldable pub key_at : List ℕ → List ℕ → ℕ → List ℕ
key_at store ends i = part_shown (start_of ends i) (ends ! i) store

-- and where it stands in the memory of the store
abbrev pub key_place : Bor (List ℕ) → List ℕ → ℕ → ℕ × ℕ
key_place store ends i = part_place (start_of ends i) (ends ! i) store

-- the newest of the rows before row n that pass a test, counted from 1; 0 if none does
abbrev pub newest : (ℕ → Bool) → ℕ → ℕ
newest p zero = 0
newest p (suc n) = if p n then suc n else newest p n

-- whether two rows have one key
abbrev pub same_key : List ℕ → List ℕ → ℕ → ℕ → Bool
same_key store ends i j = same (key_at store ends j) (key_at store ends i)

-- THE DOUBLES. The newest row before row i that has the key of row i, counted from 1; 0 if there is none
unfoldable pub before_of : List ℕ → List ℕ → ℕ → ℕ
before_of store ends i = newest (same_key store ends i) i

-- what a function gives for 0, 1, .. up to n - 1
abbrev pub table : (ℕ → ℕ) → ℕ → List ℕ
table f zero = []
table f (suc n) = table f n ++ (f n ∷ [])
