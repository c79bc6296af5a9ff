-- One item: what is told of a reading, and the numbers of an item and of its answer in a run of numbers. Assumes nothing.
use Rattle.std.specs.Prelude.{Bool, ◌||◌, not, ◌≡◌, List, ◌∷◌, ℕ, ◌+◌, ◌-◌, ◌%◌, ◌≤◌, eqb, ltb, drop, Result, Ok, Err}
use Rattle.meaning.specs.declared.Item.{Item}
use Rattle.meaning.specs.declared.Four.{Four}
use Rattle.meaning.specs.declared.ReadText.{ReadText}
use Rattle.meaning.specs.declared.ReadRefusal.{ReadRefusal}
use Rattle.meaning.specs.declared.ReadText.TheVariants.{Borrowed, Written}
use Rattle.meaning.specs.declared.ReadRefusal.TheVariants.{At, NoRoom}
use Rattle.meaning.specs.Bytes.{◌!◌}
use Rattle.meaning.specs.Blocks.{Asked, four}
use Rattle.blocks.specs.declared.items.Told.{Told}

abbrev pub told_of : ℕ → ℕ → ℕ → ℕ → ℕ → Told
told_of number how start len took = record { four = four number how start len; took = took }

-- a reading of the text at place s, into the buffer behind `used` bytes
abbrev pub read_told : ℕ → ℕ → Result ReadText ReadRefusal → Told
read_told s used (Ok (Borrowed f u)) = told_of 0 1 (s + f) (u - f) 0
read_told s used (Ok (Written n)) = told_of 0 2 used n n
read_told s used (Err (At p)) = told_of 6 0 p 0 0
read_told s used (Err (NoRoom n)) = told_of 9 0 0 n 0

-- its numbers have 32 bits
abbrev pub InBlockBy : ℕ → ℕ → Result ReadText ReadRefusal → Type 0
InBlockBy s used (Ok (Borrowed f u)) = (f ≤ u) × (s + u ≤ 4294967295)
InBlockBy s used (Ok (Written n)) = used + n ≤ 4294967295
InBlockBy s used (Err (At p)) = s + p ≤ 4294967295
InBlockBy s used (Err (NoRoom n)) = n ≤ 4294967295

pub record InBlock (s used : ℕ) (q : Result ReadText ReadRefusal) : Type 0 where
  pub by : InBlockBy s used q

-- what the contract of an item says: what is told, what is taken, and every byte of the room
pub record Asks (a : Asked) (r : Told) (after : List ℕ) : Type 0 where
  pub told : r.four ≡ a.told
  pub took : r.took ≡ a.took
  pub room : after ≡ a.room

-- IN A RUN of numbers, of which there are four or more
abbrev pub item_at : List ℕ → Item
item_at ns = record { kind = ns ! 0; setting = ns ! 1; start = ns ! 2; end = ns ! 3 }

abbrev pub laid : Four → List ℕ → List ℕ
laid f ns = f.number ∷ (f.how ∷ (f.start ∷ (f.len ∷ drop 4 ns)))

-- the test of a block, by the lengths of its slices
abbrev pub bad_lengths : ℕ → ℕ → ℕ → Bool
bad_lengths items answers out = not (eqb (items % 4) 0) || ltb answers items || ltb 4294967295 out
