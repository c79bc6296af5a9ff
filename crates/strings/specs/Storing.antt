-- What is stored of a value while it is read: its first bytes in what is lent of a buffer, as far as they fit, the others in a chunk. Assumes nothing.
use Rattle.std.specs.Prelude.{◌≡◌, true, List, ◌++◌, ℕ, ◌+◌, ◌≤◌, ◌<◌, length, take, drop}
use Rattle.laws.proofs.walking.Fronts.{Front}
use Rattle.laws.proofs.utf8.Abreast.{Abreast}
use Rattle.laws.proofs.cutting.Fronted.{Lone}
use Rattle.escapes.specs.declared.units.Family.{Family}
use Rattle.escapes.specs.Families.{checks}
use Rattle.strings.specs.declared.chunks.End.TheVariants.{More, Closed}
use Rattle.strings.specs.declared.storing.Store.{Store}
use Rattle.strings.specs.declared.storing.Body.{Body}
use Rattle.strings.specs.Quick.{step_by, mark_by}

-- the value w so far: `total` bytes in the buffer, which held d, and n in the chunk
pub record Stored (d w chunk out : List ℕ) (total n : ℕ) : Type 0 where
  pub count : length w ≡ total + n
  pub held : drop total w ≡ take n chunk
  pub laid : total ≤ length d → out ≡ take total w ++ drop total d
  pub same : length out ≡ length d

pub record Behind (bytes : List ℕ) (total : ℕ) (out after : List ℕ) : Type 0 where
  pub same : length after ≡ length out
  pub laid : total + length bytes ≤ length out → after ≡ take total out ++ (bytes ++ drop (total + length bytes) out)

pub record Empties (s : Store) (chunk out : List ℕ) (r : Store) (after : List ℕ) : Type 0 where
  pub sum : r.total + r.n ≡ s.total + s.n
  pub small : r.n ≤ 208
  pub same : length after ≡ length out
  pub stores : (d w : List ℕ) → Stored d w chunk out s.total s.n → Stored d w chunk after r.total r.n

-- how far a body is read, from what was stored before it: its value so far is v
pub record Reading (f : Family) (text : List ℕ) (s : Store) (chunk₀ out₀ : List ℕ) (b : Body) (chunk out : List ℕ) : Type 0 where
  pub v : List ℕ
  pub front : Front (step_by f) text b.at v b.plain
  pub abreast : checks f ≡ true → Abreast (take b.at text) v
  pub stores : (d w : List ℕ) → Stored d w chunk₀ out₀ s.total s.n → Stored d (w ++ v) chunk out b.total b.n
  pub sum : b.total + b.n ≤ s.total + s.n + b.at
  pub inside : b.at ≤ length text
  pub few : b.n ≤ 240
  pub chunk_same : length chunk ≡ length chunk₀
  pub out_same : length out ≡ length out₀

pub record Fills (f : Family) (text : List ℕ) (b : Body) (chunk out : List ℕ) (r : Body) (chunk' out' : List ℕ) : Type 0 where
  pub onward : (s : Store) (c o : List ℕ) → Reading f text s c o b chunk out → Reading f text s c o r chunk' out'
  pub closed : r.end ≡ Closed → Lone text r.at (mark_by f)
  pub goes : r.end ≡ More → b.at < r.at

pub record ReadsBody (f : Family) (text : List ℕ) (s : Store) (chunk out : List ℕ) (r : Body) (chunk' out' : List ℕ) : Type 0 where
  pub reading : Reading f text s chunk out r chunk' out'
  pub closed : r.end ≡ Closed → Lone text r.at (mark_by f)
