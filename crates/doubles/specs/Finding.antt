-- How doubles are found: rows are put into buckets by a sum over their keys, and each row is linked to the newest row before it in its bucket. Assumes nothing.
use Rattle.std.specs.Prelude.{Bool, ◌&&◌, ◌≡◌, List, [], ◌∷◌, ◌++◌, ℕ, suc, ◌+◌, ◌*◌, ◌%◌, ◌<◌, eqb, leb, ltb, length, take, drop, set}
use Rattle.std.specs.Prelude.{if◌then◌else◌}
use Rattle.doubles.specs.Rows.{key_at, newest, before_of, table}

-- the sum over a key, from a sum so far
abbrev pub sum_from : ℕ → List ℕ → ℕ
sum_from s [] = s
sum_from s (b ∷ t) = sum_from ((s * 257 + b) % 65521) t

-- the bucket of a key, of k buckets
unfoldable pub bucket_of : ℕ → List ℕ → ℕ
bucket_of k key = sum_from 0 key % k

-- the bucket of a row: its key's
unfoldable pub bucket_at : List ℕ → List ℕ → ℕ → ℕ → ℕ
bucket_at store ends k i = bucket_of k (key_at store ends i)

-- whether a row is in a bucket
abbrev pub in_bucket : List ℕ → List ℕ → ℕ → ℕ → ℕ → Bool
in_bucket store ends k bucket i = eqb (bucket_at store ends k i) bucket

-- the newest of the first n rows that are in a bucket; the newest row before row i that is in its bucket. Both are counted from 1, and 0 if there is none
unfoldable pub head_of : List ℕ → List ℕ → ℕ → ℕ → ℕ → ℕ
head_of store ends k n bucket = newest (in_bucket store ends k bucket) n

unfoldable pub older_of : List ℕ → List ℕ → ℕ → ℕ → ℕ
older_of store ends k i = head_of store ends k i (bucket_at store ends k i)

-- there is a bucket, and room for each row
unfoldable pub fits : List ℕ → List ℕ → List ℕ → List ℕ → Bool
fits ends heads older before = ltb 0 (length heads) && leb (length ends) (length older) && leb (length ends) (length before)

-- the answer, and every number of the three lent slices; where they do not fit, nothing is written
pub record Finds (store ends heads older before : List ℕ) (r : Bool) (heads' older' before' : List ℕ) : Type 0 where
  pub answer : r ≡ fits ends heads older before
  pub befores : before' ≡ (if fits ends heads older before then table (before_of store ends) (length ends) ++ drop (length ends) before else before)
  pub links : older' ≡ (if fits ends heads older before then table (older_of store ends (length heads)) (length ends) ++ drop (length ends) older else older)
  pub firsts : heads' ≡ (if fits ends heads older before then table (head_of store ends (length heads) (length ends)) (length heads) else heads)

-- what a row needs before it is taken: there is room for it, and heads and links are those of the rows before it
pub record Ready (store ends heads older before : List ℕ) (row : ℕ) : Type 0 where
  pub bucket : 0 < length heads
  pub room : row < length before
  pub link_room : row < length older
  pub links : take row older ≡ table (older_of store ends (length heads)) row
  pub firsts : heads ≡ table (head_of store ends (length heads) row) (length heads)

-- what one row changes
pub record Took (store ends heads older before : List ℕ) (row : ℕ) (heads' older' before' : List ℕ) : Type 0 where
  pub befores : before' ≡ set before row (before_of store ends row)
  pub links : older' ≡ set older row (older_of store ends (length heads) row)
  pub firsts : heads' ≡ set heads (bucket_at store ends (length heads) row) (suc row)

-- a row's bucket, of some number of buckets, is searched from its newest row on, by the links of the rows before it
pub record Linked (store ends older : List ℕ) (row first' : ℕ) : Type 0 where
  pub buckets : ℕ
  pub room : row < length older
  pub first : first' ≡ older_of store ends buckets row
  pub links : take row older ≡ table (older_of store ends buckets) row
