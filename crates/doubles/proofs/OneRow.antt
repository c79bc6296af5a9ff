-- One row is taken: its bucket is there, what its head says is the newest row before it, and what is stored is what the row changes. Assumes nothing.
use Rattle.std.proofs.Common.{◌≡◌, sym, ap, ◌∙◌, List, ℕ, ◌+◌, ◌^◌, ◌<◌, ◌≤◌, arith, length, set, get_or, MatchOption, IfSome, Option, Some, None}
use native.Mathlib.Numerals.{add-one}
use Rattle.doubles.specs.Rows.{key_at, same_key, before_of}
use Rattle.doubles.specs.Finding.{bucket_of, bucket_at, head_of, older_of, Linked, Ready, Took}
use Rattle.doubles.proofs.Newest.{newest_le}
use Rattle.doubles.proofs.Sums.{bucket_lt}
use Rattle.doubles.proofs.Tables.{get_d_table}

-- a row that is found, and its number counted from 1
pub counted_fits : (r : Option ℕ) (b row : ℕ) → MatchOption r (b ≡ 0) (λ at. b ≡ at + 1) → b ≤ row → row < 2 ^ 64 → IfSome r (λ at. at + 1 < 2 ^ 64)
counted_fits None b row e h f = tt
counted_fits (Some at) b row e h f = omega (arith, e, h, f)

pub counted_same : (r : Option ℕ) (b n : ℕ) → MatchOption r (b ≡ 0) (λ at. b ≡ at + 1) → MatchOption r (n ≡ 0) (λ at. n ≡ at + 1) → n ≡ b
counted_same None b n e f = f ∙ sym e
counted_same (Some at) b n e f = f ∙ sym e

pub before_le : (store ends : List ℕ) (row : ℕ) → before_of store ends row ≤ row
unfolding before_of
before_le store ends row = newest_le (same_key store ends row) row

module _ {store ends heads older before : List ℕ} {row : ℕ} (r : Ready store ends heads older before row)
    (key : List ℕ) (b : ℕ) (ek : key ≡ key_at store ends row) (eb : b ≡ bucket_of (length heads) key) where
  its_bucket : b ≡ bucket_at store ends (length heads) row
  unfolding bucket_at
  its_bucket = eb ∙ ap (bucket_of (length heads)) ek

  pub taking_inside : b < length heads
  taking_inside = rw its_bucket (bucket_lt store ends (length heads) row r.bucket)

  its_head : get_or heads b 0 ≡ older_of store ends (length heads) row
  unfolding older_of
  its_head =
      ap (λ (l : List ℕ). get_or l b 0) r.firsts ∙ get_d_table (head_of store ends (length heads) row) (length heads) b taking_inside
      ∙ ap (head_of store ends (length heads) row) its_bucket

  pub taking_linked : Linked store ends older row (get_or heads b 0)
  taking_linked = record { buckets = length heads; room = r.link_room; first = its_head; links = r.links }

  pub taking_took : (n : ℕ) → n ≡ before_of store ends row
      → Took store ends heads older before row (set heads b (row + 1)) (set older row (get_or heads b 0)) (set before row n)
  taking_took n e = record {
    befores = ap (set before row) e;
    links = ap (set older row) its_head;
    firsts = rw (add-one row, its_bucket);
  }
