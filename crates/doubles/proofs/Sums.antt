-- The sum over a key, byte by byte, and its bucket. Assumes nothing.
use mathlib.Core.Path.{◌≡◌, refl, sym, ap, ◌∙◌}
use mathlib.Core.List.{List}
use Prim.Native.Nat.{ℕ, ◌+◌, ◌*◌, ◌%◌, ◌≤◌, ◌<◌}
use native.Mathlib.Nat.{mod-lt}
use native.Mathlib.Numerals.{add-one}
use native.Mathlib.Omega.{arith}
use lib.ListN.{length, drop, get_or, drop_of_length-le}
use lib.Seq.{drop-cons}
use Rattle.doubles.specs.Finding.{sum_from, bucket_of, bucket_at}

-- the first i bytes are summed
pub record Summing (key : List ℕ) (sum i : ℕ) : Type 0 where
  pub inside : i ≤ length key
  pub small : sum < 65521
  pub rest : sum_from 0 key ≡ sum_from sum (drop i key)

pub summing_none : (key : List ℕ) → Summing key 0 0
summing_none key = record { inside = omega arith; small = omega arith; rest = refl }

module _ {key : List ℕ} {sum i : ℕ} (s : Summing key sum i) where
  pub summing_turn : i < length key → Summing key ((sum * 257 + get_or key i 0) % 65521) (i + 1)
  summing_turn h = record {
    inside = omega arith;
    small = mod-lt (sum * 257 + get_or key i 0) (omega arith);
    rest = s.rest ∙ ap (sum_from sum) (drop-cons key i 0 h) ∙ rw (add-one i);
  }

  pub summing_end : length key ≤ i → (k : ℕ) → sum % k ≡ bucket_of k key
  unfolding bucket_of
  summing_end h k = ap (◌% k) (sym (s.rest ∙ ap (sum_from sum) (drop_of_length-le key h)))

-- a bucket is one of those that are there
pub bucket_lt : (store ends : List ℕ) (k i : ℕ) → 0 < k → bucket_at store ends k i < k
unfolding bucket_at bucket_of
bucket_lt store ends k i h = mod-lt _ h
