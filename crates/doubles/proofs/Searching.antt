-- A bucket searched from its newest row on, by its links. Assumes nothing.
use mathlib.Core.Path.{◌≡◌, refl, sym, ap, ◌∙◌}
use mathlib.Core.Bool.{Bool, true, false, false≢true}
use mathlib.Core.List.{List}
use Prim.Native.Nat.{ℕ, suc, ◌+◌, ◌≤◌, ◌<◌}
use native.Mathlib.Numerals.{add-one}
use native.Mathlib.Omega.{arith}
use borrow.Author.Tests.{eqb-true, eq-eqb}
use lib.ListN.{length, get_or}
use lib.Seq.{get_or-take}
use Rattle.doubles.specs.Rows.{key_at, newest, same_key, before_of}
use Rattle.doubles.specs.Finding.{bucket_of, bucket_at, in_bucket, head_of, older_of, Linked}
use Rattle.doubles.proofs.Newest.{newest_here, newest_past, newest_le, newest_pass, newest_skip}
use Rattle.doubles.proofs.Keys.{same_of, same_true, same_not}
use Rattle.doubles.proofs.Tables.{get_d_table}

-- ONE BUCKET holds all rows that have one key
module _ (store ends : List ℕ) (k i : ℕ) where
  in_one : ℕ → Bool
  in_one = in_bucket store ends k (bucket_at store ends k i)

  one_key : (j : ℕ) → same_key store ends i j ≡ true → in_one j ≡ true
  unfolding in_one bucket_at
  one_key j e = eq-eqb (bucket_at store ends k j) (bucket_at store ends k i) (ap (bucket_of k) (same_true (key_at store ends j) (key_at store ends i) e))

  -- from the newest row of the bucket on
  in_bucket_lem : (n : ℕ) → newest (same_key store ends i) n ≡ newest (same_key store ends i) (newest in_one n)
  in_bucket_lem = newest_skip in_one (same_key store ends i) one_key

  -- the links of a row of the bucket
  older_in : (m : ℕ) → bucket_at store ends k m ≡ bucket_at store ends k i → older_of store ends k m ≡ newest in_one m
  unfolding older_of head_of in_one
  older_in m e = ap (λ (b : ℕ). newest (in_bucket store ends k b) m) e

  newest_in : (n m : ℕ) → newest in_one n ≡ suc m → bucket_at store ends k m ≡ bucket_at store ends k i
  unfolding in_one
  newest_in n m e = eqb-true (bucket_at store ends k m) (bucket_at store ends k i) (newest_pass in_one n m e)

-- THE SEARCH: `at` rows are left; the last of them is in the bucket
pub record Searching (store ends older : List ℕ) (row first at : ℕ) : Type 0 where
  pub linked : Linked store ends older row first
  pub inside : at ≤ row
  pub left : before_of store ends row ≡ newest (same_key store ends row) at
  pub chained : (m : ℕ) → at ≡ suc m → bucket_at store ends linked.buckets m ≡ bucket_at store ends linked.buckets row

module _ {store ends older : List ℕ} {row first : ℕ} (l : Linked store ends older row first) where
  -- all rows before n are left, and the search goes on at the newest of the bucket among them
  on_from : (n at : ℕ) → n ≤ row → before_of store ends row ≡ newest (same_key store ends row) n → at ≡ newest (in_one store ends l.buckets row) n
      → Searching store ends older row first at
  on_from n at h e z = record {
    linked = l;
    inside = omega (arith, newest_le (in_one store ends l.buckets row) n);
    left = e ∙ in_bucket_lem store ends l.buckets row n ∙ ap (newest (same_key store ends row)) (sym z);
    chained = λ m q. newest_in store ends l.buckets row n m (sym z ∙ q);
  }

  pub searching_first : Searching store ends older row first first
  unfolding before_of
  searching_first = on_from row first (omega arith) refl (l.first ∙ older_in store ends l.buckets row row refl)

module _ {store ends older : List ℕ} {row first at : ℕ} (s : Searching store ends older row first at) where
  -- row m is the last that is left
  module _ (m : ℕ) (last : at ≡ suc m) where
    inside : m < row
    inside = omega (arith, s.inside)

    link : get_or older m 0 ≡ newest (in_one store ends s.linked.buckets row) m
    link =
        sym (get_or-take row older m 0 inside) ∙ ap (λ (l : List ℕ). get_or l m 0) s.linked.links
        ∙ get_d_table (older_of store ends s.linked.buckets) row m inside ∙ older_in store ends s.linked.buckets row m (s.chained m last)

    pub searching_less : get_or older m 0 < at
    searching_less = omega (arith, link, newest_le (in_one store ends s.linked.buckets row) m)

    -- its key compared with the key of the row
    module _ (a b : List ℕ) (x : Bool) (ea : a ≡ key_at store ends m) (eb : b ≡ key_at store ends row)
        (ex : (x ≡ true → a ≡ b) × (a ≡ b → x ≡ true)) where
      pub searching_found : x ≡ true → before_of store ends row ≡ m + 1
      searching_found e =
          let q : same_key store ends row m ≡ true = same_of (key_at store ends m) (key_at store ends row) (sym ea ∙ ex.0 e ∙ eb) in
          s.left ∙ ap (newest (same_key store ends row)) last ∙ newest_here (same_key store ends row) m q ∙ sym (add-one m)

      pub searching_turn : x ≡ false → Searching store ends older row first (get_or older m 0)
      searching_turn e =
          let q : same_key store ends row m ≡ false = same_not (key_at store ends m) (key_at store ends row)
          (λ w. false≢true (sym e ∙ ex.1 (ea ∙ w ∙ sym eb))) in
          on_from s.linked m (get_or older m 0) (omega (arith, inside))
          (s.left ∙ ap (newest (same_key store ends row)) last ∙ newest_past (same_key store ends row) m q) link
