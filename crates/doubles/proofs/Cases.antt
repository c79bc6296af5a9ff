-- The definition at worked inputs, and wrong results that the contract shuts out. Assumes nothing.
use mathlib.Core.Path.{◌≡◌, refl, sym, ap, ◌∙◌}
use mathlib.Core.Bool.{Bool, true, false, false≢true}
use mathlib.Core.List.{List, [], ◌∷◌}
use Prim.Native.Nat.{ℕ}
use native.Mathlib.Omega.{arith}
use lib.ListN.{get_or}
use Rattle.meaning.specs.Answers.{part_shown}
use Rattle.meaning.specs.Bytes.{ascii}
use Rattle.doubles.specs.Rows.{key_at, before_of, table}
use Rattle.doubles.specs.Finding.{bucket_of, bucket_at, head_of, older_of, fits, Finds}

-- keys a, b, a, ab, the empty key, a
abbrev store : List ℕ
store = ascii "abaaba"

abbrev ends : List ℕ
ends = 1 ∷ 2 ∷ 3 ∷ 5 ∷ 5 ∷ 6 ∷ []

pub befores_computed : table (before_of store ends) 6 ≡ 0 ∷ 0 ∷ 1 ∷ 0 ∷ 0 ∷ 3 ∷ []
unfolding before_of key_at part_shown
befores_computed = refl

-- keys of the store ab that do not fit it, past its end and from behind their end, are empty: a, none, none, ab
pub unfit_computed : table (before_of (ascii "ab") (1 ∷ 9 ∷ 0 ∷ 2 ∷ [])) 4 ≡ 0 ∷ 0 ∷ 2 ∷ 0 ∷ []
unfolding before_of key_at part_shown
unfit_computed = refl

-- the sums of a, b, ab and of no byte: of two buckets, a and ab have one and b and the empty key the other; of one bucket, all have it
pub links_of_two : table (older_of store ends 2) 6 ≡ 0 ∷ 0 ∷ 1 ∷ 3 ∷ 2 ∷ 4 ∷ []
unfolding older_of head_of bucket_at bucket_of key_at part_shown
links_of_two = refl

pub links_of_one : table (older_of store ends 1) 6 ≡ 0 ∷ 1 ∷ 2 ∷ 3 ∷ 4 ∷ 5 ∷ []
unfolding older_of head_of bucket_at bucket_of key_at part_shown
links_of_one = refl

-- WRONG RESULTS, with room lent: one head, and a place more than there are rows
abbrev lent : List ℕ
lent = 9 ∷ 9 ∷ 9 ∷ 9 ∷ 9 ∷ 9 ∷ 9 ∷ []

module _ (r : Bool) (h o b : List ℕ) (f : Finds store ends (9 ∷ []) lent lent r h o b) where
  answered : r ≡ true
  unfolding fits
  answered = f.answer

  written : b ≡ 0 ∷ 0 ∷ 1 ∷ 0 ∷ 0 ∷ 3 ∷ 9 ∷ []
  unfolding fits before_of key_at part_shown
  written = f.befores

  at : (i : ℕ) → get_or b i 0 ≡ get_or (0 ∷ 0 ∷ 1 ∷ 0 ∷ 0 ∷ 3 ∷ 9 ∷ []) i 0
  at i = ap (λ (l : List ℕ). get_or l i 0) written

  pub no_refuse_all : r ≡ false → ⊥
  no_refuse_all e = false≢true (sym e ∙ answered)

  pub no_writes_nothing : b ≡ lent → ⊥
  no_writes_nothing e = let z : 9 ≡ get_or b 0 0 = ap (λ (l : List ℕ). get_or l 0 0) (sym e) in omega (arith, at 0)

  -- every row new; the oldest row for the newest; keys of one length, or of one bucket, taken for one; the place behind the rows written to
  pub no_all_new : get_or b 2 0 ≡ 0 → ⊥
  no_all_new e = omega (arith, at 2)

  pub no_oldest : get_or b 5 0 ≡ 1 → ⊥
  no_oldest e = omega (arith, at 5)

  pub no_by_length : get_or b 1 0 ≡ 1 → ⊥
  no_by_length e = omega (arith, at 1)

  pub no_by_bucket : get_or b 3 0 ≡ 3 → ⊥
  no_by_bucket e = omega (arith, at 3)

  pub no_place_behind : get_or b 6 0 ≡ 0 → ⊥
  no_place_behind e = omega (arith, at 6)
