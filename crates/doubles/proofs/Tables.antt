-- Tables of a function's values: read, extended and changed at a place. Assumes nothing.
use mathlib.Core.Path.{◌≡◌, refl, sym, ◌∙◌}
use mathlib.Core.List.{List, [], ◌∷◌, ◌++◌}
use mathlib.Core.Bool.{Bool, true, false}
use Prim.Native.Nat.{ℕ, zero, suc, ◌<◌}
use native.Mathlib.Omega.{arith}
use borrow.Author.Tests.{eqb-true, eqb-false}
use lib.Dec.{eqb}
use lib.ListN.{length, drop, set, get_or, replicate, length-append, length-set, length-replicate, get_or-replicate, get_or-append}
use lib.Seq.{drop-cons, set_at, append_snoc, ext_get_or, get_or_at, get_or-set_same, get_or-set_other}
use mathlib.Core.Logic.{⊎_elim}
use native.Mathlib.Nat.{eq-or-lt_of_le, le_of_suc-le-suc}
use Rattle.doubles.specs.Rows.{table}

module _ (f : ℕ → ℕ) where
  pub length_table : (n : ℕ) → length (table f n) ≡ n
  length_table zero = refl
  length_table (suc n) = length-append (table f n) (f n ∷ []) ∙ rw (length_table n) (omega arith)

  pub get_d_table : (n i : ℕ) → i < n → get_or (table f n) i 0 ≡ f i
  get_d_table zero i h = absurd (omega arith)
  get_d_table (suc n) i h =
      ⊎_elim
      (λ e. rw e (get_or_at (table f n) (f n) [] 0 n (length_table n)))
      (λ b. get_or-append (table f n) (f n ∷ []) 0 i (omega (arith, length_table n)) ∙ get_d_table n i b)
      (eq-or-lt_of_le (le_of_suc-le-suc h))

  -- what stands behind a table does not matter within it
  pub get_d_table_append : (n : ℕ) (l : List ℕ) (i : ℕ) → i < n → get_or (table f n ++ l) i 0 ≡ f i
  get_d_table_append n l i h = get_or-append (table f n) l 0 i (omega (arith, length_table n)) ∙ get_d_table n i h

  -- one more value is stored behind a table
  pub set_table_next : (n : ℕ) (l : List ℕ) → n < length l → set (table f n ++ drop n l) n (f n) ≡ table f (suc n) ++ drop (suc n) l
  set_table_next n l h =
      rw (drop-cons l n 0 h) (set_at (table f n) (get_or l n 0) (drop (suc n) l) (f n) n (length_table n))
      ∙ sym (append_snoc (table f n) (f n) (drop (suc n) l))

  -- a value that is everywhere
  pub replicate_table : (n v : ℕ) → ((i : ℕ) → f i ≡ v) → replicate n v ≡ table f n
  replicate_table n v e =
      ext_get_or 0 (replicate n v) (table f n) (length-replicate n v ∙ sym (length_table n))
      (λ i h. let k : i < n = omega (arith, length-replicate n v) in get_or-replicate n i v 0 k ∙ sym (e i) ∙ sym (get_d_table n i k))

-- the table of a function that differs from f at b alone
pub set_table : (f g : ℕ → ℕ) (n b v : ℕ) → g b ≡ v → ((i : ℕ) → (i ≡ b → ⊥) → g i ≡ f i) → set (table f n) b v ≡ table g n
set_table f g n b v here other =
    ext_get_or 0 (set (table f n) b v) (table g n) (length-set (table f n) b v ∙ length_table f n ∙ sym (length_table g n))
    (λ i h. go i (omega (arith, length-set (table f n) b v, length_table f n)) (eqb i b) refl)
  where
    go : (i : ℕ) → i < n → (x : Bool) → eqb i b ≡ x → get_or (set (table f n) b v) i 0 ≡ get_or (table g n) i 0
    go i h true e =
        let z = eqb-true i b e in
        rw (get_d_table g n i h, z) (get_or-set_same (table f n) b v 0 (omega (arith, length_table f n)) ∙ sym here)
    go i h false e = get_or-set_other (table f n) b i v 0 (eqb-false i b e) ∙ get_d_table f n i h ∙ sym (other i (eqb-false i b e)) ∙ sym (get_d_table g n i h)
