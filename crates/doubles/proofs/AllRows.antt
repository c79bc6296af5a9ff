-- Row after row is taken: where the loop stands, a turn, and the end; and what does not fit. Assumes nothing.
use mathlib.Core.Path.{◌≡◌, refl, sym, ap, ◌∙◌}
use mathlib.Core.Bool.{true, false, ◌&&◌, and-false}
use mathlib.Core.List.{List, ◌++◌}
use Prim.Native.Nat.{ℕ, suc, ◌+◌, ◌≤◌, ◌<◌}
use native.Mathlib.Numerals.{add-one}
use native.Mathlib.Omega.{arith}
use borrow.Author.Tests.{lt-ltb, le-ltb, le-leb, lt-leb, ne_eqb}
use lib.Dec.{leb, ltb}
use lib.ListN.{length, take, drop, set, replicate, length-append, length-drop, length-replicate}
use lib.Seq.{take_at}
use Rattle.doubles.specs.Rows.{before_of, table}
use Rattle.doubles.specs.Finding.{bucket_at, in_bucket, head_of, older_of, fits, Finds, Ready, Took}
use Rattle.doubles.proofs.Newest.{newest_here, newest_past}
use Rattle.doubles.proofs.Tables.{length_table, set_table_next, replicate_table, set_table}
use Rattle.laws.proofs.basics.Tests.{eqb_same}

-- a row is the newest of its bucket, and of no other
head_own : (store ends : List ℕ) (k row : ℕ) → head_of store ends k (suc row) (bucket_at store ends k row) ≡ suc row
unfolding head_of
head_own store ends k row =
    newest_here (in_bucket store ends k (bucket_at store ends k row)) row (eqb_same (bucket_at store ends k row))

head_other : (store ends : List ℕ) (k row b : ℕ) → (b ≡ bucket_at store ends k row → ⊥) → head_of store ends k (suc row) b ≡ head_of store ends k row b
unfolding head_of
head_other store ends k row b f = newest_past (in_bucket store ends k b) row (ne_eqb (bucket_at store ends k row) b (λ e. f (sym e)))

heads_next : (store ends : List ℕ) (k row : ℕ)
    → set (table (head_of store ends k row) k) (bucket_at store ends k row) (suc row) ≡ table (head_of store ends k (suc row)) k
heads_next store ends k row =
    set_table (head_of store ends k row) (head_of store ends k (suc row)) k (bucket_at store ends k row) (suc row) (head_own store ends k row)
    (head_other store ends k row)

heads_none : (store ends : List ℕ) (k : ℕ) → replicate k 0 ≡ table (head_of store ends k 0) k
unfolding head_of
heads_none store ends k = replicate_table (head_of store ends k 0) k 0 (λ b. refl)

-- a table in front of what was lent is as long as what was lent
length_put : (f : ℕ → ℕ) (n : ℕ) (l : List ℕ) → n ≤ length l → length (table f n ++ drop n l) ≡ length l
length_put f n l h = length-append (table f n) (drop n l) ∙ omega (arith, length_table f n, length-drop n l)

-- THE LOOP: the first rows are taken, of k buckets and with the links and the answers that were lent
pub record Taken (store ends : List ℕ) (k : ℕ) (older₀ before₀ heads older before : List ℕ) (row : ℕ) : Type 0 where
  pub inside : row ≤ length ends
  pub bucket : 0 < k
  pub link_room : length ends ≤ length older₀
  pub room : length ends ≤ length before₀
  pub befores : before ≡ table (before_of store ends) row ++ drop row before₀
  pub links : older ≡ table (older_of store ends k) row ++ drop row older₀
  pub firsts : heads ≡ table (head_of store ends k row) k

-- all heads are cleared
length_cleared : (heads cleared : List ℕ) → cleared ≡ replicate (length heads) 0 → length cleared ≡ length heads
length_cleared heads cleared e = ap length e ∙ length-replicate (length heads) 0

pub taken_none : (store ends heads older before cleared : List ℕ) → cleared ≡ replicate (length heads) 0
    → (length heads ≡ 0 → ⊥) → length ends ≤ length older → length ends ≤ length before
    → Taken store ends (length cleared) older before cleared older before 0
taken_none store ends heads older before cleared e h i j =
    let k = length_cleared heads cleared e in
    record {
      inside = omega arith;
      bucket = omega arith;
      link_room = i;
      room = j;
      befores = refl;
      links = refl;
      firsts = e ∙ ap (λ (n : ℕ). replicate n 0) (sym k) ∙ heads_none store ends (length cleared);
    }

module _ {store ends : List ℕ} {k : ℕ} {older₀ before₀ heads older before : List ℕ} {row : ℕ}
    (t : Taken store ends k older₀ before₀ heads older before row) where
  pub same_heads : length heads ≡ k
  same_heads = ap length t.firsts ∙ length_table (head_of store ends k row) k

  pub taken_turn : row < length ends → {heads' older' before' : List ℕ} → Took store ends heads older before row heads' older' before'
      → Taken store ends k older₀ before₀ heads' older' before' (row + 1)
  taken_turn h w = record {
    inside = omega arith;
    bucket = t.bucket;
    link_room = t.link_room;
    room = t.room;
    befores = rw (add-one row, w.befores, t.befores) (set_table_next (before_of store ends) row before₀ (omega (arith, t.room)));
    links = rw (add-one row, w.links, same_heads, t.links) (set_table_next (older_of store ends k) row older₀ (omega (arith, t.link_room)));
    firsts = rw (add-one row, w.firsts, same_heads, t.firsts) (heads_next store ends k row);
  }

-- WHAT FITS
module _ (ends heads older before : List ℕ) where
  pub fits_all : 0 < length heads → length ends ≤ length older → length ends ≤ length before → fits ends heads older before ≡ true
  unfolding fits
  fits_all h i j = rw (lt-ltb 0 (length heads) h, le-leb (length ends) (length older) i, le-leb (length ends) (length before) j)

  no_head : length heads ≡ 0 → fits ends heads older before ≡ false
  unfolding fits
  no_head h = rw (le-ltb 0 (length heads) (omega arith))

  short_links : length older < length ends → fits ends heads older before ≡ false
  unfolding fits
  short_links h = rw (lt-leb (length ends) (length older) h, and-false (ltb 0 (length heads)))

  short_befores : length before < length ends → fits ends heads older before ≡ false
  unfolding fits
  short_befores h = rw (lt-leb (length ends) (length before) h) (and-false (ltb 0 (length heads) && leb (length ends) (length older)))

-- where they do not fit, nothing is written
module _ (store ends heads older before : List ℕ) where
  nothing : fits ends heads older before ≡ false → Finds store ends heads older before false heads older before
  nothing e = record { answer = sym e; befores = rw e; links = rw e; firsts = rw e }

  pub finds_no_head : length heads ≡ 0 → Finds store ends heads older before false heads older before
  finds_no_head h = nothing (no_head ends heads older before h)

  pub finds_short_links : length older < length ends → Finds store ends heads older before false heads older before
  finds_short_links h = nothing (short_links ends heads older before h)

  pub finds_short_befores : length before < length ends → Finds store ends heads older before false heads older before
  finds_short_befores h = nothing (short_befores ends heads older before h)

  -- all rows are taken
  pub taken_end : {cleared heads' older' before' : List ℕ} {row : ℕ} → cleared ≡ replicate (length heads) 0
      → Taken store ends (length cleared) older before heads' older' before' row → length ends ≤ row
      → Finds store ends heads older before true heads' older' before'
  taken_end {cleared} {heads'} {older'} {before'} {row} e t h =
      let k = length_cleared heads cleared e in
      let z : row ≡ length ends = omega (arith, t.inside) in
      let f = fits_all ends heads older before (omega (arith, k, t.bucket)) t.link_room t.room in
      record {
        answer = sym f;
        befores = t.befores ∙ rw (f, z);
        links = t.links ∙ rw (f, z, k);
        firsts = t.firsts ∙ rw (f, z, k);
      }
