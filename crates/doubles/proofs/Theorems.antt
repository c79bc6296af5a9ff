-- What the answers say of the rows, and that the contract determines them. Assumes nothing.
use mathlib.Core.Path.{◌≡◌, refl, sym, ap, ◌∙◌}
use mathlib.Core.Bool.{Bool, true, false}
use mathlib.Core.List.{List, ◌++◌}
use Prim.Native.Nat.{ℕ, zero, suc, ◌≤◌, ◌<◌}
use native.Mathlib.Omega.{arith}
use borrow.Author.Tests.{ltb-true, ltb-false}
use lib.Dec.{ltb}
use lib.ListN.{length, drop, get_or}
use lib.Seq.{drop_at}
use Rattle.doubles.specs.Rows.{key_at, same_key, before_of, table}
use Rattle.doubles.specs.Finding.{fits, Finds}
use Rattle.doubles.proofs.Newest.{newest_le, newest_pass, newest_last, newest_is, newest_none}
use Rattle.doubles.proofs.Keys.{same_of, same_true, same_not, same_differ}
use Rattle.doubles.proofs.Tables.{length_table, get_d_table_append}
use Rattle.doubles.proofs.AllRows.{fits_all}

-- row j is the newest row before row i that has its key
pub record NewestDouble (store ends : List ℕ) (i j : ℕ) : Type 0 where
  pub earlier : j < i
  pub alike : key_at store ends j ≡ key_at store ends i
  pub others : (m : ℕ) → j < m → m < i → key_at store ends m ≡ key_at store ends i → ⊥

module _ (store ends : List ℕ) (i : ℕ) where
  -- THE ANSWER 0: no row before it has its key. So a row with the key of an earlier one never gets 0
  pub before_none_sound : before_of store ends i ≡ 0 → (j : ℕ) → j < i → key_at store ends j ≡ key_at store ends i → ⊥
  unfolding before_of
  before_none_sound e j h =
      same_differ (key_at store ends j) (key_at store ends i) (newest_last (same_key store ends i) i j (omega (arith, e)) h)

  pub before_none_complete : ((j : ℕ) → j < i → key_at store ends j ≡ key_at store ends i → ⊥) → before_of store ends i ≡ 0
  unfolding before_of
  before_none_complete f = newest_none (same_key store ends i) i (λ j h. same_not (key_at store ends j) (key_at store ends i) (f j h))

  -- ANY OTHER ANSWER, counted from 1
  pub before_some_sound : (j : ℕ) → before_of store ends i ≡ suc j → NewestDouble store ends i j
  unfolding before_of
  before_some_sound j e = record {
    earlier = omega (arith, newest_le (same_key store ends i) i, e);
    alike = same_true (key_at store ends j) (key_at store ends i) (newest_pass (same_key store ends i) i j e);
    others = λ m h l. same_differ (key_at store ends m) (key_at store ends i) (newest_last (same_key store ends i) i m (omega (arith, e)) l);
  }

  pub before_some_complete : (j : ℕ) → NewestDouble store ends i j → before_of store ends i ≡ suc j
  unfolding before_of
  before_some_complete j d =
      newest_is (same_key store ends i) i j d.earlier (same_of (key_at store ends j) (key_at store ends i) d.alike)
      (λ m h l. same_not (key_at store ends m) (key_at store ends i) (d.others m h l))

-- EACH KEY ONCE: of the rows that have one key, just one gets 0
pub record FirstRow (store ends : List ℕ) (i : ℕ) : Type 0 where
  pub row : ℕ
  pub inside : row ≤ i
  pub alike : key_at store ends row ≡ key_at store ends i
  pub first : before_of store ends row ≡ 0

first_below : (store ends : List ℕ) (n i : ℕ) → i < n → FirstRow store ends i
first_below store ends zero i h = absurd (omega arith)
first_below store ends (suc n) i h = go (before_of store ends i) refl (first_below store ends n)
  where
    go : (a : ℕ) → before_of store ends i ≡ a → ((j : ℕ) → j < n → FirstRow store ends j) → FirstRow store ends i
    go zero e further = record { row = i; inside = omega arith; alike = refl; first = e }
    go (suc j) e further =
        let d = before_some_sound store ends i j e in
        let f = further j (omega (arith, d.earlier)) in
        record { row = f.row; inside = omega (arith, f.inside, d.earlier); alike = f.alike ∙ d.alike; first = f.first }

pub first_exists : (store ends : List ℕ) (i : ℕ) → FirstRow store ends i
first_exists store ends i = first_below store ends (suc i) i (omega arith)

pub first_unique : (store ends : List ℕ) (i j : ℕ) → key_at store ends i ≡ key_at store ends j → before_of store ends i ≡ 0 → before_of store ends j ≡ 0
    → i ≡ j
first_unique store ends i j e p q = go (ltb i j) (ltb j i) refl refl
  where
    go : (x y : Bool) → ltb i j ≡ x → ltb j i ≡ y → i ≡ j
    go true y f g = absurd (before_none_sound store ends j q i (ltb-true i j f) e)
    go false true f g = absurd (before_none_sound store ends i p j (ltb-true j i g) (sym e))
    go false false f g = omega (arith, ltb-false i j f, ltb-false j i g)

-- THE CONTRACT. Two results that it permits are equal
pub record SameFound (r r' : Bool) (heads heads' older older' before before' : List ℕ) : Type 0 where
  pub answer : r ≡ r'
  pub befores : before ≡ before'
  pub links : older ≡ older'
  pub firsts : heads ≡ heads'

pub finds_unique : (store ends heads older before : List ℕ) (r r' : Bool) (h h' o o' b b' : List ℕ)
    → Finds store ends heads older before r h o b → Finds store ends heads older before r' h' o' b' → SameFound r r' h h' o o' b b'
finds_unique store ends heads older before r r' h h' o o' b b' m n = record {
  answer = m.answer ∙ sym n.answer;
  befores = m.befores ∙ sym n.befores;
  links = m.links ∙ sym n.links;
  firsts = m.firsts ∙ sym n.firsts;
}

module _ {store ends heads older before : List ℕ} {r : Bool} {h o b : List ℕ} (f : Finds store ends heads older before r h o b) where
  -- with room it is true
  pub finds_complete : 0 < length heads → length ends ≤ length older → length ends ≤ length before → r ≡ true
  finds_complete p q s = f.answer ∙ fits_all ends heads older before p q s

  -- and then each row is answered, and what stands behind the rows is as it was
  found : r ≡ true → b ≡ table (before_of store ends) (length ends) ++ drop (length ends) before
  found e = f.befores ∙ rw (sym f.answer ∙ e)

  pub finds_row : r ≡ true → (i : ℕ) → i < length ends → get_or b i 0 ≡ before_of store ends i
  finds_row e i l = ap (λ (t : List ℕ). get_or t i 0) (found e) ∙ get_d_table_append (before_of store ends) (length ends) (drop (length ends) before) i l

  pub finds_behind : r ≡ true → drop (length ends) b ≡ drop (length ends) before
  finds_behind e =
      ap (drop (length ends)) (found e)
      ∙ drop_at (table (before_of store ends) (length ends)) (drop (length ends) before) (length ends) (length_table (before_of store ends) (length ends))

  -- where it is false, nothing is written
  pub finds_nothing : r ≡ false → SameFound r false h heads o older b before
  finds_nothing e =
      let z : fits ends heads older before ≡ false = sym f.answer ∙ e in
      record { answer = e; befores = f.befores ∙ rw z; links = f.links ∙ rw z; firsts = f.firsts ∙ rw z }
