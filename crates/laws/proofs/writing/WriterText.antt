-- [01 The writer] What the writer writes, whole or in parts, is UTF-8 and means the value, at the same setting; and how long it is. Assumes nothing.
use mathlib.Core.Path.{◌≡◌, refl}
use mathlib.Core.Bool.{Bool, true, false, ◌&&◌, ◌||◌}
use mathlib.Core.List.{List, [], ◌∷◌, ◌++◌, append-nil}
use Prim.Native.Nat.{ℕ, ◌+◌, ◌*◌, ◌≤◌, ◌<◌}
use native.Mathlib.Omega.{arith}
use lib.Dec.{eqb}
use lib.ListN.{length, length-append}
use Rattle.meaning.specs.declared.Settings.{Settings}
use Rattle.meaning.specs.declared.PartSize.{PartSize}
use Rattle.meaning.specs.Bytes.{◌!◌, within, quote, backslash}
use Rattle.std.specs.Prelude.{if◌then◌else◌}
use Rattle.meaning.specs.Chars.{lead, is_space}
use Rattle.meaning.specs.Reading.{borrowed, written, read}
use Rattle.meaning.specs.Writer.{spell, spells, literal, between, literals, parts_of, written_text}
use Rattle.laws.proofs.writing.Unchanged.{back_means, back_borrowed, back_written}
use Rattle.laws.proofs.joining.Joining.{White}
use Rattle.laws.proofs.joining.JoiningLaw.{Accepts}
use Rattle.laws.proofs.joining.Parts.{Joinable, joins, literal_joins}
use Rattle.laws.proofs.writing.WriterParts.{concat, Every, Valid, Writable, Five, Parted, parts_of_some, parts_of_concat, parts_of_parts, writable_append}
use Rattle.laws.proofs.writing.WriterParts.{nul_writable, Accepted, limit_length, limit_size}

-- THE TEXT. What stands between two parts is white space, so their literals join
pub between_white : White between
unfolding lead within is_space
between_white = refl

literals_join : (σ : Settings) (p : List ℕ) (ps : List (List ℕ)) → Every Valid (p ∷ ps) → Writable σ.backslash (concat (p ∷ ps))
    → Joinable σ (literals σ.backslash (p ∷ ps)) (concat (p ∷ ps))
literals_join σ p [] u w = rw (append-nil p) (literal_joins σ p u.0 (rw (append-nil p) at w))
literals_join σ p (q ∷ ps) u w =
    let r = writable_append σ.backslash p (concat (q ∷ ps)) w in
    joins σ (between ! 0) [] between_white (literal_joins σ p u.0 r.0) (literals_join σ q ps u.1 r.1)

parted : (σ : Settings) (size : PartSize) (v : List ℕ) → Accepted σ size v → Parted v (parts_of size v)
parted σ size v a = parts_of_parts size v (limit_size size v a.limit) a.valid

module _ (σ : Settings) (size : PartSize) (v : List ℕ) (a : Accepted σ size v) where
  pub written_text_joins : Joinable σ (written_text σ size v) v
  unfolding written_text
  written_text_joins = go (parts_of size v) (parted σ size v a)
    where
      go : (ps : List (List ℕ)) → Parted v ps → Joinable σ (literals σ.backslash ps) v
      go [] r = let h = r.any in absurd (omega arith)
      go (p ∷ ps) r = rw r.together at (literals_join σ p ps r.valid (rw r.together (nul_writable σ v a.nul)))

  -- WHAT IS WRITTEN READS BACK
  pub written_text_accepts : Accepts σ (written_text σ size v) v
  written_text_accepts = record { valid = written_text_joins.valid; value = back_means written_text_joins.back }

  -- borrowed, where the text has but two bytes more than the value; written, where it has more
  pub written_borrowed : length (written_text σ size v) ≡ length v + 2
      → (written_text σ size v ≡ quote ∷ (v ++ (quote ∷ []))) × (read σ (written_text σ size v) ≡ borrowed 1 (1 + length v))
  written_borrowed = back_borrowed written_text_joins.back

  pub written_longer : length v + 2 < length (written_text σ size v) → read σ (written_text σ size v) ≡ written v
  written_longer = back_written written_text_joins.back

-- HOW LONG. A byte of the value is spelled by one byte or two
unfoldable pub cost : Bool → ℕ → ℕ
cost bs b = if eqb b quote || bs && (eqb b backslash || eqb b 0) then 2 else 1

abbrev pub costs : Bool → List ℕ → ℕ
costs bs [] = 0
costs bs (b ∷ v) = cost bs b + costs bs v

pub spell_length : (bs : Bool) (b : ℕ) → length (spell bs b) ≡ cost bs b
unfolding spell cost
spell_length bs b = go bs (eqb b quote) (eqb b backslash) (eqb b 0)
  where
    go : (bs x y z : Bool)
        → length (if x then quote ∷ quote ∷ [] else if bs && y then backslash ∷ backslash ∷ [] else if bs && z then backslash ∷ 48 ∷ [] else b ∷ [])
        ≡ (if x || bs && (y || z) then 2 else 1)
    go bs true y z = refl
    go false false y z = refl
    go true false true z = refl
    go true false false true = refl
    go true false false false = refl

pub cost_most : (bs : Bool) (b : ℕ) → cost bs b ≤ 2
unfolding cost
cost_most bs b = go (eqb b quote || bs && (eqb b backslash || eqb b 0))
  where
    go : (x : Bool) → (if x then 2 else 1) ≤ 2
    go true = omega arith
    go false = omega arith

pub spells_length : (bs : Bool) (v : List ℕ) → length (spells bs v) ≡ costs bs v
spells_length bs [] = refl
spells_length bs (b ∷ v) = rw (length-append (spell bs b) (spells bs v), spell_length bs b, spells_length bs v)

pub costs_most : (bs : Bool) (v : List ℕ) → costs bs v ≤ 2 * length v
costs_most bs [] = omega arith
costs_most bs (b ∷ v) = omega (arith, cost_most bs b, costs_most bs v)

pub costs_append : (bs : Bool) (u v : List ℕ) → costs bs (u ++ v) ≡ costs bs u + costs bs v
costs_append bs [] v = omega arith
costs_append bs (b ∷ u) v = omega (arith, costs_append bs u v)

pub literal_length : (bs : Bool) (v : List ℕ) → length (literal bs v) ≡ costs bs v + 2
literal_length bs v = omega (arith, length-append (spells bs v) (quote ∷ []), spells_length bs v)

-- two marks a part, and one byte between each two
pub literals_length : (bs : Bool) (p : List ℕ) (ps : List (List ℕ)) → length (literals bs (p ∷ ps)) ≡ costs bs (concat (p ∷ ps)) + 2 + 3 * length ps
literals_length bs p [] = omega (arith, literal_length bs p, costs_append bs p [])
literals_length bs p (q ∷ ps) =
    omega (
      arith,
      length-append (literal bs p) (between ++ literals bs (q ∷ ps)),
      literal_length bs p,
      literals_length bs q ps,
      costs_append bs p (concat (q ∷ ps)),
    )

-- of a value, at every part size
pub written_text_length : (σ : Settings) (size : PartSize) (v : List ℕ)
    → length (written_text σ size v) + 1 ≡ costs σ.backslash v + 3 * length (parts_of size v)
unfolding written_text
written_text_length σ size v = go (parts_of size v) (parts_of_some size v) (parts_of_concat size v)
  where
    go : (ps : List (List ℕ)) → 0 < length ps → concat ps ≡ v → length (literals σ.backslash ps) + 1 ≡ costs σ.backslash v + 3 * length ps
    go [] h e = absurd (omega arith)
    go (p ∷ ps) h e =
        let l : length (literals σ.backslash (p ∷ ps)) ≡ costs σ.backslash v + 2 + 3 * length ps = rw e at (literals_length σ.backslash p ps) in
        omega arith

five_behind : (q : List ℕ) (ps : List (List ℕ)) → Five (q ∷ ps) → Five ps
five_behind q [] f = tt
five_behind q (r ∷ ps) f = f.1

-- two neighbours hold five bytes: so there are not many parts
five_count : (ps : List (List ℕ)) → Five ps → 5 * length ps ≤ 2 * length (concat ps) + 5
five_count [] f = omega arith
five_count (p ∷ []) f = omega (arith, length-append p [])
five_count (p ∷ (q ∷ ps)) f =
    let h = f.0 in
    omega (arith, five_count ps (five_behind q ps f.1), length-append p (q ++ concat ps), length-append q (concat ps))

literals_bound : (bs : Bool) (v : List ℕ) (ps : List (List ℕ)) → Parted v ps → 5 * length (literals bs ps) ≤ 16 * length v + 10
literals_bound bs v [] r = omega arith
literals_bound bs v (p ∷ ps) r =
    let l : length (literals bs (p ∷ ps)) ≡ costs bs v + 2 + 3 * length ps = rw r.together at (literals_length bs p ps) in
    let n : 5 * length (p ∷ ps) ≤ 2 * length v + 5 = rw r.together at (five_count (p ∷ ps) r.five) in
    omega (arith, costs_most bs v)

-- "n value bytes never write more than 3.2 n + 2 bytes"
pub written_text_bound : (σ : Settings) (size : PartSize) (v : List ℕ) → Accepted σ size v → 5 * length (written_text σ size v) ≤ 16 * length v + 10
unfolding written_text
written_text_bound σ size v a = literals_bound σ.backslash v (parts_of size v) (parted σ size v a)

-- "858,993,461 at the limit": 32 bits hold every length
pub written_text_fits : (σ : Settings) (size : PartSize) (v : List ℕ) → Accepted σ size v → length (written_text σ size v) ≤ 858993461
written_text_fits σ size v a = omega (arith, written_text_bound σ size v a, limit_length size v a.limit)
