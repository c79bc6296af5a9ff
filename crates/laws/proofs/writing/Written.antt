-- A literal of the writer, at either setting: its body means the value, its closing mark is found behind the body, and it holds no NUL. Assumes nothing.
use mathlib.Core.Path.{◌≡◌, refl, ap, sym, ◌∙◌, subst}
use mathlib.Core.Bool.{Bool, true, false, ◌&&◌, ◌||◌, not, or-false, and-false}
use mathlib.Core.List.{List, [], ◌∷◌, ◌++◌, append_assoc}
use Prim.Native.Nat.{ℕ, ◌+◌}
use native.Mathlib.Nat.{zero-add}
use native.Mathlib.Omega.{arith}
use lib.Dec.{T, eqb, ltb}
use borrow.Author.Tests.{eqb-true}
use lib.ListN.{length, length-append}
use lib.Seq.{drop-length}
use Rattle.meaning.specs.declared.Settings.{Settings}
use Rattle.meaning.specs.Bytes.{◌!◌, has, quote, backslash, is_mark}
use Rattle.std.specs.Prelude.{if◌then◌else◌}
use Rattle.meaning.specs.Walk.{keep, give, stop, stopped, walk, size, stops, value}
use Rattle.meaning.specs.Steps.{standard_step, closing_step, doubled}
use Rattle.meaning.specs.Cutting.{closed_at, segment, continues}
use Rattle.meaning.specs.Reading.{one, read}
use Rattle.meaning.specs.Writer.{spell, spells, literal}
use Rattle.laws.proofs.basics.Tests.{eqb_sym}
use Rattle.laws.proofs.basics.Enclosed.{has_append}
use Rattle.laws.proofs.walking.Walks.{walk_append, LocalIn, Inside, Exact, exact_append, exact_ends, graft, size_graft, stops_graft}

-- READING. A byte's spelling is read as the byte, whatever follows
module _ (b : ℕ) (t : List ℕ) where
  spell_read : (bs : Bool) → (value (walk (standard_step bs quote) 0 (spell bs b ++ t)) ≡ b ∷ value (walk (standard_step bs quote) 0 t))
      × (stops (walk (standard_step bs quote) 0 (spell bs b ++ t)) ≡ stops (walk (standard_step bs quote) 0 t))
  unfolding spell doubled
  spell_read true = go (eqb b quote) (eqb b backslash) (eqb b 0) refl refl refl
    where
      go : (x y z : Bool) → eqb b quote ≡ x → eqb b backslash ≡ y → eqb b 0 ≡ z
          → (value (walk (standard_step true quote) 0 (spell true b ++ t)) ≡ b ∷ value (walk (standard_step true quote) 0 t))
          × (stops (walk (standard_step true quote) 0 (spell true b ++ t)) ≡ stops (walk (standard_step true quote) 0 t))
      go true y z ex ey ez = rw ex (ap (◌∷ value (walk (standard_step true quote) 0 t)) (sym (eqb-true b quote ex)), refl)
      go false true z ex ey ez = rw (ex, ey) (ap (◌∷ value (walk (standard_step true quote) 0 t)) (sym (eqb-true b backslash ey)), refl)
      go false false true ex ey ez = rw (ex, ey, ez) (ap (◌∷ value (walk (standard_step true quote) 0 t)) (sym (eqb-true b 0 ez)), refl)
      go false false false ex ey ez = rw (ex, ey, ez) (rw (ey, ex) (refl, refl))
  spell_read false = go (eqb b quote) refl
    where
      go : (x : Bool) → eqb b quote ≡ x
          → (value (walk (standard_step false quote) 0 (spell false b ++ t)) ≡ b ∷ value (walk (standard_step false quote) 0 t))
          × (stops (walk (standard_step false quote) 0 (spell false b ++ t)) ≡ stops (walk (standard_step false quote) 0 t))
      go true ex = rw ex (ap (◌∷ value (walk (standard_step false quote) 0 t)) (sym (eqb-true b quote ex)), refl)
      go false ex = rw (ex, ex) (refl, refl)

-- so the body means the value, and nothing stops
pub spells_value : (bs : Bool) (v : List ℕ) → value (walk (standard_step bs quote) 0 (spells bs v)) ≡ v
spells_value bs [] = refl
spells_value bs (b ∷ v) = (spell_read b (spells bs v) bs).0 ∙ ap (b ∷◌) (spells_value bs v)

pub spells_goes : (bs : Bool) (v : List ℕ) → stops (walk (standard_step bs quote) 0 (spells bs v)) ≡ false
spells_goes bs [] = refl
spells_goes bs (b ∷ v) = (spell_read b (spells bs v) bs).1 ∙ spells_goes bs v

-- CLOSING. The search for the closing mark takes all of the body
pub closing_local : (hides : Bool) (q : ℕ) (r : List ℕ) → eqb 0 q ≡ false → LocalIn (closing_step hides q) r
unfolding doubled
closing_local hides q r nz b (c ∷ t) i = refl
closing_local hides q r nz b [] i = go (hides && eqb b backslash) (eqb b q) refl refl i
  where
    go : (x y : Bool) → (hides && eqb b backslash) ≡ x → eqb b q ≡ y
        → Inside (if x then give 1 [] else if y then (if eqb 0 q then give 1 (q ∷ []) else stop) else keep) 0
        → closing_step hides q (b ∷ r) ≡ closing_step hides q (b ∷ [])
    go true y ex ey j = absurd (omega arith)
    go false true ex ey j = absurd (rw nz at j)
    go false false ex ey j = rw (ex, ey)

pub spell_exact : (bs : Bool) (b : ℕ) → Exact (closing_step bs quote) (spell bs b)
unfolding spell doubled
spell_exact true b = go (eqb b quote) (eqb b backslash) (eqb b 0) refl refl refl
  where
    go : (x y z : Bool) → eqb b quote ≡ x → eqb b backslash ≡ y → eqb b 0 ≡ z → Exact (closing_step true quote) (spell true b)
    go true y z ex ey ez = rw ex
    go false true z ex ey ez = rw (ex, ey)
    go false false true ex ey ez = rw (ex, ey, ez)
    go false false false ex ey ez = rw (ex, ey, ez) (rw (ey, ex) refl)
spell_exact false b = go (eqb b quote) refl
  where
    go : (x : Bool) → eqb b quote ≡ x → Exact (closing_step false quote) (spell false b)
    go true ex = rw ex
    go false ex = rw (ex, ex)

pub spells_exact : (bs : Bool) (v : List ℕ) → Exact (closing_step bs quote) (spells bs v)
spells_exact bs [] = refl
spells_exact bs (b ∷ v) =
    exact_append (closing_step bs quote) (spell bs b) (spells bs v) (closing_local bs quote (spells bs v) refl) (spell_exact bs b) (spells_exact bs v)

-- the closing mark is found behind a body that the search takes all of, whatever other byte comes next
module _ (hides : Bool) (u r : List ℕ) (exact : Exact (closing_step hides quote) u) (apart : eqb (r ! 0) quote ≡ false) where
  at_mark : walk (closing_step hides quote) 0 (quote ∷ r) ≡ stopped
  unfolding doubled
  at_mark = go hides
    where
      go : (h : Bool) → walk (closing_step h quote) 0 (quote ∷ r) ≡ stopped
      go true = rw apart
      go false = rw apart

  takes : 0 + size (walk (closing_step hides quote) 0 u) ≡ length u
  takes = zero-add (size (walk (closing_step hides quote) 0 u)) ∙ exact

  ends : stops (walk (closing_step hides quote) 0 u) ≡ false
  ends = exact_ends (closing_step hides quote) 0 u takes

  closing_course : walk (closing_step hides quote) 0 (u ++ (quote ∷ r)) ≡ graft (walk (closing_step hides quote) 0 u) stopped
  closing_course =
      walk_append (closing_step hides quote) (quote ∷ r) (closing_local hides quote (quote ∷ r) refl) 0 u takes
      ∙ ap (graft (walk (closing_step hides quote) 0 u)) at_mark

  pub closes : stops (walk (closing_step hides quote) 0 (u ++ (quote ∷ r))) ≡ true
  closes = ap stops closing_course ∙ stops_graft (walk (closing_step hides quote) 0 u) stopped ends

  pub closes_at : size (walk (closing_step hides quote) 0 (u ++ (quote ∷ r))) ≡ length u
  closes_at = ap size closing_course ∙ size_graft (walk (closing_step hides quote) 0 u) stopped ends ∙ omega (arith, takes)

  pub closes_behind : (n : ℕ) → closed_at n (walk (closing_step hides quote) 0 (u ++ (quote ∷ r))) ≡ n + length u + 1
  closes_behind n = rw (closes, closes_at)

module _ (σ : Settings) (v r : List ℕ) (apart : eqb (r ! 0) quote ≡ false) where
  pub literal_segment : segment σ (literal σ.backslash v ++ r) ≡ length (literal σ.backslash v)
  unfolding segment is_mark
  literal_segment =
      rw (append_assoc (spells σ.backslash v) (quote ∷ []) r, or-false σ.backslash, length-append)
      (closes_behind σ.backslash (spells σ.backslash v) r (spells_exact σ.backslash v) apart 1 ∙ omega arith)

-- NUL: the writer refuses it with the setting off, and spells it with the setting on
abbrev pub writable : Bool → List ℕ → Bool
writable true v = true
writable false v = not (has 0 v)

no_nul_spell : (bs : Bool) (b : ℕ) → writable bs (b ∷ []) ≡ true → has 0 (spell bs b) ≡ false
unfolding spell
no_nul_spell true b w = go (eqb b quote) (eqb b backslash) (eqb b 0) refl refl refl
  where
    go : (x y z : Bool) → eqb b quote ≡ x → eqb b backslash ≡ y → eqb b 0 ≡ z → has 0 (spell true b) ≡ false
    go true y z ex ey ez = rw ex
    go false true z ex ey ez = rw (ex, ey)
    go false false true ex ey ez = rw (ex, ey, ez)
    go false false false ex ey ez = rw (ex, ey, ez) (rw (or-false (eqb 0 b)) (eqb_sym 0 b ∙ ez))
no_nul_spell false b w = go (eqb b quote) (eqb 0 b) refl refl w
  where
    go : (x z : Bool) → eqb b quote ≡ x → eqb 0 b ≡ z → not (z || false) ≡ true → has 0 (spell false b) ≡ false
    go true z ex ez w = rw ex
    go false true ex ez w = absurd (subst T (sym w) tt)
    go false false ex ez w = rw (ex, ez)

pub no_nul : (bs : Bool) (v : List ℕ) → writable bs v ≡ true → has 0 (spells bs v) ≡ false
no_nul bs [] w = refl
no_nul true (b ∷ v) w = rw (has_append 0 (spell true b) (spells true v), no_nul_spell true b refl, no_nul true v refl)
no_nul false (b ∷ v) w = go (eqb 0 b) refl w (no_nul false v)
  where
    go : (z : Bool) → eqb 0 b ≡ z → not (z || has 0 v) ≡ true → (not (has 0 v) ≡ true → has 0 (spells false v) ≡ false)
        → has 0 (spells false (b ∷ v)) ≡ false
    go true e w ih = absurd (subst T (sym w) tt)
    go false e w ih = rw (has_append 0 (spell false b) (spells false v), no_nul_spell false b (rw e), ih w)

-- a text that is one whole segment is read as one
pub lone : (σ : Settings) (t : List ℕ) → segment σ t ≡ length t → read σ t ≡ one σ t
unfolding read continues is_mark
lone σ t e = rw (e, drop-length t, and-false (ltb 0 (length t)))
