-- How a literal of a writer is read: a value that it left unchanged, between an opening and a quote mark, is borrowed; any other value is written. Of the
-- plain writer the opening is a quote mark. Assumes nothing.
use mathlib.Core.Logic.{◌⊎◌, inl, inr}
use mathlib.Core.Path.{◌≡◌, refl, ap, sym, ◌∙◌, subst}
use mathlib.Core.Bool.{Bool, true, false, ◌&&◌}
use mathlib.Core.List.{List, [], ◌∷◌, ◌++◌, append-nil}
use Prim.Native.Nat.{ℕ, suc, ◌+◌, ◌-◌, ◌≤◌, ◌<◌}
use native.Mathlib.Omega.{arith}
use lib.Dec.{T, eqb}
use lib.ListN.{length, length-append}
use lib.Seq.{take-append_seam, drop-append_seam}
use Rattle.meaning.specs.declared.Settings.{Settings}
use Rattle.meaning.specs.Bytes.{quote, backslash}
use Rattle.std.specs.Prelude.{if◌then◌else◌}
use Rattle.meaning.specs.Walk.{Step, keep, walk, stops, plain, value}
use Rattle.meaning.specs.Steps.{mysql, doubled, standard_step}
use Rattle.meaning.specs.Cutting.{segment}
use Rattle.meaning.specs.Spelling.{spelling}
use Rattle.meaning.specs.Reading.{borrowed, written, means, answer, one, read, meaning}
use Rattle.meaning.specs.Writer.{spell, spells, literal}
use Rattle.laws.proofs.basics.Tests.{true→T}
use Rattle.laws.proofs.basics.Enclosed.{has_append, encloses_body, part_body}
use Rattle.laws.proofs.walking.Walks.{walk_plain}
use Rattle.laws.proofs.writing.Written.{spells_value, spells_goes, literal_segment, writable, no_nul, lone}

-- a text that means v, behind an opening o: it is the opening, v and a quote mark, and borrowed; or it is longer, and written
pub data ReadsBack (σ : Settings) (o t v : List ℕ) : Type 0 where
  unchanged : t ≡ o ++ (v ++ (quote ∷ [])) → read σ t ≡ borrowed (length o) (length o + length v) → ReadsBack σ o t v
  longer : length v + suc (length o) < length t → read σ t ≡ written v → ReadsBack σ o t v

enclosed_length : (o v : List ℕ) → length (o ++ (v ++ (quote ∷ []))) ≡ length v + suc (length o)
enclosed_length o v = simp length-append (omega arith)

module _ {σ : Settings} {o t v : List ℕ} where
  pub back_means : ReadsBack σ o t v → meaning σ t ≡ means v
  back_means (unchanged e r) =
      let n : length o + length v - length o ≡ length v = omega arith in
      rw (r, e, n, drop-append_seam o (v ++ (quote ∷ []))) (ap means (take-append_seam v (quote ∷ [])))
  back_means (longer l r) = rw r

  pub back_length : ReadsBack σ o t v → length v + suc (length o) ≤ length t
  back_length (unchanged e r) = omega (arith, ap length e, enclosed_length o v)
  back_length (longer l r) = omega arith

  -- which of the two it is, the length tells
  pub back_borrowed : ReadsBack σ o t v → length t ≡ length v + suc (length o)
      → (t ≡ o ++ (v ++ (quote ∷ []))) × (read σ t ≡ borrowed (length o) (length o + length v))
  back_borrowed (unchanged e r) h = (e, r)
  back_borrowed (longer l r) h = absurd (omega arith)

  pub back_written : ReadsBack σ o t v → length v + suc (length o) < length t → read σ t ≡ written v
  back_written (unchanged e r) h = absurd (omega (arith, ap length e, enclosed_length o v))
  back_written (longer l r) h = r

-- a body that means v: nothing stops, and where not every byte stands for itself it is longer than v
pub record BodyMeans (step : List ℕ → Step) (u v : List ℕ) : Type 0 where
  pub goes : stops (walk step 0 u) ≡ false
  pub means : value (walk step 0 u) ≡ v
  pub longer : plain (walk step 0 u) ≡ false → length v < length u

-- so a text that is read as its body's course, between an opening and a mark, reads back
pub course_back : (σ : Settings) (o u v : List ℕ) (step : List ℕ → Step) → BodyMeans step u v
    → read σ (o ++ (u ++ (quote ∷ []))) ≡ answer (length o) (length (o ++ (u ++ (quote ∷ []))) - 1) (walk step 0 u) → ReadsBack σ o (o ++ (u ++ (quote ∷ []))) v
unfolding answer
course_back σ o u v step b r = go (plain (walk step 0 u)) refl
  where
    go : (x : Bool) → plain (walk step 0 u) ≡ x → ReadsBack σ o (o ++ (u ++ (quote ∷ []))) v
    go true p =
        let e : u ≡ v = sym (walk_plain step u (true→T (plain (walk step 0 u)) p)) ∙ b.means in
        let m : length (o ++ (u ++ (quote ∷ []))) - 1 ≡ length o + length v = omega (arith, enclosed_length o u, ap length e) in
        unchanged (ap (λ (t : List ℕ). o ++ (t ++ (quote ∷ []))) e) (r ∙ rw (p, m))
    go false p = longer (omega (arith, enclosed_length o u, b.longer p)) (r ∙ rw (p, b.goes) (ap written b.means))

-- a byte is spelled by itself and stands for itself, or it is spelled by two bytes
spell_kept : (bs : Bool) (b : ℕ) (t : List ℕ)
    → ((spell bs b ≡ b ∷ []) × (standard_step bs quote (b ∷ t) ≡ keep)) ⊎ (length (spell bs b) ≡ 2)
unfolding spell
spell_kept bs b t = go bs (eqb b quote) (eqb b backslash) (eqb b 0)
  where
    spelled : (bs x y z : Bool) → List ℕ
    spelled bs x y z =
        if x then quote ∷ quote ∷ [] else if bs && y then backslash ∷ backslash ∷ [] else if bs && z then backslash ∷ 48 ∷ [] else b ∷ []

    go : (bs x y z : Bool)
        → ((spelled bs x y z ≡ b ∷ []) × ((if bs && y then mysql t else if x then doubled quote t else keep) ≡ keep)) ⊎ (length (spelled bs x y z) ≡ 2)
    go bs true y z = inr refl
    go false false y z = inl (refl, refl)
    go true false true z = inr refl
    go true false false true = inr refl
    go true false false false = inl (refl, refl)

spells_least : (bs : Bool) (v : List ℕ) → length v ≤ length (spells bs v)
spells_least bs [] = omega arith
spells_least bs (b ∷ v) = go (spell_kept bs b []) (spells_least bs v)
  where
    n : length (spell bs b ++ spells bs v) ≡ length (spell bs b) + length (spells bs v)
    n = length-append (spell bs b) (spells bs v)

    go : ((spell bs b ≡ b ∷ []) × (standard_step bs quote (b ∷ []) ≡ keep)) ⊎ (length (spell bs b) ≡ 2) → length v ≤ length (spells bs v)
        → length (b ∷ v) ≤ length (spell bs b ++ spells bs v)
    go (inl e) i = omega (arith, n, ap length e.0)
    go (inr e) i = omega (arith, n)

-- a body in which not every byte stands for itself is longer than its value
spells_longer : (bs : Bool) (v : List ℕ) → plain (walk (standard_step bs quote) 0 (spells bs v)) ≡ false → length v < length (spells bs v)
spells_longer bs [] h = absurd (subst T h tt)
spells_longer bs (b ∷ v) h = go (spell_kept bs b (spells bs v)) h (spells_longer bs v)
  where
    n : length (spell bs b ++ spells bs v) ≡ length (spell bs b) + length (spells bs v)
    n = length-append (spell bs b) (spells bs v)

    go : ((spell bs b ≡ b ∷ []) × (standard_step bs quote (b ∷ spells bs v) ≡ keep)) ⊎ (length (spell bs b) ≡ 2)
        → plain (walk (standard_step bs quote) 0 (spell bs b ++ spells bs v)) ≡ false
        → (plain (walk (standard_step bs quote) 0 (spells bs v)) ≡ false → length v < length (spells bs v))
        → length (b ∷ v) < length (spell bs b ++ spells bs v)
    go (inl e) h ih = let i = ih (rw (e.0, e.1) at h) in omega (arith, n, ap length e.0)
    go (inr e) h ih = omega (arith, n, spells_least bs v)

-- a literal is one segment, and read as its body's course
pub literal_whole : (σ : Settings) (v : List ℕ) → segment σ (literal σ.backslash v) ≡ length (literal σ.backslash v)
literal_whole σ v =
    subst (λ (t : List ℕ). segment σ t ≡ length (literal σ.backslash v)) (append-nil (literal σ.backslash v)) (literal_segment σ v [] refl)

literal_read : (σ : Settings) (v : List ℕ) → writable σ.backslash v ≡ true
    → read σ (literal σ.backslash v)
    ≡ answer 1 (length (literal σ.backslash v) - 1) (walk (standard_step σ.backslash quote) 0 (spells σ.backslash v))
unfolding one spelling
literal_read σ v w =
    rw (
      lone σ (literal σ.backslash v) (literal_whole σ v),
      has_append 0 (spells σ.backslash v) (quote ∷ []),
      no_nul σ.backslash v w,
      encloses_body quote (spells σ.backslash v),
      part_body quote (spells σ.backslash v),
    )

pub literal_back : (σ : Settings) (v : List ℕ) → writable σ.backslash v ≡ true → ReadsBack σ (quote ∷ []) (literal σ.backslash v) v
literal_back σ v w =
    course_back σ (quote ∷ []) (spells σ.backslash v) v (standard_step σ.backslash quote)
    (record { goes = spells_goes σ.backslash v; means = spells_value σ.backslash v; longer = spells_longer σ.backslash v })
    (literal_read σ v w)
