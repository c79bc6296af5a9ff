-- A string in ' whose body is ASCII and free of marks, NULs and active backslashes is plain and UTF-8. Assumes nothing.
use mathlib.Core.Path.{◌≡◌, refl, ap, sym, ◌∙◌}
use mathlib.Core.Bool.{Bool, true, false, ◌&&◌, not}
use mathlib.Core.List.{List, [], ◌∷◌, ◌++◌}
use Prim.Native.Nat.{ℕ, ◌-◌}
use native.Mathlib.Omega.{arith}
use lib.Dec.{eqb}
use lib.ListN.{length, take, drop}
use borrow.Author.Tests.{ne_eqb, not-true, not-false}
use Rattle.meaning.specs.declared.Settings.{Settings}
use Rattle.meaning.specs.Bytes.{within, part, quote}
use Rattle.meaning.specs.Chars.{Due, fresh, pushes, whole, utf8}
use Rattle.meaning.specs.Spelling.{encloses}
use Rattle.laws.proofs.basics.Tests.{and_left, and_right}
use Rattle.laws.proofs.utf8.Utf8.{low_lead, pushes_append}
use Rattle.utf8.specs.Plain.{plain_of}
use Rattle.utf8.proofs.PlainBytes.{plain_bounds, plain_pushes}
use Rattle.leaves.specs.declared.blocks.Stops.{Stops}
use Rattle.leaves.specs.Blocks.{free_of, passes}
use Rattle.strings.specs.Plain.{setting_stops, is_plain, plain_body, is_plain_ascii}
use Rattle.strings.proofs.Plains.{enclosed_is}

-- A BYTE
module _ (x y b : ℕ) (h : plain_of x y b ≡ true) where
  plain_free : free_of (record { first = x; second = y; third = 0 }) b ≡ true
  unfolding plain_of free_of
  plain_free =
      let k = plain_bounds x y b h in
      rw (
        and_right (within 1 127 b) (not (eqb b x)) (and_left (within 1 127 b && not (eqb b x)) (not (eqb b y)) h),
        and_right (within 1 127 b && not (eqb b x)) (not (eqb b y)) h,
        ne_eqb b 0 (λ z. omega arith),
      )

-- A BODY of such bytes
module _ (x y : ℕ) where
  body_free : (v : List ℕ) → passes (plain_of x y) (length v) v ≡ true → passes (free_of (record { first = x; second = y; third = 0 })) (length v) v ≡ true
  body_free [] h = refl
  body_free (b ∷ v) h =
      rw (plain_free x y b (and_left (plain_of x y b) (passes (plain_of x y) (length v) v) h))
      (body_free v (and_right (plain_of x y b) (passes (plain_of x y) (length v) v) h))

  body_utf8 : (v : List ℕ) → passes (plain_of x y) (length v) v ≡ true → utf8 (quote ∷ (v ++ (quote ∷ []))) ≡ true
  unfolding utf8
  body_utf8 v h =
      ap whole (ap (λ (d : Due). pushes d (v ++ (quote ∷ []))) (low_lead quote (omega arith)) ∙ pushes_append fresh v (quote ∷ [])
      ∙ ap (λ (d : Due). pushes d (quote ∷ [])) (plain_pushes x y v h) ∙ low_lead quote (omega arith))

-- AS THE CODE ASKS: two marks first, then the body
module _ (σ : Settings) (t : List ℕ) (x : Bool) (e : x ≡ encloses 0 quote t) where
  pub ascii_not : not x ≡ true → false ≡ is_plain_ascii σ t
  unfolding is_plain_ascii
  ascii_not y = sym (rw (sym e ∙ not-true x y))

  pub ascii_by : not x ≡ false → (k : Stops) → k ≡ setting_stops σ → (r : Bool)
      → r ≡ passes (plain_of k.first k.second) (length (take (length t - 1 - 1) (drop 1 t))) (take (length t - 1 - 1) (drop 1 t)) → r ≡ is_plain_ascii σ t
  unfolding is_plain_ascii
  ascii_by y k ek r er = er ∙ rw ek (sym (rw (sym e ∙ not-false x y)))

-- WHAT IT TELLS
module _ (σ : Settings) (t : List ℕ) (h : is_plain_ascii σ t ≡ true) where
  abbrev v : List ℕ
  v = part 1 (length t - 1) t

  enclosed : encloses 0 quote t ≡ true
  unfolding is_plain_ascii
  enclosed = and_left (encloses 0 quote t) (plain_body σ v) h

  body : plain_body σ v ≡ true
  unfolding is_plain_ascii
  body = and_right (encloses 0 quote t) (plain_body σ v) h

  pub ascii_plain : is_plain σ t ≡ true
  unfolding is_plain
  ascii_plain = rw enclosed (body_free quote (setting_stops σ).second v body)

  pub ascii_utf8 : utf8 t ≡ true
  ascii_utf8 = ap utf8 (enclosed_is quote t enclosed) ∙ body_utf8 quote (setting_stops σ).second v body
