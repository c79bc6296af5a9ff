-- A string in ' whose body is free of marks, NULs and active backslashes is one segment, and its body is borrowed. Assumes nothing.
use mathlib.Core.Path.{◌≡◌, refl, ap, sym, ◌∙◌}
use mathlib.Core.Bool.{Bool, true, false, ◌&&◌, not, and-false}
use mathlib.Core.List.{List, [], ◌∷◌, ◌++◌, append-nil}
use Prim.Native.Nat.{ℕ, suc, ◌+◌, ◌-◌, ◌≤◌, ◌<◌}
use native.Mathlib.Omega.{arith}
use lib.Dec.{eqb, ltb}
use lib.ListN.{length, take, drop, get_or, length-drop, take-append-drop, drop_of_length-le}
use lib.Seq.{drop-cons, get_or-drop}
use borrow.Author.Tests.{ltb-true, eqb-true, not-true, not-false}
use Rattle.meaning.specs.declared.Settings.{Settings}
use Rattle.meaning.specs.declared.ReadText.TheVariants as ReadText'
use Rattle.meaning.specs.Bytes.{◌!◌, part, has, quote, backslash}
use Rattle.std.specs.Prelude.{if◌then◌else◌, Ok}
use Rattle.meaning.specs.Walk.{keep, walk, plain}
use Rattle.meaning.specs.Steps.{standard_step}
use Rattle.meaning.specs.Cutting.{segment}
use Rattle.meaning.specs.Spelling.{encloses, spelling}
use Rattle.meaning.specs.Reading.{borrowed, answer, one, read}
use Rattle.meaning.specs.Reads.{Reads}
use Rattle.meaning.specs.Writer.{spell, spells, literal}
use Rattle.laws.proofs.basics.Tests.{and_left, and_right, eqb_sym}
use Rattle.laws.proofs.basics.Enclosed.{has_append, encloses_body, part_body}
use Rattle.laws.proofs.writing.Written.{literal_segment, lone}
use Rattle.leaves.specs.declared.blocks.Stops.{Stops}
use Rattle.leaves.specs.Blocks.{free_of, passes}
use Rattle.strings.specs.Plain.{setting_stops, free_body, is_plain}

-- WHAT A FREE BYTE is not
module _ (σ : Settings) (b : ℕ) (f : free_of (setting_stops σ) b ≡ true) where
  no_quote : eqb b quote ≡ false
  unfolding free_of
  no_quote = not-true (eqb b quote) (and_left (not (eqb b quote)) (not (eqb b (setting_stops σ).second))
      (and_left (not (eqb b quote) && not (eqb b (setting_stops σ).second)) (not (eqb b 0)) f))

  no_escape : (σ.backslash && eqb b backslash) ≡ false
  unfolding free_of
  no_escape = go σ.backslash (not-true (eqb b (setting_stops σ).second)
      (and_right (not (eqb b quote)) (not (eqb b (setting_stops σ).second))
      (and_left (not (eqb b quote) && not (eqb b (setting_stops σ).second)) (not (eqb b 0)) f)))
    where
      go : (x : Bool) → eqb b (if x then backslash else quote) ≡ false → (x && eqb b backslash) ≡ false
      go true e = e
      go false e = refl

  no_nul : eqb b 0 ≡ false
  unfolding free_of
  no_nul = not-true (eqb b 0) (and_right (not (eqb b quote) && not (eqb b (setting_stops σ).second)) (not (eqb b 0)) f)

  free_keep : (t : List ℕ) → standard_step σ.backslash quote (b ∷ t) ≡ keep
  free_keep t = rw (no_escape, no_quote)

  free_spell : spell σ.backslash b ≡ b ∷ []
  unfolding spell
  free_spell = rw (no_quote, no_escape, no_nul, and-false σ.backslash)

-- A FREE BODY
module _ (σ : Settings) where
  free_plain : (v : List ℕ) → free_body σ v ≡ true → plain (walk (standard_step σ.backslash quote) 0 v) ≡ true
  free_plain [] h = refl
  free_plain (b ∷ v) h = rw (free_keep σ b (and_left (free_of (setting_stops σ) b) (free_body σ v) h) v)
      (free_plain v (and_right (free_of (setting_stops σ) b) (free_body σ v) h))

  free_spells : (v : List ℕ) → free_body σ v ≡ true → spells σ.backslash v ≡ v
  free_spells [] h = refl
  free_spells (b ∷ v) h =
      rw (free_spell σ b (and_left (free_of (setting_stops σ) b) (free_body σ v) h))
      (ap (b ∷◌) (free_spells v (and_right (free_of (setting_stops σ) b) (free_body σ v) h)))

  free_nul : (v : List ℕ) → free_body σ v ≡ true → has 0 v ≡ false
  free_nul [] h = refl
  free_nul (b ∷ v) h =
      rw (eqb_sym 0 b ∙ no_nul σ b (and_left (free_of (setting_stops σ) b) (free_body σ v) h))
      (free_nul v (and_right (free_of (setting_stops σ) b) (free_body σ v) h))

  -- between two marks
  module _ (v : List ℕ) (h : free_body σ v ≡ true) where
    abbrev text : List ℕ
    text = quote ∷ (v ++ (quote ∷ []))

    free_segment : segment σ text ≡ length text
    free_segment =
        let e : literal σ.backslash v ++ [] ≡ text =
        append-nil (literal σ.backslash v) ∙ ap (λ (x : List ℕ). quote ∷ (x ++ (quote ∷ []))) (free_spells v h) in
        let l : literal σ.backslash v ≡ text = ap (λ (x : List ℕ). quote ∷ (x ++ (quote ∷ []))) (free_spells v h) in
        sym (ap (segment σ) e) ∙ literal_segment σ v [] refl ∙ ap length l

    free_one : one σ text ≡ borrowed 1 (length text - 1)
    unfolding one spelling answer
    free_one = rw (has_append 0 v (quote ∷ []), free_nul v h, encloses_body quote v, part_body quote v, free_plain v h)

    free_read : read σ text ≡ borrowed 1 (length text - 1)
    free_read = lone σ text free_segment ∙ free_one

-- A TEXT that two marks enclose is its body between them
module _ (q : ℕ) (t : List ℕ) (h : encloses 0 q t ≡ true) where
  enclosed_long : 1 < length t
  unfolding encloses
  enclosed_long =
      ltb-true 1 (length t)
      (and_left (ltb 1 (length t)) (eqb (t ! 0) q) (and_left (ltb 1 (length t) && eqb (t ! 0) q) (eqb (t ! (length t - 1)) q) h))

  pub enclosed_is : t ≡ q ∷ (part 1 (length t - 1) t ++ (q ∷ []))
  unfolding encloses
  enclosed_is =
      let n = enclosed_long in
      let first : t ! 0 ≡ q =
      eqb-true (t ! 0) q (and_right (ltb 1 (length t)) (eqb (t ! 0) q) (and_left (ltb 1 (length t) && eqb (t ! 0) q) (eqb (t ! (length t - 1)) q) h)) in
      let last : t ! (length t - 1) ≡ q = eqb-true (t ! (length t - 1)) q (and_right (ltb 1 (length t) && eqb (t ! 0) q) (eqb (t ! (length t - 1)) q) h) in
      let u = drop 1 t in
      let k = length t - 1 - 1 in
      let i : k < length u = omega (arith, length-drop 1 t) in
      let place : 1 + k ≡ length t - 1 = omega arith in
      let end : get_or u k 0 ≡ q = get_or-drop 1 t k 0 ∙ ap (λ (j : ℕ). get_or t j 0) place ∙ last in
      let j : length u ≤ suc k = omega (arith, length-drop 1 t) in
      let rest : drop (suc k) u ≡ [] = drop_of_length-le u j in
      let tail : drop k u ≡ q ∷ [] = drop-cons u k 0 i ∙ rw (end, rest) in
      let z : 0 < length t = omega arith in
      drop-cons t 0 0 z ∙ rw first (ap (q ∷◌) (sym (take-append-drop k u) ∙ ap (take k u ++◌) tail))

module _ (σ : Settings) (t : List ℕ) (x : Bool) (e : x ≡ is_plain σ t) (y : x ≡ true) where
  both : (encloses 0 quote t && free_body σ (part 1 (length t - 1) t)) ≡ true
  unfolding is_plain
  both = sym e ∙ y

  pub plain_long : 1 ≤ length t
  plain_long = omega (arith, enclosed_long quote t (and_left (encloses 0 quote t) (free_body σ (part 1 (length t - 1) t)) both))

  plain_read : read σ t ≡ borrowed 1 (length t - 1)
  plain_read =
      let s = enclosed_is quote t (and_left (encloses 0 quote t) (free_body σ (part 1 (length t - 1) t)) both) in
      let v = part 1 (length t - 1) t in
      ap (read σ) s ∙ free_read σ v (and_right (encloses 0 quote t) (free_body σ v) both) ∙ ap (λ (w : List ℕ). borrowed 1 (length w - 1)) (sym s)

  pub plain_borrowed : (out : List ℕ) → Reads (read σ t) out (Ok (ReadText'.Borrowed 1 (length t - 1))) out
  plain_borrowed out = rw plain_read (record { answer = refl; buffer = refl })

-- AS THE CODE ASKS: two marks first, then the body
module _ (σ : Settings) (t : List ℕ) (x : Bool) (e : x ≡ encloses 0 quote t) where
  pub plain_not : not x ≡ true → false ≡ is_plain σ t
  unfolding is_plain
  plain_not y = rw (sym e ∙ not-true x y)

  pub plain_by : not x ≡ false → (k : Stops) → k ≡ setting_stops σ → (r : Bool)
      → r ≡ passes (free_of k) (length (take (length t - 1 - 1) (drop 1 t))) (take (length t - 1 - 1) (drop 1 t)) → r ≡ is_plain σ t
  unfolding is_plain
  plain_by y k ek r er = er ∙ rw ek (sym (rw (sym e ∙ not-false x y)))
