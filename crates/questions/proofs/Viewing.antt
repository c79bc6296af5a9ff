-- What is shown of an answer, by its case: which part of which slice. Assumes nothing.
use mathlib.Core.Path.{◌≡◌, sym, subst}
use mathlib.Core.List.{List, []}
use Prim.Native.Nat.{ℕ}
use denote.Ref.{Bor}
use Rattle.meaning.specs.declared.Refusal.{Refusal}
use Rattle.meaning.specs.declared.Text.{Text}
use Rattle.meaning.specs.declared.Text.TheVariants as Text'
use Rattle.meaning.specs.Answers.{IsPart, part_shown, part_place, shown, shown_place, range_shown, range_place, charset_shown, charset_place}
use Rattle.std.specs.Prelude.{Result, Ok, Err}
use Rattle.meaning.specs.declared.Part.{Part}
use Rattle.meaning.specs.Answers.{part_at}
use Rattle.std.specs.Prelude.{Option, Some, None}

module _ (S out r : Bor (List ℕ)) (a : Result Text Refusal) where
  abbrev TextShown : Result Text Refusal → Type 0
  TextShown b = IsPart (shown S.now out.now b) (shown_place S out b) r

  pub shown_borrowed : (f u : ℕ) → a ≡ Ok (Text'.Borrowed f u) → IsPart (part_shown f u S.now) (part_place f u S) r → TextShown a
  shown_borrowed f u q p = subst TextShown (sym q) p

  pub shown_written : (n : ℕ) → a ≡ Ok (Text'.Written n) → IsPart (part_shown 0 n out.now) (part_place 0 n out) r → TextShown a
  shown_written n q p = subst TextShown (sym q) p

  pub shown_refused : (e : Refusal) → a ≡ Err e → r.now ≡ [] → r.ref_ptr ≡ S.ref_ptr → TextShown a
  shown_refused e q b p = subst TextShown (sym q) (record { bytes = b; place = p })

module _ (S r : Bor (List ℕ)) (a : Result Part Refusal) where
  abbrev RangeShown : Result Part Refusal → Type 0
  RangeShown b = IsPart (range_shown S.now b) (range_place S b) r

  pub range_refused : (e : Refusal) → a ≡ Err e → r.now ≡ [] → r.ref_ptr ≡ S.ref_ptr → RangeShown a
  range_refused e q b p = subst RangeShown (sym q) (record { bytes = b; place = p })

  -- of another range that is this one
  pub range_as_lem : (b : Result Part Refusal) → b ≡ a → RangeShown b → RangeShown a
  range_as_lem b q p = subst RangeShown q p

module _ (S r : Bor (List ℕ)) (a : Result (Option Part) Refusal) where
  abbrev CharsetShown : Result (Option Part) Refusal → Type 0
  CharsetShown b = IsPart (charset_shown S.now b) (charset_place S b) r

  pub charset_unnamed : a ≡ Ok None → r.now ≡ [] → r.ref_ptr ≡ S.ref_ptr → CharsetShown a
  charset_unnamed q b p = subst CharsetShown (sym q) (record { bytes = b; place = p })

  pub charset_as : (b : Result (Option Part) Refusal) → b ≡ a → CharsetShown b → CharsetShown a
  charset_as b q p = subst CharsetShown q p
