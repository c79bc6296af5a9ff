-- [01 Numbers an answer can carry] "Two sources in neither of which a span gives 3, agreeing inside it, get the same answers": of the slices that calls
-- return. They show the same bytes, equally far behind the start of their own source. One law over every range that lies in the span. Assumes nothing.
use mathlib.Core.Logic.{inl}
use mathlib.Core.Path.{◌≡◌, refl, ap, sym, ◌∙◌}
use mathlib.Core.Bool.{Bool, true, false}
use mathlib.Core.List.{List, []}
use Prim.Native.Nat.{ℕ, zero, suc, ◌+◌, ◌-◌, ◌≤◌}
use Prim.Native.Char.{code}
use native.Mathlib.Omega.{arith}
use lib.Dec.{eqb, leb}
use lib.ListN.{length, length-take, length-drop}
use borrow.Author.Tests.{leb-true, leb-false}
use denote.Ref.{Bor}
use Rattle.meaning.specs.declared.Span.{Span}
use Rattle.meaning.specs.declared.Literal.{Literal}
use Rattle.meaning.specs.declared.LiteralExpected.{LiteralExpected}
use Rattle.meaning.specs.declared.Refusal.{Refusal}
use Rattle.meaning.specs.declared.Refusal.TheVariants.{WrongKind, MissingSource, InvalidSourceRange, NotUtf8, InvalidMoney}
use Rattle.meaning.specs.Bytes.{◌!◌, part}
use Rattle.std.specs.Prelude.{if◌then◌else◌}
use Rattle.meaning.specs.Chars.{utf8}
use Rattle.meaning.specs.Cutting.{opening}
use Rattle.meaning.specs.Reading.{borrowed, refused}
use Rattle.meaning.specs.Kinds.{money, charset_end}
use Rattle.meaning.specs.Answers.{IsPart, part_shown, part_place, range_shown, range_place, charset_shown, charset_place}
use Rattle.meaning.specs.Questions.{Tested, passes, barred, bad_span, source_text, tested, range_as, ranged, source_question, money_question, named_as, charset_by}
use Rattle.meaning.specs.Questions.{charset_question}
use Rattle.laws.proofs.cutting.Openings.{mark_inside, opening_mark}
use Rattle.laws.proofs.questions.Views.{shown_fits, shown_none}
use Rattle.laws.proofs.questions.Sources as Sources'
use Rattle.laws.proofs.questions.Sources.{Agree}
use Rattle.laws.proofs.questions.Ranges.{Bounds, part_inside, span_range}
use Rattle.std.specs.Prelude.{Result, Ok, Err}
use Rattle.meaning.specs.declared.Part.{Part}
use Rattle.std.specs.Prelude.{Option, Some, None}

-- of two slices, each a part of its own source
pub record SameShown (s s' r r' : Bor (List ℕ)) : Type 0 where
  pub bytes : r.now ≡ r'.now
  pub offset : (n : ℕ) × (r.ref_ptr ≡ (s.ref_ptr.0, s.ref_ptr.1 + n)) × (r'.ref_ptr ≡ (s'.ref_ptr.0, s'.ref_ptr.1 + n))

-- a range that lies in a span
pub record Within (s : Span) (f u : ℕ) : Type 0 where
  pub begins : s.start ≤ f
  pub ends : u ≤ s.end

-- an answer's range
abbrev RangeIn : Span → Result Part Refusal → Type 0
RangeIn s (Ok π) = Within s π.start π.end
RangeIn s (Err w) = Unit {0}

abbrev NameIn : Span → Result (Option Part) Refusal → Type 0
NameIn s (Ok (Some π)) = Within s π.start π.end
NameIn s (Ok None) = Unit {0}
NameIn s (Err w) = Unit {0}

-- the name of a charset ends at a mark
pub charset_inside : (t : List ℕ) → charset_end t ≤ length t
unfolding charset_end
charset_inside t = go (eqb (t ! 0) (code "_")) (opening t) refl
  where
    go : (x : Bool) (n : ℕ) → opening t ≡ n → (if x then n - 1 else 0) ≤ length t
    go true zero h = omega arith
    go true (suc n) h = omega (arith, mark_inside t n (opening_mark t n h))
    go false n h = omega arith

-- WHERE THE ANSWERS LIE
module _ (l : Literal) (S : List ℕ) (fits : Bounds (length S) l.span.start l.span.end) where
  abbrev text : List ℕ
  text = part l.span.start l.span.end S

  text_length : length text ≡ l.span.end - l.span.start
  text_length = rw (length-take, length-drop) (omega arith)

  -- in the text is in the span
  text_within : (f u : ℕ) → u ≤ length text → Within l.span (l.span.start + f) (l.span.start + u)
  text_within f u h = let n = text_length in record { begins = omega arith; ends = omega arith }

  -- a test bars the question, or passes it the text in the span
  source_either : (P : Tested → Type 0) → P (passes text) → ((w : Refusal) → P (barred w)) → P (source_text l S)
  unfolding source_text
  source_either P p b = go l.synthetic (bad_span l.span S) (utf8 text)
    where
      go : (x y z : Bool) → P (if x then barred (MissingSource l.span) else if y then barred (InvalidSourceRange l.span)
          else if z then passes text else barred (NotUtf8 l.span))
      go true y z = b _
      go false true z = b _
      go false false true = p
      go false false false = b _

  tested_either : (P : Tested → Type 0) → P (passes text) → ((w : Refusal) → P (barred w)) → (right : Bool) (e : LiteralExpected) → P (tested right e l S)
  unfolding tested
  tested_either P p b true e = source_either P p b
  tested_either P p b false e = b (WrongKind e l.kind)

  source_in : RangeIn l.span (source_question l S)
  unfolding source_question
  source_in =
      source_either (λ x. RangeIn l.span (ranged (λ t. borrowed 0 (length t)) NotUtf8 l x)) (text_within 0 (length text) (omega arith)) (λ w. tt)

  money_in : RangeIn l.span (money_question l S)
  unfolding money_question money
  money_in = tested_either (λ x. RangeIn l.span (ranged money InvalidMoney l x)) (go (eqb (text ! 0) (code "$"))) (λ w. tt) _ _
    where
      go : (x : Bool) → RangeIn l.span (range_as (InvalidMoney l.span) l.span.start (if x then borrowed 1 (length text) else refused 0))
      go true = text_within 1 (length text) (omega arith)
      go false = tt

  charset_in : NameIn l.span (charset_question l S)
  unfolding charset_question
  charset_in = tested_either (λ x. NameIn l.span (charset_by l x)) (go (charset_end text) (charset_inside text)) (λ w. tt) _ _
    where
      go : (n : ℕ) → n ≤ length text → NameIn l.span (named_as l.span.start n)
      go zero h = tt
      go (suc n) h = text_within 1 (suc n) h

-- one literal in two sources, and a slice of each
module _ (l : Literal) (s s' : Bor (List ℕ)) (a : Agree l s.now s'.now) (r r' : Bor (List ℕ)) where
  fits : Bounds (length s.now) l.span.start l.span.end
  fits = span_range l.span s.now a.fits

  fits' : Bounds (length s'.now) l.span.start l.span.end
  fits' = span_range l.span s'.now a.fits'

  -- a range in the span has the same bytes in both
  same_bytes : (f u : ℕ) → Within l.span f u → f ≤ u → part f u s.now ≡ part f u s'.now
  same_bytes f u w o =
      let z : l.span.start + (f - l.span.start) ≡ f = omega arith in
      let y : l.span.start + (u - l.span.start) ≡ u = omega arith in
      let n = text_length l s.now fits in
      let n' = text_length l s'.now fits' in
      rw (z, y) at (
      part_inside l.span.start l.span.end (f - l.span.start) (u - l.span.start) s.now (record { ordered = omega arith; inside = omega arith })
      ∙ ap (part (f - l.span.start) (u - l.span.start)) a.inside
      ∙ sym (part_inside l.span.start l.span.end (f - l.span.start) (u - l.span.start) s'.now
      (record { ordered = omega arith; inside = omega arith }))
      )

  none_agrees : IsPart [] s.ref_ptr r → IsPart [] s'.ref_ptr r' → SameShown s s' r r'
  none_agrees h h' =
      let z : s.ref_ptr.1 + 0 ≡ s.ref_ptr.1 = omega arith in
      let z' : s'.ref_ptr.1 + 0 ≡ s'.ref_ptr.1 = omega arith in
      record { bytes = h.bytes ∙ sym h'.bytes; offset = (0, rw z h.place, rw z' h'.place) }

  -- THE LAW of any range that lies in the span; one that ends before it begins shows nothing, at the start of each
  pub part_agrees : (f u : ℕ) → Within l.span f u → IsPart (part_shown f u s.now) (part_place f u s) r
      → IsPart (part_shown f u s'.now) (part_place f u s') r' → SameShown s s' r r'
  part_agrees f u w h h' = go (leb f u) refl
    where
      go : (x : Bool) → leb f u ≡ x → SameShown s s' r r'
      go true o =
          let p = leb-true f u o in
          let m = shown_fits f u s r h p (omega (arith, fits.inside)) in
          let m' = shown_fits f u s' r' h' p (omega (arith, fits'.inside)) in
          record { bytes = m.bytes ∙ same_bytes f u w p ∙ sym m'.bytes; offset = (f, m.place, m'.place) }
      go false o = let p = leb-false f u o in none_agrees (shown_none f u s r h (inl p)) (shown_none f u s' r' h' (inl p))

  range_agrees : (q q' : Result Part Refusal) → q ≡ q' → RangeIn l.span q → IsPart (range_shown s.now q) (range_place s q) r
      → IsPart (range_shown s'.now q') (range_place s' q') r' → SameShown s s' r r'
  range_agrees (Ok π) q' e i h h' = part_agrees π.start π.end i h (rw (← e) at h')
  range_agrees (Err w) q' e i h h' = none_agrees h (rw (← e) at h')

  name_agrees : (q q' : Result (Option Part) Refusal) → q ≡ q' → NameIn l.span q → IsPart (charset_shown s.now q) (charset_place s q) r
      → IsPart (charset_shown s'.now q') (charset_place s' q') r' → SameShown s s' r r'
  name_agrees (Ok (Some π)) q' e i h h' = part_agrees π.start π.end i h (rw (← e) at h')
  name_agrees (Ok None) q' e i h h' = none_agrees h (rw (← e) at h')
  name_agrees (Err w) q' e i h h' = none_agrees h (rw (← e) at h')

  -- the three questions
  pub source_text_agrees : IsPart (range_shown s.now (source_question l s.now)) (range_place s (source_question l s.now)) r
      → IsPart (range_shown s'.now (source_question l s'.now)) (range_place s' (source_question l s'.now)) r' → SameShown s s' r r'
  source_text_agrees = range_agrees _ _ (Sources'.source_question_same l s.now s'.now a) (source_in l s.now fits)

  pub money_text_agrees : IsPart (range_shown s.now (money_question l s.now)) (range_place s (money_question l s.now)) r
      → IsPart (range_shown s'.now (money_question l s'.now)) (range_place s' (money_question l s'.now)) r' → SameShown s s' r r'
  money_text_agrees = range_agrees _ _ (Sources'.money_question_same l s.now s'.now a) (money_in l s.now fits)

  pub charset_text_agrees : IsPart (charset_shown s.now (charset_question l s.now)) (charset_place s (charset_question l s.now)) r
      → IsPart (charset_shown s'.now (charset_question l s'.now)) (charset_place s' (charset_question l s'.now)) r' → SameShown s s' r r'
  charset_text_agrees = name_agrees _ _ (Sources'.charset_question_same l s.now s'.now a) (charset_in l s.now fits)
