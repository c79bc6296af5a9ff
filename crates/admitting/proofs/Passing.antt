-- The tests 2 to 4 by what the code learnt: each way out, and that a span which gives no 3 is a range. Assumes nothing.
use mathlib.Core.Path.{◌≡◌, refl, ap, sym, ◌∙◌, subst}
use mathlib.Core.Bool.{Bool, true, false, ◌&&◌, not, false≢true}
use borrow.Author.Tests.{not-true, not-false}
use mathlib.Core.List.{List}
use Prim.Native.Nat.{ℕ, ◌-◌, ◌≤◌}
use native.Mathlib.Omega.{arith}
use lib.ListN.{length, take, drop}
use Rattle.meaning.specs.declared.LiteralExpected.{LiteralExpected}
use Rattle.meaning.specs.declared.Span.{Span}
use Rattle.meaning.specs.declared.Literal.{Literal}
use Rattle.meaning.specs.declared.Refusal.TheVariants.{WrongKind, MissingSource, InvalidSourceRange, NotUtf8}
use Rattle.meaning.specs.Chars.{utf8}
use Rattle.meaning.specs.declared.Refusal.{Refusal}
use Rattle.meaning.specs.Bytes.{part}
use Rattle.std.specs.Prelude.{if◌then◌else◌}
use Rattle.meaning.specs.Questions.{passes, barred, bad_span, source_text, tested}
use Rattle.meaning.specs.Questions as Definition
use Rattle.laws.proofs.basics.Tests.{and_left, and_right}
use Rattle.laws.proofs.questions.Ranges.{span_range}
use Rattle.std.specs.Prelude.{Result, Ok, Err}
use Rattle.meaning.specs.declared.Part.{Part}
use Rattle.meaning.specs.Answers.{part_at}
use Rattle.admitting.specs.Tests.{is_placed, misplaced_of, located_of, SpanInside, Tests, Locates}

-- neither of the refusals 2 and 3 is 4
refused_same : {w v : Refusal} → ◌≡◌ {A = Result Part Refusal} (Err w) (Err v) → w ≡ v
refused_same q = cc

misplaced_told : (l : Literal) (s : Span) → misplaced_of l ≡ NotUtf8 s → ⊥
misplaced_told l s = go l.synthetic
  where
    go : (m : Bool) → (if m then MissingSource l.span else InvalidSourceRange l.span) ≡ NotUtf8 s → ⊥
    go true q = let z : ◌≡◌ {A = ℕ} 0 1 = cc in omega arith
    go false q = let z : ◌≡◌ {A = ℕ} 0 1 = cc in omega arith

module _ (l : Literal) (S : List ℕ) where
  -- THE PLACE, as the code asks
  module _ (p : Bool) (ep : p ≡ is_placed l S) where
    barred_by : not p ≡ true → barred (misplaced_of l) ≡ source_text l S
    unfolding source_text is_placed
    barred_by h = go l.synthetic (bad_span l.span S) refl refl
      where
        go : (m b : Bool) → l.synthetic ≡ m → bad_span l.span S ≡ b → barred (misplaced_of l) ≡ source_text l S
        go true b em eb = rw em
        go false true em eb = rw (em, eb)
        go false false em eb = let z : is_placed l S ≡ true = rw (em, eb) in absurd (false≢true (sym (not-true p h) ∙ ep ∙ z))

    pub unplaced : not p ≡ true → (w : Refusal) → w ≡ misplaced_of l → Tests l S (Err w) (source_text l S)
    unplaced h w ew = record { means = ap barred ew ∙ barred_by h; inside = tt }

    -- it is not misplaced
    module _ (h : not p ≡ false) where
      both : (not l.synthetic && not (bad_span l.span S)) ≡ true
      unfolding is_placed
      both = sym ep ∙ not-false p h

      sourced : l.synthetic ≡ false
      sourced = not-true l.synthetic (and_left (not l.synthetic) (not (bad_span l.span S)) both)

      good : bad_span l.span S ≡ false
      good = not-true (bad_span l.span S) (and_right (not l.synthetic) (not (bad_span l.span S)) both)

      pub ordered : l.span.start ≤ l.span.end
      ordered = (span_range l.span S good).ordered

      pub inside : l.span.end ≤ length S
      inside = (span_range l.span S good).inside

      module _ (v : Bool) (ev : v ≡ utf8 (take (l.span.end - l.span.start) (drop l.span.start S))) where
        pub undecoded : not v ≡ true → Tests l S (Err (NotUtf8 l.span)) (source_text l S)
        unfolding source_text
        undecoded y = rw (sourced, good, sym ev ∙ not-true v y) (record { means = refl; inside = tt })

        pub passed : not v ≡ false → Tests l S (Ok (part_at l.span.start l.span.end)) (source_text l S)
        unfolding source_text
        passed y = rw (sourced, good, sym ev ∙ not-false v y) (record { means = refl; inside = (refl, refl, ordered, inside) })

  -- A TEXT THAT IS LOCATED is UTF-8 or not
  module _ {x : Definition.Tested} (r : Result Part Refusal) (g : Locates l S r x) where
    pub barred_too : (w : Refusal) → r ≡ Err w → Tests l S (Err w) x
    barred_too w q = record { means = ap (located_of l S) (sym q) ∙ g.means; inside = tt }

    module _ (π : Part) (q : r ≡ Ok π) where
      pub range : SpanInside l (length S) (Ok π)
      range = subst (SpanInside l (length S)) q g.inside

      means : (v : Bool) → utf8 (part π.start π.end S) ≡ v → (if v then passes (part π.start π.end S) else barred (NotUtf8 l.span)) ≡ x
      means v ev = sym (ap (λ (z : Bool). if z then passes (part π.start π.end S) else barred (NotUtf8 l.span)) ev) ∙ ap (located_of l S) (sym q) ∙ g.means

      pub passed_too : utf8 (part π.start π.end S) ≡ true → Tests l S (Ok π) x
      passed_too y = record { means = means true y; inside = range }

      pub undecoded_too : utf8 (part π.start π.end S) ≡ false → Tests l S (Err (NotUtf8 l.span)) x
      undecoded_too y = record { means = means false y; inside = tt }

  -- THE KIND
  module _ (right : Bool) (e : LiteralExpected) where
    pub fitting : right ≡ true → (r : Result Part Refusal) → Tests l S r (source_text l S) → Tests l S r (tested right e l S)
    unfolding tested
    fitting h r t = rw h t

    -- before the text is tested
    module _ (h : not right ≡ false) (p : Bool) (ep : p ≡ is_placed l S) where
      pub located_not : not p ≡ true → (w : Refusal) → w ≡ misplaced_of l → Locates l S (Err w) (tested right e l S)
      unfolding tested
      located_not y w ew = rw (not-false right h) (record { means = ap barred ew ∙ barred_by p ep y; inside = tt; silent = λ s q. misplaced_told l s (sym ew ∙ refused_same q) })

      pub located : not p ≡ false → Locates l S (Ok (part_at l.span.start l.span.end)) (tested right e l S)
      unfolding tested source_text
      located y = rw (not-false right h) (rw (sourced p ep y, good p ep y) (record { means = refl; inside = (refl, refl, ordered p ep y, inside p ep y); silent = λ s q. let z : ◌≡◌ {A = ℕ} 0 1 = cc in omega arith }))

    pub unfitting_place : not right ≡ true → Locates l S (Err (WrongKind e l.kind)) (tested right e l S)
    unfolding tested
    unfitting_place h = rw (not-true right h) (record { means = refl; inside = tt; silent = λ s q. let z : ◌≡◌ {A = ℕ} 0 1 = cc in omega arith })

    pub unfitting : right ≡ false → Tests l S (Err (WrongKind e l.kind)) (tested right e l S)
    unfolding tested
    unfitting h = rw h (record { means = refl; inside = tt })
