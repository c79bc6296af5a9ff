-- A reading of the text in a span, moved on to the span's place: that its places fit, as a text and as a range. Assumes nothing.
use mathlib.Core.Path.{◌≡◌, refl, sym, ap, ◌∙◌, subst}
use mathlib.Core.Bool.{Bool, true, false}
use mathlib.Core.List.{List}
use Prim.Native.Nat.{ℕ, ◌+◌, ◌<◌, ◌^◌}
use native.Mathlib.Omega.{arith}
use lib.Dec.{leb}
use lib.ListN.{length}
use mir.Syntax.{w64}
use mir.Val.{Fits}
use Rattle.meaning.specs.declared.Literal.{Literal}
use Rattle.meaning.specs.declared.Span.{Span}
use Rattle.meaning.specs.declared.ReadText.{ReadText}
use Rattle.meaning.specs.declared.ReadRefusal.{ReadRefusal}
use Rattle.meaning.specs.declared.ReadText.TheVariants as ReadText'
use Rattle.meaning.specs.declared.ReadRefusal.TheVariants as ReadRefusal'
use Rattle.meaning.specs.declared.Refusal.{Refusal}
use Rattle.meaning.specs.declared.Refusal.TheVariants as Refusal'
use Rattle.meaning.specs.declared.Text.{Text}
use Rattle.meaning.specs.declared.Text.TheVariants as Text'
use Rattle.meaning.specs.Bytes.{part}
use Rattle.std.specs.Prelude.{if◌then◌else◌}
use Rattle.meaning.specs.Reading.{Answer, borrowed, written, refused}
use Rattle.meaning.specs.Reads.{read_of, buffer_of, Reads}
use Rattle.meaning.specs.Answers.{Meets}
use Rattle.meaning.specs.Questions as Definition
use Rattle.meaning.specs.Questions.{told_as, told, range_as, ranged}
use Rattle.laws.proofs.questions.Ranges.{AnswerIn}
use Rattle.std.specs.Prelude.{Result, Ok, Err}
use Rattle.meaning.specs.declared.Part.{Part}
use Rattle.admitting.specs.Tests.{Tests}
use Rattle.questions.specs.Told.{told_by, range_by, InText}
use Rattle.questions.proofs.Spanned.{span_barred, span_passes, span_start, span_inside, span_length}
use Rattle.meaning.specs.Answers.{part_at}

-- A BORROWED RANGE lies in its text
of_borrowed : (m : ℕ) (a : Answer) (f u : ℕ) → read_of m a ≡ Ok (ReadText'.Borrowed f u) → a ≡ borrowed f u
of_borrowed m (borrowed g w) f u e = cc
of_borrowed m (written v) f u e = go (leb (length v) m) e
  where
    go : (x : Bool) → (if x then Ok (ReadText'.Written (length v)) else Err (ReadRefusal'.NoRoom (length v))) ≡ Ok (ReadText'.Borrowed f u) → written v ≡ borrowed f u
    go true h = let z : ◌≡◌ {A = ℕ} 0 1 = cc in absurd (omega arith)
    go false h = let z : ◌≡◌ {A = ℕ} 0 1 = cc in absurd (omega arith)
of_borrowed m (refused p) f u e = let z : ◌≡◌ {A = ℕ} 0 1 = cc in absurd (omega arith)

pub in_text : (s n m : ℕ) (a : Answer) (q : Result ReadText ReadRefusal) → q ≡ read_of m a → AnswerIn n a → s + n < 2 ^ 64 → InText s q
in_text s n m a q e i h = record {
  first = λ f u b. let k = subst (AnswerIn n) (of_borrowed m a f u (sym e ∙ b)) i in omega (arith, k.ordered, k.inside, h);
  last = λ f u b. let k = subst (AnswerIn n) (of_borrowed m a f u (sym e ∙ b)) i in omega (arith, k.inside, h);
}

module _ {s : ℕ} {q : Result ReadText ReadRefusal} (i : InText s q) (f u : ℕ) (b : q ≡ Ok (ReadText'.Borrowed f u)) where
  pub first_fits : Fits w64 (s + f)
  first_fits = record { fits = i.first f u b }

  pub last_fits : Fits w64 (s + u)
  last_fits = record { fits = i.last f u b }

-- AS A RANGE
module _ (bad : Refusal) (s : ℕ) (q : Result ReadText ReadRefusal) where
  pub range_refused : (p : ℕ) → q ≡ Err (ReadRefusal'.At p) → Err bad ≡ range_by bad s q
  range_refused p e = ap (range_by bad s) (sym e)

told_as_lem : (bad : ℕ → Refusal) (s : ℕ) (out : List ℕ) (a : Answer)
    → told_by bad s (read_of (length out) a) ≡ (told_as bad s out a).answer
told_as_lem bad s out (borrowed f u) = refl
told_as_lem bad s out (written v) = go (leb (length v) (length out))
  where
    go : (x : Bool)
        → told_by bad s (if x then Ok (ReadText'.Written (length v)) else Err (ReadRefusal'.NoRoom (length v)))
        ≡ (if x then Ok (Text'.Written (length v)) else Err (Refusal'.NoRoom (length v)))
    go true = refl
    go false = refl
told_as_lem bad s out (refused p) = refl

told_buffer : (bad : ℕ → Refusal) (s : ℕ) (out : List ℕ) (a : Answer) → buffer_of out a ≡ (told_as bad s out a).buffer
told_buffer bad s out (borrowed f u) = refl
told_buffer bad s out (written v) = refl
told_buffer bad s out (refused p) = refl

range_as_lem : (bad : Refusal) (s m : ℕ) (a : Answer) → range_by bad s (read_of m a) ≡ range_as bad s a
range_as_lem bad s m (borrowed f u) = refl
range_as_lem bad s m (written v) = go (leb (length v) m)
  where
    go : (x : Bool) → range_by bad s (if x then Ok (ReadText'.Written (length v)) else Err (ReadRefusal'.NoRoom (length v))) ≡ Err bad
    go true = refl
    go false = refl
range_as_lem bad s m (refused p) = refl

-- A READER f of the text that the tests pass
module _ (f : List ℕ → Answer) {l : Literal} {S : List ℕ} {r : Result Part Refusal} {x : Definition.Tested} (v : Tests l S r x) where
  -- no sum wraps
  pub fits_text : (π : Part) → r ≡ Ok π → ((t : List ℕ) → AnswerIn (length t) (f t)) → length S < 2 ^ 64 → (m : ℕ) (d : Result ReadText ReadRefusal)
      → d ≡ read_of m (f (part π.start π.end S)) → InText π.start d
  fits_text π q i h m d k =
      in_text π.start (length (part π.start π.end S)) m (f (part π.start π.end S)) d k (i (part π.start π.end S)) (omega (arith, span_length v π q, span_inside v π q))

  -- as a text, with the place where a refused reading stops
  module _ (bad : Span → ℕ → Refusal) where
    pub told_barred : (out : List ℕ) (w : Refusal) → r ≡ Err w → Meets (told f bad l out x) (Err w) out
    told_barred out w q = rw (span_barred v w q) (record { answer = refl; buffer = refl })

    pub told_meets : (π : Part) → r ≡ Ok π → (out after : List ℕ) (d : Result ReadText ReadRefusal) → Reads (f (part π.start π.end S)) out d after → (a : Result Text Refusal)
        → a ≡ told_by (bad l.span) π.start d → Meets (told f bad l out x) a after
    told_meets π q out after d k a ea = rw (span_passes v π q) (record {
      answer = ea ∙ ap (λ (n : ℕ). told_by b n d) (span_start v π q)
          ∙ ap (told_by b l.span.start) k.answer ∙ told_as_lem b l.span.start out (f (part π.start π.end S));
      buffer = k.buffer ∙ told_buffer b l.span.start out (f (part π.start π.end S));
    })
      where
        b : ℕ → Refusal
        b = bad l.span

  -- as a range
  module _ (bad : Span → Refusal) where
    pub ranged_barred : (w : Refusal) → r ≡ Err w → Err w ≡ ranged f bad l x
    ranged_barred w q = rw (span_barred v w q)

    pub ranged_is : (π : Part) → r ≡ Ok π → (m : ℕ) (d : Result ReadText ReadRefusal) → d ≡ read_of m (f (part π.start π.end S)) → (a : Result Part Refusal) → a ≡ range_by (bad l.span) π.start d
        → a ≡ ranged f bad l x
    ranged_is π q m d k a ea = rw (span_passes v π q)
        (ea ∙ ap (λ (n : ℕ). range_by b n d) (span_start v π q) ∙ ap (range_by b l.span.start) k ∙ range_as_lem b l.span.start m (f (part π.start π.end S)))
      where
        b : Refusal
        b = bad l.span
