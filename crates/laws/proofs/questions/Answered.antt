-- "Accepted" as a question says it: a string question answers a text and shows a value exactly when the text is UTF-8 and means that value. So the joining law
-- holds of texts that questions accepted, whatever literals, sources and buffers these were asked with. Assumes nothing.
use mathlib.Core.Path.{◌≡◌, refl, ap, sym, ◌∙◌}
use mathlib.Core.Bool.{Bool, true, false}
use mathlib.Core.List.{List, ◌++◌}
use Prim.Native.Nat.{ℕ, ◌+◌, ◌-◌, ◌≤◌, ◌<◌}
use native.Mathlib.Omega.{arith}
use lib.Dec.{leb}
use lib.ListN.{length, drop, length-drop, length-take}
use borrow.Author.Tests.{leb-true}
use Rattle.meaning.specs.declared.Settings.{Settings}
use Rattle.meaning.specs.declared.Literal.{Literal}
use Rattle.meaning.specs.declared.Refusal.{Refusal}
use Rattle.meaning.specs.declared.Refusal.TheVariants.{WrongKind, MissingSource, InvalidSourceRange, NotUtf8, InvalidInteger, InvalidString}
use Rattle.meaning.specs.declared.Refusal.TheVariants.{InvalidBitString, InvalidMoney, NoRoom, InvalidDate}
use Rattle.meaning.specs.declared.Text.TheVariants.{Written}
use Rattle.meaning.specs.Bytes.{◌!◌, part, is_mark}
use Rattle.std.specs.Prelude.{if◌then◌else◌}
use Rattle.meaning.specs.Chars.{utf8}
use Rattle.meaning.specs.Cutting.{complete}
use Rattle.meaning.specs.Reading.{Answer, borrowed, written, refused, means, value_of, read}
use Rattle.meaning.specs.Answers.{refusal_number, text_number, shown, filled}
use Rattle.meaning.specs.Questions.{is_string, told_as, string_question}
use Rattle.laws.proofs.questions.Asked.{Spans, string_question_reads, string_question_not_utf8}
use Rattle.laws.proofs.joining.JoiningLaw.{Accepts, Gap, joining_law}
use Rattle.laws.proofs.questions.Ranges.{Bounds, AnswerIn, read_inside, part_inside, span_range, part_shown_range, filled_shows}
use Rattle.std.specs.Prelude.{Ok, Err}

-- no refusal has the number 0
refusal_some : (r : Refusal) → 0 < refusal_number r
refusal_some (WrongKind e k) = omega arith
refusal_some (MissingSource s) = omega arith
refusal_some (InvalidSourceRange s) = omega arith
refusal_some (NotUtf8 s) = omega arith
refusal_some (InvalidInteger s) = omega arith
refusal_some (InvalidString s p) = omega arith
refusal_some (InvalidBitString s) = omega arith
refusal_some (InvalidMoney s) = omega arith
refusal_some (NoRoom n) = omega arith
refusal_some (InvalidDate s) = omega arith

-- what is shown of a reading that is answered is what the text means
pub told_shows : (bad : ℕ → Refusal) (s e : ℕ) (S out : List ℕ) → Bounds (length S) s e → (a : Answer) → AnswerIn (length (part s e S)) a
    → text_number (told_as bad s out a).answer ≡ 0
    → value_of (part s e S) a ≡ means (shown S (told_as bad s out a).buffer (told_as bad s out a).answer)
told_shows bad s e S out r (borrowed f u) i k =
    let n : length (part s e S) ≤ length S - s = rw (length-take, length-drop) (omega arith) in
    ap means (sym (part_shown_range (s + f) (s + u) S (record { ordered = omega arith; inside = omega arith }) ∙ part_inside s e f u S i))
told_shows bad s e S out r (written w) i k = go (leb (length w) (length out)) refl k
  where
    go : (x : Bool) → leb (length w) (length out) ≡ x → text_number (if x then Ok (Written (length w)) else Err (NoRoom (length w))) ≡ 0
        → means w ≡ means (shown S (filled w out) (if x then Ok (Written (length w)) else Err (NoRoom (length w))))
    go true h k = ap means (sym (filled_shows w out (leb-true (length w) (length out) h)))
    go false h k = absurd (omega arith)
told_shows bad s e S out r (refused p) i k = absurd (omega (arith, refusal_some (bad p)))

pub answered_accepts : (l : Literal) (S t : List ℕ) (σ : Settings) (out : List ℕ) → is_string l.kind ≡ true → Spans l S t
    → text_number (string_question l S σ out).answer ≡ 0
    → Accepts σ t (shown S (string_question l S σ out).buffer (string_question l S σ out).answer)
answered_accepts l S t σ out k h n = go (utf8 t) refl
  where
    go : (x : Bool) → utf8 t ≡ x → Accepts σ t (shown S (string_question l S σ out).buffer (string_question l S σ out).answer)
    go false u = let z = rw (string_question_not_utf8 l S t σ out k h u) at n in absurd (omega arith)
    go true u =
        let q = string_question_reads l S t σ out k h u in
        let z : text_number (told_as (InvalidString l.span) l.span.start out (read σ t)).answer ≡ 0 = rw q at n in
        let w = told_shows (InvalidString l.span) l.span.start l.span.end S out (span_range l.span S h.fits) (read σ t) (rw h.text (read_inside σ t)) z in
        record { valid = u; value = rw q (rw h.text at w) }

-- some question, at a setting, answered the text t and showed v
pub record AnsweredAs (σ : Settings) (t v : List ℕ) : Type 0 where
  pub literal : Literal
  pub source : List ℕ
  pub buffer : List ℕ
  pub kind : is_string literal.kind ≡ true
  pub spans : Spans literal source t
  pub answered : text_number (string_question literal source σ buffer).answer ≡ 0
  pub shows : shown source (string_question literal source σ buffer).buffer (string_question literal source σ buffer).answer ≡ v

pub answered_as_accepts : (σ : Settings) (t v : List ℕ) → AnsweredAs σ t v → Accepts σ t v
answered_as_accepts σ t v a = rw a.shows at (answered_accepts a.literal a.source t σ a.buffer a.kind a.spans a.answered)

-- THE JOINING LAW of texts that were answered
pub joining_answered : (σ : Settings) (A G B v w : List ℕ) → AnsweredAs σ A v → complete σ A ≡ true → Gap G → AnsweredAs σ B w → complete σ B ≡ true
    → is_mark (B ! 0) ≡ true
    → (l : Literal) (S out : List ℕ) → is_string l.kind ≡ true → Spans l S (A ++ (G ++ B)) → length (v ++ w) ≤ length out
    → string_question l S σ out ≡ record { answer = Ok (Written (length (v ++ w))); buffer = (v ++ w) ++ drop (length (v ++ w)) out }
joining_answered σ A G B v w a ca g b cb m =
    joining_law σ A G B v w (record { accepts = answered_as_accepts σ A v a; whole = ca }) g (record { accepts = answered_as_accepts σ B w b; whole = cb }) m
