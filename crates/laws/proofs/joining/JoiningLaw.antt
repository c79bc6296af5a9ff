-- Demand 3 of the order: "Take accepted string texts A and B, at one backslash setting, each cutting completely into segments, B beginning with a
-- quote mark, at least one white-space character between. If the whole fits a span and the buffer has room, it is accepted and means A's
-- value followed by B's." Assumes nothing.
use mathlib.Core.Path.{◌≡◌, refl}
use mathlib.Core.Bool.{Bool, true, false}
use mathlib.Core.List.{List, ◌++◌}
use Prim.Native.Nat.{ℕ, ◌≤◌, ◌<◌}
use lib.Dec.{leb, le→leb}
use lib.ListN.{length, drop}
use Rattle.meaning.specs.declared.Settings.{Settings}
use Rattle.meaning.specs.declared.Literal.{Literal}
use Rattle.meaning.specs.declared.Text.TheVariants.{Written}
use Rattle.meaning.specs.Bytes.{◌!◌, is_mark}
use Rattle.meaning.specs.Chars.{utf8}
use Rattle.meaning.specs.Cutting.{complete}
use Rattle.meaning.specs.Reading.{means, written, read, meaning}
use Rattle.meaning.specs.Answers.{filled}
use Rattle.meaning.specs.Questions.{is_string, string_question}
use Rattle.laws.proofs.basics.Tests.{T→true}
use Rattle.laws.proofs.utf8.Utf8.{utf8_join}
use Rattle.laws.proofs.questions.Asked.{Spans, string_question_reads}
use Rattle.laws.proofs.joining.Joining.{White}
use Rattle.laws.proofs.utf8.WhiteUtf8.{white_utf8}
use Rattle.laws.proofs.joining.Ready.{joining_off}
use Rattle.laws.proofs.cutting.ClauseRefused.{joining_on_whole}
use Rattle.std.specs.Prelude.{Ok}

-- a text that is accepted and means v
pub record Accepts (σ : Settings) (t v : List ℕ) : Type 0 where
  pub valid : utf8 t ≡ true
  pub value : meaning σ t ≡ means v

-- and that cuts completely
pub record Complete (σ : Settings) (t v : List ℕ) : Type 0 where
  pub accepts : Accepts σ t v
  pub whole : complete σ t ≡ true

-- white space, at least one character of it
pub record Gap (g : List ℕ) : Type 0 where
  pub white : White g
  pub some : 0 < length g

-- what is read, at every setting
pub join_read : (σ : Settings) (A G B v w : List ℕ) → Complete σ A v → Gap G → Complete σ B w → is_mark (B ! 0) ≡ true
    → read σ (A ++ (G ++ B)) ≡ written (v ++ w)
join_read σ A G B v w a g b m = go σ.backslash refl
  where
    go : (s : Bool) → σ.backslash ≡ s → read σ (A ++ (G ++ B)) ≡ written (v ++ w)
    go false off = joining_off σ off A G B v w a.whole a.accepts.value b.whole b.accepts.value m g.white g.some
    go true on = joining_on_whole σ on A G B v w a.whole a.accepts.value b.whole b.accepts.value m g.white g.some

-- a text of which a value is written, where there is room
pub told_written : (l : Literal) (S t v : List ℕ) (σ : Settings) (out : List ℕ) → is_string l.kind ≡ true → Spans l S t → utf8 t ≡ true
    → read σ t ≡ written v → length v ≤ length out
    → string_question l S σ out ≡ record { answer = Ok (Written (length v)); buffer = v ++ drop (length v) out }
unfolding filled
told_written l S t v σ out k h u e r =
    rw (string_question_reads l S t σ out k h u, e, T→true (leb (length v) (length out)) (le→leb (length v) (length out) r))

-- THE LAW, over the string question
pub joining_law : (σ : Settings) (A G B v w : List ℕ) → Complete σ A v → Gap G → Complete σ B w → is_mark (B ! 0) ≡ true
    → (l : Literal) (S out : List ℕ) → is_string l.kind ≡ true → Spans l S (A ++ (G ++ B)) → length (v ++ w) ≤ length out
    → string_question l S σ out ≡ record { answer = Ok (Written (length (v ++ w))); buffer = (v ++ w) ++ drop (length (v ++ w)) out }
joining_law σ A G B v w a g b m l S out k h r =
    told_written l S (A ++ (G ++ B)) (v ++ w) σ out k h (utf8_join A G B a.accepts.valid (white_utf8 G g.white) b.accepts.valid)
    (join_read σ A G B v w a g b m) r
