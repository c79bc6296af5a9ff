-- [02 T-01] Over the questions: what the writer of forms refuses, in which order; and that what it writes reads back as its value, at every setting.
-- Assumes nothing.
use mathlib.Core.Path.{◌≡◌, ◌∙◌}
use mathlib.Core.Bool.{true, false}
use mathlib.Core.List.{List}
use Prim.Native.Nat.{ℕ, suc, ◌+◌, ◌≤◌, ◌<◌}
use lib.ListN.{length, take}
use Rattle.meaning.specs.declared.Settings.{Settings}
use Rattle.meaning.specs.declared.Form.{Form}
use Rattle.meaning.specs.declared.PartSize.TheVariants.{Whole}
use Rattle.meaning.specs.declared.Literal.{Literal}
use Rattle.meaning.specs.declared.WritingError.TheVariants.{OverLimit, NotUtf8, HoldsNul, NoRoom}
use Rattle.meaning.specs.Bytes.{has}
use Rattle.meaning.specs.Chars.{utf8}
use Rattle.meaning.specs.Questions.{is_string, string_question}
use Rattle.meaning.specs.Writer.{over_limit, writes}
use Rattle.meaning.specs.Forms.{form_opening, form_text, form_question}
use Rattle.laws.proofs.questions.Asked.{Spans}
use Rattle.laws.proofs.questions.Ranges.{Answered, back_answered}
use Rattle.laws.proofs.writing.Writers.{tried_limit, tried_utf8, tried_nul, tried_writes, writes_all, writes_none, written_passed, Wrote, writes_wrote}
use Rattle.laws.proofs.writing.WriterParts.{whole_within, whole_over}
use Rattle.laws.proofs.writing.FormText.{FormAccepted, form_text_utf8, form_back}
use Rattle.std.specs.Prelude.{Ok, Err}

module _ (f : Form) (v out : List ℕ) where
  pub form_accepted_writes : FormAccepted v → form_question f v out ≡ writes (form_text f v) out
  unfolding form_question
  form_accepted_writes a = tried_writes (over_limit Whole v) (utf8 v) (has 0 v) (form_text f v) out a.limit a.valid a.nul

  -- "Refusals: 12, 4, 11 (any NUL, at either setting), 9, in that order.": each whatever the later ones would say
  pub form_limit : 268435456 < length v → form_question f v out ≡ record { answer = Err OverLimit; buffer = out }
  unfolding form_question
  form_limit h = tried_limit (over_limit Whole v) (utf8 v) (has 0 v) (form_text f v) out (whole_over v h)

  pub form_utf8 : length v ≤ 268435456 → utf8 v ≡ false → form_question f v out ≡ record { answer = Err NotUtf8; buffer = out }
  unfolding form_question
  form_utf8 h = tried_utf8 (over_limit Whole v) (utf8 v) (has 0 v) (form_text f v) out (whole_within v h)

  pub form_nul : length v ≤ 268435456 → utf8 v ≡ true → has 0 v ≡ true → form_question f v out ≡ record { answer = Err HoldsNul; buffer = out }
  unfolding form_question
  form_nul h = tried_nul (over_limit Whole v) (utf8 v) (has 0 v) (form_text f v) out (whole_within v h)

  pub form_room : FormAccepted v → length out < length (form_text f v)
      → form_question f v out ≡ record { answer = Err (NoRoom (length (form_text f v))); buffer = out }
  form_room a h = form_accepted_writes a ∙ writes_none (form_text f v) out h

  -- the writer writes a value that it accepts, where there is room
  pub form_answers : FormAccepted v → length (form_text f v) ≤ length out → (form_question f v out).answer ≡ Ok (length (form_text f v))
  form_answers a r = rw (form_accepted_writes a ∙ writes_all (form_text f v) out r)

  -- and none other
  pub form_written_accepted : (n : ℕ) → (form_question f v out).answer ≡ Ok n → FormAccepted v
  unfolding form_question
  form_written_accepted n e =
      let p = written_passed (over_limit Whole v) (utf8 v) (has 0 v) (form_text f v) out n e in
      record { limit = p.limit; valid = p.valid; nul = p.nul }

  pub form_wrote : (n : ℕ) → (form_question f v out).answer ≡ Ok n → Wrote (form_text f v) n (form_question f v out).buffer
  form_wrote n e =
      let a = form_accepted_writes (form_written_accepted n e) in
      rw a (writes_wrote (form_text f v) out n (rw a at e))

-- THE ROUND TRIP: the bytes written, in a span of any source, read at any setting, and a buffer with room for the value. Where n is but the opening and
-- the mark more than the value's length, they are the opening, the value and the mark (`FormText.form_borrowed`), and no room is asked for
pub form_round_trip : (f : Form) (v out : List ℕ) (n : ℕ) → (form_question f v out).answer ≡ Ok n → (σ : Settings) (l : Literal) (S d : List ℕ)
    → is_string l.kind ≡ true → Spans l S (take n (form_question f v out).buffer) → (length v + suc (length (form_opening f)) < n → length v ≤ length d)
    → Answered S v (string_question l S σ d)
form_round_trip f v out n e σ l S d k h r =
    let a = form_written_accepted f v out n e in
    let w = form_wrote f v out n e in
    back_answered l S σ d k (rw w.text at h) (form_text_utf8 f v a) (form_back f v a σ) (rw w.size at r)
