-- Demand 2 of the order, over the questions: "What our writer writes reads back as its value at the same setting." Assumes nothing.
use mathlib.Core.Path.{◌≡◌, ◌∙◌}
use mathlib.Core.Bool.{true}
use mathlib.Core.List.{List}
use Prim.Native.Nat.{ℕ, ◌+◌, ◌≤◌, ◌<◌}
use lib.ListN.{length, take}
use Rattle.meaning.specs.declared.Settings.{Settings}
use Rattle.meaning.specs.declared.PartSize.{PartSize}
use Rattle.meaning.specs.declared.Literal.{Literal}
use Rattle.meaning.specs.Chars.{utf8}
use Rattle.meaning.specs.Questions.{is_string, string_question}
use Rattle.meaning.specs.Writer.{over_limit, unwritable_nul, written_text, write_question}
use Rattle.laws.proofs.questions.Asked.{Spans}
use Rattle.laws.proofs.questions.Ranges.{Answered, back_answered}
use Rattle.laws.proofs.writing.Writers.{writes_all, written_passed, Wrote, writes_wrote}
use Rattle.laws.proofs.writing.WriterParts.{Accepted, accepted_writes}
use Rattle.laws.proofs.writing.WriterText.{written_text_joins}
use Rattle.std.specs.Prelude.{Ok}

module _ (σ : Settings) (size : PartSize) (v out : List ℕ) where
  -- the writer writes a value that it accepts, where there is room
  pub writer_answers : Accepted σ size v → length (written_text σ size v) ≤ length out
      → (write_question σ size v out).answer ≡ Ok (length (written_text σ size v))
  writer_answers a r = rw (accepted_writes σ size v out a ∙ writes_all (written_text σ size v) out r)

  -- and none other
  pub written_accepted : (n : ℕ) → (write_question σ size v out).answer ≡ Ok n → Accepted σ size v
  unfolding write_question
  written_accepted n e =
      let p = written_passed (over_limit size v) (utf8 v) (unwritable_nul σ v) (written_text σ size v) out n e in
      record { limit = p.limit; valid = p.valid; nul = p.nul }

  module _ (n : ℕ) (answered : (write_question σ size v out).answer ≡ Ok n) where
    accepted : Accepted σ size v
    accepted = written_accepted n answered

    pub written_wrote : Wrote (written_text σ size v) n (write_question σ size v out).buffer
    written_wrote =
        rw (accepted_writes σ size v out accepted) (writes_wrote (written_text σ size v) out n (rw (accepted_writes σ size v out accepted) at answered))

    -- THE ROUND TRIP: the bytes written, in a span of any source, and a buffer with room for the value. Where n is but two more than the value's length, they
    -- are the value between two quote marks (`WriterText.written_borrowed`), and no room is asked for
    pub writer_round_trip : (l : Literal) (S d : List ℕ) → is_string l.kind ≡ true → Spans l S (take n (write_question σ size v out).buffer)
        → (length v + 2 < n → length v ≤ length d) → Answered S v (string_question l S σ d)
    writer_round_trip l S d k h r =
        let j = written_text_joins σ size v accepted in
        back_answered l S σ d k (rw written_wrote.text at h) j.valid j.back (rw written_wrote.size at r)
