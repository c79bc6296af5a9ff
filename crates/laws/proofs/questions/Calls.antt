-- The demands, of what calls return. A call's result and final buffer are whatever its contract permits (`Meets`), so each law holds of the string question
-- and of the writer as a user calls them, whatever the rest of the buffers held. Assumes nothing.
use mathlib.Core.Path.{◌≡◌, sym, ◌∙◌}
use mathlib.Core.Bool.{true}
use mathlib.Core.List.{List, [], ◌∷◌, ◌++◌}
use Prim.Native.Nat.{ℕ, suc, ◌+◌, ◌≤◌, ◌<◌}
use lib.ListN.{length, take}
use Rattle.meaning.specs.declared.Settings.{Settings}
use Rattle.meaning.specs.declared.PartSize.{PartSize}
use Rattle.meaning.specs.declared.Literal.{Literal}
use Rattle.meaning.specs.declared.Text.{Text}
use Rattle.meaning.specs.declared.WritingError.{WritingError}
use Rattle.meaning.specs.declared.Form.{Form}
use Rattle.meaning.specs.Bytes.{◌!◌, is_mark}
use Rattle.meaning.specs.Cutting.{complete}
use Rattle.meaning.specs.Answers.{Meets, text_number, shown}
use Rattle.meaning.specs.Questions.{is_string, string_question}
use Rattle.meaning.specs.Writer.{write_question}
use Rattle.meaning.specs.Forms.{form_opening, form_question}
use Rattle.laws.proofs.questions.Asked.{Spans}
use Rattle.laws.proofs.utf8.Utf8.{utf8_join}
use Rattle.laws.proofs.utf8.WhiteUtf8.{white_utf8}
use Rattle.laws.proofs.joining.JoiningLaw.{Accepts, Complete, Gap, join_read}
use Rattle.laws.proofs.questions.Answered.{answered_accepts}
use Rattle.laws.proofs.questions.Ranges.{Answered, string_answered}
use Rattle.laws.proofs.joining.Parts.{Part, text_of, Next, chain, all_of}
use Rattle.laws.proofs.writing.WriterParts.{Accepted}
use Rattle.laws.proofs.writing.WrittenParts.{Each, each_of, Sized, PartAccepted, CutInto, chain_answered, parts_accepted}
use Rattle.laws.proofs.writing.RoundTrip.{writer_answers, written_accepted, written_wrote, writer_round_trip}
use Rattle.laws.proofs.writing.FormRoundTrip.{form_round_trip}
use Rattle.std.specs.Prelude.{Result}
use Rattle.meaning.specs.declared.Refusal.{Refusal}
use Rattle.std.specs.Prelude.{Ok}

-- A CALL of the string question on the text t: what went in, and what came out
pub record StringCall (σ : Settings) (t : List ℕ) : Type 0 where
  pub literal : Literal
  pub source : List ℕ
  pub lent : List ℕ
  pub kind : is_string literal.kind ≡ true
  pub spans : Spans literal source t
  pub result : Result Text Refusal
  pub after : List ℕ
  pub contract : Meets (string_question literal source σ lent) result after

-- it was answered, and v is shown
pub record Shows {σ : Settings} {t : List ℕ} (c : StringCall σ t) (v : List ℕ) : Type 0 where
  pub number : text_number c.result ≡ 0
  pub value : shown c.source c.after c.result ≡ v

pub shows_by : {σ : Settings} {t : List ℕ} (c : StringCall σ t) (v : List ℕ)
    → Answered c.source v (string_question c.literal c.source σ c.lent) → Shows c v
shows_by c v a = record {
  number = rw c.contract.answer a.number;
  value = rw (c.contract.answer, c.contract.buffer) a.shows;
}

-- A CALL of the writer
pub record WriterCall (σ : Settings) (size : PartSize) (v : List ℕ) : Type 0 where
  pub lent : List ℕ
  pub result : Result ℕ WritingError
  pub after : List ℕ
  pub contract : Meets (write_question σ size v lent) result after

-- what a call showed is what its text means
pub call_accepts : {σ : Settings} {t v : List ℕ} (c : StringCall σ t) → Shows c v → Accepts σ t v
call_accepts {σ} {t} {v} c s =
    let n : text_number (string_question c.literal c.source σ c.lent).answer ≡ 0 = rw c.contract.answer at s.number in
    let w = answered_accepts c.literal c.source t σ c.lent c.kind c.spans n in
    let e = rw (c.contract.answer, c.contract.buffer) at s.value in
    rw e at w

-- THE JOINING LAW: "it is accepted and means A's value followed by B's"
pub joining_calls : (σ : Settings) (A G B v w : List ℕ) (a : StringCall σ A) (b : StringCall σ B) → Shows a v → Shows b w → complete σ A ≡ true
    → complete σ B ≡ true → Gap G → is_mark (B ! 0) ≡ true → (c : StringCall σ (A ++ (G ++ B))) → length (v ++ w) ≤ length c.lent → Shows c (v ++ w)
joining_calls σ A G B v w a b sa sb ca cb g m c r =
    let x : Complete σ A v = record { accepts = call_accepts a sa; whole = ca } in
    let y : Complete σ B w = record { accepts = call_accepts b sb; whole = cb } in
    let z : Accepts σ (A ++ (G ++ B)) (v ++ w) =
    record { valid = utf8_join A G B x.accepts.valid (white_utf8 G g.white) y.accepts.valid; value = rw (join_read σ A G B v w x g y m) } in
    shows_by c (v ++ w) (string_answered c.literal c.source (A ++ (G ++ B)) (v ++ w) σ c.lent c.kind c.spans z r)

-- THE ROUND TRIP: what a call of the writer wrote, asked in a span of any source, shows the value. It needs room only if it is longer than the value and its
-- two marks: else it is borrowed
pub round_trip_calls : (σ : Settings) (size : PartSize) (v : List ℕ) (w : WriterCall σ size v) (n : ℕ) → w.result ≡ Ok n
    → (c : StringCall σ (take n w.after)) → (length v + 2 < n → length v ≤ length c.lent) → Shows c v
round_trip_calls σ size v w n e c r =
    shows_by c v
    (writer_round_trip σ size v w.lent n (sym w.contract.answer ∙ e) c.literal c.source c.lent c.kind
    (rw w.contract.buffer at c.spans) r)

-- IN A FORM, E or U&: what a call wrote shows the value at every setting. It needs room only if it is longer than the value, its opening and its mark
pub record FormCall (f : Form) (v : List ℕ) : Type 0 where
  pub lent : List ℕ
  pub result : Result ℕ WritingError
  pub after : List ℕ
  pub contract : Meets (form_question f v lent) result after

pub form_calls : (f : Form) (v : List ℕ) (w : FormCall f v) (n : ℕ) → w.result ≡ Ok n → (σ : Settings) (c : StringCall σ (take n w.after))
    → (length v + suc (length (form_opening f)) < n → length v ≤ length c.lent) → Shows c v
form_calls f v w n e σ c r =
    shows_by c v
    (form_round_trip f v w.lent n (sym w.contract.answer ∙ e) σ c.literal c.source c.lent c.kind
    (rw w.contract.buffer at c.spans) r)

-- PARTS of a value, each by a call of the writer that wrote it, at a part size of its own
pub record PartWritten (σ : Settings) (q : Part) : Type 0 where
  pub call : WriterCall σ q.size q.value
  pub count : ℕ
  pub wrote : call.result ≡ Ok count

module _ (σ : Settings) (q : Part) (w : PartWritten σ q) where
  answered : (write_question σ q.size q.value w.call.lent).answer ≡ Ok w.count
  answered = sym w.call.contract.answer ∙ w.wrote

  -- such a call wrote the part's text, and the writer accepts the part
  part_text : take w.count w.call.after ≡ text_of σ q
  part_text = rw w.call.contract.buffer (written_wrote σ q.size q.value w.call.lent w.count answered).text

  part_taken : PartAccepted σ q
  part_taken = written_accepted σ q.size q.value w.call.lent w.count answered

-- the bytes that the calls wrote, with white space between
abbrev pub calls_chain : (σ : Settings) (p : Part) (xs : List Next) → Each (PartWritten σ) p xs → List ℕ
calls_chain σ p [] w = take w.count w.call.after
calls_chain σ p (x ∷ xs) w = take w.0.count w.0.call.after ++ ((x.first ∷ x.rest) ++ calls_chain σ x.part xs w.1)

calls_chain_is : (σ : Settings) (p : Part) (xs : List Next) (w : Each (PartWritten σ) p xs) → calls_chain σ p xs w ≡ chain σ p xs
calls_chain_is σ p [] w = part_text σ p w
calls_chain_is σ p (x ∷ xs) w = rw (part_text σ p w.0, calls_chain_is σ x.part xs w.1)

-- asked in a span of any source, they show the value. (Each part that a call wrote is UTF-8: so the value was cut between characters.) They need room as above
pub parts_calls : (σ : Settings) (v : List ℕ) (p : Part) (xs : List Next) → all_of p xs ≡ v
    → (w : Each (PartWritten σ) p xs) (c : StringCall σ (calls_chain σ p xs w)) → (length v + 2 < length (calls_chain σ p xs w) → length v ≤ length c.lent)
    → Shows c v
parts_calls σ v p xs e w c r =
    shows_by c v
    (rw e at (chain_answered σ p xs (each_of (PartWritten σ) (PartAccepted σ) (part_taken σ) p xs w) c.literal c.source c.lent c.kind
    (rw (calls_chain_is σ p xs w) at c.spans) (rw (e, ← calls_chain_is σ p xs w) r)))

-- and such calls are to be had of a value that the writer accepts, cut between characters: each call of the writer on a part, with room for its text, wrote it
abbrev pub Writes : Settings → Part → Type 0
Writes σ q = (w : WriterCall σ q.size q.value) → length (text_of σ q) ≤ length w.lent → w.result ≡ Ok (length (text_of σ q))

pub parts_calls_write : (σ : Settings) (size : PartSize) (v : List ℕ) (p : Part) (xs : List Next) → Accepted σ size v → CutInto v p xs → Each Sized p xs
    → Each (Writes σ) p xs
parts_calls_write σ size v p xs a i s =
    each_of (PartAccepted σ) (Writes σ) (λ q b w r. w.contract.answer ∙ writer_answers σ q.size q.value w.lent b r) p xs
    (parts_accepted σ size v p xs a i s)
