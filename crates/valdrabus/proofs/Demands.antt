-- The demands, of what the C exports give back. A call is numbers and bytes: what went in, and whatever its contract permits to come out. Each law is that of
-- `laws`, `Calls`, of the call of a question that the contract says this call is. Assumes nothing.
use mathlib.Core.Path.{◌≡◌, refl, sym, ap, ◌∙◌}
use mathlib.Core.Bool.{true}
use mathlib.Core.List.{List, [], ◌∷◌, ◌++◌}
use Prim.Native.Nat.{ℕ, suc, ◌+◌, ◌≤◌, ◌<◌}
use native.Mathlib.Omega.{arith}
use lib.ListN.{length, take, length-append, length-drop}
use borrow.Author.Tests.{le-leb}
use Rattle.meaning.specs.declared.PartSize.{PartSize}
use Rattle.meaning.specs.declared.Form.{Form}
use Rattle.meaning.specs.declared.Text.{Text}
use Rattle.meaning.specs.declared.Text.TheVariants as Text'
use Rattle.meaning.specs.declared.WritingError.{WritingError}
use Rattle.meaning.specs.declared.WritingError.TheVariants as WritingError'
use Rattle.meaning.specs.Bytes.{◌!◌, is_mark}
use Rattle.meaning.specs.Cutting.{complete}
use Rattle.meaning.specs.Answers.{Outcome, text_number, shown}
use Rattle.meaning.specs.Questions.{string_question}
use Rattle.meaning.specs.Writer.{written_text, write_question}
use Rattle.meaning.specs.Forms.{form_opening, form_text, form_question}
use Rattle.laws.proofs.questions.Asked.{Spans}
use Rattle.laws.proofs.questions.Sources.{Agree, string_question_same}
use Rattle.laws.proofs.questions.Buffers.{TextLeaves, string_question_leaves}
use Rattle.laws.proofs.joining.JoiningLaw.{Gap}
use Rattle.laws.proofs.joining.Parts.{Part, Next, all_of}
use Rattle.laws.proofs.writing.WriterParts.{Accepted}
use Rattle.laws.proofs.writing.WrittenParts.{Each, each_of, Sized, PartAccepted, CutInto, parts_accepted}
use Rattle.laws.proofs.writing.RoundTrip.{writer_answers, written_accepted}
use Rattle.laws.proofs.writing.FormText.{FormAccepted}
use Rattle.laws.proofs.writing.FormRoundTrip.{form_answers, form_written_accepted}
use Rattle.laws.proofs.questions.Calls as Calls'
use Rattle.laws.proofs.questions.Calls.{StringCall, WriterCall, FormCall, PartWritten, calls_chain, joining_calls, round_trip_calls, form_calls, parts_calls}
use Rattle.meaning.specs.Codes.{literal_of, settings_of}
use Rattle.valdrabus.specs.Numbers.{text_told, writing_told, Tells, TellsPlace}
use Rattle.valdrabus.specs.Calls.{outcome_told, string_call, write_call, form_call, Lengths}
use Rattle.valdrabus.specs.Views as Views'
use Rattle.valdrabus.specs.Views.{viewed, view_call, view_bytes}
use Rattle.valdrabus.proofs.Numbering.{text_number_lem}
use Rattle.valdrabus.proofs.Viewing.{view_shows}
use Rattle.valdrabus.proofs.Determined.{place_unique}
use Rattle.std.specs.Prelude.{Result, Ok, Err}
use Rattle.meaning.specs.declared.Refusal.{Refusal}

-- A CALL of valdrabus_as_str_in on the text t, at the setting of number σ: the kind is 4, a String, and the mark 0, for not synthetic
pub record StringExport (σ : ℕ) (t : List ℕ) : Type 0 where
  pub start : ℕ
  pub end : ℕ
  pub source : List ℕ
  pub lent : List ℕ
  pub known : σ ≤ 1
  pub spans : Spans (literal_of 4 0 start end) source t
  pub result : ℕ
  pub how : ℕ
  pub first : ℕ
  pub second : ℕ
  pub place : ℕ
  pub after : List ℕ
  pub contract : TellsPlace (string_call 4 0 start end source σ lent) result how first second place after

-- it was answered, and the view of its numbers stands for v
pub record Shows {σ : ℕ} {t : List ℕ} (c : StringExport σ t) (v : List ℕ) : Type 0 where
  pub number : c.result ≡ 0
  pub value : view_bytes c.source c.after (view_call c.how c.first c.second (length c.source) (length c.after)) ≡ v

-- a buffer keeps its length
leaves_long : (out after : List ℕ) (a : Result Text Refusal) → TextLeaves out a after → length after ≡ length out
leaves_long out after (Ok (Text'.Borrowed f u)) l = ap length l
leaves_long out after (Ok (Text'.Written n)) l =
    let r = l.room in let z = l.size in ap length l.bytes ∙ simp (length-append, length-drop) (omega arith)
leaves_long out after (Err r) l = ap length l

module _ {σ : ℕ} {t : List ℕ} (c : StringExport σ t) where
  abbrev pub asked : Outcome (Result Text Refusal)
  asked = string_question (literal_of 4 0 c.start c.end) c.source (settings_of σ) c.lent

  pub tells_all : TellsPlace (outcome_told text_told asked) c.result c.how c.first c.second c.place c.after
  unfolding string_call
  tells_all = rw (le-leb σ 1 c.known) at c.contract

  pub tells_asked : Tells (outcome_told text_told asked) c.result c.how c.first c.second c.after
  tells_asked = tells_all.tells

  -- it is a call of the string question on that text, or on one that equals it
  abbrev pub string_call_lem : (t' : List ℕ) → t ≡ t' → StringCall (settings_of σ) t'
  string_call_lem t' e =
      record {
        literal = literal_of 4 0 c.start c.end;
        source = c.source;
        lent = c.lent;
        kind = refl;
        spans = rw e at c.spans;
        result = asked.answer;
        after = c.after;
        contract = record { answer = refl; buffer = tells_asked.buffer };
      }

  after_long : length c.after ≡ length c.lent
  after_long =
      ap length tells_asked.buffer
      ∙ leaves_long c.lent asked.buffer asked.answer
      (string_question_leaves (literal_of 4 0 c.start c.end) c.source c.lent (settings_of σ))

  result_is : c.result ≡ text_number asked.answer
  result_is = tells_asked.says.result ∙ text_number_lem asked.answer

  seen_is : view_bytes c.source c.after (view_call c.how c.first c.second (length c.source) (length c.after))
      ≡ shown c.source c.after asked.answer
  seen_is = rw (tells_asked.says.way, tells_asked.says.one, tells_asked.says.two) (view_shows c.source c.after asked.answer)

  module _ (v : List ℕ) where
    -- which shows v just where this one does
    pub shows_there : (t' : List ℕ) (e : t ≡ t') → Shows c v → Calls'.Shows (string_call_lem t' e) v
    shows_there t' e s = record { number = sym result_is ∙ s.number; value = sym seen_is ∙ s.value }

    pub shows_here : (t' : List ℕ) (e : t ≡ t') → Calls'.Shows (string_call_lem t' e) v → Shows c v
    shows_here t' e s = record { number = result_is ∙ s.number; value = seen_is ∙ s.value }

    -- valdrabus_view, asked with the numbers that came back and the lengths of what was lent, gives the range in which v stands
    pub view_exports : Shows c v → (which from until : ℕ)
        → Views'.Shows (view_call c.how c.first c.second (length c.source) (length c.lent)) which from until
        → view_bytes c.source c.after (viewed which from until) ≡ v
    view_exports s which from until x = rw (x.result, x.first, x.last, ← after_long) s.value

-- A CALL of valdrabus_write_literal on the value v, where the size is Whole, or of valdrabus_write_parts, where it is AtMost a number. If the result is 0, it
-- wrote the first len bytes of the buffer
pub record WriterExport (σ : ℕ) (size : PartSize) (v : List ℕ) : Type 0 where
  pub lent : List ℕ
  pub known : σ ≤ 1
  pub result : ℕ
  pub len : ℕ
  pub after : List ℕ
  pub contract : Lengths (write_call size v σ lent) result len after

zero_written : (a : Result ℕ WritingError) → (writing_told a).number ≡ 0 → a ≡ Ok (writing_told a).second
zero_written (Ok n) z = refl
zero_written (Err WritingError'.OverLimit) z = absurd (omega arith)
zero_written (Err WritingError'.NotUtf8) z = absurd (omega arith)
zero_written (Err WritingError'.HoldsNul) z = absurd (omega arith)
zero_written (Err (WritingError'.NoRoom n)) z = absurd (omega arith)

-- what the numbers of a writer say: 0, and the length, just where it wrote
told_wrote : {o : Outcome (Result ℕ WritingError)} {r len : ℕ} {after : List ℕ} → Lengths (outcome_told writing_told o) r len after → r ≡ 0 → o.answer ≡ Ok len
told_wrote {o} t z = rw t.long (zero_written o.answer (sym t.result ∙ z))

wrote_told : {o : Outcome (Result ℕ WritingError)} {r len : ℕ} {after : List ℕ} → Lengths (outcome_told writing_told o) r len after → (n : ℕ) → o.answer ≡ Ok n
    → (r ≡ 0) × (len ≡ n)
wrote_told t n e = (t.result ∙ ap (λ (a : Result ℕ WritingError). (writing_told a).number) e, t.long ∙ ap (λ (a : Result ℕ WritingError). (writing_told a).second) e)

module _ {σ : ℕ} {size : PartSize} {v : List ℕ} (w : WriterExport σ size v) where
  abbrev pub writing : Outcome (Result ℕ WritingError)
  writing = write_question (settings_of σ) size v w.lent

  pub tells_writing : Lengths (outcome_told writing_told writing) w.result w.len w.after
  unfolding write_call
  tells_writing = rw (le-leb σ 1 w.known) at w.contract

  -- it is a call of the writer, which wrote just where this one did
  abbrev pub writer_call : WriterCall (settings_of σ) size v
  writer_call = record { lent = w.lent; result = writing.answer; after = w.after; contract = record { answer = refl; buffer = tells_writing.buffer } }

  pub wrote_there : w.result ≡ 0 → writer_call.result ≡ Ok w.len
  wrote_there = told_wrote tells_writing

  pub wrote_here : (n : ℕ) → writer_call.result ≡ Ok n → (w.result ≡ 0) × (w.len ≡ n)
  wrote_here = wrote_told tells_writing

-- a value that is accepted is written, where there is room; and none other
abbrev pub Writes : (σ : ℕ) (size : PartSize) (v : List ℕ) → Type 0
Writes σ size v = (w : WriterExport σ size v) → length (written_text (settings_of σ) size v) ≤ length w.lent
    → (w.result ≡ 0) × (w.len ≡ length (written_text (settings_of σ) size v))

pub accepted_exports_write : (σ : ℕ) (size : PartSize) (v : List ℕ) → Accepted (settings_of σ) size v → Writes σ size v
accepted_exports_write σ size v a w r =
    wrote_here w (length (written_text (settings_of σ) size v)) (writer_answers (settings_of σ) size v w.lent a r)

pub written_exports_accepted : (σ : ℕ) (size : PartSize) (v : List ℕ) (w : WriterExport σ size v) → w.result ≡ 0 → Accepted (settings_of σ) size v
written_exports_accepted σ size v w z = written_accepted (settings_of σ) size v w.lent w.len (wrote_there w z)

-- THE JOINING LAW: "Take accepted string texts A and B, at one backslash setting, each cutting completely into segments, B beginning with a quote mark, at
-- least one white-space character between. If the whole fits a span and the buffer has room, it is accepted and means A's value followed by B's"
pub joining_exports : (σ : ℕ) (A G B v w : List ℕ) (a : StringExport σ A) (b : StringExport σ B) → Shows a v → Shows b w
    → complete (settings_of σ) A ≡ true → complete (settings_of σ) B ≡ true → Gap G → is_mark (B ! 0) ≡ true
    → (c : StringExport σ (A ++ (G ++ B))) → length (v ++ w) ≤ length c.lent → Shows c (v ++ w)
joining_exports σ A G B v w a b sa sb ca cb g m c room =
    shows_here c (v ++ w) (A ++ (G ++ B)) refl
    (joining_calls (settings_of σ) A G B v w (string_call_lem a A refl) (string_call_lem b B refl) (shows_there a v A refl sa) (shows_there b w B refl sb) ca cb g m
    (string_call_lem c (A ++ (G ++ B)) refl) room)

-- THE ROUND TRIP: "What our writer writes reads back as its value at the same setting". It needs room only if it is longer than the value and its two marks:
-- else it is borrowed
pub round_trip_exports : (σ : ℕ) (size : PartSize) (v : List ℕ) (w : WriterExport σ size v) → w.result ≡ 0
    → (c : StringExport σ (take w.len w.after)) → (length v + 2 < w.len → length v ≤ length c.lent) → Shows c v
round_trip_exports σ size v w z c room =
    shows_here c v (take w.len w.after) refl
    (round_trip_calls (settings_of σ) size v (writer_call w) w.len (wrote_there w z) (string_call_lem c (take w.len w.after) refl) room)

-- THE FORMS. A call of valdrabus_write_escape or valdrabus_write_unicode on the value v. If the result is 0, it wrote the first len bytes of the buffer
pub record FormExport (f : Form) (v : List ℕ) : Type 0 where
  pub lent : List ℕ
  pub result : ℕ
  pub len : ℕ
  pub after : List ℕ
  pub contract : Lengths (form_call f v lent) result len after

module _ {f : Form} {v : List ℕ} (w : FormExport f v) where
  abbrev pub forming : Outcome (Result ℕ WritingError)
  forming = form_question f v w.lent

  pub tells_forming : Lengths (outcome_told writing_told forming) w.result w.len w.after
  unfolding form_call
  tells_forming = w.contract

  abbrev pub form_call_lem : FormCall f v
  form_call_lem = record { lent = w.lent; result = forming.answer; after = w.after; contract = record { answer = refl; buffer = tells_forming.buffer } }

  -- a value that is accepted is written, where there is room; and none other
  pub accepted_forms_write : FormAccepted v → length (form_text f v) ≤ length w.lent → (w.result ≡ 0) × (w.len ≡ length (form_text f v))
  accepted_forms_write a r = wrote_told tells_forming (length (form_text f v)) (form_answers f v w.lent a r)

  pub written_forms_accepted : w.result ≡ 0 → FormAccepted v
  written_forms_accepted z = form_written_accepted f v w.lent w.len (told_wrote tells_forming z)

  -- "What either writes reads back as the value": at any setting, in a span of any source. It needs room only if it is longer than the value, its opening and
  -- its mark: else it is borrowed
  pub form_exports : w.result ≡ 0 → (σ : ℕ) (c : StringExport σ (take w.len w.after))
      → (length v + suc (length (form_opening f)) < w.len → length v ≤ length c.lent) → Shows c v
  form_exports z σ c room =
      shows_here c v (take w.len w.after) refl
      (form_calls f v form_call_lem w.len (told_wrote tells_forming z) (settings_of σ) (string_call_lem c (take w.len w.after) refl) room)

-- PARTS: "A value our writer accepts, cut between any characters, each part written and the parts joined so at that setting, reads back whole under the same
-- condition". Each part by a call of the writer that wrote it, at a part size of its own
pub record PartExport (σ : ℕ) (q : Part) : Type 0 where
  pub call : WriterExport σ q.size q.value
  pub wrote : call.result ≡ 0

-- the bytes that the calls wrote, with white space between
abbrev pub exports_chain : (σ : ℕ) (p : Part) (xs : List Next) → Each (PartExport σ) p xs → List ℕ
exports_chain σ p [] w = take w.call.len w.call.after
exports_chain σ p (x ∷ xs) w = take w.0.call.len w.0.call.after ++ ((x.first ∷ x.rest) ++ exports_chain σ x.part xs w.1)

abbrev part_written : (σ : ℕ) (q : Part) → PartExport σ q → PartWritten (settings_of σ) q
part_written σ q w = record { call = writer_call w.call; count = w.call.len; wrote = wrote_there w.call w.wrote }

abbrev parts_written : (σ : ℕ) (p : Part) (xs : List Next) → Each (PartExport σ) p xs → Each (PartWritten (settings_of σ)) p xs
parts_written σ p [] w = part_written σ p w
parts_written σ p (x ∷ xs) w = (part_written σ p w.0, parts_written σ x.part xs w.1)

exports_chain_is : (σ : ℕ) (p : Part) (xs : List Next) (w : Each (PartExport σ) p xs)
    → exports_chain σ p xs w ≡ calls_chain (settings_of σ) p xs (parts_written σ p xs w)
exports_chain_is σ p [] w = refl
exports_chain_is σ p (x ∷ xs) w = rw (exports_chain_is σ x.part xs w.1)

pub parts_exports : (σ : ℕ) (v : List ℕ) (p : Part) (xs : List Next) → all_of p xs ≡ v
    → (w : Each (PartExport σ) p xs) (c : StringExport σ (exports_chain σ p xs w))
    → (length v + 2 < length (exports_chain σ p xs w) → length v ≤ length c.lent) → Shows c v
parts_exports σ v p xs i w c room =
    let e = exports_chain_is σ p xs w in
    let t : List ℕ = calls_chain (settings_of σ) p xs (parts_written σ p xs w) in
    shows_here c v t e (parts_calls (settings_of σ) v p xs i (parts_written σ p xs w) (string_call_lem c t e) (rw e at room))

-- and such calls are to be had of a value that the writer accepts, cut between characters: each call of the writer on a part, with room for its text, writes it
abbrev pub PartWrites : (σ : ℕ) → Part → Type 0
PartWrites σ q = Writes σ q.size q.value

pub parts_exports_write : (σ : ℕ) (size : PartSize) (v : List ℕ) (p : Part) (xs : List Next) → Accepted (settings_of σ) size v → CutInto v p xs
    → Each Sized p xs → Each (PartWrites σ) p xs
parts_exports_write σ size v p xs a i s =
    each_of (PartAccepted (settings_of σ)) (PartWrites σ) (λ q. accepted_exports_write σ q.size q.value) p xs
    (parts_accepted (settings_of σ) size v p xs a i s)

-- AGREEMENT: "Two sources in neither of which a span gives 3, agreeing inside it, get the same answers with the same buffer", whatever the numbers say
module _ (k y s e : ℕ) (S S' : List ℕ) (a : Agree (literal_of k y s e) S S') (σ : ℕ) (out : List ℕ) where
  string_call_same : string_call k y s e S σ out ≡ string_call k y s e S' σ out
  unfolding string_call
  string_call_same = rw (string_question_same (literal_of k y s e) S S' a (settings_of σ) out)

  pub agreement_exports : (r r' h h' f f' u u' p p' : ℕ) (d d' : List ℕ) → TellsPlace (string_call k y s e S σ out) r h f u p d
      → TellsPlace (string_call k y s e S' σ out) r' h' f' u' p' d' → ((r ≡ r') × (h ≡ h') × (f ≡ f') × (u ≡ u')) × (p ≡ p') × (d ≡ d')
  agreement_exports r r' h h' f f' u u' p p' d d' m m' =
      let n : TellsPlace (string_call k y s e S' σ out) r h f u p d = rw string_call_same at m in place_unique n m'
