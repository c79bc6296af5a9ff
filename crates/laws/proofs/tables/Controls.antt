-- [01 What the contracts owe] "Shut out": each wrong program of document 01's list, refuted once for every question that is lent a buffer, by a closed input
-- that the question writes text for; and such an input of the string question. `ControlsOfAll` has the other questions'. Assumes nothing.
use mathlib.Core.Path.{◌≡◌, refl, ap, sym, ◌∙◌}
use mathlib.Core.Bool.{Bool, true, false}
use mathlib.Core.List.{List, [], ◌∷◌, ◌++◌}
use Prim.Native.Nat.{ℕ, suc, ◌<◌}
use native.Mathlib.Omega.{arith}
use lib.ListN.{length, replicate}
use Rattle.meaning.specs.declared.Settings.{Settings}
use Rattle.meaning.specs.declared.LiteralKind.{LiteralKind}
use Rattle.meaning.specs.declared.LiteralKind.TheVariants as Kind
use Rattle.meaning.specs.declared.Literal.{Literal}
use Rattle.meaning.specs.declared.Text.{Text}
use Rattle.meaning.specs.Bytes.{◌!◌, ascii, within, is_mark}
use Rattle.meaning.specs.Chars.{lead, utf8, is_space}
use Rattle.meaning.specs.Steps.{doubled}
use Rattle.meaning.specs.Cutting.{off, on, named, segment, segment_step, cut, continues}
use Rattle.meaning.specs.Spelling.{encloses, spelling}
use Rattle.meaning.specs.Reading.{answer, one, read}
use Rattle.meaning.specs.Answers.{Outcome, Meets, text_number, text_values, part_shown, shown, filled}
use Rattle.meaning.specs.Questions.{cuts_character, bad_span, source_text, tested, string_question}
use Rattle.std.specs.Prelude.{Result}
use Rattle.meaning.specs.declared.Refusal.{Refusal}

-- A PROGRAM is a function from all that a question is given, x and the buffer, to its result and the final buffer; so is the question. `Right` is its contract
abbrev pub Program : Type 0 → Type 0 → Type 0
Program X A = X → List ℕ → Outcome A

abbrev pub Right : {X A : Type 0} → Program X A → Program X A → Type 0
Right question p = (x : _) (out : List ℕ) → Meets (question x out) (p x out).answer (p x out).buffer

-- the contract can be met, so no control is empty
pub right_by_definition : {X A : Type 0} (question : Program X A) → Right question question
right_by_definition question x out = record { answer = refl; buffer = refl }

-- what its answers are told by: document 01's number and values, and the text that is shown
pub record Telling (X A : Type 0) : Type 0 where
  pub number : A → ℕ
  pub values : A → List ℕ
  pub view : X → Outcome A → List ℕ

-- THE WRONG PROGRAMS. "one that refuses everything": none of its answers has the number 0
abbrev pub RefusesAll : {X A : Type 0} → Telling X A → Program X A → Type 0
RefusesAll told p = (x : _) (out : List ℕ) → 0 < told.number (p x out).answer

-- "or gives one constant"
abbrev pub GivesConstant : {X A : Type 0} → A → Program X A → Type 0
GivesConstant c p = (x : _) (out : List ℕ) → (p x out).answer ≡ c

-- "one that writes nothing and reports a length"
abbrev pub WritesNothing : {X A : Type 0} → Program X A → Type 0
WritesNothing p = (x : _) (out : List ℕ) → (p x out).buffer ≡ out

-- a buffer of zeros, one byte longer than a value
abbrev pub room : List ℕ → List ℕ
room v = replicate (suc (length v)) 0

-- AN INPUT that the question writes v for, which does not begin with a zero. With no buffer it gives 9, and the length of v
pub record WritesAt {X A : Type 0} (question : Program X A) (told : Telling X A) (x : X) (v : List ℕ) : Type 0 where
  pub begins : 0 < v ! 0
  pub answered : told.number (question x (room v)).answer ≡ 0
  pub leaves : (question x (room v)).buffer ≡ v ++ (0 ∷ [])
  pub shows : told.view x (question x (room v)) ≡ v
  pub short : told.number (question x []).answer ≡ 9
  pub needs : told.values (question x []).answer ≡ length v ∷ []

begins_apart : (v : List ℕ) → 0 < v ! 0 → v ++ (0 ∷ []) ≡ room v → ⊥
begins_apart [] h e = omega arith
begins_apart (b ∷ v) h e = let z : b ≡ 0 = ap (λ (t : List ℕ). t ! 0) e in omega arith

-- by such an input each is refuted of every right program
module _ {X A : Type 0} (question : Program X A) (told : Telling X A) (x : X) (v : List ℕ) (w : WritesAt question told x v) (p : Program X A)
    (right : Right question p) where
  pub no_refuse_all : RefusesAll told p → ⊥
  no_refuse_all h =
      let a : told.number (p x (room v)).answer ≡ 0 = ap told.number (right x (room v)).answer ∙ w.answered in
      let b = h x (room v) in omega arith

  pub no_constant : (c : A) → GivesConstant c p → ⊥
  no_constant c h =
      let e : (question x (room v)).answer ≡ (question x []).answer = sym (right x (room v)).answer ∙ h x (room v) ∙ sym (h x []) ∙ (right x []).answer in
      let z : ◌≡◌ {A = ℕ} 0 9 = sym w.answered ∙ ap told.number e ∙ w.short in omega arith

  pub no_write_nothing : WritesNothing p → ⊥
  no_write_nothing h = begins_apart v w.begins (sym w.leaves ∙ sym (right x (room v)).buffer ∙ h x (room v))

  -- "a made-up length in 9, which is the definition's length": what p tells with no buffer is the length of v
  pub no_made_up_length : (n : ℕ) → told.values (p x []).answer ≡ n ∷ [] → n ≡ length v
  no_made_up_length n h = let e : n ∷ [] ≡ length v ∷ [] = sym h ∙ ap told.values (right x []).answer ∙ w.needs in ap (λ (t : List ℕ). t ! 0) e

  -- of p nothing but v is shown
  pub shows_only : (u : List ℕ) → told.view x (p x (room v)) ≡ u → u ≡ v
  shows_only u e =
      let m = right x (room v) in
      let o : p x (room v) ≡ question x (room v) = λ i. record { answer = m.answer i; buffer = m.buffer i } in
      sym e ∙ ap (told.view x) o ∙ w.shows

  -- "one that reads the first segment and drops the later ones": so nothing that is shorter than v
  pub no_first_segment_only : (u : List ℕ) → length u < length v → told.view x (p x (room v)) ≡ u → ⊥
  no_first_segment_only u h e = omega (arith, ap length (shows_only u e))

-- all five, of every right program
pub record ShutOut {X A : Type 0} (question : Program X A) (told : Telling X A) (x : X) (v : List ℕ) : Type 0 where
  pub refuse_all : (p : Program X A) → Right question p → RefusesAll told p → ⊥
  pub constant : (p : Program X A) → Right question p → (c : A) → GivesConstant c p → ⊥
  pub write_nothing : (p : Program X A) → Right question p → WritesNothing p → ⊥
  pub made_up_length : (p : Program X A) → Right question p → (n : ℕ) → told.values (p x []).answer ≡ n ∷ [] → n ≡ length v
  pub first_segment_only : (p : Program X A) → Right question p → (u : List ℕ) → length u < length v → told.view x (p x (room v)) ≡ u → ⊥

pub shut_out : {X A : Type 0} {question : Program X A} {told : Telling X A} {x : X} {v : List ℕ} → WritesAt question told x v → ShutOut question told x v
shut_out {X} {A} {question} {told} {x} {v} w = record {
  refuse_all = no_refuse_all question told x v w;
  constant = no_constant question told x v w;
  write_nothing = no_write_nothing question told x v w;
  made_up_length = no_made_up_length question told x v w;
  first_segment_only = no_first_segment_only question told x v w;
}

-- a literal of a kind, and a string literal, that is all of its source
abbrev pub all_as : LiteralKind → List ℕ → Literal
all_as k t = record { kind = k; synthetic = false; span = record { start = 0; end = length t } }

abbrev pub all_of_it : List ℕ → Literal
all_of_it t = all_as Kind.String t

-- either setting
abbrev pub set : Bool → Settings
set true = on
set false = off

-- of a question that answers a text: the view shows the source's part or the buffer's
abbrev pub text_telling : {X : Type 0} → (X → List ℕ) → Telling X (Result Text Refusal)
text_telling source = record { number = text_number; values = text_values; view = λ x o. shown (source x) o.buffer o.answer }

-- THE STRING QUESTION writes ab for 'a' 'b'
abbrev pub on_string : Program (Literal × List ℕ × Settings) (Result Text Refusal)
on_string x out = string_question x.0 x.1 x.2 out

abbrev pub two : List ℕ
two = ascii "'a' 'b'"

pub string_writes : WritesAt on_string (text_telling (λ x. x.1)) (all_of_it two, two, off) (ascii "ab")
unfolding string_question tested source_text bad_span cuts_character within utf8 lead read continues segment is_mark segment_step cut is_space one spelling
    encloses answer doubled named filled part_shown
string_writes = record { begins = omega arith; answered = refl; leaves = refl; shows = refl; short = refl; needs = refl }

pub string_shut_out : ShutOut on_string (text_telling (λ x. x.1)) (all_of_it two, two, off) (ascii "ab")
string_shut_out = shut_out string_writes
