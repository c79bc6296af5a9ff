-- Determinacy: two results that a contract permits, with their final buffers, are equal. Once for every question that is lent a buffer, once
-- for every question and helper that is lent none, over the answer's type and the question, once for the readers of bare texts, once
-- for blocks of items, and once for returned slices. Assumes nothing.
use Rattle.std.specs.Prelude.{Result}
use mathlib.Core.Path.{◌≡◌, sym, ◌∙◌}
use mathlib.Core.List.{List}
use Prim.Native.Nat.{ℕ}
use denote.Ref.{Bor}
use Rattle.meaning.specs.declared.ReadText.{ReadText}
use Rattle.meaning.specs.declared.ReadRefusal.{ReadRefusal}
use Rattle.meaning.specs.Reading.{Answer}
use Rattle.meaning.specs.Answers.{Outcome, Meets, IsPart}
use Rattle.meaning.specs.Reads.{Reads}
use Rattle.meaning.specs.Blocks.{BlockOutcome, Blocks}

pub record Same {A : Type 0} (r r' : A) (d d' : List ℕ) : Type 0 where
  pub answer : r ≡ r'
  pub buffer : d ≡ d'

pub meets_unique : {A : Type 0} (o : Outcome A) (r r' : A) (d d' : List ℕ) → Meets o r d → Meets o r' d' → Same r r' d d'
meets_unique o r r' d d' m n = record { answer = m.answer ∙ sym n.answer; buffer = m.buffer ∙ sym n.buffer }

-- without a buffer the contract is that the result is the definition's
pub answer_unique : {A : Type 0} (a r r' : A) → r ≡ a → r' ≡ a → r ≡ r'
answer_unique a r r' m n = m ∙ sym n

-- a reader of a bare text
pub reads_unique : (a : Answer) (out : List ℕ) (r r' : Result ReadText ReadRefusal) (d d' : List ℕ) → Reads a out r d → Reads a out r' d' → Same r r' d d'
reads_unique a out r r' d d' m n = record { answer = m.answer ∙ sym n.answer; buffer = m.buffer ∙ sym n.buffer }

-- a block of items: the call's number, and all that both lent slices hold
pub record SameBlock (r r' : ℕ) (a a' d d' : List ℕ) : Type 0 where
  pub result : r ≡ r'
  pub told : a ≡ a'
  pub buffer : d ≡ d'

pub blocks_unique : (o : BlockOutcome) (r r' : ℕ) (a a' d d' : List ℕ) → Blocks o r a d → Blocks o r' a' d' → SameBlock r r' a a' d d'
blocks_unique o r r' a a' d d' m n = record {
  result = m.result ∙ sym n.result;
  told = m.told ∙ sym n.told;
  buffer = m.buffer ∙ sym n.buffer;
}

-- a returned slice: the same bytes, at the same place
pub record SamePart (r r' : Bor (List ℕ)) : Type 0 where
  pub bytes : r.now ≡ r'.now
  pub place : r.ref_ptr ≡ r'.ref_ptr

pub part_unique : (v : List ℕ) (place : ℕ × ℕ) (r r' : Bor (List ℕ)) → IsPart v place r → IsPart v place r' → SamePart r r'
part_unique v place r r' m n = record { bytes = m.bytes ∙ sym n.bytes; place = m.place ∙ sym n.place }
