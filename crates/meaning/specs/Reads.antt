-- What reading a text into a buffer answers and leaves there, whatever the text is read as: a string, a number, bits, a date. Assumes nothing.
use Rattle.std.specs.Prelude.{◌≡◌, List, [], ℕ, length, Result, Ok, Err}
use Rattle.std.specs.Borrow.{Bor}
use Rattle.meaning.specs.declared.ReadText.{ReadText}
use Rattle.meaning.specs.declared.ReadRefusal.{ReadRefusal}
use Rattle.meaning.specs.declared.ReadText.TheVariants.{Borrowed, Written}
use Rattle.meaning.specs.declared.ReadRefusal.TheVariants.{At, NoRoom}
use Rattle.meaning.specs.Reading.{Answer, borrowed, written, refused}
use Rattle.meaning.specs.Answers.{Outcome, by_room, filled, part_shown, part_place}

-- THE RULE, for every question that is lent a buffer of m bytes: how each case of its answer is told
abbrev pub answer_by : {A : Type 0} → (ℕ → ℕ → A) → (ℕ → A) → (ℕ → A) → (ℕ → A) → ℕ → Answer → A
answer_by part long short bad m (borrowed f u) = part f u
answer_by part long short bad m (written v) = by_room long short (length v) m
answer_by part long short bad m (refused p) = bad p

abbrev pub buffer_of : List ℕ → Answer → List ℕ
buffer_of out (borrowed f u) = out
buffer_of out (written v) = filled v out
buffer_of out (refused p) = out

abbrev pub outcome_by : {A : Type 0} → (ℕ → ℕ → A) → (ℕ → A) → (ℕ → A) → (ℕ → A) → List ℕ → Answer → Outcome A
outcome_by part long short bad out a = record { answer = answer_by part long short bad (length out) a; buffer = buffer_of out a }

-- of a reader of bare text
abbrev pub read_of : ℕ → Answer → Result ReadText ReadRefusal
read_of m a = answer_by (λ f u. Ok (Borrowed f u)) (λ n. Ok (Written n)) (λ n. Err (NoRoom n)) (λ p. Err (At p)) m a

-- what the contract of a reader says: the answer, and every byte of the final buffer
pub record Reads (a : Answer) (out : List ℕ) (r : Result ReadText ReadRefusal) (after : List ℕ) : Type 0 where
  pub answer : r ≡ read_of (length out) a
  pub buffer : after ≡ buffer_of out a

-- either the text's part or the buffer's
abbrev pub read_shown : List ℕ → List ℕ → Result ReadText ReadRefusal → List ℕ
read_shown t out (Ok (Borrowed f u)) = part_shown f u t
read_shown t out (Ok (Written n)) = part_shown 0 n out
read_shown t out (Err (At p)) = []
read_shown t out (Err (NoRoom n)) = []

-- and where it stands
abbrev pub read_place : Bor (List ℕ) → Bor (List ℕ) → Result ReadText ReadRefusal → ℕ × ℕ
read_place text out (Ok (Borrowed f u)) = part_place f u text
read_place text out (Ok (Written n)) = part_place 0 n out
read_place text out (Err (At p)) = text.ref_ptr
read_place text out (Err (NoRoom n)) = text.ref_ptr
