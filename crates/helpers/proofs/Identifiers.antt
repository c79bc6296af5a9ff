-- The identifier question by what reading the bare text said. Assumes nothing.
use mathlib.Core.Path.{◌≡◌, refl, ap, sym, ◌∙◌}
use mathlib.Core.Bool.{Bool, true, false, not}
use mathlib.Core.List.{List}
use Prim.Native.Nat.{ℕ}
use lib.Dec.{leb}
use lib.ListN.{length}
use borrow.Author.Tests.{not-true, not-false}
use Rattle.meaning.specs.declared.ReadText.{ReadText}
use Rattle.meaning.specs.declared.ReadRefusal.{ReadRefusal}
use Rattle.meaning.specs.declared.ReadText.TheVariants as ReadText'
use Rattle.meaning.specs.declared.ReadRefusal.TheVariants as ReadRefusal'
use Rattle.std.specs.Prelude.{if◌then◌else◌}
use Rattle.meaning.specs.Chars.{utf8}
use Rattle.meaning.specs.Reading.{Answer, borrowed, written, refused}
use Rattle.meaning.specs.Answers.{Meets}
use Rattle.meaning.specs.Reads.{read_of, buffer_of, Reads}
use Rattle.meaning.specs.Helpers.{ident}
use Rattle.meaning.specs.Questions.{identifier_as, identifier_question}
use Rattle.std.specs.Prelude.{Result, Ok, Err}
use Rattle.meaning.specs.declared.Text.{Text}
use Rattle.meaning.specs.declared.Text.TheVariants as Text'
use Rattle.meaning.specs.declared.IdentifierError.{IdentifierError}
use Rattle.meaning.specs.declared.IdentifierError.TheVariants as IdentifierError'

-- what was read, as the question's answer: a refusal's place is not told
abbrev identifier_of : Result ReadText ReadRefusal → Result Text IdentifierError
identifier_of (Ok (ReadText'.Borrowed f u)) = Ok (Text'.Borrowed f u)
identifier_of (Ok (ReadText'.Written n)) = Ok (Text'.Written n)
identifier_of (Err (ReadRefusal'.At p)) = Err IdentifierError'.InvalidString
identifier_of (Err (ReadRefusal'.NoRoom n)) = Err (IdentifierError'.NoRoom n)

answer_of : (out : List ℕ) (a : Answer) → identifier_of (read_of (length out) a) ≡ (identifier_as out a).answer
answer_of out (borrowed f u) = refl
answer_of out (written v) = go (leb (length v) (length out))
  where
    go : (x : Bool) → identifier_of (if x then Ok (ReadText'.Written (length v)) else Err (ReadRefusal'.NoRoom (length v)))
        ≡ (if x then Ok (Text'.Written (length v)) else Err (IdentifierError'.NoRoom (length v)))
    go true = refl
    go false = refl
answer_of out (refused p) = refl

buffer_of_lem : (out : List ℕ) (a : Answer) → buffer_of out a ≡ (identifier_as out a).buffer
buffer_of_lem out (borrowed f u) = refl
buffer_of_lem out (written v) = refl
buffer_of_lem out (refused p) = refl

module _ (t out : List ℕ) (x : Bool) (ex : x ≡ utf8 t) where
  pub identifier_bytes : not x ≡ true → Meets (identifier_question t out) (Err IdentifierError'.NotUtf8) out
  unfolding identifier_question
  identifier_bytes n = rw (← ex, not-true x n) (record { answer = refl; buffer = refl })

  module _ (n : not x ≡ false) (r : Result ReadText ReadRefusal) (after : List ℕ) (k : Reads (ident t) out r after) where
    identifier_by : (s : Result ReadText ReadRefusal) → r ≡ s → Meets (identifier_question t out) (identifier_of s) after
    unfolding identifier_question
    identifier_by s q =
        rw (← ex, not-false x n)
        (record { answer = ap identifier_of (sym q ∙ k.answer) ∙ answer_of out (ident t); buffer = k.buffer ∙ buffer_of_lem out (ident t) })

    pub identifier_borrowed : (f u : ℕ) → r ≡ Ok (ReadText'.Borrowed f u) → Meets (identifier_question t out) (Ok (Text'.Borrowed f u)) after
    identifier_borrowed f u q = identifier_by (Ok (ReadText'.Borrowed f u)) q

    pub identifier_written : (m : ℕ) → r ≡ Ok (ReadText'.Written m) → Meets (identifier_question t out) (Ok (Text'.Written m)) after
    identifier_written m q = identifier_by (Ok (ReadText'.Written m)) q

    pub identifier_refused : (p : ℕ) → r ≡ Err (ReadRefusal'.At p) → Meets (identifier_question t out) (Err IdentifierError'.InvalidString) after
    identifier_refused p q = identifier_by (Err (ReadRefusal'.At p)) q

    pub identifier_short : (m : ℕ) → r ≡ Err (ReadRefusal'.NoRoom m) → Meets (identifier_question t out) (Err (IdentifierError'.NoRoom m)) after
    identifier_short m q = identifier_by (Err (ReadRefusal'.NoRoom m)) q
