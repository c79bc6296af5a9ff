-- What the answers of string reading mean, and what is owed of the buffer. Assumes nothing.
use Rattle.std.specs.Prelude.{◌≡◌, List, ◌++◌, ℕ, ◌+◌, ◌≤◌, length, drop, Result, Ok, Err}
use Rattle.meaning.specs.declared.Settings.{Settings}
use Rattle.meaning.specs.declared.ReadText.{ReadText}
use Rattle.meaning.specs.declared.ReadRefusal.{ReadRefusal}
use Rattle.meaning.specs.declared.ReadText.TheVariants.{Borrowed, Written}
use Rattle.meaning.specs.declared.ReadRefusal.TheVariants.{At, NoRoom}
use Rattle.meaning.specs.Bytes.{part}
use Rattle.meaning.specs.Walk.{walk}
use Rattle.meaning.specs.Steps.{unicode_step}
use Rattle.meaning.specs.Spelling.{unicode_spelling}
use Rattle.meaning.specs.Reading.{Answer, borrowed, refused, Value, means, fails, answer, one, as_written}
use Rattle.meaning.specs.Reads.{buffer_of}
use Rattle.meaning.specs.Helpers.{if_unicode}
use Rattle.escapes.specs.Families.{course_of}
use Rattle.spellings.specs.declared.spelling.Body.{Body}
use Rattle.spellings.specs.declared.spelling.Spelled.{Spelled}
use Rattle.spellings.specs.declared.spelling.Spelled.TheVariants as Spelled'
use Rattle.spellings.specs.Spelled.{escape_of}
use Rattle.strings.specs.declared.joined.Stop.{Stop}

-- A BODY of t, and what it means; it and its escape character's part lie in a text of n bytes
abbrev pub body_of : List ℕ → Body → Answer
body_of t b = answer b.from b.until (course_of b.family (escape_of t b.escape_from b.escape_until) (part b.from b.until t))

pub record BodyInside (n : ℕ) (b : Body) : Type 0 where
  pub ordered : b.from ≤ b.until
  pub within : b.until ≤ n
  pub escape_ordered : b.escape_from ≤ b.escape_until
  pub escape_within : b.escape_until ≤ n

-- a text as it is spelled: where a body lies, and what is read then
abbrev pub SpelledInside : ℕ → Spelled → Type 0
SpelledInside n (Spelled'.Body b) = BodyInside n b
SpelledInside n (Spelled'.Dollar f u) = Unit {0}
SpelledInside n Spelled'.Unspelt = Unit {0}

abbrev pub spelled_as : List ℕ → Spelled → Answer
spelled_as t (Spelled'.Body b) = body_of t b
spelled_as t (Spelled'.Dollar f u) = borrowed f u
spelled_as t Spelled'.Unspelt = refused 0

-- so spelled, it is read as the text that is read as one
pub record SpellsAlone (σ : Settings) (t : List ℕ) (s : Spelled) : Type 0 where
  pub inside : SpelledInside (length t) s
  pub means : one σ t ≡ spelled_as t s

-- what was read of a part from f up to u, on the text that holds it; and the place that it tells
abbrev pub placed_of : ℕ → ℕ → Result ReadText ReadRefusal → Result ReadText ReadRefusal
placed_of f u (Ok (Borrowed a b)) = Ok (Borrowed f u)
placed_of f u (Ok (Written n)) = Ok (Written n)
placed_of f u (Err (At p)) = Err (At (f + p))
placed_of f u (Err (NoRoom n)) = Err (NoRoom n)

abbrev pub place_of : Result ReadText ReadRefusal → ℕ
place_of (Ok (Borrowed a b)) = 0
place_of (Ok (Written n)) = 0
place_of (Err (At p)) = p
place_of (Err (NoRoom n)) = 0

-- U& with the mark q
unfoldable pub lexeme_of : ℕ → List ℕ → Answer
lexeme_of q t = if_unicode (λ e f u. answer f u (walk (unicode_step e q) 0 (part f u t))) (refused 0) (unicode_spelling q t)

-- A VALUE's length, or where it fails
abbrev pub stop_at : ℕ → Stop
stop_at p = record { place = p }

abbrev pub length_of : Value → Result ℕ Stop
length_of (means v) = Ok (length v)
length_of (fails p) = Err (stop_at p)

-- it is put at the buffer's start, if there is room
pub record PutsValue (x : Value) (out : List ℕ) (r : Result ℕ Stop) (after : List ℕ) : Type 0 where
  pub answer : r ≡ length_of x
  pub buffer : after ≡ buffer_of out (as_written x)

-- of a value that is put part by part, only what is left where there is room for all of it is said
pub record PutsAll (x : Value) (out : List ℕ) (r : Result ℕ Stop) (after : List ℕ) : Type 0 where
  pub answer : r ≡ length_of x
  pub buffer : (v : List ℕ) → x ≡ means v → length v ≤ length out → after ≡ v ++ drop (length v) out
