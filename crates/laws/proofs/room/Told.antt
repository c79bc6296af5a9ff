-- [01 Numbers an answer can carry] "9: text would be written, and the buffer is shorter." What holds of the length of all that a reading writes holds of the
-- length that the question tells, as written or as needed: once for every question that answers a text. So a buffer as long as such a length can be never gets
-- a 9. Assumes nothing.
use mathlib.Core.Path.{◌≡◌, refl, ap, sym, ◌∙◌}
use mathlib.Core.Bool.{Bool, true, false}
use mathlib.Core.List.{List}
use Prim.Native.Nat.{ℕ, ◌-◌, ◌≤◌, ◌<◌}
use native.Mathlib.Omega.{arith}
use lib.Dec.{leb}
use lib.ListN.{length, drop, length-take, length-drop}
use borrow.Author.Tests.{leb-true, leb-false}
use Rattle.meaning.specs.declared.LiteralExpected.{LiteralExpected}
use Rattle.meaning.specs.declared.Span.{Span}
use Rattle.meaning.specs.declared.Literal.{Literal}
use Rattle.meaning.specs.declared.Refusal.{Refusal}
use Rattle.meaning.specs.declared.Refusal.TheVariants.{WrongKind, MissingSource, InvalidSourceRange, NotUtf8, InvalidInteger, InvalidString}
use Rattle.meaning.specs.declared.Refusal.TheVariants.{InvalidBitString, InvalidMoney, NoRoom, InvalidDate}
use Rattle.meaning.specs.declared.Text.{Text}
use Rattle.meaning.specs.declared.Text.TheVariants as Text'
use Rattle.meaning.specs.Bytes.{part}
use Rattle.std.specs.Prelude.{if◌then◌else◌}
use Rattle.meaning.specs.Chars.{utf8}
use Rattle.meaning.specs.Reading.{Answer, borrowed, written, refused}
use Rattle.meaning.specs.Answers.{by_room, refusal_number, text_number, packed_number, identifier_number}
use Rattle.meaning.specs.Questions.{Tested, passes, barred, bad_span, source_text, tested, told_as, told}
use Rattle.laws.proofs.questions.Asked.{Spans}
use Rattle.laws.proofs.questions.Ranges.{span_range}
use Rattle.std.specs.Prelude.{Result, Ok, Err}
use Rattle.meaning.specs.declared.IdentifierError.{IdentifierError}
use Rattle.meaning.specs.declared.IdentifierError.TheVariants as IdentifierError'
use Rattle.meaning.specs.declared.PackedBits.{PackedBits}

-- A READING whose written values all have a length of which P holds
abbrev pub Writes : (ℕ → Type 0) → Answer → Type 0
Writes P (borrowed f u) = Unit {0}
Writes P (written v) = P (length v)
Writes P (refused p) = Unit {0}

-- AN ANSWER in a buffer of m bytes: of the length that it tells, P; and there is room for it exactly where it is told as written
abbrev pub RefusalNeeds : (ℕ → Type 0) → ℕ → Refusal → Type 0
RefusalNeeds P m (NoRoom n) = P n × (m < n)
RefusalNeeds P m (WrongKind e k) = Unit {0}
RefusalNeeds P m (MissingSource s) = Unit {0}
RefusalNeeds P m (InvalidSourceRange s) = Unit {0}
RefusalNeeds P m (NotUtf8 s) = Unit {0}
RefusalNeeds P m (InvalidInteger s) = Unit {0}
RefusalNeeds P m (InvalidString s p) = Unit {0}
RefusalNeeds P m (InvalidBitString s) = Unit {0}
RefusalNeeds P m (InvalidMoney s) = Unit {0}
RefusalNeeds P m (InvalidDate s) = Unit {0}

abbrev pub TextNeeds : (ℕ → Type 0) → ℕ → Result Text Refusal → Type 0
TextNeeds P m (Ok (Text'.Borrowed f u)) = Unit {0}
TextNeeds P m (Ok (Text'.Written n)) = P n × (n ≤ m)
TextNeeds P m (Err r) = RefusalNeeds P m r

abbrev pub PackedNeeds : (ℕ → Type 0) → ℕ → Result PackedBits Refusal → Type 0
PackedNeeds P m (Ok π) = P π.len × (π.len ≤ m)
PackedNeeds P m (Err r) = RefusalNeeds P m r

abbrev pub IdentifierNeeds : (ℕ → Type 0) → ℕ → Result Text IdentifierError → Type 0
IdentifierNeeds P m (Ok (Text'.Borrowed f u)) = Unit {0}
IdentifierNeeds P m (Ok (Text'.Written n)) = P n × (n ≤ m)
IdentifierNeeds P m (Err IdentifierError'.NotUtf8) = Unit {0}
IdentifierNeeds P m (Err IdentifierError'.InvalidString) = Unit {0}
IdentifierNeeds P m (Err (IdentifierError'.NoRoom n)) = P n × (m < n)

-- where each such length fits the buffer there is no 9
module _ (P : ℕ → Type 0) (m : ℕ) (fits : (n : ℕ) → P n → n ≤ m) where
  no_room : (n : ℕ) → P n × (m < n) → ⊥
  no_room n a = let g = fits n a.0 in let k = a.1 in omega arith

  refusal_never : (r : Refusal) → RefusalNeeds P m r → refusal_number r ≡ 9 → ⊥
  refusal_never (NoRoom n) a e = no_room n a
  refusal_never (WrongKind f k) a e = omega arith
  refusal_never (MissingSource s) a e = omega arith
  refusal_never (InvalidSourceRange s) a e = omega arith
  refusal_never (NotUtf8 s) a e = omega arith
  refusal_never (InvalidInteger s) a e = omega arith
  refusal_never (InvalidString s p) a e = omega arith
  refusal_never (InvalidBitString s) a e = omega arith
  refusal_never (InvalidMoney s) a e = omega arith
  refusal_never (InvalidDate s) a e = omega arith

  pub text_never : (a : Result Text Refusal) → TextNeeds P m a → text_number a ≡ 9 → ⊥
  text_never (Ok (Text'.Borrowed f u)) x e = omega arith
  text_never (Ok (Text'.Written n)) x e = omega arith
  text_never (Err r) x e = refusal_never r x e

  pub packed_never : (a : Result PackedBits Refusal) → PackedNeeds P m a → packed_number a ≡ 9 → ⊥
  packed_never (Ok π) x e = omega arith
  packed_never (Err r) x e = refusal_never r x e

  pub identifier_never : (a : Result Text IdentifierError) → IdentifierNeeds P m a → identifier_number a ≡ 9 → ⊥
  identifier_never (Ok (Text'.Borrowed f u)) x e = omega arith
  identifier_never (Ok (Text'.Written n)) x e = omega arith
  identifier_never (Err IdentifierError'.NotUtf8) x e = omega arith
  identifier_never (Err IdentifierError'.InvalidString) x e = omega arith
  identifier_never (Err (IdentifierError'.NoRoom n)) x e = no_room n x

-- a length is told as written where there is room for it, and else as needed
pub by_room_lem : {A : Type 0} (Q : A → Type 0) (long short : ℕ → A) (n m : ℕ) → (n ≤ m → Q (long n)) → (m < n → Q (short n)) → Q (by_room long short n m)
by_room_lem Q long short n m f g = go (leb n m) refl
  where
    go : (x : Bool) → leb n m ≡ x → Q (if x then long n else short n)
    go true e = f (leb-true n m e)
    go false e = g (leb-false n m e)

-- THE TESTS bar by no 9, and pass the text of a span that is one of the source
pub tested_by : (Q : Tested → Type 0) (l : Literal) (S : List ℕ) → (bad_span l.span S ≡ false → Q (passes (part l.span.start l.span.end S)))
    → ((r : Refusal) → refusal_number r ≤ 4 → Q (barred r)) → (right : Bool) (e : LiteralExpected) → Q (tested right e l S)
unfolding tested source_text
tested_by Q l S p b right e = go right l.synthetic (bad_span l.span S) (utf8 (part l.span.start l.span.end S)) refl
  where
    go : (w x y z : Bool) → bad_span l.span S ≡ y
        → Q (if w
        then (if x then barred (MissingSource l.span)
        else if y then barred (InvalidSourceRange l.span)
        else if z then passes (part l.span.start l.span.end S)
        else barred (NotUtf8 l.span))
        else barred (WrongKind e l.kind))
    go false x y z h = b (WrongKind e l.kind) (omega arith)
    go true true y z h = b (MissingSource l.span) (omega arith)
    go true false true z h = b (InvalidSourceRange l.span) (omega arith)
    go true false false false h = b (NotUtf8 l.span) (omega arith)
    go true false false true h = p h

pub low_needs : (P : ℕ → Type 0) (m : ℕ) (r : Refusal) → refusal_number r ≤ 4 → RefusalNeeds P m r
low_needs P m (NoRoom n) h = absurd (omega arith)
low_needs P m (WrongKind f k) h = tt
low_needs P m (MissingSource s) h = tt
low_needs P m (InvalidSourceRange s) h = tt
low_needs P m (NotUtf8 s) h = tt
low_needs P m (InvalidInteger s) h = tt
low_needs P m (InvalidString s p) h = tt
low_needs P m (InvalidBitString s) h = tt
low_needs P m (InvalidMoney s) h = tt
low_needs P m (InvalidDate s) h = tt

-- THE LAW
module _ (P : ℕ → Type 0) (f : List ℕ → Answer) (bad : Span → ℕ → Refusal) (l : Literal) (S out : List ℕ)
    (other : (s : Span) (p : ℕ) → RefusalNeeds P (length out) (bad s p)) where
  told_as_needs : (a : Answer) → Writes P a → TextNeeds P (length out) (told_as (bad l.span) l.span.start out a).answer
  told_as_needs (borrowed g u) w = tt
  told_as_needs (written v) w =
      by_room_lem (TextNeeds P (length out)) (λ n. Ok (Text'.Written n)) (λ n. Err (NoRoom n)) (length v) (length out) (λ h. (w, h)) (λ h. (w, h))
  told_as_needs (refused p) w = other l.span p

  pub told_needs : (bad_span l.span S ≡ false → Writes P (f (part l.span.start l.span.end S))) → (right : Bool) (e : LiteralExpected)
      → TextNeeds P (length out) (told f bad l out (tested right e l S)).answer
  told_needs w =
      tested_by (λ (x : Tested). TextNeeds P (length out) (told f bad l out x).answer) l S (λ h. told_as_needs (f (part l.span.start l.span.end S)) (w h))
      (λ r h. low_needs P (length out) r h)

-- THE SPAN is as long as its text
abbrev pub spanned : Literal → ℕ
spanned l = l.span.end - l.span.start

pub span_long : (l : Literal) (S : List ℕ) → bad_span l.span S ≡ false → length (part l.span.start l.span.end S) ≡ spanned l
span_long l S h =
    let b = span_range l.span S h in
    omega (arith, length-take (l.span.end - l.span.start) (drop l.span.start S), length-drop l.span.start S, b.ordered, b.inside)

pub spans_long : {l : Literal} {S t : List ℕ} → Spans l S t → length t ≡ spanned l
spans_long {l} {S} h = ap length (sym h.text) ∙ span_long l S h.fits
