-- [01 Numbers an answer can carry; What is carried over] "No refusal changes the buffer." "A borrowed answer changes no byte." "Written text
-- fills the buffer's start; the remainder is unchanged." Once for every question that answers a text, once for identifiers, once for the
-- writers, and [02 T-07] once each for packing and its reverse. Assumes nothing.
use mathlib.Core.Path.{◌≡◌, refl, sym, subst}
use mathlib.Core.Bool.{Bool, true, false}
use mathlib.Core.List.{List, ◌++◌}
use Prim.Native.Nat.{ℕ, ◌≤◌}
use native.Mathlib.Omega.{arith}
use lib.Dec.{leb, ltb, leb→le}
use lib.ListN.{length, take, drop, length-append, length-drop}
use lib.Seq.{take_at, drop_at}
use Rattle.meaning.specs.declared.Settings.{Settings}
use Rattle.meaning.specs.declared.PartSize.{PartSize}
use Rattle.meaning.specs.declared.PartSize.TheVariants.{Whole}
use Rattle.meaning.specs.declared.Form.{Form}
use Rattle.meaning.specs.declared.Span.{Span}
use Rattle.meaning.specs.declared.Literal.{Literal}
use Rattle.meaning.specs.declared.LiteralExpected.TheVariants as Expected
use Rattle.meaning.specs.declared.Refusal.{Refusal}
use Rattle.meaning.specs.declared.Refusal.TheVariants.{InvalidInteger, InvalidString, InvalidBitString, NoRoom}
use Rattle.meaning.specs.declared.Text.{Text}
use Rattle.meaning.specs.declared.Text.TheVariants as Text'
use Rattle.meaning.specs.declared.WritingError.{WritingError}
use Rattle.meaning.specs.declared.WritingError.TheVariants as WritingError'
use Rattle.meaning.specs.declared.BitStringRadix.{BitStringRadix}
use Rattle.meaning.specs.declared.BitWritingError.{BitWritingError}
use Rattle.meaning.specs.declared.BitWritingError.TheVariants as BitWritingError'
use Rattle.meaning.specs.Bytes.{has}
use Rattle.std.specs.Prelude.{if◌then◌else◌}
use Rattle.meaning.specs.Chars.{utf8}
use Rattle.meaning.specs.Cutting.{off}
use Rattle.meaning.specs.Reading.{Answer, borrowed, written, refused, Value, means, fails, value_of, read}
use Rattle.meaning.specs.Numbers.{decimal_of}
use Rattle.meaning.specs.Kinds.{bits, temporal}
use Rattle.meaning.specs.Answers.{filled}
use Rattle.meaning.specs.Questions.{Tested, passes, barred, tested, is_string, is_number, is_temporal, bit_base, told_as, told, string_question, decimal_question}
use Rattle.meaning.specs.Questions.{bits_question, temporal_question, identifier_as, identifier_question}
use Rattle.meaning.specs.Helpers.{ident}
use Rattle.meaning.specs.Writer.{over_limit, unwritable_nul, written_text, write_question}
use Rattle.meaning.specs.Forms.{form_text, form_question}
use Rattle.meaning.specs.Packing.{bits_per, bits_in, pack_bits, packs_as, packed_by, packed_question, bit_literal, bad_bits, bit_writes, bit_write_question}
use Rattle.laws.proofs.basics.Tests.{true→T}
use Rattle.laws.proofs.writing.Writers.{tried}
use Rattle.std.specs.Prelude.{Result, Ok, Err}
use Rattle.meaning.specs.declared.IdentifierError.{IdentifierError}
use Rattle.meaning.specs.declared.IdentifierError.TheVariants as IdentifierError'
use Rattle.meaning.specs.declared.PackedBits.{PackedBits}
use Rattle.meaning.specs.Answers.{packed_at}

-- the buffer begins with n bytes of a value, and goes on as it was lent
pub record Filled (n : ℕ) (out after : List ℕ) : Type 0 where
  pub value : List ℕ
  pub size : length value ≡ n
  pub room : n ≤ length out
  pub bytes : after ≡ value ++ drop n out

-- in front the value, behind it the buffer as lent, and nothing is longer or shorter
module _ {n : ℕ} {out after : List ℕ} (f : Filled n out after) where
  pub filled_front : take n after ≡ f.value
  filled_front = rw f.bytes (take_at f.value (drop n out) n f.size)

  pub filled_rest : drop n after ≡ drop n out
  filled_rest = rw f.bytes (drop_at f.value (drop n out) n f.size)

  pub filled_length : length after ≡ length out
  filled_length = rw f.bytes (omega (arith, length-append f.value (drop n out), length-drop n out, f.size, f.room))

-- what each case of an answer says of the buffer
abbrev pub TextLeaves : List ℕ → Result Text Refusal → List ℕ → Type 0
TextLeaves out (Ok (Text'.Borrowed f u)) after = after ≡ out
TextLeaves out (Ok (Text'.Written n)) after = Filled n out after
TextLeaves out (Err r) after = after ≡ out

abbrev pub IdentifierLeaves : List ℕ → Result Text IdentifierError → List ℕ → Type 0
IdentifierLeaves out (Ok (Text'.Borrowed f u)) after = after ≡ out
IdentifierLeaves out (Ok (Text'.Written n)) after = Filled n out after
IdentifierLeaves out (Err IdentifierError'.NotUtf8) after = after ≡ out
IdentifierLeaves out (Err IdentifierError'.InvalidString) after = after ≡ out
IdentifierLeaves out (Err (IdentifierError'.NoRoom n)) after = after ≡ out

abbrev pub WritingLeaves : List ℕ → Result ℕ WritingError → List ℕ → Type 0
WritingLeaves out (Ok n) after = Filled n out after
WritingLeaves out (Err WritingError'.OverLimit) after = after ≡ out
WritingLeaves out (Err WritingError'.NotUtf8) after = after ≡ out
WritingLeaves out (Err WritingError'.HoldsNul) after = after ≡ out
WritingLeaves out (Err (WritingError'.NoRoom n)) after = after ≡ out

abbrev pub PackedLeaves : List ℕ → Result PackedBits Refusal → List ℕ → Type 0
PackedLeaves out (Ok π) after = Filled π.len out after
PackedLeaves out (Err r) after = after ≡ out

abbrev pub BitWritingLeaves : List ℕ → Result ℕ BitWritingError → List ℕ → Type 0
BitWritingLeaves out (Ok n) after = Filled n out after
BitWritingLeaves out (Err BitWritingError'.OverLimit) after = after ≡ out
BitWritingLeaves out (Err BitWritingError'.BadBits) after = after ≡ out
BitWritingLeaves out (Err (BitWritingError'.NoRoom n)) after = after ≡ out

-- a value that is put where there is room for it, and one that is not
module _ (v out : List ℕ) where
  pub filled_room : leb (length v) (length out) ≡ true → Filled (length v) out (filled v out)
  unfolding filled
  filled_room h = record { value = v; size = refl; room = leb→le (length v) (length out) (true→T _ h); bytes = rw h }

  pub filled_short : leb (length v) (length out) ≡ false → filled v out ≡ out
  unfolding filled
  filled_short h = rw h

  -- both, for an answer that says which
  leaves_by : {A : Type 0} (P : A → List ℕ → Type 0) (yes' no' : A) → ((d : List ℕ) → Filled (length v) out d → P yes' d) → P no' out
      → (x : Bool) → leb (length v) (length out) ≡ x → P (if x then yes' else no') (filled v out)
  leaves_by P yes' no' f g true h = f (filled v out) (filled_room h)
  leaves_by P yes' no' f g false h = subst (P no') (sym (filled_short h)) g

pub told_as_leaves : (bad : ℕ → Refusal) (s : ℕ) (out : List ℕ) (a : Answer) → TextLeaves out (told_as bad s out a).answer (told_as bad s out a).buffer
told_as_leaves bad s out (borrowed f u) = refl
told_as_leaves bad s out (written v) =
    leaves_by v out (λ (r : Result Text Refusal). TextLeaves out r) (Ok (Text'.Written (length v))) (Err (NoRoom (length v))) (λ d h. h) refl
    (leb (length v) (length out)) refl
told_as_leaves bad s out (refused p) = refl

-- every question that answers a text
pub told_leaves : (f : List ℕ → Answer) (bad : Span → ℕ → Refusal) (l : Literal) (out : List ℕ) (t : Tested)
    → TextLeaves out (told f bad l out t).answer (told f bad l out t).buffer
told_leaves f bad l out (passes t) = told_as_leaves (bad l.span) l.span.start out (f t)
told_leaves f bad l out (barred r) = refl

-- by name
module _ (l : Literal) (S out : List ℕ) where
  pub string_question_leaves : (σ : Settings) → TextLeaves out (string_question l S σ out).answer (string_question l S σ out).buffer
  unfolding string_question
  string_question_leaves σ = told_leaves (read σ) InvalidString l out (tested (is_string l.kind) Expected.String l S)

  pub decimal_question_leaves : TextLeaves out (decimal_question l S out).answer (decimal_question l S out).buffer
  unfolding decimal_question
  decimal_question_leaves = told_leaves decimal_of (λ s p. InvalidInteger s) l out (tested (is_number l.kind) Expected.DecimalText l S)

  pub bits_question_leaves : TextLeaves out (bits_question l S out).answer (bits_question l S out).buffer
  unfolding bits_question
  bits_question_leaves =
      told_leaves (bits off (bit_base l.kind)) (λ s p. InvalidBitString s) l out (tested (ltb 0 (bit_base l.kind)) Expected.BitString l S)

  pub temporal_question_leaves : TextLeaves out (temporal_question l S out).answer (temporal_question l S out).buffer
  unfolding temporal_question
  temporal_question_leaves = told_leaves (temporal off) InvalidString l out (tested (is_temporal l.kind) Expected.Temporal l S)

identifier_as_leaves : (out : List ℕ) (a : Answer) → IdentifierLeaves out (identifier_as out a).answer (identifier_as out a).buffer
identifier_as_leaves out (borrowed f u) = refl
identifier_as_leaves out (written v) =
    leaves_by v out (λ (r : Result Text IdentifierError). IdentifierLeaves out r) (Ok (Text'.Written (length v))) (Err (IdentifierError'.NoRoom (length v))) (λ d h. h) refl
    (leb (length v) (length out)) refl
identifier_as_leaves out (refused p) = refl

pub identifier_leaves : (t out : List ℕ) → IdentifierLeaves out (identifier_question t out).answer (identifier_question t out).buffer
unfolding identifier_question
identifier_leaves t out = go (utf8 t)
  where
    go : (x : Bool) → IdentifierLeaves out (if x then identifier_as out (ident t) else record { answer = Err IdentifierError'.NotUtf8; buffer = out }).answer
        (if x then identifier_as out (ident t) else record { answer = Err IdentifierError'.NotUtf8; buffer = out }).buffer
    go true = identifier_as_leaves out (ident t)
    go false = refl

-- every writer
tried_leaves : (x y z : Bool) (t out : List ℕ) → WritingLeaves out (tried x y z t out).answer (tried x y z t out).buffer
tried_leaves true y z t out = refl
tried_leaves false false z t out = refl
tried_leaves false true true t out = refl
tried_leaves false true false t out =
    leaves_by t out (λ (r : Result ℕ WritingError). WritingLeaves out r) (Ok _) (Err (WritingError'.NoRoom _)) (λ d h. h) refl (leb (length t) (length out)) refl

pub writing_leaves : (σ : Settings) (size : PartSize) (v out : List ℕ)
    → WritingLeaves out (write_question σ size v out).answer (write_question σ size v out).buffer
unfolding write_question
writing_leaves σ size v out = tried_leaves (over_limit size v) (utf8 v) (unwritable_nul σ v) (written_text σ size v) out

pub form_leaves : (f : Form) (v out : List ℕ) → WritingLeaves out (form_question f v out).answer (form_question f v out).buffer
unfolding form_question
form_leaves f v out = tried_leaves (over_limit Whole v) (utf8 v) (has 0 v) (form_text f v) out

-- packed bytes, and their reverse
packs_as_leaves : (s : Span) (k : ℕ) (out : List ℕ) (x : Value) → PackedLeaves out (packs_as s k out x).answer (packs_as s k out x).buffer
packs_as_leaves s k out (means v) =
    leaves_by (pack_bits (bits_in k v)) out (λ (r : Result PackedBits Refusal). PackedLeaves out r) (Ok (packed_at _ _)) (Err (NoRoom _)) (λ d h. h) refl
    (leb (length (pack_bits (bits_in k v))) (length out)) refl
packs_as_leaves s k out (fails p) = refl

pub packed_leaves : (l : Literal) (S out : List ℕ) → PackedLeaves out (packed_question l S out).answer (packed_question l S out).buffer
unfolding packed_question
packed_leaves l S out = go (tested (ltb 0 (bit_base l.kind)) Expected.BitString l S)
  where
    go : (x : Tested)
        → PackedLeaves out (packed_by l.span (bit_base l.kind) out x).answer (packed_by l.span (bit_base l.kind) out x).buffer
    go (passes t) = packs_as_leaves l.span (bits_per (bit_base l.kind)) out (value_of t (bits off (bit_base l.kind) t))
    go (barred r) = refl

pub bit_writing_leaves : (r : BitStringRadix) (bytes : List ℕ) (n : ℕ) (out : List ℕ)
    → BitWritingLeaves out (bit_write_question r bytes n out).answer (bit_write_question r bytes n out).buffer
unfolding bit_write_question
bit_writing_leaves r bytes n out = go (over_limit Whole bytes) (bad_bits r bytes n) (bit_literal r bytes n)
  where
    go : (x y : Bool) (t : List ℕ)
        → BitWritingLeaves out (if x then record { answer = Err BitWritingError'.OverLimit; buffer = out }
        else if y then record { answer = Err BitWritingError'.BadBits; buffer = out } else bit_writes t out).answer
        (if x then record { answer = Err BitWritingError'.OverLimit; buffer = out }
        else if y then record { answer = Err BitWritingError'.BadBits; buffer = out } else bit_writes t out).buffer
    go true y t = refl
    go false true t = refl
    go false false t =
        leaves_by t out (λ (r : Result ℕ BitWritingError). BitWritingLeaves out r) (Ok _) (Err (BitWritingError'.NoRoom _)) (λ d h. h) refl
        (leb (length t) (length out)) refl
