-- What the laws of room ask for can be had, and none of them can say a byte less: closed texts and calls, what the laws say of them, and that each bound is
-- reached. Assumes nothing.
use mathlib.Core.Path.{◌≡◌, refl, ap, sym}
use mathlib.Core.List.{List, [], ◌∷◌, ◌++◌}
use Prim.Native.Nat.{ℕ, ◌+◌, ◌-◌, ◌≤◌, ◌<◌}
use native.Mathlib.Omega.{arith}
use lib.ListN.{length, take, drop, replicate}
use Rattle.meaning.specs.declared.Settings.{Settings}
use Rattle.meaning.specs.declared.BitStringRadix.TheVariants.{Hex}
use Rattle.meaning.specs.declared.LiteralKind.TheVariants as Kind
use Rattle.meaning.specs.declared.Literal.{Literal}
use Rattle.meaning.specs.declared.Refusal.TheVariants.{NoRoom}
use Rattle.meaning.specs.declared.Text.TheVariants.{Written}
use Rattle.meaning.specs.Bytes.{◌!◌, ascii, within, is_mark, digit, starts_tag, in_tag, is_letter, is_decimal, in_name, all_digits}
use Rattle.meaning.specs.Chars.{lead, utf8, more, encode, is_scalar, is_space}
use Rattle.meaning.specs.Steps.{doubled, one_byte, uescaped, scalar_by, may_escape}
use Rattle.meaning.specs.Cutting.{off, on, named, segment, segment_step, cut, continues}
use Rattle.meaning.specs.Spelling.{encloses, is_unicode, unicode_spelling, delimiter, spelling}
use Rattle.meaning.specs.Reading.{means, value_of, meaning, answer, one, read}
use Rattle.meaning.specs.Kinds.{bit_body, bits, token_start, quote_token, temporal_token, temporal}
use Rattle.meaning.specs.Helpers.{ident}
use Rattle.meaning.specs.Numbers.{sign_length, is_minus, base_by, radix_prefix, parsed, separated, radix_value, digits_by, digits_of, decimal_of}
use Rattle.meaning.specs.Packing.{bits_in, pack_bits, packed_question}
use Rattle.meaning.specs.Answers.{text_number, filled}
use Rattle.meaning.specs.Questions.{cuts_character, bad_span, source_text, tested, string_question, decimal_question}
use Rattle.meaning.specs.Blocks.{items_of, item_asked, bad_block, block_call}
use Rattle.laws.proofs.joining.JoiningLaw.{Accepts}
use Rattle.laws.proofs.questions.Calls.{StringCall, Shows}
use Rattle.laws.proofs.questions.BlockReturns.{BlockCall}
use Rattle.laws.proofs.room.Told.{spanned}
use Rattle.laws.proofs.room.Blocks.{room_of, block_nine_calls, block_never_calls}
use Rattle.laws.proofs.room.Called.{string_nine_calls, string_enough_calls, string_again_calls}
use Rattle.laws.proofs.tables.Controls.{all_as, all_of_it}
use Rattle.laws.proofs.tables.BlockWitnesses.{met}
use Rattle.std.specs.Prelude.{Ok, Err}

-- EVERY SPELLING means something: plain in either mark, N, a charset's, E, U&, dollar, joined
pub each_spelling : (meaning off (ascii "''") ≡ means []) × (meaning off (ascii "\"a\"") ≡ means (ascii "a")) × (meaning off (ascii "N'a'") ≡ means (ascii "a"))
    × (meaning off (ascii "_utf8'a'") ≡ means (ascii "a")) × (meaning off (ascii "E'\\101'") ≡ means (ascii "A"))
    × (meaning off (ascii "U&'\\0041'") ≡ means (ascii "A")) × (meaning off (ascii "$a$x$a$") ≡ means (ascii "x"))
    × (meaning off (ascii "'a' 'b'") ≡ means (ascii "ab"))
unfolding within is_mark lead is_space doubled one_byte digit named segment segment_step cut continues encloses is_unicode unicode_spelling uescaped scalar_by may_escape is_scalar
    more encode delimiter starts_tag in_tag is_letter is_decimal in_name spelling answer one read
each_spelling = (refl, refl, refl, refl, refl, refl, refl, refl)

-- A VALUE: '' has but its two marks more
pub value_reached : ((t v : List ℕ) → meaning off t ≡ means v → length v + 3 ≤ length t) → ⊥
value_reached h = let r = h (ascii "''") [] each_spelling.0 in omega arith

-- A STRING THAT IS WRITTEN: with backslashes as escapes \% stays two bytes, so '\%' needs just its text less two
abbrev pub percent : List ℕ
percent = ascii "'\\%'"

-- a call with a byte less, and one with just that room
unfoldable pub percent_refused : StringCall on percent
unfolding string_question tested source_text bad_span cuts_character within utf8 lead read continues segment is_mark one spelling encloses answer doubled named filled
percent_refused = record {
  literal = all_of_it percent;
  source = percent;
  lent = 7 ∷ [];
  kind = refl;
  spans = record { real = refl; fits = refl; text = refl };
  result = Err (NoRoom 2);
  after = 7 ∷ [];
  contract = record { answer = refl; buffer = refl };
}

unfoldable pub percent_call : StringCall on percent
unfolding string_question tested source_text bad_span cuts_character within utf8 lead read continues segment is_mark one spelling encloses answer doubled named filled
percent_call = record {
  literal = all_of_it percent;
  source = percent;
  lent = 7 ∷ 7 ∷ [];
  kind = refl;
  spans = record { real = refl; fits = refl; text = refl };
  result = Ok (Written 2);
  after = ascii "\\%";
  contract = record { answer = refl; buffer = refl };
}

pub percent_accepted : Accepts on percent (ascii "\\%")
unfolding within utf8 lead is_mark doubled named segment continues encloses spelling answer one read
percent_accepted = record { valid = refl; value = refl }

-- by the laws: the first told no more than the text less two; the second shows the value, and wrote what the first told
pub percent_told : (2 + 2 ≤ length percent) × (length percent_refused.lent < 2)
unfolding percent_refused
percent_told = string_nine_calls percent_refused 2 refl

pub percent_shown : Shows percent_call (ascii "\\%")
unfolding percent_call
percent_shown = string_enough_calls percent_call (ascii "\\%") percent_accepted (omega arith)

pub percent_again : percent_call.result ≡ Ok (Written 2)
unfolding percent_refused percent_call
percent_again = string_again_calls percent_refused percent_call 2 refl (omega arith)

-- so no less room serves every string
pub string_reached : ((l : Literal) (S : List ℕ) (σ : Settings) (out : List ℕ) → spanned l ≤ length out + 3
    → text_number (string_question l S σ out).answer ≡ 9 → ⊥) → ⊥
unfolding percent_refused
string_reached h =
    h (all_of_it percent) percent on (7 ∷ []) (omega arith) (ap text_number (sym percent_refused.contract.answer))

-- A BLOCK of it twice: four bytes are room for both, and with three the second gets a 9
abbrev pub twice : List ℕ
twice = (4 ∷ 1 ∷ 0 ∷ 4 ∷ []) ++ (4 ∷ 1 ∷ 0 ∷ 4 ∷ [])

pub twice_room : room_of (items_of twice) ≡ 4
twice_room = refl

unfoldable pub twice_call : BlockCall twice percent
unfolding block_call bad_block item_asked string_question tested source_text bad_span cuts_character within utf8 lead read continues segment is_mark one spelling encloses
    answer doubled named filled
twice_call = record {
  answers = replicate 8 99;
  lent = replicate 4 7;
  result = 0;
  told = (0 ∷ 2 ∷ 0 ∷ 2 ∷ []) ++ (0 ∷ 2 ∷ 2 ∷ 2 ∷ []);
  after = ascii "\\%\\%";
  contract = met refl;
}

unfoldable pub twice_refused : BlockCall twice percent
unfolding block_call bad_block item_asked string_question tested source_text bad_span cuts_character within utf8 lead read continues segment is_mark one spelling encloses
    answer doubled named filled
twice_refused = record {
  answers = replicate 8 99;
  lent = replicate 3 7;
  result = 0;
  told = (0 ∷ 2 ∷ 0 ∷ 2 ∷ []) ++ (9 ∷ 0 ∷ 0 ∷ 2 ∷ []);
  after = ascii "\\%" ++ (7 ∷ []);
  contract = met refl;
}

pub second_never : take 4 (drop 4 twice_call.told) ! 0 ≡ 9 → ⊥
unfolding twice_call
second_never = block_never_calls (4 ∷ 1 ∷ 0 ∷ 4 ∷ []) 4 1 0 4 [] percent refl twice_call refl (omega arith)

pub second_nine : take 4 (drop 4 twice_refused.told) ! 3 + 2 ≤ 4 - 0
unfolding twice_refused
second_nine = block_nine_calls (4 ∷ 1 ∷ 0 ∷ 4 ∷ []) 4 1 0 4 [] percent refl twice_refused refl refl

-- THE OTHERS. A temporal text and an identifier without a byte between their marks, and bits without a digit
pub temporal_reached : value_of (ascii "''") (temporal off (ascii "''")) ≡ means []
unfolding temporal temporal_token quote_token token_start within is_mark lead is_space doubled named segment continues encloses spelling answer one read
temporal_reached = refl

pub identifier_reached : value_of (ascii "U&\"\"") (ident (ascii "U&\"\"")) ≡ means []
unfolding ident is_unicode unicode_spelling doubled answer
identifier_reached = refl

pub bits_reached : value_of (ascii "B''") (bits off 2 (ascii "B''")) ≡ means []
unfolding bits cut segment_step segment is_mark doubled named bit_body all_digits
bits_reached = refl

-- X'1' has four bytes, and needs one
pub packed_reached : (packed_question (all_as (Kind.BitString Hex) (ascii "X'1'")) (ascii "X'1'") []).answer ≡ Err (NoRoom 1)
unfolding packed_question tested source_text bad_span cuts_character within utf8 lead bits cut segment_step segment is_mark is_space doubled named bit_body all_digits
    digit bits_in pack_bits filled
packed_reached = refl

-- a number of 35 bytes that needs forty
abbrev pub least : List ℕ
least = ascii "0x-80000000000000000000000000000000"

pub decimal_reached : (decimal_question (all_as Kind.Integer least) least (replicate 39 7)).answer ≡ Err (NoRoom 40)
unfolding decimal_question tested source_text bad_span cuts_character within utf8 lead decimal_of separated radix_prefix base_by sign_length is_minus radix_value parsed
    all_digits digit digits_of digits_by filled
decimal_reached = refl
