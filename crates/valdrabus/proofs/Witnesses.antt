-- What the demands ask for can be had: exported calls at closed inputs, what they give back in numbers, and what the joining law, the round trip and the law
-- of parts then say of them. Assumes nothing.
use mathlib.Core.Path.{refl}
use mathlib.Core.List.{List, [], ◌∷◌}
use Prim.Native.Nat.{ℕ, ◌≤◌}
use native.Mathlib.Omega.{arith}
use Rattle.meaning.specs.declared.PartSize.{PartSize}
use Rattle.meaning.specs.declared.PartSize.TheVariants.{Whole, AtMost}
use Rattle.meaning.specs.declared.Form.TheVariants.{Escape, Unicode}
use Rattle.meaning.specs.Bytes.{ascii, within, is_mark, digit}
use Rattle.meaning.specs.Chars.{lead, utf8, more, encode, is_scalar, width, is_space}
use Rattle.meaning.specs.Steps.{doubled, uescaped, scalar_by, may_escape}
use Rattle.meaning.specs.Cutting.{named, segment, segment_step, cut, complete, continues}
use Rattle.meaning.specs.Spelling.{encloses, is_unicode, unicode_spelling, spelling}
use Rattle.meaning.specs.Reading.{answer, one, read}
use Rattle.meaning.specs.Answers.{filled}
use Rattle.meaning.specs.Questions.{cuts_character, bad_span, source_text, tested, string_question}
use Rattle.meaning.specs.Writer.{spell, written_text, over_limit, unwritable_nul, write_question}
use Rattle.meaning.specs.Forms.{figure, is_doubled, escape_form, unicode_figures, form_text, form_question}
use Rattle.laws.proofs.questions.Asked.{Spans}
use Rattle.laws.proofs.joining.Parts.{Part, Next}
use Rattle.laws.proofs.tables.Witnesses.{next}
use Rattle.meaning.specs.Codes.{literal_of}
use Rattle.valdrabus.specs.Numbers.{TellsPlace}
use Rattle.valdrabus.specs.Calls.{string_call, write_call, form_call, Lengths}
use Rattle.valdrabus.specs.Views.{view_call}
use Rattle.valdrabus.proofs.Demands.{StringExport, Shows, WriterExport, FormExport, joining_exports, round_trip_exports, form_exports, parts_exports}

-- a call on a span of a source, and one of the writer, each answered with 0
abbrev pub call_in : {σ s e h f u : ℕ} {S t after : List ℕ} (lent : List ℕ) → σ ≤ 1 → Spans (literal_of 4 0 s e) S t
    → TellsPlace (string_call 4 0 s e S σ lent) 0 h f u 0 after → StringExport σ t
call_in {σ} {s} {e} {h} {f} {u} {S} {t} {after} lent k i m =
    record {
      start = s;
      end = e;
      source = S;
      lent = lent;
      known = k;
      spans = i;
      result = 0;
      how = h;
      first = f;
      second = u;
      place = 0;
      after = after;
      contract = m;
    }

abbrev pub writer_in : {σ n : ℕ} {size : PartSize} {v after : List ℕ} (lent : List ℕ) → σ ≤ 1 → Lengths (write_call size v σ lent) 0 n after
    → WriterExport σ size v
writer_in {σ} {n} {size} {v} {after} lent k m = record { lent = lent; known = k; result = 0; len = n; after = after; contract = m }

-- THE JOINING LAW: 'a' 'b' and its two segments
abbrev pub two : List ℕ
two = ascii "'a' 'b'"

-- each segment is borrowed (1), all of it is written (2), two bytes
pub two_told : TellsPlace (string_call 4 0 0 3 two 0 []) 0 1 1 2 0 [] × TellsPlace (string_call 4 0 4 7 two 0 []) 0 1 5 6 0 []
    × TellsPlace (string_call 4 0 0 7 two 0 (1 ∷ 2 ∷ 3 ∷ [])) 0 2 0 2 0 (97 ∷ 98 ∷ 3 ∷ [])
unfolding string_call string_question tested source_text bad_span cuts_character within utf8 lead read continues segment is_mark segment_step cut is_space one
    spelling encloses answer doubled named filled
two_told = (
  record { tells = record { says = record { result = refl; way = refl; one = refl; two = refl }; buffer = refl }; stop = refl },
  record { tells = record { says = record { result = refl; way = refl; one = refl; two = refl }; buffer = refl }; stop = refl },
  record { tells = record { says = record { result = refl; way = refl; one = refl; two = refl }; buffer = refl }; stop = refl },
)

pub two_spans : Spans (literal_of 4 0 0 3) two (ascii "'a'") × Spans (literal_of 4 0 4 7) two (ascii "'b'") × Spans (literal_of 4 0 0 7) two two
unfolding bad_span cuts_character within
two_spans =
    (record { real = refl; fits = refl; text = refl }, record { real = refl; fits = refl; text = refl }, record { real = refl; fits = refl; text = refl })

abbrev pub both_call : StringExport 0 two
both_call = call_in (1 ∷ 2 ∷ 3 ∷ []) (omega arith) two_spans.2 two_told.2

-- by the law, from the calls on the segments
pub two_joined : Shows both_call (ascii "ab")
unfolding view_call is_mark segment segment_step cut complete is_space lead within doubled named
two_joined =
    joining_exports 0 (ascii "'a'") (ascii " ") (ascii "'b'") (ascii "a") (ascii "b") (call_in [] (omega arith) two_spans.0 two_told.0)
    (call_in [] (omega arith) two_spans.1 two_told.1) (record { number = refl; value = refl }) (record { number = refl; value = refl }) refl refl
    (record { white = refl; some = omega arith }) refl both_call (omega arith)

-- WHAT THE WRITER WRITES: a'b into seven bytes, of which it leaves the last; ab and 'c into just the room
pub written_told_lem : Lengths (write_call Whole (ascii "a'b") 1 (ascii ".......")) 0 6 (ascii "'a''b'.")
    × Lengths (write_call Whole (ascii "ab") 1 (ascii "....")) 0 4 (ascii "'ab'")
    × Lengths (write_call (AtMost 4) (ascii "'c") 1 (ascii ".....")) 0 5 (ascii "'''c'")
unfolding write_call write_question over_limit unwritable_nul utf8 lead within written_text spell width filled
written_told_lem = (
  record { result = refl; long = refl; buffer = refl },
  record { result = refl; long = refl; buffer = refl },
  record { result = refl; long = refl; buffer = refl },
)

abbrev pub quoted_written : WriterExport 1 Whole (ascii "a'b")
quoted_written = writer_in (ascii ".......") (omega arith) written_told_lem.0

abbrev pub plain_written : WriterExport 1 Whole (ascii "ab")
plain_written = writer_in (ascii "....") (omega arith) written_told_lem.1

abbrev pub rest_written : WriterExport 1 (AtMost 4) (ascii "'c")
rest_written = writer_in (ascii ".....") (omega arith) written_told_lem.2

-- READ BACK: the first where it was written, the second without a buffer, and the second and third with a line feed between
abbrev pub chained : List ℕ
chained = ascii "'ab'\n'''c'"

pub back_told : TellsPlace (string_call 4 0 0 6 (ascii "'a''b'.") 1 (ascii "...")) 0 2 0 3 0 (ascii "a'b")
    × TellsPlace (string_call 4 0 0 4 (ascii "'ab'") 1 []) 0 1 1 3 0 []
    × TellsPlace (string_call 4 0 0 10 chained 1 (ascii "....")) 0 2 0 4 0 (ascii "ab'c")
unfolding string_call string_question tested source_text bad_span cuts_character within utf8 lead read continues segment is_mark segment_step cut is_space one
    spelling encloses answer doubled named filled
back_told = (
  record { tells = record { says = record { result = refl; way = refl; one = refl; two = refl }; buffer = refl }; stop = refl },
  record { tells = record { says = record { result = refl; way = refl; one = refl; two = refl }; buffer = refl }; stop = refl },
  record { tells = record { says = record { result = refl; way = refl; one = refl; two = refl }; buffer = refl }; stop = refl },
)

pub back_spans : Spans (literal_of 4 0 0 6) (ascii "'a''b'.") (ascii "'a''b'") × Spans (literal_of 4 0 0 4) (ascii "'ab'") (ascii "'ab'")
    × Spans (literal_of 4 0 0 10) chained chained
unfolding bad_span cuts_character within
back_spans =
    (record { real = refl; fits = refl; text = refl }, record { real = refl; fits = refl; text = refl }, record { real = refl; fits = refl; text = refl })

abbrev pub quoted_call : StringExport 1 (ascii "'a''b'")
quoted_call = call_in (ascii "...") (omega arith) back_spans.0 back_told.0

abbrev pub plain_call : StringExport 1 (ascii "'ab'")
plain_call = call_in [] (omega arith) back_spans.1 back_told.1

abbrev pub chained_call : StringExport 1 chained
chained_call = call_in (ascii "....") (omega arith) back_spans.2 back_told.2

-- THE ROUND TRIP: with room; and without, since the text has but two bytes more than the value
pub quoted_back : Shows quoted_call (ascii "a'b")
quoted_back = round_trip_exports 1 Whole (ascii "a'b") quoted_written refl quoted_call (λ m. omega arith)

pub plain_back : Shows plain_call (ascii "ab")
plain_back = round_trip_exports 1 Whole (ascii "ab") plain_written refl plain_call (λ m. absurd (omega arith))

-- THE FORMS: a and a line feed, in E into seven bytes, of which it leaves the last, and in U& into just the room; and read back, each at one setting
abbrev pub lined : List ℕ
lined = ascii "a\n"

pub forms_told : Lengths (form_call Escape lined (ascii ".......")) 0 6 (ascii "E'a\\n'.")
    × Lengths (form_call Unicode lined (ascii "..........")) 0 10 (ascii "U&'a\\000A'")
unfolding form_call form_question over_limit utf8 lead within form_text escape_form is_doubled unicode_figures figure filled
forms_told = (record { result = refl; long = refl; buffer = refl }, record { result = refl; long = refl; buffer = refl })

pub forms_back_told : TellsPlace (string_call 4 0 0 6 (ascii "E'a\\n'.") 1 (ascii "..")) 0 2 0 2 0 lined
    × TellsPlace (string_call 4 0 0 10 (ascii "U&'a\\000A'") 0 (ascii "..")) 0 2 0 2 0 lined
unfolding string_call string_question tested source_text bad_span cuts_character within utf8 lead read continues segment is_mark segment_step cut is_space one
    spelling encloses is_unicode unicode_spelling uescaped scalar_by may_escape is_scalar more encode digit answer doubled named filled
forms_back_told = (
  record { tells = record { says = record { result = refl; way = refl; one = refl; two = refl }; buffer = refl }; stop = refl },
  record { tells = record { says = record { result = refl; way = refl; one = refl; two = refl }; buffer = refl }; stop = refl },
)

pub forms_spans : Spans (literal_of 4 0 0 6) (ascii "E'a\\n'.") (ascii "E'a\\n'") × Spans (literal_of 4 0 0 10) (ascii "U&'a\\000A'") (ascii "U&'a\\000A'")
unfolding bad_span cuts_character within
forms_spans = (record { real = refl; fits = refl; text = refl }, record { real = refl; fits = refl; text = refl })

abbrev pub escape_written : FormExport Escape lined
escape_written = record { lent = ascii "......."; result = 0; len = 6; after = ascii "E'a\\n'."; contract = forms_told.0 }

abbrev pub unicode_written : FormExport Unicode lined
unicode_written = record { lent = ascii ".........."; result = 0; len = 10; after = ascii "U&'a\\000A'"; contract = forms_told.1 }

pub escape_back : Shows (call_in (ascii "..") (omega arith) forms_spans.0 forms_back_told.0) lined
escape_back = form_exports escape_written refl 1 (call_in (ascii "..") (omega arith) forms_spans.0 forms_back_told.0) (λ m. omega arith)

pub unicode_back : Shows (call_in (ascii "..") (omega arith) forms_spans.1 forms_back_told.1) lined
unicode_back = form_exports unicode_written refl 0 (call_in (ascii "..") (omega arith) forms_spans.1 forms_back_told.1) (λ m. omega arith)

-- PARTS: ab'c, cut into ab, written whole, and 'c, at the part size 4
abbrev pub front : Part
front = record { value = ascii "ab"; size = Whole }

abbrev pub behind : List Next
behind = next (record { value = ascii "'c"; size = AtMost 4 }) ∷ []

pub chained_back : Shows chained_call (ascii "ab'c")
chained_back =
    parts_exports 1 (ascii "ab'c") front behind refl
    (record { call = plain_written; wrote = refl }, record { call = rest_written; wrote = refl }) chained_call (λ m. omega arith)
