-- [02 T-04] What the laws of the exported places ask for can be had: a closed call on joined text whose third segment is refused, and one on a date. Assumes
-- nothing.
use mathlib.Core.Path.{refl}
use mathlib.Core.List.{List, [], ◌∷◌}
use Prim.Native.Nat.{ℕ}
use native.Mathlib.Omega.{arith}
use Rattle.meaning.specs.Bytes.{ascii, within, is_mark, digit}
use Rattle.meaning.specs.Chars.{lead, utf8, is_space}
use Rattle.meaning.specs.Steps.{doubled, one_byte}
use Rattle.meaning.specs.Cutting.{named, segment, segment_step, cut, continues}
use Rattle.meaning.specs.Spelling.{encloses, spelling}
use Rattle.meaning.specs.Reading.{answer, one, read}
use Rattle.meaning.specs.Kinds.{token_start, quote_token, temporal_token, temporal}
use Rattle.meaning.specs.Questions.{cuts_character, bad_span, source_text, tested, string_question, temporal_question}
use Rattle.laws.proofs.questions.Asked.{Spans}
use Rattle.meaning.specs.Codes.{literal_of}
use Rattle.valdrabus.specs.Numbers.{TellsPlace}
use Rattle.valdrabus.specs.Calls.{string_call, temporal_call}
use Rattle.valdrabus.proofs.Demands.{StringExport}
use Rattle.valdrabus.proofs.PlaceExports.{Stopped, place_exports, TemporalExport, temporal_place_exports}

abbrev pub source : List ℕ
source = ascii "x'a' 'b' E'\\400'"

-- 6, the span 1 to 16, and the place 10 of the text
pub string_told : TellsPlace (string_call 4 0 1 16 source 0 (7 ∷ [])) 6 0 1 16 10 (7 ∷ [])
unfolding string_call string_question tested source_text bad_span cuts_character within utf8 lead read continues segment is_mark segment_step cut is_space one
    spelling encloses answer doubled one_byte digit named
string_told = record { tells = record { says = record { result = refl; way = refl; one = refl; two = refl }; buffer = refl }; stop = refl }

pub string_spans : Spans (literal_of 4 0 1 16) source (ascii "'a' 'b' E'\\400'")
unfolding bad_span cuts_character within
string_spans = record { real = refl; fits = refl; text = refl }

abbrev pub string_call_lem : StringExport 0 (ascii "'a' 'b' E'\\400'")
string_call_lem = record {
  start = 1;
  end = 16;
  source = source;
  lent = 7 ∷ [];
  known = omega arith;
  spans = string_spans;
  result = 6;
  how = 0;
  first = 1;
  second = 16;
  place = 10;
  after = 7 ∷ [];
  contract = string_told;
}

-- by the law
pub string_stopped : Stopped 1 16 10 (7 ∷ []) 6 0 1 16 10 (7 ∷ [])
unfolding within utf8 lead read continues segment is_mark segment_step cut is_space one spelling encloses answer doubled one_byte digit named
string_stopped = place_exports string_call_lem refl 10 refl

-- a date's token begins at 5, and a quote stands alone at 2 of it
pub temporal_told : TellsPlace (temporal_call 8 0 0 10 (ascii "DATE 'a'b'") []) 6 0 0 10 7 []
unfolding temporal_call temporal_question tested source_text bad_span cuts_character within utf8 lead temporal temporal_token quote_token token_start read continues
    segment is_mark segment_step cut is_space one spelling encloses answer doubled named
temporal_told = record { tells = record { says = record { result = refl; way = refl; one = refl; two = refl }; buffer = refl }; stop = refl }

pub temporal_spans : Spans (literal_of 8 0 0 10) (ascii "DATE 'a'b'") (ascii "DATE 'a'b'")
unfolding bad_span cuts_character within
temporal_spans = record { real = refl; fits = refl; text = refl }

pub temporal_stopped : Stopped 0 10 7 [] 6 0 0 10 7 []
unfolding within utf8 lead temporal temporal_token quote_token token_start read continues segment is_mark is_space one spelling encloses answer doubled named
temporal_stopped = temporal_place_exports call refl 7 refl
  where
    call : TemporalExport (ascii "DATE 'a'b'")
    call = record {
      kind = 8;
      start = 0;
      end = 10;
      source = ascii "DATE 'a'b'";
      lent = [];
      known = refl;
      temporal = refl;
      spans = temporal_spans;
      result = 6;
      how = 0;
      first = 0;
      second = 10;
      place = 7;
      after = [];
      contract = temporal_told;
    }
