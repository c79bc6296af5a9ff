-- What the laws of the exports' room ask for can be had, and say no byte too much: with backslashes as escapes '\%' needs two bytes, its text less two.
-- Assumes nothing.
use mathlib.Core.Path.{◌≡◌, refl}
use mathlib.Core.List.{List, [], ◌∷◌}
use Prim.Native.Nat.{ℕ, ◌+◌, ◌-◌, ◌≤◌, ◌<◌}
use native.Mathlib.Omega.{arith}
use lib.ListN.{length}
use Rattle.meaning.specs.Bytes.{ascii, within, is_mark}
use Rattle.meaning.specs.Chars.{lead, utf8}
use Rattle.meaning.specs.Steps.{doubled}
use Rattle.meaning.specs.Cutting.{named, segment, continues}
use Rattle.meaning.specs.Spelling.{encloses, spelling}
use Rattle.meaning.specs.Reading.{answer, one, read}
use Rattle.meaning.specs.Answers.{filled}
use Rattle.meaning.specs.Questions.{cuts_character, bad_span, source_text, tested, string_question}
use Rattle.meaning.specs.Codes.{literal_of}
use Rattle.laws.proofs.questions.Asked.{Spans}
use Rattle.laws.proofs.tables.RoomWitnesses.{percent, percent_accepted}
use Rattle.valdrabus.specs.Numbers.{TellsPlace}
use Rattle.valdrabus.specs.Calls.{string_call}
use Rattle.valdrabus.proofs.Demands.{Shows}
use Rattle.valdrabus.proofs.Witnesses.{call_in}
use Rattle.valdrabus.proofs.RoomExports.{string_nine_exports, string_never_exports, string_enough_exports}

-- into one byte 9, and the length 2; into two, written (2)
pub percent_told : TellsPlace (string_call 4 0 0 4 percent 1 (7 ∷ [])) 9 0 0 2 0 (7 ∷ [])
    × TellsPlace (string_call 4 0 0 4 percent 1 (7 ∷ 7 ∷ [])) 0 2 0 2 0 (ascii "\\%")
unfolding string_call string_question tested source_text bad_span cuts_character within utf8 lead read continues segment is_mark one spelling encloses answer doubled
    named filled
percent_told = (
  record { tells = record { says = record { result = refl; way = refl; one = refl; two = refl }; buffer = refl }; stop = refl },
  record { tells = record { says = record { result = refl; way = refl; one = refl; two = refl }; buffer = refl }; stop = refl },
)

pub percent_spans : Spans (literal_of 4 0 0 4) percent percent
unfolding bad_span cuts_character within
percent_spans = record { real = refl; fits = refl; text = refl }

-- by the laws
pub percent_nine : (2 + 2 ≤ 4 - 0) × (1 < 2)
percent_nine = string_nine_exports 4 0 0 4 percent (7 ∷ []) 1 percent_told.0 refl

pub percent_never : ◌≡◌ {A = ℕ} 0 9 → ⊥
percent_never = string_never_exports 4 0 0 4 percent (7 ∷ 7 ∷ []) 1 percent_told.1 (omega arith)

pub percent_shown : Shows (call_in (7 ∷ 7 ∷ []) (omega arith) percent_spans percent_told.1) (ascii "\\%")
percent_shown = string_enough_exports (call_in (7 ∷ 7 ∷ []) (omega arith) percent_spans percent_told.1) (ascii "\\%") percent_accepted (omega arith)

-- so a byte less would not serve
pub percent_reached : ((k y s e : ℕ) (S out : List ℕ) (σ r h f u p : ℕ) (after : List ℕ) → TellsPlace (string_call k y s e S σ out) r h f u p after
    → e - s ≤ length out + 3 → r ≡ 9 → ⊥) → ⊥
percent_reached law = law 4 0 0 4 percent (7 ∷ []) 1 9 0 0 2 0 (7 ∷ []) percent_told.0 (omega arith) refl
