-- [02 T-03] A block, of what the C exports give back: what valdrabus_read_block tells of an item, and the bytes that it wrote for it, are those of valdrabus_as_str_in
-- in the room behind the bytes that are told as written before it. Assumes nothing.
use mathlib.Core.Path.{◌≡◌, refl, sym, ap, ◌∙◌, subst}
use mathlib.Core.Bool.{true}
use mathlib.Core.List.{List, [], ◌∷◌, ◌++◌}
use Prim.Native.Nat.{ℕ, ◌+◌, ◌-◌, ◌%◌}
use native.Mathlib.Nat.{sub-zero}
use lib.Dec.{eqb}
use lib.ListN.{length, take, drop}
use Rattle.meaning.specs.declared.Four.{Four}
use Rattle.meaning.specs.declared.Refusal.TheVariants as Refusal'
use Rattle.meaning.specs.declared.Text.{Text}
use Rattle.meaning.specs.declared.Text.TheVariants as Text'
use Rattle.meaning.specs.Bytes.{part}
use Rattle.std.specs.Prelude.{if◌then◌else◌}
use Rattle.meaning.specs.Answers.{Outcome}
use Rattle.meaning.specs.Questions.{string_question}
use Rattle.meaning.specs.Codes.{is_known, literal_of, settings_of}
use Rattle.meaning.specs.Blocks.{four, four_of, takes, numbers_of}
use Rattle.laws.proofs.questions.BlockReturns.{BlockCall, room_from, Returned, block_calls}
use Rattle.valdrabus.specs.declared.told.Told.{Told}
use Rattle.valdrabus.specs.Numbers.{five_told, text_told, TellsPlace}
use Rattle.valdrabus.specs.Calls.{outcome_told, string_call}
use Rattle.std.specs.Prelude.{Result, Ok, Err}
use Rattle.meaning.specs.declared.Refusal.{Refusal}

-- the four of a single call's numbers, for a text that is written from place b on: a range becomes a start and a length; of refusals 9 keeps its
-- length, and 6 its place
abbrev pub four_by : ℕ → Told → Four
four_by b t =
    if eqb t.number 0 then four 0 t.how (if eqb t.how 2 then b else t.first) (t.second - t.first)
    else if eqb t.number 9 then four 9 0 0 t.second
    else four t.number 0 t.place 0

four_by_lem : (b : ℕ) (r : Result Text Refusal) → four_of b r ≡ four_by b (text_told r)
four_by_lem b (Ok (Text'.Borrowed f u)) = refl
four_by_lem b (Ok (Text'.Written n)) = ap (four 0 2 b) (sym (sub-zero n))
four_by_lem b (Err (Refusal'.WrongKind e k)) = refl
four_by_lem b (Err (Refusal'.MissingSource s)) = refl
four_by_lem b (Err (Refusal'.InvalidSourceRange s)) = refl
four_by_lem b (Err (Refusal'.NotUtf8 s)) = refl
four_by_lem b (Err (Refusal'.InvalidInteger s)) = refl
four_by_lem b (Err (Refusal'.InvalidString s p)) = refl
four_by_lem b (Err (Refusal'.InvalidBitString s)) = refl
four_by_lem b (Err (Refusal'.InvalidMoney s)) = refl
four_by_lem b (Err (Refusal'.NoRoom n)) = refl
four_by_lem b (Err (Refusal'.InvalidDate s)) = refl

-- how many bytes a single call wrote
abbrev pub wrote : Told → ℕ
wrote t = if eqb t.how 2 then t.second else 0

takes_by : (r : Result Text Refusal) → takes r ≡ wrote (text_told r)
takes_by (Ok (Text'.Borrowed f u)) = refl
takes_by (Ok (Text'.Written n)) = refl
takes_by (Err (Refusal'.WrongKind e k)) = refl
takes_by (Err (Refusal'.MissingSource s)) = refl
takes_by (Err (Refusal'.InvalidSourceRange s)) = refl
takes_by (Err (Refusal'.NotUtf8 s)) = refl
takes_by (Err (Refusal'.InvalidInteger s)) = refl
takes_by (Err (Refusal'.InvalidString s p)) = refl
takes_by (Err (Refusal'.InvalidBitString s)) = refl
takes_by (Err (Refusal'.InvalidMoney s)) = refl
takes_by (Err (Refusal'.NoRoom n)) = refl
takes_by (Err (Refusal'.InvalidDate s)) = refl

-- the item behind n numbers of a block got what a single call told and wrote
pub record Gives {items S : List ℕ} (c : BlockCall items S) (n : ℕ) (t : Told) (after : List ℕ) : Type 0 where
  pub told : take 4 (drop n c.told) ≡ numbers_of (four_by (room_from c n) t ∷ [])
  pub bytes : part (room_from c n) (room_from c n + wrote t) c.after ≡ take (wrote t) after

module _ (a : List ℕ) (k g s e : ℕ) (b S : List ℕ) (f : length a % 4 ≡ 0) (c : BlockCall (a ++ (k ∷ (g ∷ (s ∷ (e ∷ b))))) S) (z : c.result ≡ 0)
    (known : is_known k 0 g ≡ true) (n how first second place : ℕ) (after : List ℕ)
    (single : TellsPlace (string_call k 0 s e S g (drop (room_from c (length a)) c.lent)) n how first second place after) where
  abbrev asked : Outcome (Result Text Refusal)
  asked = string_question (literal_of k 0 s e) S (settings_of g) (drop (room_from c (length a)) c.lent)

  single_is : TellsPlace (outcome_told text_told asked) n how first second place after
  unfolding string_call
  single_is = rw known at single

  numbers : five_told n how first second place ≡ text_told asked.answer
  numbers =
      let x = single_is.tells.says in
      rw (x.result, x.way, x.one, x.two, single_is.stop)

  pub block_exports : Gives c (length a) (five_told n how first second place) after
  block_exports =
      let r : Returned c (length a) asked.answer after =
      block_calls a k g s e b S f c z known asked.answer after (record { answer = refl; buffer = single_is.tells.buffer }) in
      record {
        told =
            r.told
            ∙ ap (λ (x : Four). numbers_of (x ∷ [])) (four_by_lem (room_from c (length a)) asked.answer ∙ ap (four_by (room_from c (length a))) (sym numbers));
        bytes =
            subst (λ (m : ℕ). part (room_from c (length a)) (room_from c (length a) + m) c.after ≡ take m after)
            (takes_by asked.answer ∙ ap wrote (sym numbers)) r.bytes;
      }
