-- A record's line has at most 192 bytes, whatever the record. Assumes nothing.
use mathlib.Core.Path.{◌≡◌, refl, ap, ◌∙◌, subst}
use mathlib.Core.Bool.{Bool, true, false, ◌&&◌, not}
use mathlib.Core.List.{List, [], ◌∷◌, ◌++◌}
use Prim.Native.Nat.{ℕ, ◌^◌, ◌-◌, ◌≤◌, ◌<◌}
use native.Mathlib.Nat.{lt_of_lt_of_le}
use native.Mathlib.Omega.{arith}
use borrow.Author.Tests.{ltb-true, lt-ltb}
use lib.Dec.{eqb, ltb, leb, lit≤}
use lib.IntN.{ℤ, pos, negsuc}
use lib.ListN.{length, drop, length-take, length-append, length-drop}
use Rattle.meaning.specs.declared.Settings.{Settings}
use Rattle.meaning.specs.declared.Literal.{Literal}
use Rattle.meaning.specs.declared.LiteralExpected.TheVariants as Expected
use Rattle.meaning.specs.declared.Refusal.{Refusal}
use Rattle.meaning.specs.declared.Refusal.TheVariants.{WrongKind, MissingSource, InvalidSourceRange, NotUtf8, InvalidInteger, InvalidString}
use Rattle.meaning.specs.declared.Refusal.TheVariants.{InvalidBitString, InvalidMoney, NoRoom, InvalidDate}
use Rattle.meaning.specs.declared.Text.{Text}
use Rattle.meaning.specs.declared.Text.TheVariants as Text'
use Rattle.meaning.specs.Bytes.{◌!◌, number, all_digits, part}
use Rattle.std.specs.Prelude.{if◌then◌else◌}
use Rattle.meaning.specs.Numbers.{sign_length, is_minus, strip, Parsed, none, int, fits, signed, within_bits, parsed, negated_by, base_of, number_body}
use Rattle.meaning.specs.Numbers.{separated, radix_value, i64_of, digits_of, printed}
use Rattle.meaning.specs.Answers.{Outcome, part_shown, refusal_number}
use Rattle.meaning.specs.Questions.{Tested, passes, barred, tested, is_integer, integer_as, integer_by, string_question, i64_question, decimal_question, bits_question}
use Rattle.meaning.specs.Questions.{money_question, temporal_question, charset_question}
use Rattle.meaning.specs.Records.{line, refused_line, shown_line, text_line, range_line, charset_line, integer_line, room, asked, whole_literal, good_record}
use Rattle.meaning.specs.Records.{text_in, record_line, hex_text}
use Rattle.laws.proofs.questions.Buffers.{TextLeaves, string_question_leaves, decimal_question_leaves, bits_question_leaves, temporal_question_leaves}
use Rattle.laws.proofs.basics.Halves.{digits_of_length, printed_length}
use lib.Seq.{take_all}
use Rattle.leaves.specs.Puts.{Puts}
use Rattle.records.specs.Adding.{pushed}
use Rattle.records.proofs.Goods.{setting_in, good_facts, text_short}
use Rattle.records.proofs.Hexing.{hex_text_length}
use Rattle.std.specs.Prelude.{Result, Ok, Err}
use Rattle.meaning.specs.declared.Part.{Part}
use Rattle.std.specs.Prelude.{Option, Some, None}

-- a small number, a count of at most 40 bytes, and a text of at most 64
line_length : (n how : ℕ) (count t : List ℕ) → n < 100 → length count ≤ 40 → length t ≤ 64 → length (line n how count t) ≤ 192
unfolding line
line_length n how count t h k l =
    omega (
      arith,
      digits_of_length 1 n h,
      length-append (digits_of n) (32 ∷ how ∷ 32 ∷ count ++ (32 ∷ hex_text t ++ (10 ∷ []))),
      length-append count (32 ∷ hex_text t ++ (10 ∷ [])),
      length-append (hex_text t) (10 ∷ []),
      hex_text_length t,
    )

refused_length : (r : Refusal) → length (refused_line (refusal_number r)) ≤ 192
refused_length r = line_length (refusal_number r) 45 (48 ∷ []) [] (small r) (omega arith) (omega arith)
  where
    small : (r : Refusal) → refusal_number r < 100
    small (WrongKind e k) = omega arith
    small (MissingSource s) = omega arith
    small (InvalidSourceRange s) = omega arith
    small (NotUtf8 s) = omega arith
    small (InvalidInteger s) = omega arith
    small (InvalidString s p) = omega arith
    small (InvalidBitString s) = omega arith
    small (InvalidMoney s) = omega arith
    small (NoRoom n) = omega arith
    small (InvalidDate s) = omega arith

-- what is shown of a text is no longer than it
module _ (f u : ℕ) (t x : List ℕ) where
  shorter : (b : Bool) → length (if b then part f u t else []) ≤ length t
  shorter true = omega (arith, length-take (u - f) (drop f t), length-drop f t)
  shorter false = omega arith

  short : x ≡ part_shown f u t → length t ≤ 64 → length x ≤ 64
  unfolding part_shown
  short e h = let s = shorter (leb f u && leb u (length t)) in omega (arith, ap length e)

-- a part that is shown
shown_length : (how f u : ℕ) (t : List ℕ) → length t ≤ 64 → length (shown_line how (part_shown f u t)) ≤ 192
shown_length how f u t h =
    let s = short f u t (part_shown f u t) refl h in
    line_length 0 how (digits_of (length (part_shown f u t))) (part_shown f u t) (omega arith)
    (let d = digits_of_length 1 (length (part_shown f u t)) (omega arith) in omega arith) s

-- EACH ANSWER'S LINE: a text's, where the buffer is as long as `room`
text_length : (t : List ℕ) (o : Outcome (Result Text Refusal)) → length t ≤ 64 → TextLeaves room o.answer o.buffer → length (text_line t o) ≤ 192
text_length t o h = go o.answer o.buffer
  where
    go : (a : Result Text Refusal) (d : List ℕ) → TextLeaves room a d → length (text_line t (record { answer = a; buffer = d })) ≤ 192
    go (Ok (Text'.Borrowed f u)) d l = shown_length 98 f u t h
    go (Ok (Text'.Written n)) d l =
        shown_length 119 0 n d (omega (arith, ap length l.bytes, length-append l.value (drop n room), l.size, l.room, length-drop n room))
    go (Err r) d l = refused_length r

range_length : (t : List ℕ) (a : Result Part Refusal) → length t ≤ 64 → length (range_line t a) ≤ 192
range_length t (Ok π) h = shown_length 98 π.start π.end t h
range_length t (Err r) h = refused_length r

charset_length : (t : List ℕ) (a : Result (Option Part) Refusal) → length t ≤ 64 → length (charset_line t a) ≤ 192
charset_length t (Ok (Some π)) h = shown_length 98 π.start π.end t h
charset_length t (Ok None) h = line_length 0 110 (48 ∷ []) [] (omega arith) (omega arith) (omega arith)
charset_length t (Err r) h = refused_length r

-- an integer's, which is of 64 bits
abbrev Brief : Parsed → Type 0
Brief none = Unit {0}
Brief (int z) = length (printed z) ≤ 40

within_brief : (x : Parsed) → Brief (within_bits 63 x)
within_brief none = tt
within_brief (int z) = go (fits 63 z) refl
  where
    wide : (z : ℤ) → fits 63 z ≡ true → fits 127 z ≡ true
    wide (pos n) e = lt-ltb n (2 ^ 127) (lt_of_lt_of_le (ltb-true n (2 ^ 63) e) (lit≤ tt))
    wide (negsuc n) e = lt-ltb n (2 ^ 127) (lt_of_lt_of_le (ltb-true n (2 ^ 63) e) (lit≤ tt))

    go : (x : Bool) → fits 63 z ≡ x → Brief (if x then int z else none)
    go true e = printed_length z (wide z e)
    go false e = tt

parsed_brief : (β : ℕ) (t : List ℕ) → Brief (parsed 63 β t)
unfolding parsed
parsed_brief β t = go (ltb (sign_length t) (length t) && all_digits β (drop (sign_length t) t))
  where
    z : ℤ
    z = signed (is_minus t) (number β (length (drop (sign_length t) t)) 0 (drop (sign_length t) t))

    go : (x : Bool) → Brief (if x then within_bits 63 (int z) else none)
    go true = within_brief (int z)
    go false = tt

i64_brief : (t : List ℕ) → Brief (i64_of t)
unfolding i64_of radix_value
i64_brief t = go (not (separated t)) (eqb (base_of t) 10)
  where
    go : (x y : Bool) → Brief (if x then none else if y then parsed 63 10 (strip t) else radix_value 63 t)
    go true y = tt
    go false true = parsed_brief 10 (strip t)
    go false false = within_brief (negated_by (is_minus t) (parsed 63 (base_of t) (strip (number_body t))))

integer_length : (l : Literal) (t : List ℕ) → length (integer_line (i64_question l t)) ≤ 192
unfolding i64_question
integer_length l t = go (tested (is_integer l.kind) Expected.Integer l t)
  where
    as_length : (bad : Refusal) (x : Parsed) → Brief x → length (integer_line (integer_as bad x)) ≤ 192
    as_length bad none h = refused_length bad
    as_length bad (int z) h = line_length 0 105 (printed z) [] (omega arith) h (omega arith)

    go : (x : Tested) → length (integer_line (integer_by l x)) ≤ 192
    go (passes u) = as_length (InvalidInteger l.span) (i64_of u) (i64_brief u)
    go (barred r) = refused_length r

-- THE QUESTION'S LINE, and the record's
asked_length : (q : ℕ) (l : Literal) (σ : Settings) (t : List ℕ) → length t ≤ 64 → length (asked q l σ t) ≤ 192
asked_length q l σ t h = go (eqb q 1) (eqb q 2) (eqb q 3) (eqb q 4) (eqb q 5) (eqb q 6)
  where
    go : (a b c d e f : Bool)
        → length
        (if a then text_line t (string_question l t σ room)
        else if b then integer_line (i64_question l t)
        else if c then text_line t (decimal_question l t room)
        else if d then text_line t (bits_question l t room)
        else if e then range_line t (money_question l t)
        else if f then text_line t (temporal_question l t room)
        else charset_line t (charset_question l t)) ≤ 192
    go true b c d e f = text_length t (string_question l t σ room) h (string_question_leaves l t room σ)
    go false true c d e f = integer_length l t
    go false false true d e f = text_length t (decimal_question l t room) h (decimal_question_leaves l t room)
    go false false false true e f = text_length t (bits_question l t room) h (bits_question_leaves l t room)
    go false false false false true f = range_length t (money_question l t) h
    go false false false false false true = text_length t (temporal_question l t room) h (temporal_question_leaves l t room)
    go false false false false false false = charset_length t (charset_question l t) h

pub record_line_length : (r : List ℕ) → length (record_line r) ≤ 192
unfolding record_line
record_line_length r = go (good_record r) refl
  where
    go : (x : Bool) → good_record r ≡ x
        → length (if x then asked (r ! 0) (whole_literal (r ! 1) (text_in r)) (setting_in r) (text_in r) else refused_line 10) ≤ 192
    go true e = asked_length (r ! 0) (whole_literal (r ! 1) (text_in r)) (setting_in r) (text_in r) (text_short r (good_facts r e))
    go false e = line_length 10 45 (48 ∷ []) [] (omega arith) (omega arith) (omega arith)

-- put into a buffer, all of it
pub puts_line : (r start row text out after : List ℕ) (n : ℕ) → start ≡ [] → row ≡ pushed start (record_line r) → text ≡ row → Puts text out n after
    → Puts (record_line r) out n after
puts_line r start row text out after n es er et =
    subst (λ (x : List ℕ). Puts x out n after)
    (et ∙ er ∙ ap (λ (z : List ℕ). pushed z (record_line r)) es ∙ take_all 192 (record_line r) (record_line_length r))
