-- [02 T-03] "four per item", of 32-bit numbers: 32 bits hold every number that is told of items whose ends they hold, in a buffer whose length they hold. A
-- borrowed range lies in the item's span, a written one in the buffer, and a value is shorter than its span. Assumes nothing.
use mathlib.Core.Path.{◌≡◌, refl, sym, subst}
use mathlib.Core.Bool.{Bool, true, false}
use mathlib.Core.List.{List, [], ◌∷◌}
use Prim.Native.Nat.{ℕ, ◌+◌, ◌-◌, ◌^◌, ◌≤◌, ◌<◌}
use native.Mathlib.Omega.{arith}
use lib.Dec.{leb}
use lib.ListN.{length, drop, length-take, length-drop}
use borrow.Author.Tests.{leb-true}
use Rattle.meaning.specs.declared.Settings.{Settings}
use Rattle.meaning.specs.declared.Span.{Span}
use Rattle.meaning.specs.declared.Literal.{Literal}
use Rattle.meaning.specs.declared.LiteralExpected.TheVariants as Expected
use Rattle.meaning.specs.declared.Item.{Item}
use Rattle.meaning.specs.declared.Four.{Four}
use Rattle.meaning.specs.declared.Refusal.{Refusal}
use Rattle.meaning.specs.declared.Refusal.TheVariants.{WrongKind, MissingSource, InvalidSourceRange, NotUtf8, InvalidInteger, InvalidString}
use Rattle.meaning.specs.declared.Refusal.TheVariants.{InvalidBitString, InvalidMoney, NoRoom, InvalidDate}
use Rattle.meaning.specs.declared.Text.{Text}
use Rattle.meaning.specs.declared.Text.TheVariants as Text'
use Rattle.meaning.specs.Bytes.{part}
use Rattle.std.specs.Prelude.{if◌then◌else◌}
use Rattle.meaning.specs.Chars.{utf8}
use Rattle.meaning.specs.Reading.{Answer, borrowed, written, refused, read}
use Rattle.meaning.specs.Answers.{refusal_number}
use Rattle.meaning.specs.Questions.{passes, barred, bad_span, source_text, tested, is_string, told_as, told, string_question}
use Rattle.meaning.specs.Codes.{literal_of, settings_of}
use Rattle.meaning.specs.Blocks.{items_of, numbers_of, four, refused_four, four_of, Asked, item_question, item_asked, block_at, bad_block, block_call}
use Rattle.laws.proofs.walking.Short.{read_length}
use Rattle.laws.proofs.places.Whole.{read_end}
use Rattle.laws.proofs.cutting.Gaps.{AllP, all_append, all_drop}
use Rattle.laws.proofs.questions.Buffers.{filled_length}
use Rattle.laws.proofs.questions.Items.{item_either, item_filled, refused_told}
use Rattle.laws.proofs.questions.BlockCalls.{good_admitted, call_bad, call_answers}
use Rattle.laws.proofs.questions.Ranges.{Bounds, AnswerIn, read_inside, span_range}
use Rattle.std.specs.Prelude.{Result, Ok, Err}

-- WHAT EACH CASE OF AN ANSWER SAYS, in a span that ends at e and a buffer of m bytes; a refusal of its place, or of the length that it needs
abbrev pub TextFits : ℕ → ℕ → Result Text Refusal → Type 0
TextFits e m (Ok (Text'.Borrowed f u)) = Bounds e f u
TextFits e m (Ok (Text'.Written n)) = n ≤ m
TextFits e m (Err r) = (refused_four r).start + (refused_four r).len ≤ e

-- a reading of the n bytes that begin at s
told_fits : (sp : Span) (s e n : ℕ) (out : List ℕ) → s + n ≤ e → (a : Answer) → AnswerIn n a → ((v : List ℕ) → a ≡ written v → length v + 2 ≤ n)
    → ((p : ℕ) → a ≡ refused p → p ≤ n) → TextFits e (length out) (told_as (InvalidString sp) s out a).answer
told_fits sp s e n out h (borrowed f u) b w x = record { ordered = omega arith; inside = omega arith }
told_fits sp s e n out h (written v) b w y = go (leb (length v) (length out)) refl
  where
    go : (x : Bool) → leb (length v) (length out) ≡ x
        → TextFits e (length out) (if x then Ok (Text'.Written (length v)) else Err (NoRoom (length v)))
    go true l = leb-true (length v) (length out) l
    go false l = omega (arith, w v refl)
told_fits sp s e n out h (refused p) b w x = omega (arith, x p refl)

pub string_fits : (l : Literal) (S : List ℕ) (σ : Settings) (out : List ℕ) → TextFits l.span.end (length out) (string_question l S σ out).answer
unfolding string_question tested source_text
string_fits l S σ out = go (is_string l.kind) l.synthetic (bad_span l.span S) (utf8 text) refl
  where
    text : List ℕ
    text = part l.span.start l.span.end S

    fits : Bounds (length S) l.span.start l.span.end → l.span.start + length text ≤ l.span.end
    fits b = omega (arith, length-take (l.span.end - l.span.start) (drop l.span.start S))

    go : (k y z u : Bool) → bad_span l.span S ≡ z → TextFits l.span.end (length out)
        (told (read σ) InvalidString l out
        (if k
        then (if y then barred (MissingSource l.span)
        else if z then barred (InvalidSourceRange l.span)
        else if u then passes text
        else barred (NotUtf8 l.span))
        else barred (WrongKind Expected.String l.kind))).answer
    go false y z u h = omega arith
    go true true z u h = omega arith
    go true false true u h = omega arith
    go true false false false h = omega arith
    go true false false true h =
        told_fits l.span l.span.start l.span.end (length text) out (fits (span_range l.span S h)) (read σ text) (read_inside σ text)
        (λ v. read_length σ text v) (λ p. read_end σ text p)

-- WHAT IS TOLD OF AN ITEM, where 32 bits hold the span's end and the buffer's: also where a text ends
pub record Small (f : Four) : Type 0 where
  pub number : f.number < 2 ^ 32
  pub how : f.how < 2 ^ 32
  pub range : f.start + f.len < 2 ^ 32

refusal_below : (r : Refusal) → refusal_number r ≤ 14
refusal_below (WrongKind e k) = omega arith
refusal_below (MissingSource s) = omega arith
refusal_below (InvalidSourceRange s) = omega arith
refusal_below (NotUtf8 s) = omega arith
refusal_below (InvalidInteger s) = omega arith
refusal_below (InvalidString s p) = omega arith
refusal_below (InvalidBitString s) = omega arith
refusal_below (InvalidMoney s) = omega arith
refusal_below (NoRoom n) = omega arith
refusal_below (InvalidDate s) = omega arith

refused_small : (n p k : ℕ) → n ≤ 14 → p + k < 2 ^ 32 → Small (four n 0 p k)
refused_small n p k h l = record { number = omega arith; how = omega arith; range = omega arith }

text_small : (e m used : ℕ) → e < 2 ^ 32 → used + m < 2 ^ 32 → (a : Result Text Refusal) → TextFits e m a → Small (four_of used a)
text_small e m used h r (Ok (Text'.Borrowed f u)) b = record { number = omega arith; how = omega arith; range = omega arith }
text_small e m used h r (Ok (Text'.Written n)) b = record { number = omega arith; how = omega arith; range = omega arith }
text_small e m used h r (Err x) b =
    subst Small (sym (refused_told x))
    (refused_small (refusal_number x) (refused_four x).start (refused_four x).len (omega (arith, refusal_below x)) (omega arith))

pub item_fits : (S : List ℕ) (used : ℕ) (room : List ℕ) (i : Item) → i.end < 2 ^ 32 → used + length room < 2 ^ 32 → Small (item_asked S used room i).told
item_fits S used room i h r =
    item_either S used room i (λ (a : Asked). Small a.told)
    (text_small i.end (length room) used h r (item_question S room i).answer
    (string_fits (literal_of i.kind 0 i.start i.end) S (settings_of i.setting) room))
    (refused_small 10 0 0 (omega arith) (omega arith))

-- OF ALL ITEMS
abbrev pub EndsFit : List Item → Type 0
EndsFit [] = Unit {0}
EndsFit (i ∷ is) = (i.end < 2 ^ 32) × EndsFit is

abbrev pub AllFit : List ℕ → Type 0
AllFit ns = AllP (λ n. n < 2 ^ 32) ns

pub block_fits : (S : List ℕ) (used : ℕ) (room : List ℕ) (is : List Item) → EndsFit is → used + length room < 2 ^ 32
    → AllFit (numbers_of (block_at S used room is).fours)
block_fits S used room [] h r = tt
block_fits S used room (i ∷ is) h r =
    let a : Asked = item_asked S used room i in
    let f = item_fits S used room i h.0 r in
    let t = item_filled S used room i in
    let left : used + a.took + length (drop a.took a.room) < 2 ^ 32 =
    omega (arith, t.room, filled_length t, length-drop a.took a.room) in
    let rest = block_fits S (used + a.took) (drop a.took a.room) is h.1 left in
    (f.number, (f.how, (omega arith, (omega arith, rest))))

-- OF A CALL, whose numbers all are such
ends_fit : (ns : List ℕ) → AllFit ns → EndsFit (items_of ns)
ends_fit [] h = tt
ends_fit (k ∷ []) h = tt
ends_fit (k ∷ (g ∷ [])) h = tt
ends_fit (k ∷ (g ∷ (s ∷ []))) h = tt
ends_fit (k ∷ (g ∷ (s ∷ (e ∷ ns)))) h = (h.1.1.1.0, ends_fit ns h.1.1.1.1)

pub call_fits : (items S answers out : List ℕ) → AllFit items → AllFit answers → AllFit (block_call items S answers out).answers
call_fits items S answers out h a = go (bad_block items answers out) refl
  where
    ns : List ℕ
    ns = numbers_of (block_at S 0 out (items_of items)).fours

    go : (x : Bool) → bad_block items answers out ≡ x → AllFit (block_call items S answers out).answers
    go true e = rw (call_bad items answers out S e) a
    go false e =
        let l = good_admitted items answers out e in
        rw (call_answers items S answers out l)
        (all_append (λ n. n < 2 ^ 32) ns (drop (length items) answers) (block_fits S 0 out (items_of items) (ends_fit items h) (omega (arith, l.limit)))
        (all_drop (λ n. n < 2 ^ 32) (length items) answers a))
