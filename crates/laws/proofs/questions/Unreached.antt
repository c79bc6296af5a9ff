-- Arms of the definitions that nothing reaches: a spelling other than U& where U& is looked for, money that is written, a source's range refused by 6, a kind
-- that the list of kinds has not. (A cut keeps no byte: `Cuts.cut_keeps_none`. A value has a part: `WriterParts.parts_of_some`.) Assumes nothing.
use mathlib.Core.Path.{◌≡◌, refl}
use mathlib.Core.Bool.{Bool, true, false}
use mathlib.Core.List.{List, [], ◌∷◌}
use Prim.Native.Nat.{ℕ, zero, suc, ◌+◌, ◌-◌, ◌≤◌, ◌<◌}
use Prim.Native.Char.{code}
use native.Mathlib.Omega.{arith}
use lib.Dec.{eqb}
use lib.ListN.{length, drop}
use Rattle.meaning.specs.declared.LiteralKind.{LiteralKind}
use Rattle.meaning.specs.declared.LiteralExpected.{LiteralExpected}
use Rattle.meaning.specs.declared.LiteralExpected.TheVariants as Expected
use Rattle.meaning.specs.declared.Literal.{Literal}
use Rattle.meaning.specs.declared.Refusal.TheVariants.{MissingSource, InvalidSourceRange, NotUtf8, InvalidMoney}
use Rattle.meaning.specs.Bytes.{◌!◌, part}
use Rattle.std.specs.Prelude.{if◌then◌else◌}
use Rattle.meaning.specs.Chars.{utf8}
use Rattle.meaning.specs.Walk.{Trace, walk, size, stops}
use Rattle.meaning.specs.Steps.{closing_step, trim}
use Rattle.meaning.specs.Spelling.{Spelling, standard, escape, unicode, dollar, unspelt, chosen, unicode_by, closed_unicode, is_unicode, unicode_spelling}
use Rattle.meaning.specs.Reading.{Answer, borrowed, written, refused}
use Rattle.meaning.specs.Kinds.{money}
use Rattle.meaning.specs.Answers.{kind_code, refusal_number, range_number}
use Rattle.meaning.specs.Questions.{Tested, passes, barred, bad_span, source_text, tested, is_money, range_as, ranged, source_question, money_question}
use Rattle.meaning.specs.Codes.{kind_by, kinds, kind_of}

-- U& or nothing
abbrev pub unicode_or_none : Spelling → Bool
unicode_or_none (standard q f u) = false
unicode_or_none (escape f u) = false
unicode_or_none (unicode e f u) = true
unicode_or_none (dollar f u) = false
unicode_or_none unspelt = true

unicode_by_only : (e : List ℕ) (n : ℕ) → unicode_or_none (unicode_by e n) ≡ true
unicode_by_only [] n = refl
unicode_by_only (b ∷ e) n = refl

closed_unicode_only : (t : List ℕ) (r : Trace) → unicode_or_none (closed_unicode t r) ≡ true
closed_unicode_only t r = go (stops r)
  where
    go : (x : Bool) → unicode_or_none (if x then unicode_by (chosen (trim (drop (4 + size r) t))) (3 + size r) else unspelt) ≡ true
    go true = unicode_by_only (chosen (trim (drop (4 + size r) t))) (3 + size r)
    go false = refl

pub unicode_spelling_only : (q : ℕ) (t : List ℕ) → unicode_or_none (unicode_spelling q t) ≡ true
unfolding unicode_spelling
unicode_spelling_only q t = go (is_unicode q t)
  where
    go : (x : Bool) → unicode_or_none (if x then closed_unicode t (walk (closing_step false q) 0 (drop 3 t)) else unspelt) ≡ true
    go true = closed_unicode_only t (walk (closing_step false q) 0 (drop 3 t))
    go false = refl

-- THE TESTS bar by 1 to 4
abbrev pub BarsBy4 : Tested → Type 0
BarsBy4 (passes t) = Unit {0}
BarsBy4 (barred r) = refusal_number r ≤ 4

pub source_text_bars : (l : Literal) (S : List ℕ) → BarsBy4 (source_text l S)
unfolding source_text
source_text_bars l S = go l.synthetic (bad_span l.span S) (utf8 t)
  where
    t : List ℕ
    t = part l.span.start l.span.end S

    go : (x y z : Bool)
        → BarsBy4 (if x then barred (MissingSource l.span)
        else if y then barred (InvalidSourceRange l.span) else if z then passes t else barred (NotUtf8 l.span))
    go true y z = omega arith
    go false true z = omega arith
    go false false true = tt
    go false false false = omega arith

pub tested_bars : (right : Bool) (e : LiteralExpected) (l : Literal) (S : List ℕ) → BarsBy4 (tested right e l S)
unfolding tested
tested_bars true e l S = source_text_bars l S
tested_bars false e l S = omega arith

-- so the source's range is found, or refused by one of them: never by 6
pub source_number : (l : Literal) (S : List ℕ) → range_number (source_question l S) ≤ 4
unfolding source_question
source_number l S = go (source_text l S) (source_text_bars l S)
  where
    go : (x : Tested) → BarsBy4 x → range_number (ranged (λ t. borrowed 0 (length t)) NotUtf8 l x) ≤ 4
    go (passes t) h = omega arith
    go (barred r) h = h

-- MONEY is a part of the text, or refused
pub money_unwritten : (t v : List ℕ) → money t ≡ written v → ⊥
unfolding money
money_unwritten t v = go (eqb (t ! 0) (code "$"))
  where
    go : (x : Bool) → (if x then borrowed 1 (length t) else refused 0) ≡ written v → ⊥
    go true e = let y : ◌≡◌ {A = ℕ} 0 1 = cc in omega arith
    go false e = let y : ◌≡◌ {A = ℕ} 0 1 = cc in omega arith

-- so 8 is given only where money refuses the text that the tests passed
pub record MoneyRefuses (l : Literal) (S : List ℕ) : Type 0 where
  pub text : List ℕ
  pub place : ℕ
  pub tests : tested (is_money l.kind) Expected.Money l S ≡ passes text
  pub refuses : money text ≡ refused place

pub money_eight : (l : Literal) (S : List ℕ) → range_number (money_question l S) ≡ 8 → MoneyRefuses l S
unfolding money_question
money_eight l S h = go (tested (is_money l.kind) Expected.Money l S) refl (tested_bars (is_money l.kind) Expected.Money l S) h
  where
    by : (t : List ℕ) → tested (is_money l.kind) Expected.Money l S ≡ passes t → (a : Answer) → money t ≡ a
        → range_number (range_as (InvalidMoney l.span) l.span.start a) ≡ 8 → MoneyRefuses l S
    by t e (borrowed f u) m k = absurd (omega arith)
    by t e (written v) m k = absurd (money_unwritten t v m)
    by t e (refused p) m k = record { text = t; place = p; tests = e; refuses = m }

    go : (x : Tested) → tested (is_money l.kind) Expected.Money l S ≡ x → BarsBy4 x → range_number (ranged money InvalidMoney l x) ≡ 8 → MoneyRefuses l S
    go (passes t) e b k = by t e (money t) refl k
    go (barred r) e b k = absurd (omega arith)

-- KINDS: codes 1 to 14 name the kinds of the list, so whatever stands for none is not asked. The codes of the list, in order
abbrev CodesFrom : ℕ → List LiteralKind → Type 0
CodesFrom n [] = Unit {0}
CodesFrom n (k ∷ ks) = (kind_code k ≡ n) × CodesFrom (suc n) ks

kind_by_code : (n : ℕ) (ks : List LiteralKind) → CodesFrom n ks → (i : ℕ) → i < length ks → kind_code (kind_by ks i) ≡ n + i
kind_by_code n [] a i h = absurd (omega arith)
kind_by_code n (k ∷ ks) a zero h = let e = a.0 in omega arith
kind_by_code n (k ∷ ks) a (suc i) h = let e = kind_by_code (suc n) ks a.1 i (omega arith) in omega arith

codes_listed : CodesFrom 1 kinds
codes_listed = omega arith

pub kind_of_code : (c : ℕ) → 1 ≤ c → c ≤ 14 → kind_code (kind_of c) ≡ c
kind_of_code c h k = let e = kind_by_code 1 kinds codes_listed (c - 1) (omega arith) in omega arith
