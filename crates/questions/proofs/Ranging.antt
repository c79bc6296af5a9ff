-- The questions whose answer is a part of the source: what the code told is the definition's answer, and no sum wraps. Assumes nothing.
use Rattle.meaning.specs.Questions.{is_money, is_string}
use mathlib.Core.Path.{◌≡◌, refl, sym, ap, ◌∙◌}
use mathlib.Core.List.{List}
use Prim.Native.Nat.{ℕ, zero, suc, ◌+◌, ◌-◌, ◌<◌, ◌^◌}
use native.Mathlib.Omega.{arith}
use lib.Dec.{eqb}
use lib.ListN.{length}
use borrow.Author.Tests.{eq-eqb, ne_eqb}
use Rattle.meaning.specs.declared.Literal.{Literal}
use Rattle.meaning.specs.declared.LiteralExpected.TheVariants as Expected
use Rattle.meaning.specs.declared.ReadText.{ReadText}
use Rattle.meaning.specs.declared.ReadRefusal.{ReadRefusal}
use Rattle.meaning.specs.declared.Refusal.{Refusal}
use Rattle.meaning.specs.declared.Refusal.TheVariants.{NotUtf8, InvalidMoney}
use Rattle.meaning.specs.Bytes.{◌!◌, part}
use Rattle.meaning.specs.Cutting.{opening}
use Rattle.meaning.specs.Reading.{borrowed}
use Rattle.meaning.specs.Reads.{read_of}
use Rattle.meaning.specs.Kinds.{money, charset_end}
use Rattle.meaning.specs.Answers.{kind_code}
use Rattle.meaning.specs.Questions as Definition
use Rattle.meaning.specs.Questions.{source_text, tested, source_question, money_question, named_as, charset_question}
use Rattle.std.specs.Prelude.{Result, Ok, Err}
use Rattle.meaning.specs.declared.Part.{Part}
use Rattle.admitting.specs.Tests.{Tests}
use Rattle.questions.specs.Told.{range_by, InText}
use Rattle.questions.proofs.Spanned.{span_barred, span_passes, span_start, span_inside, span_length}
use Rattle.questions.proofs.Moved.{fits_text, ranged_is, ranged_barred}
use Rattle.laws.proofs.questions.AgreedParts.{charset_inside}
use Rattle.questions.proofs.Inside.{money_inside}
use Rattle.meaning.specs.Answers.{part_at}
use Rattle.std.specs.Prelude.{Bool, Option, Some, None}

-- THE TEXT
module _ {l : Literal} {S : List ℕ} {r : Result Part Refusal} (v : Tests l S r (source_text l S)) where
  pub source_found : (π : Part) → r ≡ Ok π → Ok (part_at π.start π.end) ≡ source_question l S
  unfolding source_question
  source_found π q =
      let z : π.start + 0 ≡ π.start = omega arith in
      ap (λ u. Ok (part_at π.start u)) (sym (span_length v π q)) ∙ ap (λ (n : ℕ). Ok (part_at n (π.start + length (part π.start π.end S)))) (sym z)
      ∙ ranged_is (λ t. borrowed 0 (length t)) v NotUtf8 π q 0 (read_of 0 (borrowed 0 (length (part π.start π.end S)))) refl _ refl

  pub source_barred : (w : Refusal) → r ≡ Err w → Err w ≡ source_question l S
  unfolding source_question
  source_barred w q = ranged_barred (λ t. borrowed 0 (length t)) v NotUtf8 w q

pub source_ranged : {l : Literal} {S : List ℕ} (r : Result Part Refusal) → Tests l S r (source_text l S) → r ≡ source_question l S
source_ranged (Ok π) v = source_found v π refl
source_ranged (Err w) v = source_barred v w refl

-- NO SUM WRAPS
module _ {l : Literal} {S : List ℕ} {r : Result Part Refusal} {x : Definition.Tested} (v : Tests l S r x) (π : Part) (q : r ≡ Ok π) (h : length S < 2 ^ 64) where
  pub money_fits : (d : Result ReadText ReadRefusal) → d ≡ read_of 0 (money (part π.start π.end S)) → InText π.start d
  money_fits d k = fits_text money v π q money_inside h 0 d k

  pub charset_fits : (n : ℕ) → n ≡ charset_end (part π.start π.end S) → π.start + n < 2 ^ 64
  charset_fits n k = omega (arith, charset_inside (part π.start π.end S), span_length v π q, span_inside v π q)

  pub charset_begins : (n : ℕ) → n ≡ charset_end (part π.start π.end S) → (n ≡ 0 → ⊥) → π.start + 1 < 2 ^ 64
  charset_begins n k z = omega (arith, charset_fits n k, z)

-- WHAT IS TOLD, by the code of the kind
named_some : (s n : ℕ) → (n ≡ 0 → ⊥) → named_as s n ≡ Ok (Some (part_at (s + 1) (s + n)))
named_some s zero z = absurd (z refl)
named_some s (suc n) z = refl

module _ {l : Literal} {S : List ℕ} {r : Result Part Refusal} where
  module _ {right : Bool} (c : right ≡ is_money l.kind) (v : Tests l S r (tested right Expected.Money l S)) where
    pub money_told : (π : Part) → r ≡ Ok π → (d : Result ReadText ReadRefusal) → d ≡ read_of 0 (money (part π.start π.end S)) → (a : Result Part Refusal)
        → a ≡ range_by (InvalidMoney l.span) π.start d → a ≡ money_question l S
    unfolding money_question
    money_told π q d k a o = rw (← c) (ranged_is money v InvalidMoney π q 0 d k a o)

    pub money_barred : (w : Refusal) → r ≡ Err w → Err w ≡ money_question l S
    unfolding money_question
    money_barred w q = rw (← c) (ranged_barred money v InvalidMoney w q)

  module _ {right : Bool} (c : right ≡ is_string l.kind) (v : Tests l S r (tested right Expected.String l S)) where
    pub charset_barred : (w : Refusal) → r ≡ Err w → Err w ≡ charset_question l S
    unfolding charset_question
    charset_barred w q = rw (← c, span_barred v w q)

    module _ (π : Part) (q : r ≡ Ok π) (n : ℕ) (k : n ≡ charset_end (part π.start π.end S)) where
      its : charset_question l S ≡ named_as π.start n
      unfolding charset_question
      its = rw (← c, span_passes v π q, ← k, ← span_start v π q)

      pub charset_unnamed : n ≡ 0 → ◌≡◌ {A = Result (Option Part) Refusal} (Ok None) (charset_question l S)
      charset_unnamed z = sym (its ∙ ap (named_as π.start) z)

      pub charset_told_lem : (n ≡ 0 → ⊥) → Ok (Some (part_at (π.start + 1) (π.start + n))) ≡ charset_question l S
      charset_told_lem z = sym (its ∙ named_some π.start n z)

-- WHERE A NAME ENDS
module _ (t : List ℕ) (b : ℕ) (eb : b ≡ t ! 0) where
  pub name_none : (b ≡ 95 → ⊥) → 0 ≡ charset_end t
  unfolding charset_end
  name_none h = rw (← eb, ne_eqb b 95 h)

  module _ (h : b ≡ 95) (n : ℕ) (k : n ≡ opening t) where
    pub name_ends : n - 1 ≡ charset_end t
    unfolding charset_end
    name_ends = rw (← eb, eq-eqb b 95 h, ← k)

    pub name_unopened : n ≡ 0 → 0 ≡ charset_end t
    name_unopened z = let y : 0 ≡ n - 1 = omega arith in y ∙ name_ends
