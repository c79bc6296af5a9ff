-- [02 T-07] The packed question: what the code told of the tests and of the packed reading is the definition's outcome, and no product wraps. Assumes nothing.
use Rattle.meaning.specs.Questions.{bit_base}
use mathlib.Core.Path.{◌≡◌, refl, sym, ap, subst, ◌∙◌}
use mathlib.Core.Bool.{Bool, true, false}
use mathlib.Core.List.{List}
use Prim.Native.Nat.{ℕ, ◌+◌, ◌*◌, ◌≤◌, ◌<◌, ◌^◌}
use native.Mathlib.Nat.{mul-le-mul_right}
use native.Mathlib.Omega.{arith}
use borrow.Author.Tests.{eq-eqb, ne_eqb}
use mir.Syntax.{w32}
use mir.Val.{Fits}
use lib.Dec.{eqb, leb, ltb}
use lib.ListN.{length}
use Rattle.meaning.specs.declared.BitStringRadix.{BitStringRadix}
use Rattle.meaning.specs.declared.BitStringRadix.TheVariants.{Binary, Hex}
use Rattle.meaning.specs.declared.LiteralExpected.TheVariants as Expected
use Rattle.meaning.specs.declared.Span.{Span}
use Rattle.meaning.specs.declared.Literal.{Literal}
use Rattle.meaning.specs.declared.Refusal.{Refusal}
use Rattle.meaning.specs.declared.Refusal.TheVariants as Refusal'
use Rattle.meaning.specs.Bytes.{part}
use Rattle.std.specs.Prelude.{if◌then◌else◌}
use Rattle.meaning.specs.Cutting.{off}
use Rattle.meaning.specs.Reading.{Value, means, fails, value_of}
use Rattle.meaning.specs.Kinds.{bits}
use Rattle.meaning.specs.Answers.{Meets, kind_code}
use Rattle.meaning.specs.Questions as Definition
use Rattle.meaning.specs.Questions.{passes, barred, tested}
use Rattle.meaning.specs.Packing.{bits_per, bits_in, pack_bits, packs_as, packed_question, radix_bits}
use Rattle.laws.proofs.packing.Gathered.{length_bits_in}
use Rattle.std.specs.Prelude.{Result, Ok, Err}
use Rattle.meaning.specs.declared.Part.{Part}
use Rattle.admitting.specs.Tests.{Tests}
use Rattle.bits.specs.declared.packing.Packed.{Packed}
use Rattle.bits.specs.Pens.{digit_count, packed_of, packed_into, Packs}
use Rattle.questions.specs.Packed.{radix_by, Countable, packed_by}
use Rattle.questions.proofs.Spanned.{span_barred, span_passes, span_inside, span_length, span_end}
use Rattle.meaning.specs.declared.PackedBits.{PackedBits}
use Rattle.meaning.specs.Answers.{packed_at}
use Rattle.bits.specs.Pens.{packed_in}
use Rattle.bits.specs.declared.packing.PackingError.{PackingError}
use Rattle.bits.specs.declared.packing.PackingError.TheVariants as PackingError'

-- THE BASE
module _ (β : ℕ) where
  pub radix_binary : β ≡ 2 → Binary ≡ radix_by β
  radix_binary e = rw (eq-eqb β 2 e)

  pub radix_hex : (β ≡ 2 → ⊥) → Hex ≡ radix_by β
  radix_hex e = rw (ne_eqb β 2 e)

  pub per_binary : β ≡ 2 → 1 ≡ bits_per β
  per_binary e = rw (eq-eqb β 2 e)

  pub per_hex : (β ≡ 2 → ⊥) → 4 ≡ bits_per β
  per_hex e = rw (ne_eqb β 2 e)

  per_most : bits_per β ≤ 4
  per_most = go (eqb β 2)
    where
      go : (x : Bool) → (if x then 1 else 4) ≤ 4
      go true = omega arith
      go false = omega arith

-- WHAT IS TOLD of a packed reading
module _ (s : Span) (β : ℕ) (p : Result Packed PackingError) where
  module _ (π : Packed) (k : ℕ) (e : p ≡ Ok π) (ek : k ≡ bits_per β) where
    pub count_fits : Countable p → k * π.digits < 2 ^ 64
    count_fits h =
        let l : π.digits < 2 ^ 32 = subst Countable e h in
        let m : k * π.digits ≤ 4 * π.digits = mul-le-mul_right π.digits (rw ek (per_most β)) in
        omega arith

    pub packed_written : Ok (packed_at π.len (k * π.digits)) ≡ packed_by s (bits_per β) p
    packed_written = rw (e, ek)

  pub packed_short : (n : ℕ) → p ≡ Err (PackingError'.NoRoom n) → Err (Refusal'.NoRoom n) ≡ packed_by s (bits_per β) p
  packed_short n e = rw e

-- in bits, as the definition counts them
told_value : (s : Span) (k : ℕ) (out : List ℕ) (x : Value) → packed_by s k (packed_of k (length out) x) ≡ (packs_as s k out x).answer
told_value s k out (fails p) = refl
told_value s k out (means v) = go (leb (length (pack_bits (bits_in k v))) (length out))
  where
    go : (y : Bool)
        → packed_by s k (if y then Ok (packed_in (length (pack_bits (bits_in k v))) (length v)) else Err (PackingError'.NoRoom (length (pack_bits (bits_in k v)))))
        ≡ (if y then Ok (packed_at (length (pack_bits (bits_in k v))) (length (bits_in k v))) else Err (Refusal'.NoRoom (length (pack_bits (bits_in k v)))))
    go true = ap (λ u. Ok (packed_at (length (pack_bits (bits_in k v))) u)) (sym (length_bits_in k v))
    go false = refl

told_into : (s : Span) (k : ℕ) (out : List ℕ) (x : Value) → packed_into k out x ≡ (packs_as s k out x).buffer
told_into s k out (fails p) = refl
told_into s k out (means v) = refl

-- THE QUESTION, by the code of the kind
module _ {l : Literal} {S : List ℕ} {r : Result Part Refusal} (β : ℕ) (b : β ≡ bit_base l.kind) (v : Tests l S r (tested (ltb 0 β) Expected.BitString l S)) where
  pub packed_barred : (out : List ℕ) (w : Refusal) → r ≡ Err w → Meets (packed_question l S out) (Err w) out
  unfolding packed_question
  packed_barred out w q = rw (← b, span_barred v w q) (record { answer = refl; buffer = refl })

  module _ (π : Part) (q : r ≡ Ok π) where
    -- a base that passes is one of the two
    bases : (radix_bits (radix_by β) ≡ bits_per β) × (2 ^ radix_bits (radix_by β) ≡ β)
    unfolding tested
    bases = go (eqb (kind_code l.kind) 12) (eqb (kind_code l.kind) 13) b (span_passes v π q)
      where
        go : (x y : Bool) → β ≡ (if x then 2 else if y then 16 else 0) → tested (ltb 0 β) Expected.BitString l S ≡ passes (part π.start π.end S)
            → (radix_bits (radix_by β) ≡ bits_per β) × (2 ^ radix_bits (radix_by β) ≡ β)
        go true y k p = rw k (refl, refl)
        go false true k p = rw k (refl, refl)
        go false false k p =
            let z : barred (Refusal'.WrongKind Expected.BitString l.kind) ≡ passes (part π.start π.end S) = rw k at p in
            let n : ◌≡◌ {A = ℕ} 0 1 = cc in absurd (omega arith)

    module _ (ρ : BitStringRadix) {out after : List ℕ} {d : Result Packed PackingError}
        (w : Packs (radix_bits ρ) (value_of (part π.start π.end S) (bits off (2 ^ radix_bits ρ) (part π.start π.end S))) (length (part π.start π.end S)) out d after) (eρ : ρ ≡ radix_by β) where
      pub packed_countable : Fits w32 l.span.end → Countable d
      packed_countable h = omega (arith, h.fits, w.within, span_length v π q, span_end v π q)

      -- the radix's bits are those of the base, and so are its digits
      same : {A : Type 0} (f : ℕ → Value → A)
          → f (radix_bits ρ) (value_of (part π.start π.end S) (bits off (2 ^ radix_bits ρ) (part π.start π.end S))) ≡ f (bits_per β) (value_of (part π.start π.end S) (bits off β (part π.start π.end S)))
      same f = rw (eρ, bases.1, bases.0)

      pub packed_told_lem : (a : Result PackedBits Refusal) → a ≡ packed_by l.span (bits_per β) d → Meets (packed_question l S out) a after
      unfolding packed_question
      packed_told_lem a ea =
          rw (← b, span_passes v π q)
          record {
            answer =
                ea ∙ ap (packed_by l.span (bits_per β)) (w.answer ∙ same (λ (k : ℕ). packed_of k (length out)))
                ∙ told_value l.span (bits_per β) out (value_of (part π.start π.end S) (bits off β (part π.start π.end S)));
            buffer =
                w.buffer ∙ same (λ (k : ℕ). packed_into k out) ∙ told_into l.span (bits_per β) out (value_of (part π.start π.end S) (bits off β (part π.start π.end S)));
          }
