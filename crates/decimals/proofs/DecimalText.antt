-- Decimal text: in base ten the text less `_`, borrowed if it has none; with a radix the number that it is, printed. Assumes nothing.
use Rattle.std.proofs.Common.{◌≡◌, ℕ, ◌-◌, ◌^◌, ◌<◌, ◌≤◌, Bool, true, false, not, List, ◌++◌, length, take, drop, ℤ, sym, refl, ap, ◌∙◌, subst, pos_of_ne-zero, div-add-mod', arith, ne_eqb}
use Prim.Native.Char.{code}
use Rattle.meaning.specs.declared.RadixPrefix.{RadixPrefix}
use Rattle.meaning.specs.declared.ReadText.{ReadText}
use Rattle.meaning.specs.declared.ReadRefusal.{ReadRefusal}
use Rattle.meaning.specs.declared.ReadText.TheVariants.{Borrowed, Written}
use Rattle.meaning.specs.declared.ReadRefusal.TheVariants.{At, NoRoom}
use Rattle.meaning.specs.Bytes.{has}
use Rattle.std.specs.Prelude.{if◌then◌else◌, Result, Ok, Err}
use Rattle.meaning.specs.Reading.{Answer, borrowed, written, refused}
use Rattle.meaning.specs.Reads.{Reads}
use Rattle.meaning.specs.Numbers.{sign_length, is_minus, radix_prefix, placed, strip, Parsed, none, int}
use Rattle.meaning.specs.Numbers.{fits, within_bits, negated_by, printed_by, unsigned, base_of, separated, radix_value, decimal_of}
use Rattle.meaning.specs.Halves.{joined_halves, bits_of, text_of}
use Rattle.laws.proofs.basics.Halves.{text_of_printed}
use Rattle.numbers.specs.Values.{parsed_apart}
use Rattle.decimals.specs.SignedHalves.{halves_of}
use Rattle.decimals.specs.Separating.{separators_of, plain_of}
use Rattle.numbers.specs.declared.radix.Halves.{Halves}
use Rattle.numbers.proofs.Texts.{separated_ten, radix_apart, base_is, body_is}
use Rattle.numbers.proofs.Parsing.{within_fits}
use Rattle.decimals.proofs.Answering.{reads_short, reads_wrote}
use Rattle.decimals.proofs.Separating.{strip_le, has_none, has_some}
use Rattle.std.specs.Prelude.{Option, Some, None}
use Rattle.numbers.specs.Values.{halves_by}

reads_as : {out after : List ℕ} {r : Result ReadText ReadRefusal} (a b : Answer) → a ≡ b → Reads b out r after → Reads a out r after
reads_as a b e p = rw e p

-- `read_plain`: what the count says
module _ (t : List ℕ) (s : Option ℕ) (e : s ≡ separators_of t) where
  pub plain_misplaced : (out : List ℕ) → s ≡ None → Reads (plain_of t) out (Err (At 0)) out
  unfolding separators_of plain_of
  plain_misplaced out k = go (placed 10 0 t) (sym e ∙ k)
    where
      go : (x : Bool) → (if x then Some (length t - length (strip t)) else None) ≡ None
          → Reads (if x then (if has (code "_") t then written (strip t) else borrowed 0 (length t)) else refused 0) out (Err (At 0)) out
      go true e = absurd (let z : ◌≡◌ {A = ℕ} 0 1 = cc in let y : ⊥ = omega arith in y)
      go false e = record { answer = refl; buffer = refl }

  module _ (n : ℕ) (k : s ≡ Some n) where
    counted : (placed 10 0 t ≡ true) × (n ≡ length t - length (strip t))
    unfolding separators_of
    counted = go (placed 10 0 t) refl (sym e ∙ k)
      where
        go : (x : Bool) → placed 10 0 t ≡ x → (if x then Some (length t - length (strip t)) else None) ≡ Some n
            → (placed 10 0 t ≡ true) × (n ≡ length t - length (strip t))
        go true f e = (f, sym (cc))
        go false f e = absurd (let z : ◌≡◌ {A = ℕ} 0 1 = cc in let y : ⊥ = omega arith in y)

    pub plain_borrowed : (out : List ℕ) → n ≡ 0 → Reads (plain_of t) out (Ok (Borrowed 0 (length t))) out
    unfolding plain_of
    plain_borrowed out z =
        rw (counted.0, has_none t (let h = strip_le t in let c = counted.1 in omega arith)) (record { answer = refl; buffer = refl })

    module _ (p : n ≡ 0 → ⊥) where
      some : plain_of t ≡ written (strip t)
      unfolding plain_of
      some = let q : 0 < n = pos_of_ne-zero p in rw (counted.0, has_some t (let c = counted.1 in omega arith))

      plain_size : length t - n ≡ length (strip t)
      plain_size = let h = strip_le t in let c = counted.1 in omega arith

      pub plain_within : n ≤ length t
      plain_within = let c = counted.1 in omega arith

      pub plain_short : (out : List ℕ) → length out < length t - n → Reads (plain_of t) out (Err (NoRoom (length t - n))) out
      plain_short out h = rw some (reads_short (strip t) out (length t - n) plain_size h)

      pub plain_room : (out : List ℕ) → length t - n ≤ length out → length (strip t) ≤ length out
      plain_room out h = rw (plain_size) at h

      pub plain_wrote : (out new : List ℕ) → length t - n ≤ length out → new ≡ strip t ++ drop (length (strip t)) out
          → Reads (plain_of t) out (Ok (Written (length t - n))) new
      plain_wrote out new h g = rw some (reads_wrote (strip t) out (length t - n) plain_size h new (rw (plain_size) g))

-- `read_radix_text`
module _ (x : Parsed) (r : Option Halves) (e : r ≡ halves_of (within_bits 127 x)) {out after : List ℕ} {o : Result ReadText ReadRefusal} where
  pub radix_printed : (m : Halves) → r ≡ Some m → Reads (written (text_of (joined_halves m.hi m.lo))) out o after
      → Reads (printed_by (within_bits 127 x)) out o after
  radix_printed m k p = go (within_bits 127 x) (λ z. within_fits 127 z x) (sym e ∙ k)
    where
      go : (y : Parsed) → ((z : ℤ) → y ≡ int z → fits 127 z ≡ true) → halves_of y ≡ Some m → Reads (printed_by y) out o after
      go none f e = absurd (let z : ◌≡◌ {A = ℕ} 0 1 = cc in let y : ⊥ = omega arith in y)
      go (int z) f e =
          let h : halves_by (bits_of z) ≡ m = cc in
          let j : joined_halves m.hi m.lo ≡ bits_of z = sym (ap (λ (x : Halves). joined_halves x.hi x.lo) h) ∙ div-add-mod' (bits_of z) (2 ^ 64) in
          subst (λ (v : List ℕ). Reads (written v) out o after) (ap text_of j ∙ text_of_printed z (f z refl)) p

pub radix_none : (x : Parsed) (r : Option Halves) (out : List ℕ) → r ≡ halves_of (within_bits 127 x) → r ≡ None
    → Reads (printed_by (within_bits 127 x)) out (Err (At 0)) out
radix_none x r out e k = go (within_bits 127 x) (sym e ∙ k)
  where
    go : (y : Parsed) → halves_of y ≡ None → Reads (printed_by y) out (Err (At 0)) out
    go none e = record { answer = refl; buffer = refl }
    go (int z) e = absurd (let z : ◌≡◌ {A = ℕ} 0 1 = cc in let y : ⊥ = omega arith in y)

-- `read_decimal`
module _ (t : List ℕ) where
  text_ten : base_of t ≡ 10 → decimal_of t ≡ plain_of t
  unfolding decimal_of plain_of
  text_ten e = rw (e, separated_ten t e) (go (placed 10 0 t))
    where
      go : (x : Bool) → (if not x then refused 0 else (if has (code "_") t then written (strip t) else borrowed 0 (length t)))
          ≡ (if x then (if has (code "_") t then written (strip t) else borrowed 0 (length t)) else refused 0)
      go true = refl
      go false = refl

  text_radix : (base_of t ≡ 10 → ⊥) → decimal_of t ≡ printed_by (within_bits 127 (negated_by (is_minus t) (parsed_apart 127 (base_of t) (drop 2 (unsigned t)))))
  unfolding decimal_of
  text_radix n = rw (ne_eqb (base_of t) 10 n) (go (separated t) ∙ ap printed_by (radix_apart t n 127))
    where
      go : (x : Bool) → (if not x then refused 0 else printed_by (radix_value 127 t)) ≡ printed_by (if not x then none else radix_value 127 t)
      go true = refl
      go false = refl

module _ (t : List ℕ) (s : ℕ) (p : RadixPrefix) (e : s ≡ sign_length t) (q : p ≡ radix_prefix (take (length t - s) (drop s t)))
    {out after : List ℕ} {r : Result ReadText ReadRefusal} where
  pub decimal_ten : p.base ≡ 10 → Reads (plain_of t) out r after → Reads (decimal_of t) out r after
  decimal_ten k h = reads_as (decimal_of t) (plain_of t) (text_ten t (sym (base_is t s p e q) ∙ k)) h

  pub decimal_radix : (p.base ≡ 10 → ⊥) → (minus : Bool) → minus ≡ is_minus t
      → Reads (printed_by (within_bits 127 (negated_by minus (parsed_apart 127 p.base
      (take (length (take (length t - s) (drop s t)) - 2) (drop 2 (take (length t - s) (drop s t)))))))) out r after
      → Reads (decimal_of t) out r after
  decimal_radix n minus g h =
      rw (text_radix t (λ z. n (base_is t s p e q ∙ z))) (rw (g, body_is t s p e q n, base_is t s p e q) at h)
