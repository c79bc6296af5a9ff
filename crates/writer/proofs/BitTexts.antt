-- [02 T-07] The literal of packed bytes, as it is put into a buffer, and what the writing of it answers. Assumes nothing.
use mathlib.Core.Path.{◌≡◌, refl, ap, sym, ◌∙◌}
use mathlib.Core.Bool.{Bool, true, false}
use mathlib.Core.List.{List, [], ◌∷◌, ◌++◌, map}
use Prim.Native.Nat.{ℕ, ◌+◌, ◌-◌, ◌*◌, ◌/◌, ◌%◌, ◌≤◌, ◌<◌}
use native.Mathlib.Nat.{div-add-mod', div-le_self}
use native.Mathlib.Omega.{arith}
use lib.ListN.{length, take, drop, set, length-append}
use lib.Seq.{length-take-le}
use Rattle.meaning.specs.declared.BitStringRadix.{BitStringRadix}
use Rattle.meaning.specs.declared.BitStringRadix.TheVariants.{Binary, Hex}
use Rattle.meaning.specs.declared.PartSize.TheVariants.{Whole}
use Rattle.meaning.specs.declared.BitWritingError.TheVariants.{OverLimit, BadBits, NoRoom}
use Rattle.meaning.specs.Bytes.{quote}
use Rattle.meaning.specs.Answers.{Meets}
use Rattle.meaning.specs.Forms.{figure}
use Rattle.meaning.specs.Writer.{over_limit}
use Rattle.meaning.specs.Packing.{spread, gather, radix_bits, radix_letter, bit_digits, bit_literal, bad_bits, bit_writes, bit_write_question}
use Rattle.laws.proofs.packing.Figured.{gather_figures}
use Rattle.laws.proofs.writing.Writers.{placed_all, placed_none}
use Rattle.laws.proofs.writing.WriterParts.{limit_length}
use Rattle.writer.specs.Texts.{PutBytes}
use Rattle.writer.specs.Bits.{per_byte, digits_by, literal_by}
use Rattle.writer.proofs.Putting as putting
use Rattle.writer.proofs.BitTests.{GoodBits, good_bits, packed_covers}
use Rattle.writer.proofs.BitDigits.{length_digits}
use Rattle.writer.proofs.Refusing.{met}
use Rattle.std.specs.Prelude.{Ok, Err}

-- what has passed the tests
pub record BitsAccepted (r : BitStringRadix) (t : List ℕ) (b : ℕ) : Type 0 where
  pub limit : over_limit Whole t ≡ false
  pub good : bad_bits r t b ≡ false

-- THE DIGITS of so many bits are the first of the bytes' digits
some_bits : (r : BitStringRadix) → 0 < radix_bits r
some_bits Binary = omega arith
some_bits Hex = omega arith

byte_bits : (r : BitStringRadix) → per_byte r * radix_bits r ≡ 8
byte_bits Binary = refl
byte_bits Hex = refl

digits_enough : (r : BitStringRadix) (t : List ℕ) (b : ℕ) → b ≤ 8 * length t → b / radix_bits r ≤ length (digits_by r t)
digits_enough Binary t b h = omega (arith, length_digits Binary t)
digits_enough Hex t b h = omega (arith, length_digits Hex t)

digits_are : (r : BitStringRadix) (t : List ℕ) (b : ℕ) → b % radix_bits r ≡ 0 → bit_digits r t b ≡ take (b / radix_bits r) (digits_by r t)
unfolding bit_digits
digits_are r t b h =
    let k = radix_bits r in
    let e : b / k * k ≡ b = omega (arith, div-add-mod' b k) in
    ap (λ (n : ℕ). map figure (gather k (take n (spread 8 t)))) (sym e)
    ∙ ap (λ (w : ℕ). map figure (gather k (take (b / k * k) (spread w t)))) (sym (byte_bits r)) ∙ gather_figures k (per_byte r) (b / k) t (some_bits r)

-- THE LITERAL of the first n digits of the bytes t, into a buffer that held d
module _ (r : BitStringRadix) (n : ℕ) (t : List ℕ) (some : n ≤ length (digits_by r t)) where
  abbrev opening : List ℕ
  opening = radix_letter r ∷ quote ∷ []

  abbrev digits : List ℕ
  digits = take n (digits_by r t)

  literal_is : literal_by r n t ≡ opening ++ (digits ++ (quote ∷ []))
  unfolding literal_by
  literal_is = refl

  length_literal : length (literal_by r n t) ≡ n + 3
  unfolding literal_by
  length_literal = omega (arith, length-append digits (quote ∷ []), length-take-le n (digits_by r t) some)

  module _ {d : List ℕ} (room : n + 3 ≤ length d) {x : ℕ} (letter : x ≡ radix_letter r) {k : ℕ} {out : List ℕ}
      (p : PutBytes (x ∷ quote ∷ []) d k out) {a : ℕ} {last : List ℕ} (q : PutBytes digits (take (length out - k) (drop k out)) a last) where
    fits : length (literal_by r n t) ≤ length d
    fits = omega (arith, length_literal)

    opened : PutBytes opening d k out
    opened = putting.put_same (ap (◌∷ quote ∷ []) (sym letter)) p

    abbrev back : List ℕ
    back = take k out ++ (last ++ drop (length out - k) (drop k out))

    pub mark_inside : k + a < length back
    mark_inside = putting.mark_inside opening digits (literal_by r n t) d literal_is fits opened q

    pub mark_fits : k + a + 1 ≤ length d
    mark_fits = putting.mark_fits opening digits (literal_by r n t) d literal_is fits opened q

    pub literal_put : PutBytes (literal_by r n t) d (k + a + 1) (set back (k + a) quote)
    literal_put = putting.text_put opening digits (literal_by r n t) d literal_is fits opened q

-- REFUSED, in the order of the tests
module _ (r : BitStringRadix) (t : List ℕ) (b : ℕ) (out : List ℕ) (x : Bool) (ex : x ≡ over_limit Whole t) where
  pub over_limit_lem : x ≡ true → Meets (bit_write_question r t b out) (Err OverLimit) out
  unfolding bit_write_question
  over_limit_lem h = met (bit_write_question r t b out) (Err OverLimit) out (rw (sym ex ∙ h))

  module _ (nx : x ≡ false) (y : Bool) (ey : y ≡ bad_bits r t b) where
    pub bad_bits_lem : y ≡ true → Meets (bit_write_question r t b out) (Err BadBits) out
    unfolding bit_write_question
    bad_bits_lem h = met (bit_write_question r t b out) (Err BadBits) out (rw (sym ex ∙ nx, sym ey ∙ h))

    pub bits_accepted : y ≡ false → BitsAccepted r t b
    bits_accepted h = record { limit = sym ex ∙ nx; good = sym ey ∙ h }

-- ACCEPTED: k digits
module _ {r : BitStringRadix} {t : List ℕ} {b : ℕ} (c : BitsAccepted r t b) {k : ℕ} (ek : k ≡ b / radix_bits r) where
  good : GoodBits r t b
  good = good_bits r t b c.good

  covers : b ≤ 8 * length t
  covers = omega (arith, packed_covers b, good.size)

  pub enough : k ≤ length (digits_by r t)
  enough = rw ek (digits_enough r t b covers)

  pub few : k + 3 ≤ 2147483651
  few = omega (arith, ek, div-le_self b (radix_bits r), covers, limit_length Whole t c.limit)

  text_is : literal_by r k t ≡ bit_literal r t b
  unfolding literal_by bit_literal
  text_is =
      ap (λ (n : ℕ). radix_letter r ∷ quote ∷ take n (digits_by r t) ++ (quote ∷ [])) ek
      ∙ ap (λ (u : List ℕ). radix_letter r ∷ quote ∷ u ++ (quote ∷ [])) (sym (digits_are r t b good.digits))

  needed : k + 3 ≡ length (bit_literal r t b)
  needed = sym (length_literal r k t enough) ∙ ap length text_is

  module _ (out : List ℕ) where
    writes : bit_write_question r t b out ≡ bit_writes (bit_literal r t b) out
    unfolding bit_write_question
    writes = rw (c.limit, c.good)

    pub no_room : length out < k + 3 → Meets (bit_write_question r t b out) (Err (NoRoom (k + 3))) out
    no_room h =
        rw needed
        (met (bit_write_question r t b out) (Err (NoRoom (length (bit_literal r t b)))) out
        (writes ∙ placed_none Ok (λ n. Err (NoRoom n)) (bit_literal r t b) out (omega (arith, needed))))

    pub literal_written : k + 3 ≤ length out → {n : ℕ} {after : List ℕ} → PutBytes (literal_by r k t) out n after
        → Meets (bit_write_question r t b out) (Ok (k + 3)) after
    literal_written h p =
        let u = bit_literal r t b in
        rw (needed, p.buffer, text_is)
        (met (bit_write_question r t b out) (Ok (length u)) (u ++ drop (length u) out)
        (writes ∙ placed_all Ok (λ n. Err (NoRoom n)) u out (omega (arith, needed))))
