-- [02 T-07] The digits of packed bytes, put into a buffer: one byte's, the first of a byte, and those of all bytes one after the other. Assumes nothing.
use mathlib.Core.Path.{◌≡◌, ap, sym, ◌∙◌}
use mathlib.Core.List.{List, [], ◌∷◌, ◌++◌, append-nil}
use Prim.Native.Nat.{ℕ, suc, ◌+◌, ◌-◌, ◌*◌, ◌/◌, ◌%◌, ◌^◌, ◌≤◌, ◌<◌}
use native.Mathlib.Nat.{div-one, mul-suc, mul-zero}
use native.Mathlib.Omega.{arith}
use lib.ListN.{length, take, drop, length-append, length-drop}
use lib.Seq.{sets, drop-cons, take-append-le, take-append-add, length-take-le}
use Rattle.meaning.specs.declared.BitStringRadix.{BitStringRadix}
use Rattle.meaning.specs.declared.BitStringRadix.TheVariants.{Binary, Hex}
use Rattle.meaning.specs.Bytes.{◌!◌}
use Rattle.meaning.specs.Forms.{figure, figures}
use Rattle.meaning.specs.Packing.{radix_bits}
use Rattle.leaves.specs.Puts.{Puts}
use Rattle.laws.proofs.basics.Laying.{Laid, laid_none, laid_all, laid_rest, laid_more}
use Rattle.laws.proofs.writing.Figures.{figures_length}
use Rattle.writer.specs.Texts.{PutBytes}
use Rattle.writer.specs.Bits.{per_byte, byte_digits, digits_by}
use Rattle.writer.proofs.Figuring.{figure_decimal}
use Rattle.writer.proofs.Putting.{put_all, put_same, put_stored_all}

-- A BYTE
bit_figure : (d : ℕ) → figure (d % 2) ≡ 48 + d % 2
bit_figure d = sym (figure_decimal (d % 2) (omega arith))

abbrev eight : ℕ → List ℕ
eight b =
    (48 + b / 128 % 2)
    ∷ (48 + b / 64 % 2)
    ∷ (48 + b / 32 % 2)
    ∷ (48 + b / 16 % 2)
    ∷ (48 + b / 8 % 2)
    ∷ (48 + b / 4 % 2)
    ∷ (48 + b / 2 % 2)
    ∷ (48 + b % 2)
    ∷ []

pub eight_put : (b : ℕ) (out : List ℕ) → 8 ≤ length out → PutBytes (figures 2 8 b) out 8 (sets out 0 (eight b))
eight_put b out h = put_same (simp (bit_figure, div-one)) (put_stored_all (eight b) out h)

byte_some : (r : BitStringRadix) → 0 < per_byte r
byte_some Binary = omega arith
byte_some Hex = omega arith

length_byte : (r : BitStringRadix) (b : ℕ) → length (byte_digits r b) ≡ per_byte r
length_byte r b = figures_length (2 ^ radix_bits r) (per_byte r) b

-- THE FIRST k digits of a byte: all are made, and so many are copied
module _ (r : BitStringRadix) (b k : ℕ) (h : k ≤ per_byte r) where
  length_first : length (take k (byte_digits r b)) ≡ k
  length_first = length-take-le k (byte_digits r b) (omega (arith, length_byte r b))

  module _ {room all : List ℕ} {m : ℕ} (p : PutBytes (byte_digits r b) room m all) where
    pub made_inside : k ≤ length all
    made_inside = omega (arith, length_byte r b, ap length p.buffer, length-append (byte_digits r b) (drop (length (byte_digits r b)) room))

    pub made_part : k ≡ length (take k all)
    made_part = sym (length-take-le k all made_inside)

    pub first_put : {out : List ℕ} {a : ℕ} {after : List ℕ} → k ≤ length out → Puts (take k all) out a after
        → PutBytes (take k (byte_digits r b)) out a after
    first_put l q =
        let e : take k all ≡ take k (byte_digits r b) =
        ap (take k) p.buffer ∙ take-append-le k (byte_digits r b) (drop (length (byte_digits r b)) room) (omega (arith, length_byte r b)) in
        put_same (sym e) (put_all q (omega (arith, made_part)))

-- ALL BYTES
pub length_digits : (r : BitStringRadix) (t : List ℕ) → length (digits_by r t) ≡ per_byte r * length t
length_digits r [] = sym (mul-zero (per_byte r))
length_digits r (b ∷ t) = omega (
  arith,
  length-append (byte_digits r b) (digits_by r t),
  length_byte r b,
  length_digits r t,
  mul-suc (per_byte r) (length t),
)

some_byte : (r : BitStringRadix) (t : List ℕ) → 0 < length (digits_by r t) → 0 < length t
some_byte r [] h = h
some_byte r (b ∷ t) h = omega arith

-- THE LOOP, into a buffer that held d: of the first n digits of the bytes t so many are put, those of the first `at` bytes
pub record Digiting (r : BitStringRadix) (n : ℕ) (t d out : List ℕ) (put at : ℕ) : Type 0 where
  pub laid : Laid (take n (digits_by r t)) d out put
  pub rest : drop put (take n (digits_by r t)) ≡ take (n - put) (digits_by r (drop at t))
  pub some : n - put ≤ length (digits_by r (drop at t))

module _ {r : BitStringRadix} {n : ℕ} {t d out : List ℕ} {put at : ℕ} (g : Digiting r n t d out put at) where
  abbrev text : List ℕ
  text = take n (digits_by r t)

  -- with a digit left there is a byte; and the loop's test, by w
  module _ (h : put < n) where
    inside : at < length t
    inside = omega (arith, some_byte r (drop at t) (omega (arith, g.some)), length-drop at t)

    abbrev byte : ℕ
    byte = t ! at

    abbrev later : List ℕ
    later = digits_by r (drop (suc at) t)

    here : digits_by r (drop at t) ≡ byte_digits r byte ++ later
    here = ap (digits_by r) (drop-cons t at 0 inside)

    left : drop put text ≡ take (n - put) (byte_digits r byte ++ later)
    left = g.rest ∙ ap (take (n - put)) here

  module _ (w : ℕ) (ew : w ≡ per_byte r) where
    -- A WHOLE BYTE
    module _ (k : w ≤ n - put) where
      more : put < n
      more = omega (arith, byte_some r)

      abbrev behind : List ℕ
      behind = take (n - put - w) (later more)

      whole : drop put text ≡ byte_digits r (t ! at) ++ behind
      whole =
          let b = byte_digits r (t ! at) in
          let e : n - put ≡ length b + (n - put - w) = omega (arith, length_byte r (t ! at)) in
          left more ∙ ap (λ (j : ℕ). take j (b ++ later more)) e ∙ take-append-add b (later more) (n - put - w)

      module _ (a : ℕ) (last : List ℕ) (q : PutBytes (byte_digits r (t ! at)) (take (length out - put) (drop put out)) a last) where
        counted : a ≡ w
        counted = q.answer ∙ length_byte r (t ! at) ∙ sym ew

        pub digiting_on : Digiting r n t d (take put out ++ (last ++ drop (length out - put) (drop put out))) (put + a) (at + 1)
        digiting_on =
            let b = byte_digits r (t ! at) in
            let e : n - put - w ≡ n - (put + a) = omega (arith, counted) in
            let s : suc at ≡ at + 1 = omega arith in
            record {
              laid = laid_more g.laid b behind whole a last q.answer q.buffer;
              rest =
                  laid_rest g.laid b behind whole (put + a) (ap (put +◌) q.answer) ∙ ap (λ (j : ℕ). take j (later more)) e
                  ∙ ap (λ (j : ℕ). take (n - (put + a)) (digits_by r (drop j t))) s;
              some = omega (
                arith,
                g.some,
                ap length (here more),
                length-append b (later more),
                length_byte r (t ! at),
                counted,
                ap (λ (j : ℕ). length (digits_by r (drop j t))) s,
              );
            }

    -- WHAT IS LEFT of one
    module _ (k : n - put < w) (h : put < n) where
      pub first_inside : at < length t
      first_inside = inside h

      abbrev first : List ℕ
      first = take (n - put) (byte_digits r (t ! at))

      only : drop put text ≡ first ++ []
      only =
          left h ∙ take-append-le (n - put) (byte_digits r (t ! at)) (later h) (omega (arith, length_byte r (t ! at))) ∙ sym (append-nil first)

      module _ (a : ℕ) (last : List ℕ) (q : PutBytes first (take (length out - put) (drop put out)) a last) where
        abbrev back : List ℕ
        back = take put out ++ (last ++ drop (length out - put) (drop put out))

        ended : Laid text d back (put + a)
        ended = laid_more g.laid first [] only a last q.answer q.buffer

        pub digits_put : PutBytes text d (put + a) back
        digits_put =
            let l = laid_all ended (laid_rest g.laid first [] only (put + a) (ap (put +◌) q.answer)) in
            record { answer = l.0; buffer = l.1 }
