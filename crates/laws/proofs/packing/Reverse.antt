-- [02 T-07] The reverse, bytes and a count to a literal: what it accepts, what it writes, and "12, then 16 [..] then 9". Assumes nothing.
use mathlib.Core.Logic.{◌↔◌}
use mathlib.Core.Path.{◌≡◌, refl, ap, sym, ◌∙◌}
use mathlib.Core.Bool.{Bool, true, false, ◌||◌, not}
use mathlib.Core.List.{List, [], ◌∷◌, ◌++◌, map}
use Prim.Native.Nat.{ℕ, ◌+◌, ◌/◌, ◌%◌, ◌≤◌, ◌<◌}
use native.Mathlib.Nat.{add-zero}
use native.Mathlib.Omega.{arith}
use borrow.Author.Tests.{eqb-true, eq-eqb, not-false, leb-true, leb-false, le-leb, lt-leb, ltb-true, ltb-false}
use lib.Dec.{eqb, leb, ltb}
use lib.ListN.{length, take, drop, length-append, length-map}
use lib.Seq.{take_at}
use Rattle.meaning.specs.declared.BitStringRadix.{BitStringRadix}
use Rattle.meaning.specs.declared.BitWritingError.{BitWritingError}
use Rattle.meaning.specs.declared.BitWritingError.TheVariants.{OverLimit, BadBits, NoRoom}
use Rattle.meaning.specs.Bytes.{has, quote, all_zero}
use Rattle.std.specs.Prelude.{if◌then◌else◌}
use Rattle.meaning.specs.Answers.{Outcome, bit_writing_number, filled}
use Rattle.meaning.specs.Writer.{over_limit}
use Rattle.meaning.specs.Forms.{figure}
use Rattle.meaning.specs.Packing.{spread, gather, radix_bits, bit_digits, bit_literal, packed_length, bad_bits, bit_writes, bit_write_question}
use Rattle.laws.proofs.basics.Tests.{or_left, or_right}
use Rattle.laws.proofs.writing.WriterParts.{whole_within, whole_over}
use Rattle.laws.proofs.packing.Gathered.{units, length_gather}
use Rattle.laws.proofs.packing.Digits.{radix_some, bytes_length}
use Rattle.std.specs.Prelude.{Result, Ok, Err}

-- WHAT IS NO 16: "the byte count [is] the bit count rounded up to bytes", "X only when the count is a multiple of four", no unused bit is set
pub record Fine (r : BitStringRadix) (bytes : List ℕ) (n : ℕ) : Type 0 where
  pub size : length bytes ≡ packed_length n
  pub whole : n % radix_bits r ≡ 0
  pub unused : all_zero (drop n (spread 8 bytes)) ≡ true

pub fine_bits : (r : BitStringRadix) (bytes : List ℕ) (n : ℕ) → (bad_bits r bytes n ≡ false) ↔ Fine r bytes n
unfolding bad_bits
fine_bits r bytes n = (
  λ h.
      let x : Bool = not (eqb (length bytes) (packed_length n)) in
      let y : Bool = not (eqb (n % radix_bits r) 0) in
      let z : Bool = not (all_zero (drop n (spread 8 bytes))) in
      record {
        size = eqb-true (length bytes) (packed_length n) (not-false _ (or_left x (y || z) h));
        whole = eqb-true (n % radix_bits r) 0 (not-false _ (or_left y z (or_right x (y || z) h)));
        unused = not-false _ (or_right y z (or_right x (y || z) h));
      },
  λ f. rw (eq-eqb (length bytes) (packed_length n) f.size, eq-eqb (n % radix_bits r) 0 f.whole, f.unused),
)

-- THE ORDER: each test where those before it pass
module _ (r : BitStringRadix) (bytes : List ℕ) (n : ℕ) (out : List ℕ) where
  pub bit_over : 268435456 < length bytes → bit_write_question r bytes n out ≡ record { answer = Err OverLimit; buffer = out }
  unfolding bit_write_question
  bit_over h = rw (whole_over bytes h)

  pub bit_bad : length bytes ≤ 268435456 → bad_bits r bytes n ≡ true → bit_write_question r bytes n out ≡ record { answer = Err BadBits; buffer = out }
  unfolding bit_write_question
  bit_bad h b = rw (whole_within bytes h, b)

  pub bit_writes_lem : length bytes ≤ 268435456 → Fine r bytes n → bit_write_question r bytes n out ≡ bit_writes (bit_literal r bytes n) out
  unfolding bit_write_question
  bit_writes_lem h f = rw (whole_within bytes h, (fine_bits r bytes n).1 f)

-- the literal is put where there is room; where there is none, its whole length is asked for
module _ (t out : List ℕ) where
  pub bit_writes_all : length t ≤ length out → bit_writes t out ≡ record { answer = Ok (length t); buffer = t ++ drop (length t) out }
  unfolding filled
  bit_writes_all h = rw (le-leb (length t) (length out) h)

  pub bit_writes_none : length out < length t → bit_writes t out ≡ record { answer = Err (NoRoom (length t)); buffer = out }
  unfolding filled
  bit_writes_none h = rw (lt-leb (length t) (length out) h)

abbrev tried : Bool → Bool → Bool → List ℕ → List ℕ → Outcome (Result ℕ BitWritingError)
tried x y z t out =
    if x || false then record { answer = Err OverLimit; buffer = out }
    else if y then record { answer = Err BadBits; buffer = out }
    else record { answer = if z then Ok (length t) else Err (NoRoom (length t)); buffer = filled t out }

-- so what an answer says of the bytes and the count
abbrev pub Answers : BitStringRadix → List ℕ → ℕ → List ℕ → Result ℕ BitWritingError → Type 0
Answers r bytes n out (Ok m) = (length bytes ≤ 268435456) × Fine r bytes n × (m ≡ length (bit_literal r bytes n)) × (m ≤ length out)
Answers r bytes n out (Err OverLimit) = 268435456 < length bytes
Answers r bytes n out (Err BadBits) = (length bytes ≤ 268435456) × (bad_bits r bytes n ≡ true)
Answers r bytes n out (Err (NoRoom m)) = (length bytes ≤ 268435456) × Fine r bytes n × (m ≡ length (bit_literal r bytes n)) × (length out < m)

pub bit_answers : (r : BitStringRadix) (bytes : List ℕ) (n : ℕ) (out : List ℕ) → Answers r bytes n out (bit_write_question r bytes n out).answer
unfolding bit_write_question over_limit
bit_answers r bytes n out = go (ltb 268435456 (length bytes)) (bad_bits r bytes n) (leb (length t) (length out)) refl refl refl
  where
    t : List ℕ
    t = bit_literal r bytes n

    go : (x y z : Bool) → ltb 268435456 (length bytes) ≡ x → bad_bits r bytes n ≡ y → leb (length t) (length out) ≡ z
        → Answers r bytes n out (tried x y z t out).answer
    go true y z e f g = ltb-true 268435456 (length bytes) e
    go false true z e f g = (ltb-false 268435456 (length bytes) e, f)
    go false false true e f g = (ltb-false 268435456 (length bytes) e, (fine_bits r bytes n).0 f, refl, leb-true (length t) (length out) g)
    go false false false e f g = (ltb-false 268435456 (length bytes) e, (fine_bits r bytes n).0 f, refl, leb-false (length t) (length out) g)

-- THE NUMBERS that it gives
abbrev pub reverse_numbers : List ℕ
reverse_numbers = 0 ∷ 9 ∷ 12 ∷ 16 ∷ []

pub bit_numbers : (r : BitStringRadix) (bytes : List ℕ) (n : ℕ) (out : List ℕ)
    → has (bit_writing_number (bit_write_question r bytes n out).answer) reverse_numbers ≡ true
bit_numbers r bytes n out = go (bit_write_question r bytes n out).answer
  where
    go : (a : Result ℕ BitWritingError) → has (bit_writing_number a) reverse_numbers ≡ true
    go (Ok m) = refl
    go (Err OverLimit) = refl
    go (Err BadBits) = refl
    go (Err (NoRoom m)) = refl

-- WHAT IS WRITTEN is the literal, and the buffer begins with it
module _ (r : BitStringRadix) (bytes : List ℕ) (n : ℕ) (out : List ℕ) (m : ℕ) (e : (bit_write_question r bytes n out).answer ≡ Ok m) where
  pub bit_accepted : (length bytes ≤ 268435456) × Fine r bytes n × (m ≡ length (bit_literal r bytes n)) × (m ≤ length out)
  bit_accepted = rw e at (bit_answers r bytes n out)

  pub bit_written : (bit_write_question r bytes n out).buffer ≡ bit_literal r bytes n ++ drop m out
  bit_written =
      let a = bit_accepted in
      ap (λ (o : Outcome (Result ℕ BitWritingError)). o.buffer)
      (bit_writes_lem r bytes n out a.0 a.1 ∙ bit_writes_all (bit_literal r bytes n) out (rw a.2 at a.3))
      ∙ ap (λ (k : ℕ). bit_literal r bytes n ++ drop k out) (sym a.2)

  pub bit_wrote : take m (bit_write_question r bytes n out).buffer ≡ bit_literal r bytes n
  bit_wrote = rw bit_written (take_at (bit_literal r bytes n) (drop m out) m (sym bit_accepted.2))

-- "letter, two marks, digits": one digit for each k bits
pub bit_literal_length : (r : BitStringRadix) (bytes : List ℕ) (n : ℕ) → Fine r bytes n → length (bit_literal r bytes n) ≡ n / radix_bits r + 3
unfolding bit_literal bit_digits
bit_literal_length r bytes n f =
    let g : List ℕ = gather (radix_bits r) (take n (spread 8 bytes)) in
    let l : length g ≡ units (radix_bits r) n =
    length_gather (radix_bits r) (radix_some r) (take n (spread 8 bytes)) ∙ ap (units (radix_bits r)) (bytes_length bytes n f.size) in
    let w : length g ≡ n / radix_bits r = l ∙ rw f.whole (add-zero (n / radix_bits r)) in
    omega (arith, length-append (map figure g) (quote ∷ []), length-map g figure)
