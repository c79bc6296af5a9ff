-- [02 T-07] Where a pen stands that packs digits, and what packing a text answers and leaves in the buffer. Assumes nothing.
use Rattle.std.specs.Prelude.{false, ◌≡◌, List, [], ◌++◌, ℕ, suc, ◌+◌, ◌*◌, ◌^◌, ◌≤◌, length, drop}
use Rattle.meaning.specs.declared.Settings.{Settings}
use Rattle.meaning.specs.Bytes.{part}
use Rattle.meaning.specs.Walk.{walk, stops}
use Rattle.meaning.specs.Reading.{Value, means, fails}
use Rattle.meaning.specs.Answers.{by_room, filled}
use Rattle.meaning.specs.Packing.{gathered, bits_in, pack_bits}
use Rattle.laws.proofs.basics.Digits.{DigitsTo}
use Rattle.laws.proofs.basics.Laying.{Laid}
use Rattle.bits.specs.declared.pens.Pen.{Pen}
use Rattle.bits.specs.declared.packing.Packed.{Packed}
use Rattle.bits.specs.Bodies.{body_step, bodies}
use Rattle.std.specs.Prelude.{Result, Ok, Err}
use Rattle.bits.specs.declared.packing.PackingError.{PackingError}
use Rattle.bits.specs.declared.packing.PackingError.TheVariants as PackingError'

-- a number that n bits more leave in a byte
abbrev pub Low : ℕ → ℕ → Type 0
Low v n = suc v * 2 ^ n ≤ 256

-- n digits of base β from a place on
pub record DigitsAt (β n at : ℕ) (t : List ℕ) : Type 0 where
  pub inside : at + n ≤ length t
  pub digits : DigitsTo β n (drop at t)

-- a pen in a buffer that held d: before it stand the first bytes of what is packed in all, and what its byte and the digits behind it make is the rest. It
-- has room for whole digits
pub record Packing (k : ℕ) (whole d out : List ℕ) (p : Pen) (rest : List ℕ) : Type 0 where
  pub laid : Laid whole d out p.at
  pub next : drop p.at whole ≡ gathered 8 p.missing p.byte (bits_in k rest)
  pub left : ℕ
  pub room : p.missing ≡ k * suc left
  pub most : p.missing ≤ 8
  pub low : Low p.byte p.missing
  pub digits : DigitsTo (2 ^ k) (length rest) rest

-- and such a one, behind digits that are at hand; behind the last
pub record Packable (k : ℕ) (ds : List ℕ) (p : Pen) (out : List ℕ) : Type 0 where
  pub whole : List ℕ
  pub lent : List ℕ
  pub rest : List ℕ
  pub holds : Packing k whole lent out p (ds ++ rest)

pub record Closable (k : ℕ) (p : Pen) (out : List ℕ) : Type 0 where
  pub whole : List ℕ
  pub lent : List ℕ
  pub holds : Packing k whole lent out p []

pub record BodiesPackable (k : ℕ) (σ : Settings) (t : List ℕ) (p : Pen) (out : List ℕ) : Type 0 where
  pub whole : List ℕ
  pub lent : List ℕ
  pub goes : stops (walk (body_step σ) 0 t) ≡ false
  pub holds : Packing k whole lent out p (bodies σ t)

-- THE DIGITS of a text: those from f to l, and those of the segments from i on
abbrev pub digits_from : Settings → List ℕ → ℕ → ℕ → ℕ → List ℕ
digits_from σ t f l i = part f l t ++ bodies σ (drop i t)

pub record Segmented (k : ℕ) (σ : Settings) (t : List ℕ) (f l i m : ℕ) : Type 0 where
  pub body : f ≤ l
  pub behind : l ≤ i
  pub inside : i ≤ length t
  pub goes : stops (walk (body_step σ) 0 (drop i t)) ≡ false
  pub digits : DigitsTo (2 ^ k) (length (digits_from σ t f l i)) (digits_from σ t f l i)
  pub fits : length (pack_bits (bits_in k (digits_from σ t f l i))) ≤ m

pub record PacksInto (k : ℕ) (σ : Settings) (t : List ℕ) (f l i : ℕ) (out after : List ℕ) : Type 0 where
  pub buffer : after ≡ filled (pack_bits (bits_in k (digits_from σ t f l i))) out

-- THE ANSWER
abbrev pub packed_in : ℕ → ℕ → Packed
packed_in n d = record { len = n; digits = d }

abbrev pub packed_of : ℕ → ℕ → Value → Result Packed PackingError
packed_of k m (means v) = by_room (λ n. Ok (packed_in n (length v))) (λ n. Err (PackingError'.NoRoom n)) (length (pack_bits (bits_in k v))) m
packed_of k m (fails p) = Err PackingError'.Refused

abbrev pub packed_into : ℕ → List ℕ → Value → List ℕ
packed_into k out (means v) = filled (pack_bits (bits_in k v)) out
packed_into k out (fails p) = out

abbrev pub digit_count : Result Packed PackingError → ℕ
digit_count (Ok p) = p.digits
digit_count (Err e) = 0

-- what the contract says of a text of n bytes: the answer, every byte of the final buffer, and that no more digits are told than the text has bytes
pub record Packs (k : ℕ) (x : Value) (n : ℕ) (out : List ℕ) (r : Result Packed PackingError) (after : List ℕ) : Type 0 where
  pub answer : r ≡ packed_of k (length out) x
  pub buffer : after ≡ packed_into k out x
  pub within : digit_count r ≤ n
