-- [02 T-07] Packing and its reverse, of what calls return: a call's result and final buffer are whatever its contract permits. Assumes nothing.
use mathlib.Core.Logic.{◌↔◌}
use mathlib.Core.Path.{◌≡◌, ap, sym, ◌∙◌}
use mathlib.Core.List.{List, ◌++◌}
use Prim.Native.Nat.{ℕ, ◌^◌, ◌≤◌, ◌<◌}
use lib.ListN.{length, take, drop}
use Rattle.meaning.specs.declared.BitStringRadix.{BitStringRadix}
use Rattle.meaning.specs.declared.LiteralKind.TheVariants as Kind
use Rattle.meaning.specs.declared.Literal.{Literal}
use Rattle.meaning.specs.declared.Refusal.{Refusal}
use Rattle.meaning.specs.declared.Text.{Text}
use Rattle.meaning.specs.declared.Text.TheVariants as Text'
use Rattle.meaning.specs.declared.BitWritingError.{BitWritingError}
use Rattle.meaning.specs.declared.BitWritingError.TheVariants as BitWritingError'
use Rattle.meaning.specs.Bytes.{◌!◌}
use Rattle.meaning.specs.Reading.{means}
use Rattle.meaning.specs.Answers.{Outcome, Meets, refusal_number, text_number, shown}
use Rattle.meaning.specs.Questions.{bit_base, bits_question}
use Rattle.meaning.specs.Packing.{bits_per, packs_as, packed_question, radix_bits, bit_write_question}
use Rattle.laws.proofs.basics.Digits.{DigitsTo}
use Rattle.laws.proofs.joining.Joining.{White}
use Rattle.laws.proofs.questions.Asked.{Spans}
use Rattle.laws.proofs.questions.Determined.{Same}
use Rattle.laws.proofs.questions.Agreements.{agree_told}
use Rattle.laws.proofs.packing.Digits.{radix_base, radix_bits_lem}
use Rattle.laws.proofs.packing.Segment.{bit_text}
use Rattle.laws.proofs.packing.Asked.{PackedAs, packed_written, packed_refuses, packed_shown_lem}
use Rattle.laws.proofs.packing.RoundTrip.{bytes_round_trip, OneUpper, literal_round_trip}
use Rattle.laws.proofs.packing.Joined.{Run, runs, run_digits, packed_joined}
use Rattle.std.specs.Prelude.{Result, Err}
use Rattle.std.specs.Prelude.{Ok}
use Rattle.meaning.specs.declared.PackedBits.{PackedBits}
use Rattle.meaning.specs.Answers.{packed_at}

-- A CALL of the packed question on the text t, of the kind of a radix: what went in, and what came out
pub record PackedCall (r : BitStringRadix) (t : List ℕ) : Type 0 where
  pub literal : Literal
  pub source : List ℕ
  pub lent : List ℕ
  pub kind : literal.kind ≡ Kind.BitString r
  pub spans : Spans literal source t
  pub result : Result PackedBits Refusal
  pub after : List ℕ
  pub contract : Meets (packed_question literal source lent) result after

-- A CALL of the reverse
pub record BitWriterCall (r : BitStringRadix) (bytes : List ℕ) (n : ℕ) : Type 0 where
  pub lent : List ℕ
  pub result : Result ℕ BitWritingError
  pub after : List ℕ
  pub contract : Meets (bit_write_question r bytes n lent) result after

-- what a call meets, told by the outcome that the question has
met : {A : Type 0} (o p : Outcome A) (r : A) (d : List ℕ) → Meets o r d → o ≡ p → (r ≡ p.answer) × (d ≡ p.buffer)
met {A} o p r d m e = (m.answer ∙ ap (λ (x : Outcome A). x.answer) e, m.buffer ∙ ap (λ (x : Outcome A). x.buffer) e)

-- "bytes and count come back through either literal, read with the kind of its letter": what a call of the reverse wrote, packed in a span of any source
pub bytes_calls : (r : BitStringRadix) (bytes : List ℕ) (n : ℕ) → ((i : ℕ) → bytes ! i < 256) → (w : BitWriterCall r bytes n) (m : ℕ)
    → w.result ≡ Ok m → (c : PackedCall r (take m w.after)) → length bytes ≤ length c.lent
    → (c.result ≡ Ok (packed_at (length bytes) n)) × (c.after ≡ bytes ++ drop (length bytes) c.lent)
bytes_calls r bytes n below w m e c room =
    met _ _ c.result c.after c.contract
    (bytes_round_trip r bytes n w.lent m below (sym w.contract.answer ∙ e) c.literal c.source c.lent c.kind
    (rw w.contract.buffer at c.spans) room)

-- "a literal of just one segment, [..] comes back as it was": the bytes and the count that a call packed, written again
pub literal_calls : (r : BitStringRadix) (t : List ℕ) → OneUpper r t → (c : PackedCall r t) (len n : ℕ) → c.result ≡ Ok (packed_at len n)
    → len ≤ 268435456 → (w : BitWriterCall r (take len c.after) n) → length t ≤ length w.lent
    → (w.result ≡ Ok (length t)) × (w.after ≡ t ++ drop (length t) w.lent)
literal_calls r t one c len n e limit w room =
    met _ _ w.result w.after w.contract
    (rw c.contract.buffer
    (literal_round_trip r c.literal c.source t c.lent len n c.kind c.spans one (sym c.contract.answer ∙ e) limit w.lent room))

-- what a call packed, bit by bit
pub packed_calls : {r : BitStringRadix} {t : List ℕ} (c : PackedCall r t) (len n : ℕ) → c.result ≡ Ok (packed_at len n)
    → PackedAs r t c.lent len n c.after
packed_calls {r} {t} c len n e =
    rw c.contract.buffer
    (packed_written r c.literal c.source t c.lent c.kind c.spans len n (sym c.contract.answer ∙ e))

-- "Refusals: packing as for bits": a call of the bits question on the same literal, with whatever buffer
module _ {r : BitStringRadix} {t : List ℕ} (c : PackedCall r t) (lent : List ℕ) (x : Result Text Refusal) (after : List ℕ)
    (m : Meets (bits_question c.literal c.source lent) x after) where
  pub refuses_calls : (q : Refusal) → refusal_number q ≤ 8 → (c.result ≡ Err q) ↔ (x ≡ Err q)
  refuses_calls q n = rw (c.contract.answer, m.answer) (packed_refuses c.literal c.source c.lent lent q n)

  -- and the digits that it shows are packed
  pub shown_calls : text_number x ≡ 0
      → Meets (packs_as c.literal.span (radix_bits r) c.lent (means (shown c.source after x))) c.result c.after
  shown_calls n =
      let e : bits_per (bit_base c.literal.kind) ≡ radix_bits r = ap (λ k. bits_per (bit_base k)) c.kind ∙ ap bits_per (radix_base r) ∙ radix_bits_lem r in
      let q = rw (e, ← m.answer, ← m.buffer) at (packed_shown_lem c.literal c.source c.lent lent (rw m.answer at n)) in
      rw q at c.contract

-- segments run on: two calls with the same buffer, on joined segments and on one that holds all their digits, return the same
pub run_calls : (r : BitStringRadix) (ds : List ℕ) → DigitsTo (2 ^ radix_bits r) (length ds) ds → (ps : List (Run (2 ^ radix_bits r))) (tail : List ℕ)
    → White tail → (x : PackedCall r (bit_text r ds ++ runs ps tail)) (y : PackedCall r (bit_text r (ds ++ run_digits ps))) → x.lent ≡ y.lent
    → Same x.result y.result x.after y.after
run_calls r ds d ps tail white x y e =
    agree_told _ _ (packed_joined r ds d ps tail white x.literal x.source x.lent x.kind x.spans y.literal y.source y.kind y.spans)
    x.result y.result x.after y.after x.contract (rw (sym e) at y.contract)
