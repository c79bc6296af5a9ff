-- A scalar's encoding put at a buffer's start: the bytes of each width as code writes them, and what a buffer holds then. Assumes nothing.
use mathlib.Core.Path.{◌≡◌, sym, ◌∙◌}
use mathlib.Core.Bool.{true, false}
use mathlib.Core.List.{List, [], ◌∷◌}
use Prim.Native.Nat.{ℕ, ◌+◌, ◌/◌, ◌%◌, ◌≤◌, ◌<◌}
use native.Mathlib.Nat.{zero-add}
use native.Mathlib.Omega.{arith}
use borrow.Author.Tests.{lt-ltb, le-ltb, le-leb, lt-leb}
use lib.ListN.{length}
use lib.Seq.{sets, sets-eq}
use Rattle.meaning.specs.Chars.{encode, is_scalar, more}
use Rattle.meaning.specs.Answers.{filled}
use Rattle.laws.proofs.utf8.Encode.{encode_more}
use Rattle.laws.proofs.questions.Determined.{Same}
use Rattle.scalars.specs.Scalars.{Encodes}

div_one : (c : ℕ) → c / 1 ≡ c
div_one c = omega arith

module _ (c : ℕ) where
  pub one_byte_lem : c ≤ 0x7F → encode c ≡ c ∷ []
  unfolding more
  one_byte_lem h = encode_more c 0 (rw (lt-ltb c 0x80 (omega arith))) ∙ rw (div_one c, zero-add c)

  pub two_bytes : 0x7F < c → c ≤ 0x7FF → encode c ≡ (0xC0 + c / 64) ∷ (0x80 + c % 64) ∷ []
  unfolding more
  two_bytes g h = encode_more c 1 (rw (le-ltb c 0x80 g, lt-ltb c 0x800 (omega arith))) ∙ rw (div_one c)

  pub three_bytes : 0x7FF < c → c ≤ 0xFFFF → encode c ≡ (0xE0 + c / 4096) ∷ (0x80 + c / 64 % 64) ∷ (0x80 + c % 64) ∷ []
  unfolding more
  three_bytes g h = encode_more c 2 (rw (le-ltb c 0x80 (omega arith), le-ltb c 0x800 g, lt-ltb c 0x10000 (omega arith))) ∙ rw (div_one c)

  pub four_bytes : 0xFFFF < c → encode c ≡ (0xF0 + c / 262144) ∷ (0x80 + c / 4096 % 64) ∷ (0x80 + c / 64 % 64) ∷ (0x80 + c % 64) ∷ []
  unfolding more
  four_bytes g = encode_more c 3 (rw (le-ltb c 0x80 (omega arith), le-ltb c 0x800 (omega arith), le-ltb c 0x10000 g)) ∙ rw (div_one c)

  module _ (out : List ℕ) where
    pub no_scalar : is_scalar c ≡ false → Encodes c out 0 out
    no_scalar s = record { answer = rw s; buffer = rw s }

    pub no_room : is_scalar c ≡ true → length out < length (encode c) → Encodes c out 0 out
    unfolding filled
    no_room s h = record { answer = rw (s, lt-leb (length (encode c)) (length out) h); buffer = rw (s, lt-leb (length (encode c)) (length out) h) }

    pub put : (v : List ℕ) → is_scalar c ≡ true → encode c ≡ v → length v ≤ length out → Encodes c out (length v) (sets out 0 v)
    unfolding filled
    put v s e h = record {
      answer = rw (s, e, le-leb (length v) (length out) h);
      buffer = rw (s, e, le-leb (length v) (length out) h) (sets-eq v out 0 (rw zero-add h) ∙ rw zero-add);
    }

-- two results that the contract permits are equal
pub encodes_unique : (c : ℕ) (out : List ℕ) (r r' : ℕ) (d d' : List ℕ) → Encodes c out r d → Encodes c out r' d' → Same r r' d d'
encodes_unique c out r r' d d' m n = record { answer = m.answer ∙ sym n.answer; buffer = m.buffer ∙ sym n.buffer }
