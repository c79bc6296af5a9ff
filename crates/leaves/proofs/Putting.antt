-- Bytes put at a buffer's start, as code puts them: none where there is no room, a run of stores, a copy byte by byte.
-- Assumes nothing.
use Rattle.std.proofs.Common.{◌≡◌, ℕ, ◌<◌, ◌≤◌, List, [], ◌++◌, length, drop, sym, refl, ◌∙◌, zero-add, arith, le-leb}
use borrow.Author.Tests.{lt-leb}
use lib.Seq.{sets, sets-eq}
use Rattle.meaning.specs.Answers.{filled}
use Rattle.laws.proofs.basics.Copies.{Copying, copying_all}
use Rattle.laws.proofs.questions.Determined.{Same}
use Rattle.leaves.specs.Puts.{Puts}

module _ (v out : List ℕ) where
  pub puts_none : length out < length v → Puts v out 0 out
  unfolding filled
  puts_none h = record { answer = rw (lt-leb (length v) (length out) h); buffer = rw (lt-leb (length v) (length out) h) }

  pub puts_all : length v ≤ length out → (after : List ℕ) → after ≡ v ++ drop (length v) out → Puts v out (length v) after
  unfolding filled
  puts_all h after e = record { answer = rw (le-leb (length v) (length out) h); buffer = e ∙ rw (le-leb (length v) (length out) h) }

  pub puts_sets : length v ≤ length out → Puts v out (length v) (sets out 0 v)
  puts_sets h = puts_all h (sets out 0 v) (sets-eq v out 0 (rw zero-add h) ∙ rw zero-add)

pub puts_nothing : (out : List ℕ) → Puts [] out 0 out
puts_nothing out = puts_all [] out (omega arith) out refl

-- what is put answers with its length where there is room
pub puts_room : {v out : List ℕ} {r : ℕ} {after : List ℕ} → Puts v out r after → length v ≤ length out → r ≡ length v
puts_room {v} {out} p h = rw (le-leb (length v) (length out) h) at p.answer

-- a copy that is done
pub copying_end : {b d out : List ℕ} {i : ℕ} → Copying b d out i → length b ≤ i → Puts b d (length b) out
copying_end {b} {d} {out} c h = puts_all b d c.room out (copying_all c h)

-- two results that the contract permits are equal
pub puts_unique : (v out : List ℕ) (r r' : ℕ) (d d' : List ℕ) → Puts v out r d → Puts v out r' d' → Same r r' d d'
puts_unique v out r r' d d' m n = record { answer = m.answer ∙ sym n.answer; buffer = m.buffer ∙ sym n.buffer }
