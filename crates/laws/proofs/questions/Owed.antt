-- What is owed of the answer and of the buffer, by what a text is read as. Assumes nothing.
use Rattle.std.specs.Prelude.{Ok, Err}
use mathlib.Core.Path.{◌≡◌, refl, ap, sym, ◌∙◌}
use mathlib.Core.List.{List, ◌++◌}
use Prim.Native.Nat.{ℕ, ◌≤◌, ◌<◌}
use native.Mathlib.Omega.{arith}
use lib.ListN.{length, drop}
use borrow.Author.Tests.{le-leb, lt-leb}
use Rattle.meaning.specs.declared.ReadText.TheVariants.{Borrowed, Written}
use Rattle.meaning.specs.declared.ReadRefusal.TheVariants.{At, NoRoom}
use Rattle.meaning.specs.Reading.{Answer, borrowed, written, refused}
use Rattle.meaning.specs.Answers.{filled}
use Rattle.meaning.specs.Reads.{Reads}

pub reads_short : (a : Answer) (v out : List ℕ) (n : ℕ) → a ≡ written v → length v ≡ n → length out < n → Reads a out (Err (NoRoom n)) out
unfolding filled
reads_short a v out n e l h =
    let k : length out < length v = omega (arith, l) in
    rw e (record { answer = rw (lt-leb (length v) (length out) k) (ap (λ n. Err (NoRoom n)) (sym l)); buffer = rw (lt-leb (length v) (length out) k) })

pub reads_written : (a : Answer) (v out after : List ℕ) (n : ℕ) → a ≡ written v → length v ≡ n → n ≤ length out → after ≡ v ++ drop (length v) out
    → Reads a out (Ok (Written n)) after
unfolding filled
reads_written a v out after n e l h b =
    let k : length v ≤ length out = omega (arith, l) in
    rw e (record { answer = rw (le-leb (length v) (length out) k) (ap (λ n. Ok (Written n)) (sym l)); buffer = b ∙ rw (le-leb (length v) (length out) k) })

pub reads_refused : (a : Answer) (out : List ℕ) (p : ℕ) → a ≡ refused p → Reads a out (Err (At p)) out
reads_refused a out p e = rw e (record { answer = refl; buffer = refl })

pub reads_borrowed : (a : Answer) (out : List ℕ) (f u : ℕ) → a ≡ borrowed f u → Reads a out (Ok (Borrowed f u)) out
reads_borrowed a out f u e = rw e (record { answer = refl; buffer = refl })
