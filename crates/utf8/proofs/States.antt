-- What is due tells the state: a contract that fixes what is due fixes the state. Assumes nothing.
use Rattle.std.proofs.Common.{◌≡◌, eqb, sym, refl, ap, ◌∙◌}
use Rattle.std.specs.Prelude.{if◌then◌else◌}
use Rattle.meaning.specs.Chars.{Due, due, broken}
use Rattle.utf8.specs.declared.tail.Utf8Tail.{Utf8Tail}
use Rattle.utf8.specs.declared.tail.Utf8Tail.TheVariants.{Start, One, Two, TwoFromA0, TwoUpTo9F, Three, ThreeFrom90, ThreeUpTo8F, Broken}
use Rattle.utf8.specs.Tails.{due_of}

abbrev state_of : Due → Utf8Tail
state_of broken = Broken
state_of (due n lo hi) =
    if eqb n 0 then Start
    else if eqb n 1 then One
    else if eqb n 2 then (if eqb lo 0xA0 then TwoFromA0 else if eqb hi 0x9F then TwoUpTo9F else Two)
    else (if eqb lo 0x90 then ThreeFrom90 else if eqb hi 0x8F then ThreeUpTo8F else Three)

state_due : (t : Utf8Tail) → state_of (due_of t) ≡ t
state_due Start = refl
state_due One = refl
state_due Two = refl
state_due TwoFromA0 = refl
state_due TwoUpTo9F = refl
state_due Three = refl
state_due ThreeFrom90 = refl
state_due ThreeUpTo8F = refl
state_due Broken = refl

pub tail_unique : (r r' : Utf8Tail) → due_of r ≡ due_of r' → r ≡ r'
tail_unique r r' e = sym (state_due r) ∙ ap state_of e ∙ state_due r'
