-- `utf8::tail::utf8_tail_push` meets its contract. Each arm knows its state; `push_next` says what a byte that is due makes of it. Assumes nothing.
use Rattle.std.proofs.Common.{refl}
use Rattle.utf8.specs.declared.tail.Utf8Tail.TheVariants.{Start, One, Two}
use Rattle.utf8.proofs.Pushing.{push_next}
use Rattle.utf8.proofs.tail.utf8_tail_push.Goals as goal

pub returns-in-Start : goal.returns-in-Start
returns-in-Start c = rw c.in-Start.is c.utf8_lead.ensures

pub returns-in-One : goal.returns-in-One
returns-in-One c = rw c.in-One.is (push_next Start c.due_next.result 0 0x80 0xBF _ refl c.due_next.ensures)

pub returns-in-Two : goal.returns-in-Two
returns-in-Two c = rw c.in-Two.is (push_next One c.due_next-in-Two.result 1 0x80 0xBF _ refl c.due_next-in-Two.ensures)

pub returns-in-TwoFromA0 : goal.returns-in-TwoFromA0
returns-in-TwoFromA0 c = rw c.in-TwoFromA0.is (push_next One c.due_next-in-TwoFromA0.result 1 0xA0 0xBF _ refl c.due_next-in-TwoFromA0.ensures)

pub returns-in-TwoUpTo9F : goal.returns-in-TwoUpTo9F
returns-in-TwoUpTo9F c = rw c.in-TwoUpTo9F.is (push_next One c.due_next-in-TwoUpTo9F.result 1 0x80 0x9F _ refl c.due_next-in-TwoUpTo9F.ensures)

pub returns-in-Three : goal.returns-in-Three
returns-in-Three c = rw c.in-Three.is (push_next Two c.due_next-in-Three.result 2 0x80 0xBF _ refl c.due_next-in-Three.ensures)

pub returns-in-ThreeFrom90 : goal.returns-in-ThreeFrom90
returns-in-ThreeFrom90 c = rw c.in-ThreeFrom90.is (push_next Two c.due_next-in-ThreeFrom90.result 2 0x90 0xBF _ refl c.due_next-in-ThreeFrom90.ensures)

pub returns-in-ThreeUpTo8F : goal.returns-in-ThreeUpTo8F
returns-in-ThreeUpTo8F c = rw c.in-ThreeUpTo8F.is (push_next Two c.due_next-in-ThreeUpTo8F.result 2 0x80 0x8F _ refl c.due_next-in-ThreeUpTo8F.ensures)
