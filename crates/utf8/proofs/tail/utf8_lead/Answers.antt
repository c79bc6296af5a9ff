-- `utf8::tail::utf8_lead` meets its contract. Each return's tests bound the byte, and `lead_at` reads its row; 9 is none. Assumes nothing.
use Rattle.std.proofs.Common.{arith}
use Rattle.laws.proofs.utf8.Leads.{lead_at}
use Rattle.utf8.proofs.tail.utf8_lead.Goals as goal

pub returns-then-byte-lt128 : goal.returns-then-byte-lt128
returns-then-byte-lt128 c = lead_at 0 c.args.byte (omega arith)

pub returns-then-byte-lt194 : goal.returns-then-byte-lt194
returns-then-byte-lt194 c = lead_at 9 c.args.byte (omega arith)

pub returns-then-byte-lt224 : goal.returns-then-byte-lt224
returns-then-byte-lt224 c = lead_at 1 c.args.byte (omega arith)

pub returns-then-byte-lt225 : goal.returns-then-byte-lt225
returns-then-byte-lt225 c = lead_at 2 c.args.byte (omega arith)

pub returns-then-byte-lt237 : goal.returns-then-byte-lt237
returns-then-byte-lt237 c = lead_at 3 c.args.byte (omega arith)

pub returns-then-byte-lt238 : goal.returns-then-byte-lt238
returns-then-byte-lt238 c = lead_at 4 c.args.byte (omega arith)

pub returns-then-byte-lt240 : goal.returns-then-byte-lt240
returns-then-byte-lt240 c = lead_at 5 c.args.byte (omega arith)

pub returns-then-byte-lt241 : goal.returns-then-byte-lt241
returns-then-byte-lt241 c = lead_at 6 c.args.byte (omega arith)

pub returns-then-byte-lt244 : goal.returns-then-byte-lt244
returns-then-byte-lt244 c = lead_at 7 c.args.byte (omega arith)

pub returns-then-byte-lt245 : goal.returns-then-byte-lt245
returns-then-byte-lt245 c = lead_at 8 c.args.byte (omega arith)

pub returns : goal.returns
returns c = lead_at 9 c.args.byte (omega arith)
