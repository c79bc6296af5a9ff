-- `escapes::passing::take_unit` meets its contract: in each arm the piece is known, and what it stands for. Assumes nothing.
use Rattle.escapes.proofs.Turns.{stands_byte, stands_two, stands_escape, stands_scalar, stands_keep}
use Rattle.escapes.proofs.Turns.{means_refused, means_none, turn_refused, turn_moves, turn_near}
use Rattle.escapes.proofs.passing.take_unit.Goals as goal

pub go_past-requires-in-Byte : goal.go_past-requires-in-Byte
go_past-requires-in-Byte g c = search (turn_near (g.F.EscapeFamily.step c.args.family.now) (g.F.EscapeFamily.is_checked c.args.family.now) (g.met.F.EscapeFamily.steady c.args.family.now), stands_byte)

pub go_past-requires-in-Two : goal.go_past-requires-in-Two
go_past-requires-in-Two g c = search (turn_near (g.F.EscapeFamily.step c.args.family.now) (g.F.EscapeFamily.is_checked c.args.family.now) (g.met.F.EscapeFamily.steady c.args.family.now), stands_two)

pub returns-then-scalar-n : goal.returns-then-scalar-n
returns-then-scalar-n g c = search (turn_refused (g.F.EscapeFamily.step c.args.family.now) (g.F.EscapeFamily.is_checked c.args.family.now) (g.met.F.EscapeFamily.steady c.args.family.now), means_none)

pub go_past-requires-in-Scalar : goal.go_past-requires-in-Scalar
go_past-requires-in-Scalar g c = search (turn_near (g.F.EscapeFamily.step c.args.family.now) (g.F.EscapeFamily.is_checked c.args.family.now) (g.met.F.EscapeFamily.steady c.args.family.now), stands_scalar)

pub go_past-requires-in-Escape : goal.go_past-requires-in-Escape
go_past-requires-in-Escape g c = search (turn_near (g.F.EscapeFamily.step c.args.family.now) (g.F.EscapeFamily.is_checked c.args.family.now) (g.met.F.EscapeFamily.steady c.args.family.now), stands_escape)

pub returns-in-Keep : goal.returns-in-Keep
returns-in-Keep g c = search (turn_moves (g.F.EscapeFamily.step c.args.family.now) (g.F.EscapeFamily.is_checked c.args.family.now) (g.met.F.EscapeFamily.steady c.args.family.now), stands_keep)

pub returns-in-Byte : goal.returns-in-Byte
returns-in-Byte g c = search (turn_moves (g.F.EscapeFamily.step c.args.family.now) (g.F.EscapeFamily.is_checked c.args.family.now) (g.met.F.EscapeFamily.steady c.args.family.now), stands_byte)

pub returns-in-Two : goal.returns-in-Two
returns-in-Two g c = search (turn_moves (g.F.EscapeFamily.step c.args.family.now) (g.F.EscapeFamily.is_checked c.args.family.now) (g.met.F.EscapeFamily.steady c.args.family.now), stands_two)

pub returns-else-scalar-n : goal.returns-else-scalar-n
returns-else-scalar-n g c = search (turn_moves (g.F.EscapeFamily.step c.args.family.now) (g.F.EscapeFamily.is_checked c.args.family.now) (g.met.F.EscapeFamily.steady c.args.family.now), stands_scalar)

pub returns-in-Escape : goal.returns-in-Escape
returns-in-Escape g c = search (turn_moves (g.F.EscapeFamily.step c.args.family.now) (g.F.EscapeFamily.is_checked c.args.family.now) (g.met.F.EscapeFamily.steady c.args.family.now), stands_escape)

pub returns-in-Refused : goal.returns-in-Refused
returns-in-Refused g c = search (turn_refused (g.F.EscapeFamily.step c.args.family.now) (g.F.EscapeFamily.is_checked c.args.family.now) (g.met.F.EscapeFamily.steady c.args.family.now), means_refused)
