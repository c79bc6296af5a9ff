-- `records::pushing::Line::push_all` meets its contract. Assumes nothing.
use Rattle.std.proofs.Common.{ℕ, List, ◌+◌, length, refl, ap, ◌∙◌}
use Rattle.records.specs.Adding.{pushed}
use Rattle.records.proofs.Adding.{pushed_by_copy}
use Rattle.records.proofs.pushing.Line.push_all.Goals as goal

pub returns-then-bytes-self : goal.returns-then-bytes-self
returns-then-bytes-self c =
    let s = c.self.inside in
    let v = c.args.bytes.now in
    pushed_by_copy s.bytes v c.put_bytes.new.out s.len (s.len + length v) c.put_bytes.result c.self.told c.self.invariant c.if-bytes-self.true refl c.put_bytes.ensures
    ∙ ap (λ (z : List ℕ). pushed z v) c.self.view_is
