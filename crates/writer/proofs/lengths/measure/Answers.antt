-- `writer::lengths::measure` meets its contract: the opening and the mark, and the value itself or what its bytes cost. Assumes nothing.
use Rattle.std.proofs.Common.{ap, length}
use native.Mathlib.Omega.{arith}
use Rattle.writer.proofs.Measuring.{bytes_most, opening_most, measured_whole, measured_units}
use Rattle.writer.proofs.lengths.measure.Goals as goal

pub returns-then-is_all_kept : goal.returns-then-is_all_kept
returns-then-is_all_kept g c = measured_whole _ _ c.requires _ (ap length c.opening.ensures) _ c.is_all_kept.ensures c.if-is_all_kept.true

pub overflow_add-result-2 : goal.overflow_add-result-2
overflow_add-result-2 g c = let a = c.args in
    omega (
      arith,
      ap length c.opening.ensures,
      opening_most (g.S.Spelling.manner a.spelling.now),
      c.units_len.ensures,
      bytes_most (g.S.Spelling.manner a.spelling.now) a.value.now,
      c.requires.short,
    )

pub returns : goal.returns
returns g c = measured_units _ _ c.requires _ (ap length c.opening.ensures) _ c.is_all_kept.ensures c.if-is_all_kept.false _ c.units_len.ensures
