-- `decimals::printing::by_billion` meets its contract. Assumes nothing.
use Rattle.decimals.proofs.Dividing.{limb_fits, billion_div, billion_mod}
use Rattle.decimals.proofs.printing.by_billion.Goals as goal

pub overflow_add-a : goal.overflow_add-a
overflow_add-a c = search limb_fits

pub returns : goal.returns
returns c = let h = c.args.halves in record { quotient = billion_div h.hi h.lo; left = billion_mod h.hi h.lo }
