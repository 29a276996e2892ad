use Rattle.std.proofs.Common.{◌≡◌}
use Rattle.bb_net.specs.Netlists.{first_cells}
use Rattle.bb_net.proofs.net.start_cells.Given as goal

abbrev pub invariant-loop-i : goal.invariant-loop-i
invariant-loop-i l = l.cells.items ≡ first_cells l.i
