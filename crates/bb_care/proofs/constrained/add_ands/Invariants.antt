use Rattle.std.proofs.Common.{◌≡◌, ◌++◌, map, take}
use Rattle.bb_net.specs.declared.cell.Cell.TheVariants.{And}
use Rattle.bb_net.specs.Netlists.{Netlist}
use Rattle.bb_care.proofs.constrained.add_ands.Given as goal

abbrev pub invariant-loop-out : goal.invariant-loop-out
invariant-loop-out l = ◌≡◌ {A = Netlist} l.net (record l.initial.net { cells = l.initial.net.cells ++ map (λ out. And out l.care) (take l.out-index l.outs) })
