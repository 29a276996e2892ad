use Rattle.bb_sym.proofs.SpecificationBeads.{cells_hold, symbolic_holds, local_holds, output_holds}
use Rattle.bb_sym.proofs.laws.specification_counts.Goals as goal

pub returns : goal.returns
returns c = record {
  cells = cells_hold c.tables.ensures c.beads.ensures;
  symbolic = symbolic_holds;
  local = local_holds c.tables.ensures c.beads.ensures;
  output = output_holds c.tables.ensures c.beads.ensures;
}
