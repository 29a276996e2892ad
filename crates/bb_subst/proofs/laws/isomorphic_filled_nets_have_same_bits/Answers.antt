use Rattle.bb_subst.proofs.IsomorphicFilled.{isomorphic_filled_nets_have_same_bits}
use Rattle.bb_subst.proofs.laws.isomorphic_filled_nets_have_same_bits.Goals as goal

pub returns : goal.returns
returns c = isomorphic_filled_nets_have_same_bits (record {
  formulas = c.formulas_are_of_cells.ensures;
  cells = c.isomorphic_nets_have_cells.ensures;
  bits = c.isomorphic_cells_have_one_bit.ensures;
  have = c.filled_have_bits.ensures;
  choose = c.trees_choose.ensures;
})
