use Rattle.bb_checks.proofs.isomorphism_laws.laws_below.Goals as goal

pub returns : goal.returns
returns c = record {
  bits = record {
    formulas = c.formulas_are_of_cells.ensures;
    back = c.isomorphism_is_mutual.ensures;
    cells = c.isomorphic_nets_have_cells.ensures;
    bits = c.isomorphic_cells_have_one_bit.ensures;
  };
  kinds = c.kind_laws.ensures;
  known = c.isomorphic_cells_are_known_the_same.ensures;
  fix = c.functions.ensures.same;
  given = record {
    exist = c.filled_exist.ensures;
    same = c.isomorphic_filled_nets_have_same_bits.ensures;
    boxes = c.value_goes_by_boxes.ensures;
    counted = c.expansions_and_tables.ensures.counted;
  };
}
