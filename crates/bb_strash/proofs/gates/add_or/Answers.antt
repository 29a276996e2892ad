use Rattle.bb_strash.proofs.GateBits.{then_more}
use Rattle.bb_strash.proofs.gates.add_or.Goals as goal

pub returns-clause-extends : goal.returns-clause-extends
returns-clause-extends c =
    let one = c.in_ok-not_a.ensures.extends in
    let two = then_more _ _ _ 1 1 one c.in_ok-not_b.ensures.extends in
    let three = then_more _ _ _ 2 1 two c.in_ok-neither.ensures.extends in
    then_more _ _ _ 3 1 three c.in_ok-either.ensures.extends
