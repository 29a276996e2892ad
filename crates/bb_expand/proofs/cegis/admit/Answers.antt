use Rattle.std.proofs.Common.{◌<◌, ◌≤◌, ◌^◌, subst, arith}
use Rattle.bb_net.specs.Completions.{table_bits}
use Rattle.bb_net.specs.Kinds.{representatives}
use Rattle.bb_net.specs.Netlists.{Netlist}
use Rattle.bb_expand.proofs.IterationLemmas.{large_tables}
use Rattle.bb_expand.proofs.cegis.admit.Goals as goal

pub returns-then-not-is_within_budget-clause-clauses : goal.returns-then-not-is_within_budget-clause-clauses
returns-then-not-is_within_budget-clause-clauses c e =
    let pair = c.args.pair.now in
    let small : table_bits (representatives pair.kinds pair.imp.boxes) ≤ 2 ^ 24 = omega (arith, c.in-Some.ensures.some, c.in-Some.ensures.small) in
    let large = subst (λ (n : Netlist). 2 ^ 20 < table_bits n.boxes) c.imp.ensures.imp (c.may_be_filled.ensures.no c.if-not-may_be_filled.true) in
    (small, large_tables pair.spec pair.imp pair.kinds c.args.clauses (c.is_within_budget.ensures.no c.if-not-is_within_budget.true) large)
