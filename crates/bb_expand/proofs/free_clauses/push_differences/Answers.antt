use Rattle.std.proofs.Common.{[], ap, ◌∙◌, arith, get_or}
use Rattle.bb_cnf.specs.Clauses.{lists_of}
use Rattle.bb_net.specs.declared.cell.Cell.TheVariants.{Xor}
use Rattle.bb_expand.specs.Expansions.{cell_clauses}
use Rattle.bb_expand.specs.Inside.FreeClauses.{output_variable, wanted_variable, difference_variable}
use Rattle.bb_expand.proofs.FreeCounts.{same_xor}
use Rattle.bb_expand.proofs.Grows.{grown}
use Rattle.bb_expand.proofs.free_clauses.push_differences.Goals as goal

pub loop-j-preserved : goal.loop-j-preserved
loop-j-preserved c =
    let spec = c.args.spec.now in
    let imp = c.args.imp.now in
    let j = c.loop-j.j in
    let own = ap (λ outs. get_or outs j 0) c.outs-out-items.ensures.outs in
    let other = ap (λ outs. get_or outs j 0) c.outs-spec_outs.ensures.outs in
    grown (λ k. cell_clauses [] [] [] (λ i. i) (difference_variable spec imp k) (Xor (output_variable imp k) (wanted_variable spec imp k))) j
    (lists_of c.args.clauses.now.items) (lists_of c.loop-j.clauses.items) (lists_of c.push_xor.new.clauses.items) c.loop-j.invariant
    (c.in_ok-push_xor.ensures
    ∙ same_xor (lists_of c.loop-j.clauses.items) _ _ _ (difference_variable spec imp j) (output_variable imp j) (wanted_variable spec imp j)
    (omega (arith, c.requires.base)) (omega (arith, own, c.inputs-inputs.ensures.inputs)) (omega (arith, other, c.requires.wanted)))
