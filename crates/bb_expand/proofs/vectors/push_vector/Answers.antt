use Rattle.std.proofs.Common.{[], ap, ◌∙◌}
use Rattle.std.proofs.lemmas.Result.{on_ok_weaker}
use Rattle.bb_cnf.specs.Clauses.{lists_of}
use Rattle.bb_net.specs.Netlists.{Netlist}
use Rattle.bb_net.specs.Values.{flat}
use Rattle.bb_expand.proofs.RowLemmas.{vector_pushed}
use Rattle.bb_expand.proofs.vectors.push_vector.Goals as goal

pub returns-clause-pushed : goal.returns-clause-pushed
returns-clause-pushed c v at =
    let outs = c.outs.ensures.outs ∙ ap (λ (n : Netlist). n.outs) c.imp-imp.ensures.imp in
    let wanted = c.outs-2.ensures.outs ∙ ap (λ (n : Netlist). n.outs) c.spec-spec.ensures.spec in
    let bits = c.value.ensures.value ∙ ap (λ n. flat n c.args.x.now []) c.spec-spec.ensures.spec in
    let here = rw c.imp-imp.ensures.imp at c.in_ok-push_cells.ensures in
    let cells = rw c.kinds.ensures.kinds at here in
    on_ok_weaker c.push_outputs.result (λ e. vector_pushed c.args.pair.now.spec c.args.pair.now.imp c.args.pair.now.kinds v c.args.base c.args.x.now c.value.new.out c.outs.result.now c.outs-2.result.now
    (lists_of c.args.clauses.now.items) (lists_of c.push_cells.new.clauses.items) (lists_of c.push_outputs.new.clauses.items) at outs wanted bits cells e) c.push_outputs.ensures
