use Rattle.std.proofs.Common.{rules, IsErrOf, ◌&&◌, arith}
use Rattle.bb_uniq.specs.Inside.Meaning.{truth_of}
use Rattle.bb_sym.specs.declared.fault.RungFault.TheVariants.{Nodes}
use Rattle.bb_sym.specs.Functions.{inputs_first, plain_functions}
use Rattle.bb_sym.specs.Plain.{block_functions}
use Rattle.bb_sym.specs.Inside.Made.{AreTooMany}
use Rattle.bb_sym.proofs.OutputParts.{wrong_tables, refused_plain, refused_wrong, refused_last, output_makes, output_occurs}
use Rattle.bb_sym.proofs.all_outputs.output_diagram.Goals as goal

pub returns-in_err-made-clause-nodes : goal.returns-in_err-made-clause-nodes
returns-in_err-made-clause-nodes c =
    let reported : IsErrOf c.from_residual.result Nodes → AreTooMany c.args.d.now.store (plain_functions c.args.spec.now c.args.imp.now) = search rules in
    λ full. refused_plain c.args.spec.now c.args.imp.now c.args.inputs c.args.pins c.requires.inputs c.requires.pins c.args.d.now.store c.requires.vars (reported full)

pub returns-in_err-any-clause-nodes : goal.returns-in_err-any-clause-nodes
returns-in_err-any-clause-nodes c =
    let b = c.ordered_cells.new.d.store in
    let more = c.in_err-any.ensures.nodes (inputs_first c.args.imp.now) c.in_ok-made.ensures.cells in
    let reported : IsErrOf c.from_residual-in_err-any.result Nodes → AreTooMany b (wrong_tables b.vars c.args.spec.now c.args.imp.now) = search (rules, more) in
    λ full. refused_wrong c.args.spec.now c.args.imp.now c.args.inputs c.args.pins c.requires.inputs c.requires.pins c.args.d.now.store c.requires.vars b c.in_ok-made.ensures.makes (reported full)

pub quantify_block-requires-clause-f : goal.quantify_block-requires-clause-f
quantify_block-requires-clause-f c = (c.in_ok-any.ensures.result (inputs_first c.args.imp.now) c.in_ok-made.ensures.cells).ref

pub quantify_block-requires-clause-vars : goal.quantify_block-requires-clause-vars
quantify_block-requires-clause-vars c =
    omega (arith, c.requires.vars, c.in_ok-made.ensures.makes.kept.vars, (c.in_ok-any.ensures.makes (inputs_first c.args.imp.now) c.in_ok-made.ensures.cells).kept.vars)

pub quantify_block-requires-clause-few : goal.quantify_block-requires-clause-few
quantify_block-requires-clause-few c =
    omega (arith, c.requires.few, c.in_ok-made.ensures.makes.kept.vars, (c.in_ok-any.ensures.makes (inputs_first c.args.imp.now) c.in_ok-made.ensures.cells).kept.vars)

pub returns-in_err-r-clause-nodes : goal.returns-in_err-r-clause-nodes
returns-in_err-r-clause-nodes c =
    let last = c.some_wrong.new.d.store in
    let order = inputs_first c.args.imp.now in
    let reported : IsErrOf c.from_residual-in_err-r.result Nodes → AreTooMany last (block_functions ◌&&◌ c.args.inputs c.args.pins (truth_of last c.in_ok-any.any.0)) = search rules in
    λ full. refused_last c.args.spec.now c.args.imp.now c.args.inputs c.args.pins c.requires.inputs c.requires.pins c.args.d.now.store c.requires.vars c.ordered_cells.new.d.store c.in_ok-made.ensures.makes
    last c.in_ok-any.any (c.in_ok-any.ensures.makes order c.in_ok-made.ensures.cells) (c.in_ok-any.ensures.result order c.in_ok-made.ensures.cells) (reported full)

pub returns-clause-result : goal.returns-clause-result
returns-clause-result c =
    let order = inputs_first c.args.imp.now in
    output_occurs c.args.spec.now c.args.imp.now c.args.inputs c.args.pins c.requires.inputs c.requires.pins c.args.d.now.store c.requires.vars c.ordered_cells.new.d.store c.in_ok-made.ensures.makes
    c.some_wrong.new.d.store c.in_ok-any.any (c.in_ok-any.ensures.makes order c.in_ok-made.ensures.cells) (c.in_ok-any.ensures.result order c.in_ok-made.ensures.cells) c.quantify_block.new.d.store c.in_ok-r.r c.in_ok-r.ensures.result

pub returns-clause-makes : goal.returns-clause-makes
returns-clause-makes c =
    let order = inputs_first c.args.imp.now in
    output_makes c.args.spec.now c.args.imp.now c.args.inputs c.args.pins c.requires.inputs c.requires.pins c.args.d.now.store c.requires.vars c.ordered_cells.new.d.store c.in_ok-made.ensures.makes
    c.some_wrong.new.d.store c.in_ok-any.any (c.in_ok-any.ensures.makes order c.in_ok-made.ensures.cells) (c.in_ok-any.ensures.result order c.in_ok-made.ensures.cells) c.quantify_block.new.d.store c.in_ok-r.ensures.makes
