use Rattle.std.proofs.Common.{rules, IsErrOf, ◌&&◌, arith}
use Rattle.bb_uniq.specs.Inside.Meaning.{truth_of, IsTooMany}
use Rattle.bb_sym.specs.declared.fault.RungFault.TheVariants.{Nodes}
use Rattle.bb_sym.specs.Functions.{is_wrong}
use Rattle.bb_sym.specs.Plain.{block_functions, table}
use Rattle.bb_sym.specs.Inside.Made.{AreTooMany}
use Rattle.bb_sym.proofs.AlwaysWrong.{wrong_refused, pins_refused, wrong_makes, wrong_occurs}
use Rattle.bb_sym.proofs.each_output.always_wrong_output.Goals as goal

pub returns-in_err-f-clause-nodes : goal.returns-in_err-f-clause-nodes
returns-in_err-f-clause-nodes c =
    let old = c.args.d.now.store in
    let reported : IsErrOf c.from_residual.result Nodes → IsTooMany old (table old.vars (is_wrong c.args.pair.now.spec c.args.pair.now.imp c.args.j)) = search rules in
    λ full. wrong_refused c.args.pair.now.spec c.args.pair.now.imp c.args.inputs c.args.pins c.args.j c.requires.inputs c.requires.pins old c.requires.vars (reported full)

pub quantify_block-requires-clause-few : goal.quantify_block-requires-clause-few
quantify_block-requires-clause-few c = omega (arith, c.requires.few, c.in_ok-f.ensures.ok.kept.vars)

pub quantify_block-requires-clause-vars : goal.quantify_block-requires-clause-vars
quantify_block-requires-clause-vars c = omega (arith, c.requires.vars, c.in_ok-f.ensures.ok.kept.vars)

pub returns-in_err-r-clause-nodes : goal.returns-in_err-r-clause-nodes
returns-in_err-r-clause-nodes c =
    let mid = c.wrong_output.new.d.store in
    let reported : IsErrOf c.from_residual-in_err-r.result Nodes → AreTooMany mid (block_functions ◌&&◌ c.args.inputs c.args.pins (truth_of mid c.in_ok-f.f.0)) = search rules in
    λ full. pins_refused c.args.pair.now.spec c.args.pair.now.imp c.args.inputs c.args.pins c.args.j c.requires.inputs c.requires.pins c.args.d.now.store c.requires.vars mid c.in_ok-f.f c.in_ok-f.ensures.ok (reported full)

pub returns-clause-result : goal.returns-clause-result
returns-clause-result c =
    wrong_occurs c.args.pair.now.spec c.args.pair.now.imp c.args.inputs c.args.pins c.args.j c.requires.inputs c.requires.pins c.args.d.now.store c.requires.vars
    c.wrong_output.new.d.store c.quantify_block.new.d.store c.in_ok-f.f c.in_ok-r.r c.in_ok-f.ensures.ok c.in_ok-r.ensures.result

pub returns-clause-makes : goal.returns-clause-makes
returns-clause-makes c =
    wrong_makes c.args.pair.now.spec c.args.pair.now.imp c.args.inputs c.args.pins c.args.j c.requires.inputs c.requires.pins c.args.d.now.store c.requires.vars
    c.wrong_output.new.d.store c.quantify_block.new.d.store c.in_ok-f.f c.in_ok-f.ensures.ok c.in_ok-r.ensures.makes
