use Rattle.std.proofs.Common.{◌≤◌, [], length}
use Rattle.bb_ast.specs.Inside.Views.{expression}
use Rattle.bb_expr.specs.Inside.Occurrences.{OccursAt}
use Rattle.bb_design.specs.Contexts.{width_of, made_in}
use Rattle.bb_blast.specs.Inside.ModuleTemplates.{IsWholeIn}
use Rattle.bb_blast.specs.Inside.BitBlasting.{module_in, scope_of}
use Rattle.bb_lemmas.proofs.Turns.{all_here, zip_next}
use Rattle.bb_blast.proofs.gating.gate_inputs.Goals as goal

pub logic_alone-requires-clause-occurs : goal.logic_alone-requires-clause-occurs
logic_alone-requires-clause-occurs c = all_here (OccursAt c.args.context.checked.now c.args.context.module) expression c.args.terms.now c.loop-term.term-index c.term-item.result c.loop-term-test.true c.term-item.is c.requires.occurs

pub logic_alone-requires-clause-few : goal.logic_alone-requires-clause-few
logic_alone-requires-clause-few c =
    let s = scope_of (module_in c.args.context.checked.now c.args.context.module) in
    all_here (λ e. length (made_in s e (width_of s e)).cells ≤ 2000000) expression c.args.terms.now c.loop-term.term-index c.term-item.result c.loop-term-test.true c.term-item.is c.requires.few

pub loop-term-preserved : goal.loop-term-preserved
loop-term-preserved c =
    zip_next (IsWholeIn (module_in c.args.context.checked.now c.args.context.module)) expression c.args.terms.now c.loop-term.term-index c.term-item.result c.loop-term-test.true c.term-item.is []
    c.loop-term.ins.items c.push.new.self.items c.in_ok-logic_alone.field-0 c.loop-term.invariant c.in_ok-logic_alone.ensures.kept c.in_ok-push.ensures.items
