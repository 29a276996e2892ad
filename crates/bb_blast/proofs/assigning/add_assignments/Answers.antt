use Rattle.std.proofs.Common.{map}
use Rattle.bb_ast.specs.Inside.Views.{arm_view}
use Rattle.bb_expr.specs.Inside.Occurrences.{OccursAt}
use Rattle.bb_design.specs.Constructs.{Assignment}
use Rattle.bb_blast.specs.Inside.BitBlasting.{IsMakeable, IsPartAt}
use Rattle.bb_lemmas.proofs.Turns.{all_here, zip_turn, zip_begin, zip_end}
use Rattle.bb_blast.proofs.assigning.add_assignments.Goals as goal

pub assignment-requires-clause-occurs : goal.assignment-requires-clause-occurs
assignment-requires-clause-occurs c = all_here (λ x. OccursAt c.args.context.checked.now c.args.context.module x.0) arm_view c.args.all.now c.loop-left.left-index c.loop-left-item.result c.loop-left-test.true c.loop-left-item.is c.requires.occurs

pub assignment-requires-clause-makeable : goal.assignment-requires-clause-makeable
assignment-requires-clause-makeable c =
    all_here (λ x. IsMakeable c.args.context.checked.now c.args.context.module (Assignment x.0 x.1)) arm_view c.args.all.now c.loop-left.left-index c.loop-left-item.result c.loop-left-test.true c.loop-left-item.is c.requires.makeable

pub loop-left-init : goal.loop-left-init
loop-left-init c = λ before all. zip_begin (IsPartAt c.args.context.checked.now c.args.context.module) before c.args.parts.now.items all

pub loop-left-preserved : goal.loop-left-preserved
loop-left-preserved c = λ before all. zip_turn (IsPartAt c.args.context.checked.now c.args.context.module) arm_view c.args.all.now c.loop-left.left-index c.loop-left-item.result c.loop-left-test.true c.loop-left-item.is (λ x. Assignment x.0 x.1) before
    c.loop-left.parts.items c.push.new.self.items c.in_ok-assignment.field-0 (c.loop-left.invariant before all) c.in_ok-assignment.ensures.part c.in_ok-push.ensures.items

pub returns : goal.returns
returns c = record { parts = λ before all. zip_end (IsPartAt c.args.context.checked.now c.args.context.module) (λ l. map (λ x. Assignment x.0 x.1) (map arm_view l)) c.args.all.now c.loop-left.left-index before c.loop-left.parts.items c.loop-left-test.false (c.loop-left.invariant before all) }
