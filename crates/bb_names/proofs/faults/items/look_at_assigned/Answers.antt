use Rattle.std.proofs.Common.{◌++◌}
use Rattle.bb_ast.specs.Inside.Views.{expression, arm_view, module_view}
use Rattle.bb_names.specs.Sites.{Driven, Read, sites_in}
use Rattle.bb_names.proofs.Noting.{noted-turn, noted-all, noted-then}
use Rattle.bb_names.proofs.faults.items.look_at_assigned.Goals as goal

pub loop-left-preserved : goal.loop-left-preserved
loop-left-preserved c = λ text.
    let m = module_view c.args.of.now in
    let x = c.loop-left-item.result in
    noted-turn text m (λ y. sites_in Driven y.0 ++ sites_in Read y.1) arm_view c.args.all.now c.loop-left.left-index x c.args.found.now c.loop-left.found c.look-in-loop-left.new.found c.loop-left-test.true c.loop-left-item.is (c.loop-left.invariant text)
    (noted-then text m c.loop-left.found c.look.new.found c.look-in-loop-left.new.found (sites_in Driven (expression x.0)) (sites_in Read (expression x.1)) (c.in_ok-look.ensures.noted text) (c.in_ok-look-2.ensures.noted text))

pub returns : goal.returns
returns c = record { noted = λ text. noted-all text (module_view c.args.of.now) (λ y. sites_in Driven y.0 ++ sites_in Read y.1) arm_view c.args.all.now c.loop-left.left-index c.args.found.now c.loop-left.found c.loop-left-test.false (c.loop-left.invariant text) }
