use Rattle.std.proofs.Common.{map}
use Rattle.std.specs.Prelude.{All}
use Rattle.std.specs.List.{flat_map}
use Rattle.bb_ast.specs.Inside.Views.{named_view}
use Rattle.bb_design.specs.Constructs.{initial_construct}
use Rattle.bb_blast.specs.Inside.BitBlasting.{IsMakeable, IsPartAt}
use Rattle.bb_lemmas.proofs.Turns.{all_here, zip_flat, zip_begin, zip_end}
use Rattle.bb_blast.proofs.assigning.add_all_declared.Goals as goal

pub add_declared-requires-clause-makeable : goal.add_declared-requires-clause-makeable
add_declared-requires-clause-makeable c =
    all_here (λ x. All (IsMakeable c.args.context.checked.now c.args.context.module) (initial_construct x)) named_view c.args.nets.now c.loop-net.net-index c.net-item.result c.loop-net-test.true c.net-item.is c.requires.makeable

pub loop-net-init : goal.loop-net-init
loop-net-init c = λ before all. zip_begin (IsPartAt c.args.context.checked.now c.args.context.module) before c.args.parts.now.items all

pub loop-net-preserved : goal.loop-net-preserved
loop-net-preserved c = λ before all. zip_flat (IsPartAt c.args.context.checked.now c.args.context.module) named_view c.args.nets.now c.loop-net.net-index c.net-item.result c.loop-net-test.true c.net-item.is initial_construct before
    c.loop-net.parts.items c.add_declared.new.parts.items (c.loop-net.invariant before all) c.in_ok-add_declared.ensures.parts

pub returns : goal.returns
returns c = record { parts = λ before all. zip_end (IsPartAt c.args.context.checked.now c.args.context.module) (λ l. flat_map initial_construct (map named_view l)) c.args.nets.now c.loop-net.net-index before c.loop-net.parts.items c.loop-net-test.false (c.loop-net.invariant before all) }
