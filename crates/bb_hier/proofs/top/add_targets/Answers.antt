use Rattle.std.proofs.Common.{arith}
use Rattle.std.specs.List.{list_any}
use Rattle.bb_bits.specs.Names.{same_name}
use Rattle.bb_ast.specs.Syntax.{PlainItem}
use Rattle.bb_ast.specs.Inside.Views.{item_view}
use Rattle.bb_design.specs.Hierarchy.{Instance, instances_in}
use Rattle.bb_hier.proofs.TopLemmas.{any-step}
use Rattle.bb_hier.proofs.top.add_targets.Goals as goal

pub loop-item-preserved : goal.loop-item-preserved
loop-item-preserved c = λ n.
    any-step (λ (item : PlainItem). list_any (λ (i : Instance). same_name i.target n) (instances_in item.body)) item_view c.args.items.now c.loop-item.item-index c.item-item.result _ _ _ (omega (arith, c.loop-item-test.true)) c.item-item.is
    (c.loop-item.invariant n) (c.in_ok-add_target.ensures.ok n)
