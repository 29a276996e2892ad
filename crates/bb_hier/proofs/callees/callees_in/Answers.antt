use Rattle.std.specs.Map.{lookup}
use Rattle.bb_bits.specs.Names.{same_name}
use Rattle.bb_ast.specs.Syntax.{PlainItem}
use Rattle.bb_ast.specs.Inside.Views.{item_view}
use Rattle.bb_design.specs.Hierarchy.{Instance, instances_in}
use Rattle.bb_hier.proofs.CalleeLemmas.{more-called}
use Rattle.bb_hier.proofs.callees.callees_in.Goals as goal

pub loop-item-preserved : goal.loop-item-preserved
loop-item-preserved c =
    more-called (λ (i : Instance). lookup (same_name i.target) c.args.places.now.entries) item_view (λ (item : PlainItem). instances_in item.body) c.args.items.now c.loop-item.item-index c.item-item.result _ _ c.loop-item-test.true c.item-item.is
    c.loop-item.invariant c.in_ok-add_callees.ensures.ok
