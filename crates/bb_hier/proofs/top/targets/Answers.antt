use Rattle.std.proofs.Common.{◌∙◌, ◌||◌, ap, arith}
use Rattle.std.specs.List.{flat_map, list_any}
use Rattle.std.specs.Prelude.{map}
use Rattle.bb_bits.specs.Names.{same_name}
use Rattle.bb_ast.specs.Syntax.{PlainModule, PlainItem}
use Rattle.bb_ast.specs.Inside.Views.{item_view}
use Rattle.bb_names.specs.Inside.Checked.{module_facts, syntax}
use Rattle.bb_design.specs.Hierarchy.{Instance, instances_of, instances_in}
use Rattle.bb_hier.proofs.TopLemmas.{target-step, any-instances}
use Rattle.bb_hier.proofs.top.targets.Goals as goal

pub loop-checked-preserved : goal.loop-checked-preserved
loop-checked-preserved c = λ n.
    target-step (λ (m : PlainModule). list_any (λ (i : Instance). same_name i.target n) (instances_of m)) module_facts syntax c.args.modules.now c.loop-checked.checked-index c.checked-item.result _ _ (omega (arith, c.loop-checked-test.true)) c.checked-item.is
    (c.loop-checked.invariant n)
    (c.in_ok-add_targets.ensures.ok n ∙ ap (λ b. list_any (same_name n) c.loop-checked.targets.keys || b)
    (any-instances (λ (i : Instance). same_name i.target n) (map item_view c.deref.result.now)
    ∙ ap (λ l. list_any (λ (i : Instance). same_name i.target n) (flat_map (λ (item : PlainItem). instances_in item.body) (map item_view l))) c.deref.ensures.value))
