use Rattle.std.proofs.Common.{ap, sym, ◌∙◌}
use Rattle.bb_ast.specs.Inside.Views.{module_view, item_view}
use Rattle.bb_names.specs.Nets.{is_of_empty}
use Rattle.bb_names.proofs.NetLemmas.{all-fails}
use Rattle.bb_names.proofs.nets.is_empty_module.Goals as goal

pub returns-then-not-is_item_of_empty : goal.returns-then-not-is_item_of_empty
returns-then-not-is_item_of_empty c =
    let items = c.deref-item-items.ensures.value ∙ ap (λ m. m.items.items) c.module.ensures in
    sym (all-fails (λ item. is_of_empty (module_view c.args.of.now) item.body) item_view c.args.of.now.items.items c.loop-item.item-index c.item-item.result (rw items at c.loop-item-test.true) (rw items at c.item-item.is) (sym c.is_item_of_empty.ensures ∙ c.if-not-is_item_of_empty.true))
