use Rattle.std.proofs.Common.{◌≡◌, true, take, map}
use Rattle.std.specs.List.{list_all}
use Rattle.bb_ast.specs.Inside.Views.{module_view, item_view}
use Rattle.bb_names.specs.Nets.{is_of_empty}
use Rattle.bb_names.proofs.nets.is_empty_module.Given as goal

abbrev pub invariant-loop-item : goal.invariant-loop-item
invariant-loop-item l = list_all (λ item. is_of_empty (module_view l.fn.of) item.body) (map item_view (take l.item-index l.of.items.items)) ≡ true
