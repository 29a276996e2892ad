use Rattle.std.proofs.Common.{◌≡◌, ◌++◌, [], take, map}
use Rattle.std.specs.List.{flat_map}
use Rattle.bb_ast.specs.Inside.Views.{module_view, item_view}
use Rattle.bb_names.specs.Declarations.{declared_by, declared_by_head}
use Rattle.bb_names.specs.Inside.Firsts.{item_faults}
use Rattle.bb_names.specs.Inside.Summaries.{Describes}
use Rattle.bb_bits.specs.Earlier.{each_after}
use Rattle.bb_names.proofs.faults.statements.check_statements.Given as goal

abbrev pub invariant-loop-item : goal.invariant-loop-item
invariant-loop-item l = record {
  declared : Describes l.earlier.entries (flat_map declared_by_head (module_view l.fn.of).heads ++ flat_map (λ x. declared_by x.body) (map item_view (take l.item-index l.of.items.items)));
  none : each_after (item_faults (map module_view l.fn.source) (module_view l.fn.of)) (map item_view (take l.item-index l.of.items.items)) ≡ [];
}
