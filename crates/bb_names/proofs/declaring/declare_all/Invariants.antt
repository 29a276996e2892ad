use Rattle.std.proofs.Common.{◌++◌, take, map}
use Rattle.std.specs.List.{flat_map}
use Rattle.bb_ast.specs.Inside.Views.{head_view, item_view}
use Rattle.bb_names.specs.Declarations.{declared_by, declared_by_head}
use Rattle.bb_names.specs.Inside.Summaries.{Describes}
use Rattle.bb_names.proofs.declaring.declare_all.Given as goal

abbrev pub invariant-loop-item : goal.invariant-loop-item
invariant-loop-item l = Describes l.declared.entries (flat_map declared_by_head (map head_view l.parsed.heads.items) ++ flat_map (λ item. declared_by item.body) (map item_view (take l.item-index l.parsed.items.items)))
