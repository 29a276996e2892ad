use Rattle.std.proofs.Common.{◌-◌, All, map, subst, sym, ap, ◌∙◌, arith, List}
use Rattle.std.specs.Prelude.{◌^◌, sum_by}
use Rattle.std.specs.List.{flat_map}
use Rattle.std.proofs.lemmas.List.{length-map}
use Rattle.bb_ast.specs.declared.module.Item.{Item}
use Rattle.bb_ast.specs.Syntax.{PlainItem}
use Rattle.bb_ast.specs.Inside.Views.{item_view}
use Rattle.bb_names.specs.Inside.Checked.{module_facts, syntax}
use Rattle.bb_names.specs.Declarations.{range_of}
use Rattle.bb_expr.specs.Inside.Shares.{capped}
use Rattle.bb_expr.specs.Inside.Occurrences.{item_expressions, OccursAt, ranges_at}
use Rattle.bb_design.specs.Inside.Callees.{callees}
use Rattle.bb_hier.specs.Inside.Weights.{item_cells, register_count, construct_cells, AreNarrowNets}
use Rattle.bb_hier.proofs.CellSums.{two_shares, ranges_there}
use Rattle.bb_hier.proofs.ModulesAt.{facts_at, module_occurs, nets_at_place, module_is}
use Rattle.bb_hier.proofs.NarrowNets.{all_narrow, all_occur}
use Rattle.bb_hier.proofs.RecursiveNames.{places_there}
use Rattle.bb_hier.proofs.size.construct_cells.Goals as goal

pub overflow_cast-place : goal.overflow_cast-place
overflow_cast-place c =
    let text = map syntax c.args.checked.now in
    let there = places_there text c.modules.ensures.checked.read.small in
    omega (arith, there.few, length-map text (callees text), length-map c.args.checked.now syntax, c.requires.place)

pub items_cells-operators-requires-clause-occurs : goal.items_cells-operators-requires-clause-occurs
items_cells-operators-requires-clause-occurs c =
    subst (λ (items : List Item). All (OccursAt c.args.checked.now c.args.place) (flat_map (λ (item : PlainItem). item_expressions item.body) (map item_view items))) (sym c.deref.ensures.value)
    (all_occur c.args.checked.now c.args.place (module_facts c.index-modules-place.result) (facts_at c.args.checked.now c.modules.result.now c.modules.ensures.modules c.args.place c.index-modules-place.result c.index-modules-place.is c.requires.place))

pub items_cells-operators-requires-clause-narrow : goal.items_cells-operators-requires-clause-narrow
items_cells-operators-requires-clause-narrow c =
    subst (λ (items : List Item). All (λ (item : PlainItem). AreNarrowNets c.args.checked.now c.args.place item.body) (map item_view items)) (sym c.deref.ensures.value)
    (all_narrow c.laws_of_designs.ensures (map syntax c.args.checked.now) c.modules.ensures.checked.sound (module_facts c.index-modules-place.result) (module_occurs c.args.checked.now c.modules.result.now c.modules.ensures.modules c.args.place c.index-modules-place.result c.index-modules-place.is c.requires.place)
    (nets_at_place c.args.checked.now c.modules.result.now c.modules.ensures.modules c.args.place c.index-modules-place.result c.index-modules-place.is c.requires.place c.modules.ensures.checked) c.net_names_differ.ensures c.args.checked.now c.args.place (facts_at c.args.checked.now c.modules.result.now c.modules.ensures.modules c.args.place c.index-modules-place.result c.index-modules-place.is c.requires.place))

pub registers_in-requires : goal.registers_in-requires
registers_in-requires c = record { nets = nets_at_place c.args.checked.now c.modules.result.now c.modules.ensures.modules c.args.place c.index-modules-place.result c.index-modules-place.is c.requires.place c.modules.ensures.checked }

pub returns : goal.returns
returns c =
    let facts = module_facts c.index-modules-place.result in
    record {
      cells = λ m here. two_shares (2 ^ 64 - 1) (sum_by (λ (item : PlainItem). item_cells (range_of (syntax facts)) item.body) (syntax facts).items) (register_count (syntax facts)) c.items_cells-operators.result c.in_ok-registers_in.field-0 c.saturating_add.result
          (c.items_cells-operators.ensures.cells ∙ ap (λ (items : List Item). capped (sum_by (λ (item : PlainItem). item_cells (ranges_at c.args.checked.now c.args.place) item.body) (map item_view items))) c.deref.ensures.value
          ∙ ap (λ ranges. capped (sum_by (λ (item : PlainItem). item_cells ranges item.body) (syntax facts).items)) (ranges_there c.args.checked.now c.args.place facts (facts_at c.args.checked.now c.modules.result.now c.modules.ensures.modules c.args.place c.index-modules-place.result c.index-modules-place.is c.requires.place)))
          c.in_ok-registers_in.ensures.count c.saturating_add.ensures
          ∙ ap (λ m. capped (construct_cells m)) (module_is c.args.checked.now c.modules.result.now c.modules.ensures.modules c.args.place c.index-modules-place.result c.index-modules-place.is c.requires.place m here);
    }
