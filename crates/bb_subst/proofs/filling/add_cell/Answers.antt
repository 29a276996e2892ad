use Rattle.bb_subst.specs.Trees.{IsInTree}
use Rattle.std.proofs.Common.{map, sym, subst, arith, inr}
use Rattle.std.specs.Prelude.{slice_index}
use Rattle.std.proofs.lemmas.Result.{IfOk-weaker, on_ok_weaker}
use Rattle.bb_net.specs.Kinds.{per_box}
use Rattle.bb_subst.specs.Inside.Filling.{GrowsBy}
use Rattle.bb_subst.proofs.FilledTrees.{table_is, tree_there, ins_is, inputs_is, pin_is, cost_is, tree_is}
use Rattle.bb_subst.proofs.filling.add_cell.Goals as goal

pub bounds-tables-kind : goal.bounds-tables-kind
bounds-tables-kind c = (c.tables_are_spread.ensures.held c.args.kinds.now c.args.tables.now c.args.boxes.now c.in-BoxOut.b c.in-BoxOut.p c.requires.tables (c.requires.pin c.in-BoxOut.b c.in-BoxOut.p c.in-BoxOut.is).1).1

pub add_pin-requires-clause-inputs : goal.add_pin-requires-clause-inputs
add_pin-requires-clause-inputs c =
    let has = c.tables_are_spread.ensures.held c.args.kinds.now c.args.tables.now c.args.boxes.now c.in-BoxOut.b c.in-BoxOut.p c.requires.tables (c.requires.pin c.in-BoxOut.b c.in-BoxOut.p c.in-BoxOut.is).1 in
    let table = table_is c.args.kinds.now c.args.tables.now c.in-BoxOut.b has.1 (c.tables_are_spread.ensures.at c.args.kinds.now c.args.tables.now c.in-BoxOut.b has.0) c.index-tables-kind.result c.index-tables-kind.is in
    inputs_is c.args.boxes.now (per_box c.args.kinds.now c.args.tables.now) c.requires.tables c.args.cell c.in-BoxOut.b c.in-BoxOut.p c.in-BoxOut.is (c.requires.pin c.in-BoxOut.b c.in-BoxOut.p c.in-BoxOut.is) c.index-tables-kind.result table c.index-boxes-b.result c.index-boxes-b.is c.ins-ins.result.now c.ins-ins.ensures.ins

pub add_pin-requires-clause-pin : goal.add_pin-requires-clause-pin
add_pin-requires-clause-pin c =
    let has = c.tables_are_spread.ensures.held c.args.kinds.now c.args.tables.now c.args.boxes.now c.in-BoxOut.b c.in-BoxOut.p c.requires.tables (c.requires.pin c.in-BoxOut.b c.in-BoxOut.p c.in-BoxOut.is).1 in
    let table = table_is c.args.kinds.now c.args.tables.now c.in-BoxOut.b has.1 (c.tables_are_spread.ensures.at c.args.kinds.now c.args.tables.now c.in-BoxOut.b has.0) c.index-tables-kind.result c.index-tables-kind.is in
    pin_is c.args.boxes.now (per_box c.args.kinds.now c.args.tables.now) c.requires.tables c.args.cell c.in-BoxOut.b c.in-BoxOut.p c.in-BoxOut.is (c.requires.pin c.in-BoxOut.b c.in-BoxOut.p c.in-BoxOut.is) c.index-tables-kind.result table c.index-boxes-b.result c.index-boxes-b.is c.ins-ins.result.now c.ins-ins.ensures.ins

pub add_pin-requires-clause-room : goal.add_pin-requires-clause-room
add_pin-requires-clause-room c =
    let has = c.tables_are_spread.ensures.held c.args.kinds.now c.args.tables.now c.args.boxes.now c.in-BoxOut.b c.in-BoxOut.p c.requires.tables (c.requires.pin c.in-BoxOut.b c.in-BoxOut.p c.in-BoxOut.is).1 in
    let table = table_is c.args.kinds.now c.args.tables.now c.in-BoxOut.b has.1 (c.tables_are_spread.ensures.at c.args.kinds.now c.args.tables.now c.in-BoxOut.b has.0) c.index-tables-kind.result c.index-tables-kind.is in
    let same = cost_is c.args.boxes.now (per_box c.args.kinds.now c.args.tables.now) c.requires.tables c.args.cell c.in-BoxOut.b c.in-BoxOut.p c.in-BoxOut.is (c.requires.pin c.in-BoxOut.b c.in-BoxOut.p c.in-BoxOut.is) c.index-tables-kind.result table c.index-boxes-b.result c.index-boxes-b.is c.ins-ins.result.now c.ins-ins.ensures.ins in
    omega (arith, c.requires.room, same)

pub returns-in-BoxOut-clause-grows : goal.returns-in-BoxOut-clause-grows
returns-in-BoxOut-clause-grows c =
    let has = c.tables_are_spread.ensures.held c.args.kinds.now c.args.tables.now c.args.boxes.now c.in-BoxOut.b c.in-BoxOut.p c.requires.tables (c.requires.pin c.in-BoxOut.b c.in-BoxOut.p c.in-BoxOut.is).1 in
    let table = table_is c.args.kinds.now c.args.tables.now c.in-BoxOut.b has.1 (c.tables_are_spread.ensures.at c.args.kinds.now c.args.tables.now c.in-BoxOut.b has.0) c.index-tables-kind.result c.index-tables-kind.is in
    on_ok_weaker c.add_pin.result (λ grown. subst (GrowsBy c.args.net.now c.add_pin.new.net) (sym (cost_is c.args.boxes.now (per_box c.args.kinds.now c.args.tables.now) c.requires.tables c.args.cell c.in-BoxOut.b c.in-BoxOut.p c.in-BoxOut.is (c.requires.pin c.in-BoxOut.b c.in-BoxOut.p c.in-BoxOut.is) c.index-tables-kind.result table c.index-boxes-b.result c.index-boxes-b.is c.ins-ins.result.now c.ins-ins.ensures.ins)) grown) c.add_pin.ensures.grows

pub returns-in-BoxOut-clause-there : goal.returns-in-BoxOut-clause-there
returns-in-BoxOut-clause-there c = IfOk-weaker c.add_pin.result _ _ (λ place tree. tree_there c.add_pin.new.net.cells _ _ place tree) c.add_pin.ensures.tree

pub returns-in-BoxOut-clause-tree : goal.returns-in-BoxOut-clause-tree
returns-in-BoxOut-clause-tree c =
    let has = c.tables_are_spread.ensures.held c.args.kinds.now c.args.tables.now c.args.boxes.now c.in-BoxOut.b c.in-BoxOut.p c.requires.tables (c.requires.pin c.in-BoxOut.b c.in-BoxOut.p c.in-BoxOut.is).1 in
    let table = table_is c.args.kinds.now c.args.tables.now c.in-BoxOut.b has.1 (c.tables_are_spread.ensures.at c.args.kinds.now c.args.tables.now c.in-BoxOut.b has.0) c.index-tables-kind.result c.index-tables-kind.is in
    IfOk-weaker c.add_pin.result _ _ (λ place tree. tree_is c.args.boxes.now (per_box c.args.kinds.now c.args.tables.now) c.requires.tables c.args.cell c.in-BoxOut.b c.in-BoxOut.p c.in-BoxOut.is (c.requires.pin c.in-BoxOut.b c.in-BoxOut.p c.in-BoxOut.is) c.index-tables-kind.result table c.index-boxes-b.result c.index-boxes-b.is c.ins-ins.result.now c.ins-ins.ensures.ins c.add_pin.new.net.cells (slice_index c.args.places.now) place tree) c.add_pin.ensures.tree

pub returns-in-BoxOut-clause-only : goal.returns-in-BoxOut-clause-only
returns-in-BoxOut-clause-only c =
    let has = c.tables_are_spread.ensures.held c.args.kinds.now c.args.tables.now c.args.boxes.now c.in-BoxOut.b c.in-BoxOut.p c.requires.tables (c.requires.pin c.in-BoxOut.b c.in-BoxOut.p c.in-BoxOut.is).1 in
    let table = table_is c.args.kinds.now c.args.tables.now c.in-BoxOut.b has.1 (c.tables_are_spread.ensures.at c.args.kinds.now c.args.tables.now c.in-BoxOut.b has.0) c.index-tables-kind.result c.index-tables-kind.is in
    IfOk-weaker c.add_pin.result _ _ (λ root only place past lt. inr (
      c.in-BoxOut.b,
      c.in-BoxOut.p,
      c.in-BoxOut.is,
      subst (λ l. IsInTree c.add_pin.new.net.cells (map (slice_index c.args.places.now) l) root place) (ins_is c.args.boxes.now (per_box c.args.kinds.now c.args.tables.now) c.requires.tables c.args.cell c.in-BoxOut.b c.in-BoxOut.p c.in-BoxOut.is (c.requires.pin c.in-BoxOut.b c.in-BoxOut.p c.in-BoxOut.is) c.index-tables-kind.result table c.index-boxes-b.result c.index-boxes-b.is c.ins-ins.result.now c.ins-ins.ensures.ins) (only place past lt),
    )) c.add_pin.ensures.only
