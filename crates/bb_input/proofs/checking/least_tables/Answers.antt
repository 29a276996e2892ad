use Rattle.std.proofs.Common.{◌≡◌, ◌^◌, ◌∷◌, ◌++◌, [], get_or, List, Bool, length, take, sym, ap, ◌∙◌, subst, subst₂, arith}
use Rattle.bb_bits.specs.Numbers.{number_of}
use Rattle.bb_bits.specs.Tables.{TableBits, IsTable}
use Rattle.bb_bits.specs.Truth.{Truth, truth_at}
use Rattle.bb_net.specs.Netlists.{Netlist}
use Rattle.bb_input.specs.Inside.Answers.{AreLeastTables}
use Rattle.bb_input.specs.Inside.Rows.{HasLeastRows}
use Rattle.bb_input.proofs.OneBox.{some_point, rows_least, least_one, least_none, zeros_number, some_there, none_there, only_box, only_stage}
use Rattle.bb_input.proofs.checking.least_tables.Goals as goal

pub returns-then-is_empty : goal.returns-then-is_empty
returns-then-is_empty c =
    let imp = c.args.pair.now.imp in
    let same = c.boxes-boxes.ensures.boxes ∙ ap (λ (net : Netlist). net.boxes) c.imp.ensures.imp in
    let none = least_none c.value_goes_by_boxes.ensures c.args.pair.now.spec imp c.imp.ensures.kept.imp (sym same ∙ none_there c.boxes-boxes.result.now c.if-is_empty.ensures) c.requires.choices in
    record { tables = subst (AreLeastTables c.args.pair.now.spec imp) (sym c.new.ensures.items) none }

pub least_table-requires-clause-zeros : goal.least_table-requires-clause-zeros
least_table-requires-clause-zeros c = ap (λ (p : List Bool). number_of (take (length c.ins.result.now) p)) c.requires.point ∙ zeros_number (length c.ins.result.now) c.args.made.now.diagrams.store.vars

pub least_table-requires-clause-some : goal.least_table-requires-clause-some
least_table-requires-clause-some c = λ ins l.
    let s = c.args.made.now.diagrams.store in
    let spec = c.args.pair.now.spec in
    let imp = c.args.pair.now.imp in
    let boxes = c.boxes-boxes.result.now in
    let box = c.index-boxes-0.result in
    let same : boxes ≡ imp.boxes = c.boxes-boxes.ensures.boxes ∙ ap (λ (net : Netlist). net.boxes) c.imp.ensures.imp in
    let one : imp.boxes ≡ box ∷ [] = only_box boxes imp.boxes box same c.requires.finishable.one_box (some_there (length boxes) c.if-is_empty.ensures) c.index-boxes-0.is in
    let refuted = only_stage spec imp c.args.made.now c.requires.made box one c.index.result.now c.index.ensures in
    let wide = ap length c.ins.ensures.ins in
    let found = some_point c.quantifiers.ensures c.functions.ensures c.points.ensures spec imp box one c.requires.choices s.vars c.requires.made.vars ins (l ∙ wide) in
    (found.0, found.1, ap (λ j. take j found.0) wide ∙ found.2, ap (λ (t : Truth). truth_at t found.0) refuted.table ∙ found.3)

pub returns : goal.returns
returns c =
    let s = c.args.made.now.diagrams.store in
    let spec = c.args.pair.now.spec in
    let imp = c.args.pair.now.imp in
    let boxes = c.boxes-boxes.result.now in
    let box = c.index-boxes-0.result in
    let same : boxes ≡ imp.boxes = c.boxes-boxes.ensures.boxes ∙ ap (λ (net : Netlist). net.boxes) c.imp.ensures.imp in
    let one : imp.boxes ≡ box ∷ [] = only_box boxes imp.boxes box same c.requires.finishable.one_box (some_there (length boxes) c.if-is_empty.ensures) c.index-boxes-0.is in
    let refuted = only_stage spec imp c.args.made.now c.requires.made box one c.index.result.now c.index.ensures in
    let table = c.in_ok-table.table in
    let wide = ap length c.ins.ensures.ins in
    let high = ap length c.outs.ensures.outs in
    let items : c.push.new.self.items ≡ table ∷ [] = c.in_ok-push.ensures.items ∙ ap (λ (ts : List TableBits). ts ++ table ∷ []) c.in_ok-tables.ensures.items in
    let kept : IsTable table = subst (λ (ts : List TableBits). IsTable (get_or ts 0 table)) (c.deref.ensures.value ∙ items) (c.tables_have_all_bits.ensures 0 table (omega (arith, ap length (c.deref.ensures.value ∙ items)))) in
    let rows = rows_least c.quantifiers.ensures c.functions.ensures c.points.ensures spec imp box one c.requires.choices s.vars c.requires.made.vars c.number_is_below.ensures table (c.in_ok-table.ensures.inputs ∙ wide) (c.in_ok-table.ensures.outputs ∙ high)
    (λ some. subst₂ (λ (t : Truth) k. HasLeastRows s.vars t table (2 ^ k)) refuted.table wide (c.in_ok-table.ensures.rows (omega (arith, some, high)))) in
    let all = least_one c.quantifiers.ensures c.functions.ensures c.points.ensures spec imp box one c.value_goes_by_boxes.ensures c.imp.ensures.kept.imp table (c.in_ok-table.ensures.inputs ∙ wide) (c.in_ok-table.ensures.outputs ∙ high) kept.whole rows in
    record { tables = subst (AreLeastTables spec imp) (sym items) all }

pub least_table-requires-clause-f : goal.least_table-requires-clause-f
least_table-requires-clause-f c =
    let spec = c.args.pair.now.spec in
    let imp = c.args.pair.now.imp in
    let boxes = c.boxes-boxes.result.now in
    let box = c.index-boxes-0.result in
    let same : boxes ≡ imp.boxes = c.boxes-boxes.ensures.boxes ∙ ap (λ (net : Netlist). net.boxes) c.imp.ensures.imp in
    let one : imp.boxes ≡ box ∷ [] = only_box boxes imp.boxes box same c.requires.finishable.one_box (some_there (length boxes) c.if-is_empty.ensures) c.index-boxes-0.is in
    let refuted = only_stage spec imp c.args.made.now c.requires.made box one c.index.result.now c.index.ensures in
    refuted.ref
