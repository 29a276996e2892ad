use Rattle.std.proofs.Common.{◌≡◌, ◌<◌, length, map, get_or, ap, ◌∙◌, sym, subst, arith}
use Rattle.std.proofs.lemmas.List.{get_or_read}
use Rattle.std.proofs.lemmas.List.Elements.{All-same}
use Rattle.bb_bits.specs.Numbers.{number_of}
use Rattle.bb_bits.specs.Tables.{TableBits, table_bit}
use Rattle.bb_net.specs.Kinds.{per_box}
use Rattle.bb_net.specs.Netlists.{Pins, box_at, ReadsBefore}
use Rattle.bb_net.specs.Values.{bit_of, gate, tabled_bit, table_at}
use Rattle.bb_net.proofs.SharedTables.{box_has_table}
use Rattle.bb_net.proofs.TableLemmas.{box_of_pin}
use Rattle.bb_net.proofs.tables.tabled_cell.Goals as goal

pub bounds-kinds-b : goal.bounds-kinds-b
bounds-kinds-b c = (box_has_table c.args.kinds.now c.args.tables.now c.args.boxes.now c.in-BoxOut.b c.in-BoxOut.p (c.requires.listed c.in-BoxOut.b c.in-BoxOut.p c.in-BoxOut.is) c.requires.tables).kind

pub bounds-boxes-b : goal.bounds-boxes-b
bounds-boxes-b c = box_of_pin c.args.boxes.now c.in-BoxOut.b c.in-BoxOut.p (c.requires.listed c.in-BoxOut.b c.in-BoxOut.p c.in-BoxOut.is)

pub bounds-tables-kind : goal.bounds-tables-kind
bounds-tables-kind c =
    let has = box_has_table c.args.kinds.now c.args.tables.now c.args.boxes.now c.in-BoxOut.b c.in-BoxOut.p (c.requires.listed c.in-BoxOut.b c.in-BoxOut.p c.in-BoxOut.is) c.requires.tables in
    has.there

pub tabled_pin-requires-clause-inputs : goal.tabled_pin-requires-clause-inputs
tabled_pin-requires-clause-inputs c =
    let pin = c.requires.listed c.in-BoxOut.b c.in-BoxOut.p c.in-BoxOut.is in
    let below = box_of_pin c.args.boxes.now c.in-BoxOut.b c.in-BoxOut.p pin in
    let has = box_has_table c.args.kinds.now c.args.tables.now c.args.boxes.now c.in-BoxOut.b c.in-BoxOut.p pin c.requires.tables in
    let pins : c.index-boxes-b.result ≡ box_at c.args.boxes.now c.in-BoxOut.b = get_or_read c.args.boxes.now c.in-BoxOut.b c.index-boxes-b.result below c.index-boxes-b.is _ in
    let table : c.index-tables-kind.result ≡ table_at (per_box c.args.kinds.now c.args.tables.now) c.in-BoxOut.b =
    get_or_read c.args.tables.now (get_or c.args.kinds.now c.in-BoxOut.b 0) c.index-tables-kind.result has.there c.index-tables-kind.is _ ∙ sym has.table in
    ap (λ (t : TableBits). t.inputs) table ∙ c.requires.tables.inputs c.in-BoxOut.b below ∙ ap (λ (q : Pins). length q.ins) (sym pins)

pub tabled_pin-requires-clause-pin : goal.tabled_pin-requires-clause-pin
tabled_pin-requires-clause-pin c =
    let pin = c.requires.listed c.in-BoxOut.b c.in-BoxOut.p c.in-BoxOut.is in
    let below = box_of_pin c.args.boxes.now c.in-BoxOut.b c.in-BoxOut.p pin in
    let has = box_has_table c.args.kinds.now c.args.tables.now c.args.boxes.now c.in-BoxOut.b c.in-BoxOut.p pin c.requires.tables in
    let table : c.index-tables-kind.result ≡ table_at (per_box c.args.kinds.now c.args.tables.now) c.in-BoxOut.b =
    get_or_read c.args.tables.now (get_or c.args.kinds.now c.in-BoxOut.b 0) c.index-tables-kind.result has.there c.index-tables-kind.is _ ∙ sym has.table in
    omega (arith, pin, ap (λ (t : TableBits). t.outputs) table, c.requires.tables.outputs c.in-BoxOut.b below)

pub tabled_pin-requires-clause-there : goal.tabled_pin-requires-clause-there
tabled_pin-requires-clause-there c =
    let below = box_of_pin c.args.boxes.now c.in-BoxOut.b c.in-BoxOut.p (c.requires.listed c.in-BoxOut.b c.in-BoxOut.p c.in-BoxOut.is) in
    let pins : c.index-boxes-b.result ≡ box_at c.args.boxes.now c.in-BoxOut.b = get_or_read c.args.boxes.now c.in-BoxOut.b c.index-boxes-b.result below c.index-boxes-b.is _ in
    All-same (λ pin. pin < length c.args.out.now) _ _ (ap (λ (q : Pins). q.ins) pins)
    (subst (λ d. ReadsBefore (length c.args.x.now) c.args.boxes.now (length c.args.out.now) d) c.in-BoxOut.is c.requires.reads)

pub returns-in-BoxOut : goal.returns-in-BoxOut
returns-in-BoxOut c =
    let boxes = c.args.boxes.now in
    let tables = c.args.tables.now in
    let kinds = c.args.kinds.now in
    let out = c.args.out.now in
    let b = c.in-BoxOut.b in
    let p = c.in-BoxOut.p in
    let pin = c.requires.listed b p c.in-BoxOut.is in
    let below = box_of_pin boxes b p pin in
    let has = box_has_table kinds tables boxes b p pin c.requires.tables in
    let pins : c.index-boxes-b.result ≡ box_at boxes b = get_or_read boxes b c.index-boxes-b.result below c.index-boxes-b.is _ in
    let table : c.index-tables-kind.result ≡ table_at (per_box kinds tables) b =
    get_or_read tables (get_or kinds b 0) c.index-tables-kind.result has.there c.index-tables-kind.is _ ∙ sym has.table in
    subst (λ d. c.tabled_pin.result ≡ gate boxes c.args.x.now (tabled_bit (per_box kinds tables)) (bit_of out) d) (sym c.in-BoxOut.is)
    (c.tabled_pin.ensures
    ∙ ap (λ (t : TableBits). table_bit t (number_of (map (bit_of out) c.index-boxes-b.result.ins)) p) table
    ∙ ap (λ (q : Pins). table_bit (table_at (per_box kinds tables) b) (number_of (map (bit_of out) q.ins)) p) pins)
