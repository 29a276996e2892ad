use Rattle.std.proofs.Common.{◌≡◌, ◌+◌, ◌-◌, ◌*◌, ◌^◌, [], ◌∷◌, ◌++◌, length, map, take, drop, ap, ◌∙◌, arith}
use Rattle.bb_net.specs.Netlists.{Pins, box_at}
use Rattle.bb_expand.specs.Inside.ReadTables.{bits_of_table, table_in, tables_in}
use Rattle.bb_expand.proofs.SharedBoxes.{bits_inside, bits_listed, box_listed, place_listed}
use Rattle.bb_expand.proofs.TableBits.{read_more}
use Rattle.bb_expand.proofs.tables.tables_of_boxes.Goals as goal

pub box_bits-requires : goal.box_bits-requires
box_bits-requires c = record { small = omega (arith, bits_inside c.args.boxes.now c.args.firsts.now c.requires.there c.loop-b.b-index c.loop-b-test.true c.index-boxes-b.result c.index-boxes-b.is, c.requires.small) }

pub read_table-requires-clause-small : goal.read_table-requires-clause-small
read_table-requires-clause-small c = omega (arith, bits_inside c.args.boxes.now c.args.firsts.now c.requires.there c.loop-b.b-index c.loop-b-test.true c.index-boxes-b.result c.index-boxes-b.is, c.requires.small)

pub slice_bounds-read_table-end : goal.slice_bounds-read_table-end
slice_bounds-read_table-end c = omega (arith, bits_inside c.args.boxes.now c.args.firsts.now c.requires.there c.loop-b.b-index c.loop-b-test.true c.index-boxes-b.result c.index-boxes-b.is, c.loop-b.invariant.0, c.box_bits.ensures.bits, c.requires.bits)

pub loop-b-preserved : goal.loop-b-preserved
loop-b-preserved c =
    let listed = map (box_at c.args.boxes.now) c.args.firsts.now in
    let k = c.loop-b.b-index in
    let start = c.loop-b.start in
    let pins = c.index-boxes-b.result in
    let model = c.args.model.now in
    let table = c.in_ok-read_table.field-0 in
    let is = box_listed c.args.boxes.now c.args.firsts.now c.requires.there c.loop-b.b-index c.loop-b-test.true c.index-boxes-b.result c.index-boxes-b.is in
    let long : start + c.box_bits.result - start ≡ length pins.outs * 2 ^ length pins.ins = omega (arith, c.box_bits.ensures.bits) in
    let read : table ≡ table_in (box_at listed k) (drop start model) =
    c.in_ok-read_table.ensures.table
    ∙ (ap (λ n. record { inputs = length pins.ins; outputs = length pins.outs; rows = take n (drop start model) }) long ∙ ap (λ (q : Pins). table_in q (drop start model)) is) in (
      omega (arith, bits_listed c.args.boxes.now c.args.firsts.now c.requires.there c.loop-b.b-index c.loop-b-test.true c.index-boxes-b.result c.index-boxes-b.is, c.loop-b.invariant.0, c.box_bits.ensures.bits),
      ap (λ ts. ts ++ tables_in (drop (k + 1) listed) (drop (start + c.box_bits.result) model)) c.in_ok-push.ensures.items
          ∙ (ap (λ n. (c.loop-b.tables.items ++ table ∷ []) ++ tables_in (drop (k + 1) listed) (drop (start + n) model)) (c.box_bits.ensures.bits ∙ ap bits_of_table is)
          ∙ read_more listed model k start c.loop-b.tables.items table (place_listed c.args.boxes.now c.args.firsts.now c.requires.there c.loop-b.b-index c.loop-b-test.true c.index-boxes-b.result c.index-boxes-b.is) read c.loop-b.invariant.1),
    )
