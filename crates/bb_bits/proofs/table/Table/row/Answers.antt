use Rattle.std.proofs.Common.{◌≡◌, ◌<◌, ◌^◌, length, ap, arith}
use Rattle.bb_bits.specs.Tables.{TableBits}
use Rattle.bb_bits.proofs.NumberLemmas.{number_of-below}
use Rattle.bb_bits.proofs.TableLemmas.{few_inputs, row_within}
use Rattle.bb_bits.proofs.table.Table.row.Goals as goal

pub number-requires : goal.number-requires
number-requires c =
    let ins = ap (λ (t : TableBits). t.inputs) c.self.view_is in
    omega (arith, few_inputs c.self.inside.inputs c.self.inside.outputs (omega arith) c.self.invariant.small)

pub copy_row-requires : goal.copy_row-requires
copy_row-requires c =
    let t : TableBits = record { inputs = c.self.inside.inputs; outputs = c.self.inside.outputs; rows = c.self.inside.rows.items } in
    let ins = ap (λ (t : TableBits). t.inputs) c.self.view_is in
    let outs = ap (λ (t : TableBits). t.outputs) c.self.view_is in
    let len : length c.args.ins.now ≡ t.inputs = omega (arith, ins) in
    let row : c.number.result < 2 ^ t.inputs = omega (arith, number_of-below c.args.ins.now, ap (λ k. 2 ^ k) len) in
    let room : length c.args.out.now ≡ t.outputs = omega (arith, outs) in
    let fits = row_within t c.number.result c.self.invariant.whole row in
    rw (room, c.deref.ensures.value) fits
