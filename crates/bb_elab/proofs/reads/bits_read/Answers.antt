use Rattle.std.proofs.Common.{◌≡◌, ◌+◌, map, ap}
use Rattle.bb_names.specs.Inside.Checked.{syntax}
use Rattle.bb_elab.proofs.ReadDesigns.{clocks_there, clocks_few, bits_fit, loose, three, reads_are}
use Rattle.bb_elab.proofs.reads.bits_read.Goals as goal

pub read_bits-requires : goal.read_bits-requires
read_bits-requires c =
    let first : 2 + c.input_count.result ≡ 2 + c.args.list.now.inputs = ap (λ n. 2 + n) c.input_count.ensures.count in
    record {
      fits = clocks_few c.laws_of_cells.ensures (map syntax c.args.checked.now) c.args.list.now c.args.stored.now c.args.bits c.requires.design (2 + c.input_count.result) first c.lists_are_loose.ensures;
      there = bits_fit c.laws_of_cells.ensures (map syntax c.args.checked.now) c.args.list.now c.args.stored.now c.args.bits c.requires.design (2 + c.input_count.result) first;
    }

pub returns : goal.returns
returns c =
    let text = map syntax c.args.checked.now in
    let first : 2 + c.input_count.result ≡ 2 + c.args.list.now.inputs = ap (λ n. 2 + n) c.input_count.ensures.count in
    let l = c.args.list.now in
    let stored = c.args.stored.now in
    let law = c.lists_are_loose.ensures in
    let there = clocks_there c.laws_of_cells.ensures text l stored c.args.bits c.requires.design (2 + c.input_count.result) first in
    let all = c.read_bits.ensures.read (loose c.laws_of_cells.ensures text l stored c.args.bits c.requires.design (2 + c.input_count.result) first law) there in
    record { reads = three c.read_bits.result c.read_bits.ensures.long c.read_bits.ensures.only all (λ read long only all. reads_are c.laws_of_designs.ensures c.laws_of_modules.ensures text l stored c.args.bits (2 + c.input_count.result) first c.modules-modules.ensures.checked.read read.items long only all) }
