use Rattle.std.proofs.Common.{◌≡◌, ◌<◌, List, [], length, map, vec_items, ap, ◌∙◌, subst, arith}
use Rattle.std.proofs.lemmas.List.{length-map}
use Rattle.bb_net.specs.declared.cell.Cell.{Cell}
use Rattle.bb_net.specs.Netlists.{Netlist}
use Rattle.bb_net.specs.Values.{free_bit, flat, bit_of}
use Rattle.bb_net.specs.Ternary.{tern_of, tern}
use Rattle.bb_tern.specs.Inside.Lanes.{AreWords, AreKnowns, pattern_at}
use Rattle.bb_tern.proofs.Hits.{bits_of_cells}
use Rattle.bb_tern.proofs.passing.fill.Goals as goal

pub returns-clause-filled : goal.returns-clause-filled
returns-clause-filled c = λ k inside.
    let rows = map vec_items c.args.patterns.now in
    let x = pattern_at rows k in
    let spec = c.args.pair.now.spec in
    let imp = c.args.pair.now.imp in
    let ins = c.pack.new.ins in
    let same : length rows ≡ length c.args.patterns.now = length-map c.args.patterns.now vec_items in
    let l : k < 64 = omega (arith, inside, same, c.requires.count) in
    let packed = c.pack.ensures.packed k (omega (arith, inside, same)) in
    let spec_cells : c.cells.result.now ≡ spec.cells = c.cells.ensures.cells ∙ ap (λ (n : Netlist). n.cells) c.spec.ensures.spec in
    let imp_cells : c.cells-2.result.now ≡ imp.cells = c.cells-2.ensures.cells ∙ ap (λ (n : Netlist). n.cells) c.imp.ensures.imp in
    let words : AreWords spec.cells ins c.write_words.new.out (length spec.cells) = subst (λ (cells : List Cell). AreWords cells ins c.write_words.new.out (length cells)) spec_cells c.write_words.ensures.written in
    let knowns : AreKnowns imp.cells ins c.write_knowns.new.out (length imp.cells) = subst (λ (cells : List Cell). AreKnowns cells ins c.write_knowns.new.out (length cells)) imp_cells c.write_knowns.ensures.written in
    let room = c.requires.room in (
      λ place below. words k x (bit_of (flat spec x [])) l packed (bits_of_cells spec x (c.value_exists.ensures spec x (free_bit spec.boxes []) c.spec.ensures.kept.spec.ordered)) place (omega (arith, below, c.write_words.ensures.len, room.for_spec)),
      λ place below. knowns k x (tern_of (tern imp x)) l packed (c.tern_exists.ensures imp x c.imp.ensures.kept.imp.ordered).each place (omega (arith, below, c.write_knowns.ensures.len, room.for_imp)),
    )
