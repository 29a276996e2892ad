use Rattle.std.proofs.Common.{◌+◌, length, ap, refl, arith}
use Rattle.std.proofs.lemmas.List.FromFn.{length-range_with_len}
use Rattle.bb_net.specs.Netlists.{Netlist}
use Rattle.bb_strash.proofs.Cut.{cut_begun, cut_long}
use Rattle.bb_strash.proofs.cutting.begin.Goals as goal

pub returns-clause-cut : goal.returns-clause-cut
returns-clause-cut c =
    let start = c.in_ok-hashed.ensures.start in
    cut_begun c.bits.ensures.gates c.bits.ensures.stay c.args.net.now c.keeps_its_order.ensures c.requires.none c.args.leaves.now c.args.cells.now c.in_ok-hashed.hashed (length c.args.leaves.now + 2) c.in_ok-places.places.items c.requires.known.0
    c.net.ensures.kept (ap (λ (n : Netlist). n.boxes) start) (ap (λ (n : Netlist). n.inputs) start) refl c.requires.known.1 c.in_ok-places.ensures.places

pub returns-clause-few : goal.returns-clause-few
returns-clause-few c =
    omega (arith, cut_long c.args.cells.now c.args.leaves.now c.requires.known.0 c.requires.known.1, ap length c.in_ok-places.ensures.places, length-range_with_len 0 (length c.args.leaves.now + 2))
