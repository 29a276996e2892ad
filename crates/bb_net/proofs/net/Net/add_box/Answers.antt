use Rattle.std.proofs.Common.{length, ap, sym, subst, ◌<◌, arith}
use Rattle.std.specs.Prelude.{All}
use Rattle.bb_net.specs.Netlists.{Netlist}
use Rattle.bb_net.proofs.BuildLemmas.{IsNetlist-box}
use Rattle.bb_net.proofs.net.Net.add_box.Goals as goal

pub invariant_of-self-2 : goal.invariant_of-self-2
invariant_of-self-2 c =
    let net : Netlist = record { inputs = c.self.inside.inputs; cells = c.self.inside.cells.items; boxes = c.self.inside.boxes.items; outs = c.self.inside.outs.items } in
    let count = ap (λ (n : Netlist). length n.boxes) c.self.view_is in
    rw (c.in_ok-push.ensures.items, c.new-outs.ensures.items)
    (IsNetlist-box net c.args.ins.items c.self.invariant (omega (arith, count))
    (subst (λ (n : Netlist). All (λ pin. pin < length n.cells) c.args.ins.items) (sym c.self.view_is) c.requires.there))
