use Rattle.std.proofs.Common.{length, ap, sym, subst, arith}
use Rattle.bb_net.specs.Netlists.{Netlist, MayBeAppended}
use Rattle.bb_net.proofs.BuildLemmas.{IsNetlist-append}
use Rattle.bb_net.proofs.net.Net.push.Goals as goal

pub invariant_of-self : goal.invariant_of-self
invariant_of-self c =
    let net : Netlist = record { inputs = c.self.inside.inputs; cells = c.self.inside.cells.items; boxes = c.self.inside.boxes.items; outs = c.self.inside.outs.items } in
    let count = ap (λ (n : Netlist). length n.cells) c.self.view_is in
    IsNetlist-append net c.args.cell _ _ c.append.result c.self.invariant (omega (arith, count))
    (subst (λ n. MayBeAppended n c.args.cell) (sym c.self.view_is) c.requires.follows) c.append.ensures.cells c.append.ensures.boxes c.append.ensures.kept
