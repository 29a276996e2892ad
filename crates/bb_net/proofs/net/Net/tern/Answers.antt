use Rattle.std.proofs.Common.{◌≡◌, length, ap, subst, arith}
use Rattle.bb_net.specs.Netlists.{Netlist}
use Rattle.bb_net.specs.Ternary.{tern}
use Rattle.bb_net.proofs.TernLemmas.{IsTern-unique}
use Rattle.bb_net.proofs.net.Net.tern.Goals as goal

pub returns : goal.returns
returns c =
    let net : Netlist = record { inputs = c.self.inside.inputs; cells = c.self.inside.cells.items; boxes = c.self.inside.boxes.items; outs = c.self.inside.outs.items } in
    let count = ap (λ (n : Netlist). length n.cells) c.self.view_is in
    let cells = c.deref.ensures.value in
    let each = c.write_known.ensures.each in
    record {
      values =
          subst (λ n. c.write_known.new.out ≡ tern n c.args.x.now) c.self.view_is
          (IsTern-unique net c.args.x.now c.write_known.new.out c.self.invariant.ordered (record { whole = omega (arith, count); each = rw cells at each }));
    }
