use Rattle.std.proofs.Common.{◌≡◌, length, ap, subst, arith}
use Rattle.bb_net.specs.Kinds.{per_box}
use Rattle.bb_net.specs.Netlists.{Netlist}
use Rattle.bb_net.specs.Values.{flat_with}
use Rattle.bb_net.proofs.TableLemmas.{flat_with_is}
use Rattle.bb_net.proofs.net.Net.value_with.Goals as goal

pub write_tabled-requires-clause-listed : goal.write_tabled-requires-clause-listed
write_tabled-requires-clause-listed c = rw (c.deref.ensures.value, c.deref-2.ensures.value) c.self.invariant.listed

pub returns : goal.returns
returns c =
    let net : Netlist = record { inputs = c.self.inside.inputs; cells = c.self.inside.cells.items; boxes = c.self.inside.boxes.items; outs = c.self.inside.outs.items } in
    let count = ap (λ (n : Netlist). length n.cells) c.self.view_is in
    let cells = c.deref.ensures.value in
    let boxes = c.deref-2.ensures.value in
    let each = c.write_tabled.ensures.each in
    record {
      value =
          subst (λ n. c.write_tabled.new.out ≡ flat_with n c.args.x.now (per_box c.args.kinds.now c.args.tables.now)) c.self.view_is
          (flat_with_is net c.args.x.now (per_box c.args.kinds.now c.args.tables.now) c.write_tabled.new.out c.self.invariant (omega (arith, count)) (rw (cells, boxes) at each));
    }
