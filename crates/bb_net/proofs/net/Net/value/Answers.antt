use Rattle.std.proofs.Common.{◌≡◌, ◌+◌, ℕ, length, take, ap, subst, arith}
use Rattle.bb_net.specs.Netlists.{Netlist, IsPinAt}
use Rattle.bb_net.specs.Values.{bit_of, output_pins, flat}
use Rattle.bb_net.proofs.NetLemmas.{IsNetlist-apart}
use Rattle.bb_net.proofs.ValueLaws.{flat_is}
use Rattle.bb_net.proofs.net.Net.value.Goals as goal

pub place_outputs-requires-clause-there : goal.place_outputs-requires-clause-there
place_outputs-requires-clause-there c = λ b p place pin.
    let pin' = subst (λ boxes. IsPinAt boxes b p place) c.deref.ensures.value pin in
    let len = ap (λ (n : Netlist). length n.cells) c.self.view_is in
    omega (arith, (c.self.invariant.driven b p place pin').0, len)

pub place_outputs-requires-clause-apart : goal.place_outputs-requires-clause-apart
place_outputs-requires-clause-apart c =
    rw c.deref.ensures.value (IsNetlist-apart _ c.self.invariant)

pub returns : goal.returns
returns c =
    let net : Netlist = record { inputs = c.self.inside.inputs; cells = c.self.inside.cells.items; boxes = c.self.inside.boxes.items; outs = c.self.inside.outs.items } in
    let boxes = c.deref.ensures.value in
    let cells = c.deref-2.ensures.value in
    let count = ap (λ (n : Netlist). length n.cells) c.self.view_is in
    let placed = c.place_outputs.ensures.placed in
    let each = c.write_cells.ensures.each in
    record {
      value =
          subst (λ n. c.write_cells.new.out ≡ flat n c.args.x.now c.args.z.now) c.self.view_is
          (flat_is net c.args.x.now c.args.z.now c.place_outputs.new.out c.write_cells.new.out c.self.invariant (omega (arith, count))
          (subst (λ bs. (b p place : ℕ) → IsPinAt bs b p place → bit_of c.place_outputs.new.out place ≡ bit_of c.args.z.now (output_pins (take b bs) + p)) boxes placed)
          (rw cells at each));
    }
