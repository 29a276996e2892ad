use Rattle.std.proofs.Common.{ℕ, List, sym, ap, ap₂, subst, ◌∙◌}
use Rattle.bb_net.specs.Netlists.{Netlist}
use Rattle.bb_net.specs.Flats.{FlatNet, IsFlat}
use Rattle.bb_match.specs.Pairing.{without_output}
use Rattle.bb_match.proofs.CareLemmas.{without_outputs_are_flat}
use Rattle.bb_match.proofs.care.without_output.Goals as goal

pub of-requires : goal.of-requires
of-requires c =
    let p = c.into_parts-net.result in
    let with_these : Netlist → List (List ℕ) → FlatNet = λ net outs. record { net = net; ins = p.ins.items; regs = p.regs.items; outs = outs; boxes = p.boxes.items } in
    let rest = ap₂ with_these c.in_ok-rest.ensures.net c.remove.ensures.items ∙ ap (without_output c.args.place) c.into_parts-net.ensures.parts in
    record { flat = subst IsFlat (sym rest) (without_outputs_are_flat c.args.flat c.args.place c.into_parts-net.ensures.kept c.requires.there) }
