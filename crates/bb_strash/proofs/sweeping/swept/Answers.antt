use Rattle.std.proofs.Common.{◌<◌, ℕ, List, All, length, map, sym, ap, ap₂, ◌∙◌, subst, arith}
use Rattle.std.specs.Prelude.{slice_index}
use Rattle.bb_net.specs.Netlists.{Netlist}
use Rattle.bb_strash.proofs.Copied.{mapped_there, swept_is}
use Rattle.bb_strash.proofs.GateBits.{begins}
use Rattle.bb_strash.proofs.sweeping.swept.Goals as goal

pub start-requires : goal.start-requires
start-requires g c = omega (arith, c.inputs.ensures.inputs, begins c.args.net.now c.keeps_its_order.ensures, c.keeps_its_order.ensures.cells_fit)

pub finish-requires-clause-there : goal.finish-requires-clause-there
finish-requires-clause-there g c =
    let net = c.args.net.now in
    let long = length c.copy.new.hashed.cells in
    let are = c.in_ok-outs.ensures ∙ ap₂ (λ (p o : List ℕ). map (slice_index p) o) c.deref.ensures.value c.outs.ensures.outs in
    subst (All (λ k. k < long)) (sym are) (mapped_there long (slice_index c.in_ok-places.places.items) net.outs (length net.cells) c.keeps_its_order.ensures.outs_there c.in_ok-places.ensures.copied.there)

pub returns : goal.returns
returns g c =
    let are = c.in_ok-outs.ensures ∙ ap₂ (λ (p o : List ℕ). map (slice_index p) o) c.deref.ensures.value c.outs.ensures.outs in
    let extends = c.in_ok-places.ensures.extends in
    swept_is c.args.net.now c.copy.new.hashed c.in_ok-swept.swept c.in_ok-places.places.items c.in_ok-outs.outs.items c.keeps_its_order.ensures c.in_ok-places.ensures.copied
    (extends.inputs ∙ ap (λ (n : Netlist). n.inputs) c.in_ok-hashed.ensures.start ∙ c.inputs.ensures.inputs) extends.boxes are c.in_ok-swept.ensures.net
