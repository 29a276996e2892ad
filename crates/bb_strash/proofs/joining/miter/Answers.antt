use Rattle.std.proofs.Common.{◌<◌, ℕ, List, length, sym, ap, ◌∙◌, subst, arith}
use Rattle.std.specs.Prelude.{slice_index}
use Rattle.bb_net.specs.Netlists.{Netlist}
use Rattle.bb_net.specs.Values.{xor}
use Rattle.bb_strash.specs.Inside.Extensions.{bit, Gives}
use Rattle.bb_strash.proofs.BitLaws.{longer}
use Rattle.bb_strash.proofs.Copied.{miter_is, out_there}
use Rattle.bb_strash.proofs.GateBits.{begins}
use Rattle.bb_strash.proofs.joining.miter.Goals as goal

pub start-requires : goal.start-requires
start-requires c = omega (arith, c.inputs.ensures.inputs, begins c.args.imp.now c.keeps_its_order.ensures, c.keeps_its_order.ensures.cells_fit)

pub differences-requires-clause-there : goal.differences-requires-clause-there
differences-requires-clause-there c = λ j h.
    let imp = c.args.imp.now in
    let long = length c.copy-2.new.hashed.cells in
    let out = out_there imp c.keeps_its_order.ensures j (omega (arith, h, ap length c.outs-2.ensures.outs)) in
    let there = c.in_ok-own.ensures.copied.there (slice_index imp.outs j) out in
    let still = longer c.copy.new.hashed c.copy-2.new.hashed _ c.in_ok-wanted.ensures.extends (slice_index c.in_ok-own.own.items (slice_index imp.outs j)) there in
    subst (λ (l : List ℕ). slice_index l (slice_index c.outs-2.result.now j) < long) (sym c.deref.ensures.value)
    (subst (λ (o : List ℕ). slice_index c.in_ok-own.own.items (slice_index o j) < long) (sym c.outs-2.ensures.outs) still)

abbrev Differ : Netlist → Netlist → List ℕ → List ℕ → List ℕ → List ℕ → List ℕ → Type 0
Differ two three all outs own others wanted = (j : ℕ) → j < length outs → Gives three (slice_index all j) (λ x.
    xor (bit two x (slice_index own (slice_index outs j))) (bit two x (slice_index wanted (slice_index others j))))

pub returns : goal.returns
returns c =
    let two = c.copy-2.new.hashed in
    let three = c.differences.new.hashed in
    let all = c.in_ok-outs.outs.items in
    let own = c.in_ok-own.own.items in
    let wanted = c.in_ok-wanted.wanted.items in
    let one = subst (λ (l : List ℕ). Differ two three all l c.deref.result.now c.outs-3.result.now c.deref-2.result.now) c.outs-2.ensures.outs c.in_ok-outs.ensures.gives in
    let other = subst (λ (l : List ℕ). Differ two three all c.args.imp.now.outs l c.outs-3.result.now c.deref-2.result.now) c.deref.ensures.value one in
    let third = subst (λ (l : List ℕ). Differ two three all c.args.imp.now.outs own l c.deref-2.result.now) c.outs-3.ensures.outs other in
    let gives = subst (λ (l : List ℕ). Differ two three all c.args.imp.now.outs own c.args.spec.now.outs l) c.deref-2.ensures.value third in
    miter_is c.bits.ensures.stay c.args.spec.now c.args.imp.now c.copy.new.hashed two three c.in_ok-net.net _ _ own wanted all c.keeps_its_order-2.ensures c.keeps_its_order.ensures c.requires.outputs
    c.in_ok-own.ensures.copied c.in_ok-wanted.ensures.extends c.in_ok-wanted.ensures.copied c.in_ok-outs.ensures.extends
    (c.in_ok-own.ensures.extends.inputs ∙ ap (λ (n : Netlist). n.inputs) c.in_ok-hashed.ensures.start ∙ c.inputs.ensures.inputs) (c.in_ok-outs.ensures.count ∙ ap length c.outs-2.ensures.outs) gives c.in_ok-net.ensures.net
