use Rattle.std.proofs.Common.{rules, ◌≡◌, ◌+◌, ◌≤◌, length, take, IsErrOf, refl, subst, sym, ap, ap₂, ◌∙◌, arith}
use Rattle.bb_bits.specs.Truth.{IsBeadOfAny}
use Rattle.bb_bits.specs.TruthSets.{HasMoreThan}
use Rattle.bb_net.specs.Netlists.{Netlist}
use Rattle.bb_net.specs.Values.{output_pins}
use Rattle.bb_dd.specs.Inside.State.{DiagramState}
use Rattle.bb_sym.specs.declared.fault.RungFault.TheVariants.{Nodes}
use Rattle.bb_sym.specs.Functions.{local_functions, always_wrong, inputs_and_pins}
use Rattle.bb_sym.specs.Inside.Made.{AreTooMany, RepresentAll}
use Rattle.bb_sym.proofs.PlainCells.{few_variables}
use Rattle.bb_sym.proofs.Budget.{all_refused, all_fit}
use Rattle.bb_sym.proofs.LeastVectors.{cut_written}
use Rattle.bb_sym.proofs.WrongOutputs.{first_wrong, none_wrong}
use Rattle.bb_sym.proofs.each_output.local.Goals as goal

pub count_pins-pins-requires : goal.count_pins-pins-requires
count_pins-pins-requires c =
    let few = few_variables c.args.pair.now c.imp.ensures.kept in
    let pins : output_pins c.boxes.result.now ≡ output_pins c.args.pair.now.imp.boxes = ap output_pins (c.boxes.ensures.boxes ∙ ap (λ (net : Netlist). net.boxes) c.imp-2.ensures.imp) in
    omega (arith, few, pins)

few_in : (c : goal.After-count_pins-pins) → c.inputs-inputs.result + c.count_pins-pins.result ≤ 2048
few_in c =
    let few = few_variables c.args.pair.now c.imp.ensures.kept in
    let pins : c.count_pins-pins.result ≡ output_pins c.args.pair.now.imp.boxes = c.count_pins-pins.ensures ∙ ap output_pins (c.boxes.ensures.boxes ∙ ap (λ (net : Netlist). net.boxes) c.imp-2.ensures.imp) in
    let inputs : c.inputs-inputs.result ≡ c.args.pair.now.imp.inputs = c.inputs-inputs.ensures.inputs ∙ ap (λ (net : Netlist). net.inputs) c.imp.ensures.imp in
    omega (arith, few, pins, inputs)

pub overflow_add-inputs : goal.overflow_add-inputs
overflow_add-inputs c = let few = few_in c in omega (arith, few)

pub start-requires-clause-vars : goal.start-requires-clause-vars
start-requires-clause-vars c = few_in c

pub returns-in_err-wrong-clause-nodes : goal.returns-in_err-wrong-clause-nodes
returns-in_err-wrong-clause-nodes c =
    let s = c.in_ok-d.d.store in
    let fs = local_functions c.args.pair.now.spec c.args.pair.now.imp in
    let reported : IsErrOf c.from_residual-in_err-wrong.result Nodes → AreTooMany s fs = search rules in
    λ full. subst (HasMoreThan (IsBeadOfAny fs)) (ap (λ (d : DiagramState). d.store.limit) c.in_ok-d.ensures.ok)
    (all_refused c.sequences.ensures s (ap (λ (d : DiagramState). d.store.nodes) c.in_ok-d.ensures.ok) fs (reported full))

pub returns-in-Some-clause-found : goal.returns-in-Some-clause-found
returns-in-Some-clause-found c =
    let imp = c.args.pair.now.imp in
    let now = c.local_diagrams.new.d.store in
    let pins : c.count_pins-pins.result ≡ output_pins imp.boxes = c.count_pins-pins.ensures ∙ ap output_pins (c.boxes.ensures.boxes ∙ ap (λ (net : Netlist). net.boxes) c.imp-2.ensures.imp) in
    let inputs : c.inputs-inputs.result ≡ imp.inputs = c.inputs-inputs.ensures.inputs ∙ ap (λ (net : Netlist). net.inputs) c.imp.ensures.imp in
    let vars : now.vars ≡ inputs_and_pins imp = c.in_ok-wrong.ensures.makes.kept.vars ∙ (ap (λ (d : DiagramState). d.store.vars) c.in_ok-d.ensures.ok ∙ ap₂ ◌+◌ inputs pins) in
    let whole : c.deref.result.now ≡ c.in_ok-wrong.wrong.items = c.deref.ensures.value in
    let long : length c.deref_mut.result.now ≡ now.vars = search rules in
    let written = c.first_true.new.point in
    let same : length written ≡ length c.in_ok-point.point.items = c.in-Some.ensures.found.1.begins.0 ∙ ap length c.deref_mut.ensures.value in
    let is : c.truncate.new.self.items ≡ take imp.inputs written =
    c.truncate.ensures.items ∙ (cut_written written c.in_ok-point.point.items c.inputs-inputs.result c.in_ok-point.point.len same (let e : c.in_ok-point.point.len ≡ length c.in_ok-point.point.items = search rules in e) ∙ ap (λ k. take k written) inputs) in
    let count = ap length whole ∙ c.in_ok-wrong.ensures.refs.0 in
    let occur = subst (RepresentAll now (always_wrong c.args.pair.now.spec imp)) (sym whole) c.in_ok-wrong.ensures.refs.1 in (
      c.in-Some.j,
      refl,
      first_wrong c.quantifiers.ensures c.args.pair.now.spec imp now c.deref.result.now c.deref_mut.result.now c.first_true.new.point c.truncate.new.self.items c.in-Some.j vars count occur long
          c.in-Some.ensures.found.0 c.in-Some.ensures.found.1 c.in-Some.ensures.earlier is,
    )

pub returns-in-Some-clause-within : goal.returns-in-Some-clause-within
returns-in-Some-clause-within c =
    let fs = local_functions c.args.pair.now.spec c.args.pair.now.imp in
    λ more. all_fit c.sequences.ensures c.sizes.ensures c.in_ok-d.d.store c.local_diagrams.new.d.store (ap (λ (d : DiagramState). d.store.nodes) c.in_ok-d.ensures.ok) c.is_canonical.ensures.sound.store fs c.in_ok-wrong.ensures.makes
    (subst (HasMoreThan (IsBeadOfAny fs)) (sym (ap (λ (d : DiagramState). d.store.limit) c.in_ok-d.ensures.ok)) more)

pub returns-clause-none : goal.returns-clause-none
returns-clause-none c =
    let imp = c.args.pair.now.imp in
    let now = c.local_diagrams.new.d.store in
    let pins : c.count_pins-pins.result ≡ output_pins imp.boxes = c.count_pins-pins.ensures ∙ ap output_pins (c.boxes.ensures.boxes ∙ ap (λ (net : Netlist). net.boxes) c.imp-2.ensures.imp) in
    let inputs : c.inputs-inputs.result ≡ imp.inputs = c.inputs-inputs.ensures.inputs ∙ ap (λ (net : Netlist). net.inputs) c.imp.ensures.imp in
    let vars : now.vars ≡ inputs_and_pins imp = c.in_ok-wrong.ensures.makes.kept.vars ∙ (ap (λ (d : DiagramState). d.store.vars) c.in_ok-d.ensures.ok ∙ ap₂ ◌+◌ inputs pins) in
    let whole : c.deref.result.now ≡ c.in_ok-wrong.wrong.items = c.deref.ensures.value in
    let count = ap length whole ∙ c.in_ok-wrong.ensures.refs.0 in
    let occur = subst (RepresentAll now (always_wrong c.args.pair.now.spec imp)) (sym whole) c.in_ok-wrong.ensures.refs.1 in
    none_wrong c.quantifiers.ensures c.args.pair.now.spec imp now c.deref.result.now vars count occur c.in-None.ensures.none

pub returns-clause-within : goal.returns-clause-within
returns-clause-within c =
    let fs = local_functions c.args.pair.now.spec c.args.pair.now.imp in
    λ more. all_fit c.sequences.ensures c.sizes.ensures c.in_ok-d.d.store c.local_diagrams.new.d.store (ap (λ (d : DiagramState). d.store.nodes) c.in_ok-d.ensures.ok) c.is_canonical.ensures.sound.store fs c.in_ok-wrong.ensures.makes
    (subst (HasMoreThan (IsBeadOfAny fs)) (sym (ap (λ (d : DiagramState). d.store.limit) c.in_ok-d.ensures.ok)) more)
