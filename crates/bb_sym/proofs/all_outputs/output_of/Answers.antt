use Rattle.std.proofs.Common.{rules, ◌≡◌, ◌+◌, ◌≤◌, length, take, IsErrOf, refl, subst, subst₂, true, sym, ap, ap₂, ◌∙◌, arith}
use Rattle.bb_bits.specs.Truth.{IsBeadOfAny}
use Rattle.bb_bits.specs.TruthSets.{HasMoreThan}
use Rattle.bb_net.specs.Values.{output_pins}
use Rattle.bb_net.specs.Conditions.{AlwaysSomeWrongAt}
use Rattle.bb_uniq.specs.Inside.Meaning.{truth_of}
use Rattle.bb_quant.specs.Inside.LeastPoints.{IsLeastPoint}
use Rattle.bb_sym.specs.Finds.{IsLeastVector}
use Rattle.bb_dd.specs.Inside.State.{DiagramState}
use Rattle.bb_sym.specs.declared.fault.RungFault.TheVariants.{Nodes}
use Rattle.bb_sym.specs.Functions.{output_functions, all_always_wrong, inputs_and_pins}
use Rattle.bb_sym.specs.Inside.Made.{AreTooMany, IsNowhereTrue}
use Rattle.bb_sym.proofs.Budget.{all_refused, all_fit}
use Rattle.bb_sym.proofs.LeastVectors.{cut_written}
use Rattle.bb_sym.proofs.SomeWrong.{least_some, all_right}
use Rattle.bb_sym.proofs.all_outputs.output_of.Goals as goal

pub count_pins-pins-requires : goal.count_pins-pins-requires
count_pins-pins-requires c =
    let few = c.requires.few in
    let pins : output_pins c.boxes.result.now ≡ output_pins c.args.imp.now.boxes = ap output_pins c.boxes.ensures.boxes in
    omega (arith, few, pins)

few_in : (c : goal.After-count_pins-pins) → c.inputs-inputs.result + c.count_pins-pins.result ≤ 2048
few_in c =
    let few = c.requires.few in
    let pins : c.count_pins-pins.result ≡ output_pins c.args.imp.now.boxes = c.count_pins-pins.ensures ∙ ap output_pins c.boxes.ensures.boxes in
    let inputs : c.inputs-inputs.result ≡ c.args.imp.now.inputs = c.inputs-inputs.ensures.inputs in
    omega (arith, few, pins, inputs)

pub overflow_add-inputs : goal.overflow_add-inputs
overflow_add-inputs c = let few = few_in c in omega (arith, few)

pub start-requires-clause-vars : goal.start-requires-clause-vars
start-requires-clause-vars c = few_in c

pub returns-in_err-wrong-clause-nodes : goal.returns-in_err-wrong-clause-nodes
returns-in_err-wrong-clause-nodes c =
    let s = c.in_ok-d.d.store in
    let fs = output_functions c.args.spec.now c.args.imp.now in
    let reported : IsErrOf c.from_residual-in_err-wrong.result Nodes → AreTooMany s fs = search rules in
    λ full. subst (HasMoreThan (IsBeadOfAny fs)) (ap (λ (d : DiagramState). d.store.limit) c.in_ok-d.ensures.ok)
    (all_refused c.sequences.ensures s (ap (λ (d : DiagramState). d.store.nodes) c.in_ok-d.ensures.ok) fs (reported full))

pub returns-then-not-least-clause-none : goal.returns-then-not-least-clause-none
returns-then-not-least-clause-none c =
    let imp = c.args.imp.now in
    let now = c.output_diagram.new.d.store in
    let pins : c.count_pins-pins.result ≡ output_pins imp.boxes = c.count_pins-pins.ensures ∙ ap output_pins c.boxes.ensures.boxes in
    let inputs : c.inputs-inputs.result ≡ imp.inputs = c.inputs-inputs.ensures.inputs in
    let vars : now.vars ≡ inputs_and_pins imp = c.in_ok-wrong.ensures.makes.kept.vars ∙ (ap (λ (d : DiagramState). d.store.vars) c.in_ok-d.ensures.ok ∙ ap₂ ◌+◌ inputs pins) in
    let table : truth_of now c.in_ok-wrong.wrong.0 ≡ all_always_wrong c.args.spec.now imp = c.in_ok-wrong.ensures.result.table in
    let long : length c.deref_mut.result.now ≡ now.vars = search rules in
    let none : IsNowhereTrue now.vars (truth_of now c.in_ok-wrong.wrong.0) = λ q l h. c.least.ensures.none c.if-not-least.true q (l ∙ sym long, refl) h in
    all_right c.quantifiers.ensures c.args.spec.now imp (subst₂ IsNowhereTrue vars table none)

pub returns-then-not-least-clause-within : goal.returns-then-not-least-clause-within
returns-then-not-least-clause-within c =
    let fs = output_functions c.args.spec.now c.args.imp.now in
    λ more. all_fit c.sequences.ensures c.sizes.ensures c.in_ok-d.d.store c.output_diagram.new.d.store (ap (λ (d : DiagramState). d.store.nodes) c.in_ok-d.ensures.ok) c.is_canonical.ensures.sound.store fs c.in_ok-wrong.ensures.makes
    (subst (HasMoreThan (IsBeadOfAny fs)) (sym (ap (λ (d : DiagramState). d.store.limit) c.in_ok-d.ensures.ok)) more)

pub returns-clause-found : goal.returns-clause-found
returns-clause-found c =
    let imp = c.args.imp.now in
    let now = c.output_diagram.new.d.store in
    let pins : c.count_pins-pins.result ≡ output_pins imp.boxes = c.count_pins-pins.ensures ∙ ap output_pins c.boxes.ensures.boxes in
    let inputs : c.inputs-inputs.result ≡ imp.inputs = c.inputs-inputs.ensures.inputs in
    let vars : now.vars ≡ inputs_and_pins imp = c.in_ok-wrong.ensures.makes.kept.vars ∙ (ap (λ (d : DiagramState). d.store.vars) c.in_ok-d.ensures.ok ∙ ap₂ ◌+◌ inputs pins) in
    let table : truth_of now c.in_ok-wrong.wrong.0 ≡ all_always_wrong c.args.spec.now imp = c.in_ok-wrong.ensures.result.table in
    let long : length c.deref_mut.result.now ≡ now.vars = search rules in
    let written = c.least.new.point in
    let least = c.least.ensures.found c.if-not-least.false in
    let same : length written ≡ length c.in_ok-point.point.items = least.begins.0 ∙ ap length c.deref_mut.ensures.value in
    let is : c.truncate.new.self.items ≡ take imp.inputs written =
    c.truncate.ensures.items ∙ (cut_written written c.in_ok-point.point.items c.inputs-inputs.result c.in_ok-point.point.len same (let e : c.in_ok-point.point.len ≡ length c.in_ok-point.point.items = search rules in e) ∙ ap (λ k. take k written) inputs) in (
      refl,
      subst (IsLeastVector imp (AlwaysSomeWrongAt c.args.spec.now imp)) (sym is)
          (least_some c.quantifiers.ensures c.args.spec.now imp c.deref_mut.result.now written (long ∙ vars) (subst (λ t. IsLeastPoint t true 0 c.deref_mut.result.now written) table least)),
    )

pub returns-clause-within : goal.returns-clause-within
returns-clause-within c =
    let fs = output_functions c.args.spec.now c.args.imp.now in
    λ more. all_fit c.sequences.ensures c.sizes.ensures c.in_ok-d.d.store c.output_diagram.new.d.store (ap (λ (d : DiagramState). d.store.nodes) c.in_ok-d.ensures.ok) c.is_canonical.ensures.sound.store fs c.in_ok-wrong.ensures.makes
    (subst (HasMoreThan (IsBeadOfAny fs)) (sym (ap (λ (d : DiagramState). d.store.limit) c.in_ok-d.ensures.ok)) more)
