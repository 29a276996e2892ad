use Rattle.std.proofs.Common.{rules, IsErrOf, ℕ, ◌≡◌, ◌<◌, ◌+◌, List, length, take, slice_index_or, sym, ap, ap₂, ◌∙◌, subst, arith}
use Rattle.bb_net.specs.Netlists.{Pins}
use Rattle.bb_net.specs.Values.{output_pins}
use Rattle.bb_sym.specs.declared.fault.RungFault.TheVariants.{Nodes}
use Rattle.bb_sym.specs.Functions.{inputs_first}
use Rattle.bb_sym.specs.Plain.{plain_functions_at}
use Rattle.bb_sym.specs.Inside.Made.{Makes, AreTooMany}
use Rattle.bb_sym.proofs.InputsFirst.{order_variables, order_read}
use Rattle.bb_sym.proofs.inputs_first.ordered_cells.Goals as goal

pub first_variables-requires : goal.first_variables-requires
first_variables-requires c =
    let pins = ap output_pins c.boxes.ensures.boxes in
    omega (arith, c.requires.few, c.requires.vars, pins, c.inputs.ensures.inputs)

starts_are : (inputs real : ℕ) (boxes kept : List Pins) (starts ss : List ℕ) → inputs ≡ real → boxes ≡ kept → ss ≡ starts → ((b : ℕ) → b < length boxes → slice_index_or starts b 0 ≡ inputs + output_pins (take b boxes)) → (b : ℕ) → b < length kept → slice_index_or ss b 0 ≡ real + output_pins (take b kept)
starts_are inputs real boxes kept starts ss e f g start b l = ap (λ (xs : List ℕ). slice_index_or xs b 0) g ∙ (start b (subst (λ (k : List Pins). b < length k) (sym f) l) ∙ ap₂ (λ i (k : List Pins). i + output_pins (take b k)) e f)

pub plain_cells-requires-clause-variables : goal.plain_cells-requires-clause-variables
plain_cells-requires-clause-variables c = order_variables c.args.imp.now c.args.d.now.store.vars c.deref.result.now (omega (arith, c.requires.few, c.requires.store)) (sym c.requires.store ∙ c.requires.vars) (ap length c.deref.ensures.value ∙ (c.in_ok-starts.ensures.count ∙ ap length c.boxes.ensures.boxes)) (starts_are c.inputs.result c.args.imp.now.inputs c.boxes.result.now c.args.imp.now.boxes c.in_ok-starts.starts.items c.deref.result.now c.inputs.ensures.inputs c.boxes.ensures.boxes c.deref.ensures.value c.in_ok-starts.ensures.starts)

pub returns-in_err-made-clause-nodes : goal.returns-in_err-made-clause-nodes
returns-in_err-made-clause-nodes c =
    let s = c.args.d.now.store in
    let order = inputs_first c.args.imp.now in
    let more = c.in_err-made.ensures.nodes order (order_read c.args.imp.now c.args.d.now.store.vars c.deref.result.now (omega (arith, c.requires.few, c.requires.store)) (sym c.requires.store ∙ c.requires.vars) (ap length c.deref.ensures.value ∙ (c.in_ok-starts.ensures.count ∙ ap length c.boxes.ensures.boxes)) (starts_are c.inputs.result c.args.imp.now.inputs c.boxes.result.now c.args.imp.now.boxes c.in_ok-starts.starts.items c.deref.result.now c.inputs.ensures.inputs c.boxes.ensures.boxes c.deref.ensures.value c.in_ok-starts.ensures.starts)) in
    let reported : IsErrOf c.from_residual-in_err-made.result Nodes → AreTooMany s (plain_functions_at s.vars order c.args.spec.now c.args.imp.now) = search (rules, more) in
    λ full. subst (λ n. AreTooMany s (plain_functions_at n order c.args.spec.now c.args.imp.now)) (sym c.requires.store ∙ c.requires.vars) (reported full)

pub returns-clause-cells : goal.returns-clause-cells
returns-clause-cells c = c.in_ok-made.ensures.cells (inputs_first c.args.imp.now) (order_read c.args.imp.now c.args.d.now.store.vars c.deref.result.now (omega (arith, c.requires.few, c.requires.store)) (sym c.requires.store ∙ c.requires.vars) (ap length c.deref.ensures.value ∙ (c.in_ok-starts.ensures.count ∙ ap length c.boxes.ensures.boxes)) (starts_are c.inputs.result c.args.imp.now.inputs c.boxes.result.now c.args.imp.now.boxes c.in_ok-starts.starts.items c.deref.result.now c.inputs.ensures.inputs c.boxes.ensures.boxes c.deref.ensures.value c.in_ok-starts.ensures.starts))

pub returns-clause-makes : goal.returns-clause-makes
returns-clause-makes c =
    let s = c.args.d.now.store in
    let order = inputs_first c.args.imp.now in
    subst (λ n. Makes s c.plain_cells.new.d.store (plain_functions_at n order c.args.spec.now c.args.imp.now)) (sym c.requires.store ∙ c.requires.vars) (c.in_ok-made.ensures.makes order (order_read c.args.imp.now c.args.d.now.store.vars c.deref.result.now (omega (arith, c.requires.few, c.requires.store)) (sym c.requires.store ∙ c.requires.vars) (ap length c.deref.ensures.value ∙ (c.in_ok-starts.ensures.count ∙ ap length c.boxes.ensures.boxes)) (starts_are c.inputs.result c.args.imp.now.inputs c.boxes.result.now c.args.imp.now.boxes c.in_ok-starts.starts.items c.deref.result.now c.inputs.ensures.inputs c.boxes.ensures.boxes c.deref.ensures.value c.in_ok-starts.ensures.starts)))
