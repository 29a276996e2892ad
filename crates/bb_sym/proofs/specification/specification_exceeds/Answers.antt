use Rattle.std.proofs.Common.{rules, ◌≡◌, [], refl, subst, sym, ap, ◌∙◌, arith}
use Rattle.bb_bits.specs.Truth.{IsBeadOfAny}
use Rattle.bb_bits.specs.TruthSets.{HasMoreThan}
use Rattle.bb_net.specs.Netlists.{Netlist}
use Rattle.bb_dd.specs.Inside.State.{DiagramState}
use Rattle.bb_sym.specs.Functions.{specification_functions}
use Rattle.bb_sym.specs.Plain.{AreVariables}
use Rattle.bb_sym.specs.Inside.Made.{Makes, AreTooMany, bits_tables}
use Rattle.bb_sym.proofs.Budget.{all_refused, all_fit}
use Rattle.bb_sym.proofs.InputCells.{inputs_only, inputs_read, inputs_fit}
use Rattle.bb_sym.proofs.PlainCells.{few_variables, read_net}
use Rattle.bb_sym.proofs.specification.specification_exceeds.Goals as goal

pub start-requires-clause-vars : goal.start-requires-clause-vars
start-requires-clause-vars c =
    let few = few_variables c.args.pair.now c.imp.ensures.kept in
    let inputs : c.inputs-inputs.result ≡ c.args.pair.now.imp.inputs = c.inputs-inputs.ensures.inputs ∙ ap (λ (net : Netlist). net.inputs) c.imp.ensures.imp in
    omega (arith, few, inputs)

pub net_cells-requires : goal.net_cells-requires
net_cells-requires c =
    let few = few_variables c.args.pair.now c.imp.ensures.kept in
    let n = c.in_ok-d.d.store.vars in
    let inputs : c.inputs-inputs.result ≡ c.args.pair.now.imp.inputs = c.inputs-inputs.ensures.inputs ∙ ap (λ (net : Netlist). net.inputs) c.imp.ensures.imp in
    let vars : n ≡ c.args.pair.now.imp.inputs = ap (λ (d : DiagramState). d.store.vars) c.in_ok-d.ensures.ok ∙ inputs in
    subst (AreVariables n 0 []) (sym c.spec-spec.ensures.spec) (inputs_fit c.args.pair.now c.imp.ensures.kept n vars (omega (arith, few, vars)))

pub returns-in-Err-Nodes : goal.returns-in-Err-Nodes
returns-in-Err-Nodes c =
    let p = c.args.pair.now in
    let s = c.in_ok-d.d.store in
    let fs = specification_functions p.spec p.imp in
    let inputs : c.inputs-inputs.result ≡ p.imp.inputs = c.inputs-inputs.ensures.inputs ∙ ap (λ (net : Netlist). net.inputs) c.imp.ensures.imp in
    let vars : s.vars ≡ p.imp.inputs = ap (λ (d : DiagramState). d.store.vars) c.in_ok-d.ensures.ok ∙ inputs in
    let net = c.spec-spec.result.now in
    let more = c.in-Err-Nodes.ensures.nodes inputs_only (read_net net p.spec c.spec-spec.ensures.spec s.vars s.vars 0 [] inputs_only refl (inputs_read p c.imp.ensures.kept s.vars)) in
    let reported : AreTooMany s (bits_tables s.vars inputs_only net) = search (rules, more) in
    let many : AreTooMany s fs = subst (AreTooMany s) (ap (λ (net : Netlist). bits_tables s.vars inputs_only net) c.spec-spec.ensures.spec ∙ ap (λ n. bits_tables n inputs_only p.spec) vars) reported in
    record {
      exceeds = λ yes. subst (HasMoreThan (IsBeadOfAny fs)) (ap (λ (d : DiagramState). d.store.limit) c.in_ok-d.ensures.ok) (all_refused c.sequences.ensures s (ap (λ (d : DiagramState). d.store.nodes) c.in_ok-d.ensures.ok) fs many);
      within = λ no. cc no;
    }

pub returns-in-Ok : goal.returns-in-Ok
returns-in-Ok c =
    let p = c.args.pair.now in
    let s = c.in_ok-d.d.store in
    let fs = specification_functions p.spec p.imp in
    let inputs : c.inputs-inputs.result ≡ p.imp.inputs = c.inputs-inputs.ensures.inputs ∙ ap (λ (net : Netlist). net.inputs) c.imp.ensures.imp in
    let vars : s.vars ≡ p.imp.inputs = ap (λ (d : DiagramState). d.store.vars) c.in_ok-d.ensures.ok ∙ inputs in
    let net = c.spec-spec.result.now in
    let made = c.in-Ok.ensures.makes inputs_only (read_net net p.spec c.spec-spec.ensures.spec s.vars s.vars 0 [] inputs_only refl (inputs_read p c.imp.ensures.kept s.vars)) in
    let now = c.net_cells.new.d.store in
    let made_all : Makes s now fs = subst (Makes s now) (ap (λ (net : Netlist). bits_tables s.vars inputs_only net) c.spec-spec.ensures.spec ∙ ap (λ n. bits_tables n inputs_only p.spec) vars) made in
    record {
      exceeds = λ yes. cc yes;
      within = λ no more. all_fit c.sequences.ensures c.sizes.ensures s now (ap (λ (d : DiagramState). d.store.nodes) c.in_ok-d.ensures.ok) c.is_canonical.ensures.sound.store fs made_all
          (subst (HasMoreThan (IsBeadOfAny fs)) (sym (ap (λ (d : DiagramState). d.store.limit) c.in_ok-d.ensures.ok)) more);
    }
