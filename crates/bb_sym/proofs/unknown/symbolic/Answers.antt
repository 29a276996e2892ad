use Rattle.std.proofs.Common.{rules, ◌≡◌, length, IsErrOf, refl, subst, sym, ap, ◌∙◌, arith}
use Rattle.bb_bits.specs.Truth.{IsBeadOfAny}
use Rattle.bb_bits.specs.TruthSets.{HasMoreThan}
use Rattle.bb_net.specs.Netlists.{Netlist}
use Rattle.bb_dd.specs.Inside.State.{DiagramState}
use Rattle.bb_sym.specs.declared.fault.RungFault.TheVariants.{Nodes}
use Rattle.bb_sym.specs.Functions.{symbolic_functions, mismatch}
use Rattle.bb_sym.specs.Inside.Made.{AreTooMany, RepresentAll}
use Rattle.bb_sym.proofs.PlainCells.{few_variables}
use Rattle.bb_sym.proofs.Budget.{all_refused, all_fit}
use Rattle.bb_sym.proofs.KnownWrong.{first_known, none_known, written_whole}
use Rattle.bb_sym.proofs.unknown.symbolic.Goals as goal

pub start-requires-clause-vars : goal.start-requires-clause-vars
start-requires-clause-vars c =
    let few = few_variables c.args.pair.now c.imp.ensures.kept in
    let inputs : c.inputs-inputs.result ≡ c.args.pair.now.imp.inputs = c.inputs-inputs.ensures.inputs ∙ ap (λ (net : Netlist). net.inputs) c.imp.ensures.imp in
    omega (arith, few, inputs)

pub returns-in_err-wrong-clause-nodes : goal.returns-in_err-wrong-clause-nodes
returns-in_err-wrong-clause-nodes c =
    let s = c.in_ok-d.d.store in
    let fs = symbolic_functions c.args.pair.now.spec c.args.pair.now.imp in
    let reported : IsErrOf c.from_residual-in_err-wrong.result Nodes → AreTooMany s fs = search rules in
    λ full. subst (HasMoreThan (IsBeadOfAny fs)) (ap (λ (d : DiagramState). d.store.limit) c.in_ok-d.ensures.ok)
    (all_refused c.sequences.ensures s (ap (λ (d : DiagramState). d.store.nodes) c.in_ok-d.ensures.ok) fs (reported full))

pub returns-in-Some-clause-found : goal.returns-in-Some-clause-found
returns-in-Some-clause-found c =
    let imp = c.args.pair.now.imp in
    let now = c.symbolic_diagrams.new.d.store in
    let inputs : c.inputs-inputs.result ≡ imp.inputs = c.inputs-inputs.ensures.inputs ∙ ap (λ (net : Netlist). net.inputs) c.imp.ensures.imp in
    let vars : now.vars ≡ imp.inputs = c.in_ok-wrong.ensures.makes.kept.vars ∙ (ap (λ (d : DiagramState). d.store.vars) c.in_ok-d.ensures.ok ∙ inputs) in
    let whole : c.deref.result.now ≡ c.in_ok-wrong.wrong.items = c.deref.ensures.value in
    let long : length c.deref_mut.result.now ≡ now.vars = search rules in
    let written = c.first_true.new.point in
    let same : length written ≡ length c.in_ok-point.point.items = c.in-Some.ensures.found.1.begins.0 ∙ ap length c.deref_mut.ensures.value in
    let count = ap length whole ∙ c.in_ok-wrong.ensures.refs.0 in
    let occur = subst (RepresentAll now (mismatch c.args.pair.now.spec imp)) (sym whole) c.in_ok-wrong.ensures.refs.1 in (
      c.in-Some.j,
      refl,
      first_known c.args.pair.now.spec imp now c.deref.result.now c.deref_mut.result.now written _ c.in-Some.j vars count occur long
          c.in-Some.ensures.found.0 c.in-Some.ensures.found.1 c.in-Some.ensures.earlier (written_whole written c.in_ok-point.point.items c.in_ok-point.point.len same (let e : c.in_ok-point.point.len ≡ length c.in_ok-point.point.items = search rules in e)),
    )

pub returns-in-Some-clause-within : goal.returns-in-Some-clause-within
returns-in-Some-clause-within c =
    let fs = symbolic_functions c.args.pair.now.spec c.args.pair.now.imp in
    λ more. all_fit c.sequences.ensures c.sizes.ensures c.in_ok-d.d.store c.symbolic_diagrams.new.d.store (ap (λ (d : DiagramState). d.store.nodes) c.in_ok-d.ensures.ok) c.is_canonical.ensures.sound.store fs c.in_ok-wrong.ensures.makes
    (subst (HasMoreThan (IsBeadOfAny fs)) (sym (ap (λ (d : DiagramState). d.store.limit) c.in_ok-d.ensures.ok)) more)

pub returns-clause-none : goal.returns-clause-none
returns-clause-none c =
    let imp = c.args.pair.now.imp in
    let now = c.symbolic_diagrams.new.d.store in
    let inputs : c.inputs-inputs.result ≡ imp.inputs = c.inputs-inputs.ensures.inputs ∙ ap (λ (net : Netlist). net.inputs) c.imp.ensures.imp in
    let vars : now.vars ≡ imp.inputs = c.in_ok-wrong.ensures.makes.kept.vars ∙ (ap (λ (d : DiagramState). d.store.vars) c.in_ok-d.ensures.ok ∙ inputs) in
    let whole : c.deref.result.now ≡ c.in_ok-wrong.wrong.items = c.deref.ensures.value in
    let count = ap length whole ∙ c.in_ok-wrong.ensures.refs.0 in
    let occur = subst (RepresentAll now (mismatch c.args.pair.now.spec imp)) (sym whole) c.in_ok-wrong.ensures.refs.1 in
    none_known c.args.pair.now.spec imp now c.deref.result.now vars count occur c.in-None.ensures.none

pub returns-clause-within : goal.returns-clause-within
returns-clause-within c =
    let fs = symbolic_functions c.args.pair.now.spec c.args.pair.now.imp in
    λ more. all_fit c.sequences.ensures c.sizes.ensures c.in_ok-d.d.store c.symbolic_diagrams.new.d.store (ap (λ (d : DiagramState). d.store.nodes) c.in_ok-d.ensures.ok) c.is_canonical.ensures.sound.store fs c.in_ok-wrong.ensures.makes
    (subst (HasMoreThan (IsBeadOfAny fs)) (sym (ap (λ (d : DiagramState). d.store.limit) c.in_ok-d.ensures.ok)) more)
