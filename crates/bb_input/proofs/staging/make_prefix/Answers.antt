use Rattle.std.proofs.Common.{rules, IsErrOf, sym, ap, subst}
use Rattle.bb_bits.specs.Truth.{IsBeadOfAny}
use Rattle.bb_bits.specs.TruthSets.{HasMoreThan}
use Rattle.bb_dd.specs.Inside.State.{DiagramState}
use Rattle.bb_sym.specs.declared.fault.RungFault.TheVariants.{Nodes}
use Rattle.bb_sym.specs.Inside.Made.{AreTooMany}
use Rattle.bb_input.specs.InputFunctions.{input_functions}
use Rattle.bb_input.proofs.staging.make_prefix.Goals as goal

pub returns-in_err-made-clause-nodes : goal.returns-in_err-made-clause-nodes
returns-in_err-made-clause-nodes c =
    let s = c.in_ok-d.d.store in
    let fs = input_functions c.args.pair.now.spec c.args.pair.now.imp in
    let reported : IsErrOf c.from_residual-in_err-made.result Nodes → AreTooMany s fs = search rules in
    λ full. subst (HasMoreThan (IsBeadOfAny fs)) (ap (λ (d : DiagramState). d.store.limit) c.in_ok-d.ensures.ok)
    (c.making.ensures.start_refused s fs (ap (λ (d : DiagramState). d.store.nodes) c.in_ok-d.ensures.ok) (reported full))

pub returns-clause-within : goal.returns-clause-within
returns-clause-within c =
    let fs = input_functions c.args.pair.now.spec c.args.pair.now.imp in
    λ more. c.making.ensures.start_fits c.in_ok-d.d.store c.in_ok-made.made.diagrams.store fs (ap (λ (d : DiagramState). d.store.nodes) c.in_ok-d.ensures.ok) c.is_canonical.ensures.sound.store c.in_ok-made.ensures.makes
    (subst (HasMoreThan (IsBeadOfAny fs)) (sym (ap (λ (d : DiagramState). d.store.limit) c.in_ok-d.ensures.ok)) more)
