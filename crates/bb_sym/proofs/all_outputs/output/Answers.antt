use Rattle.std.proofs.Common.{ap, subst₂, arith}
use Rattle.std.specs.Prelude.{IfOk, IfNone, IsErrOf, OnOk}
use Rattle.bb_bits.specs.Truth.{IsBeadOfAny}
use Rattle.bb_bits.specs.TruthSets.{HasMoreThan}
use Rattle.bb_net.specs.Netlists.{Netlist}
use Rattle.bb_net.specs.Conditions.{AllRightTogether}
use Rattle.bb_sym.specs.declared.fault.RungFault.TheVariants.{Nodes}
use Rattle.bb_sym.specs.Functions.{output_functions, inputs_and_pins}
use Rattle.bb_sym.proofs.PlainCells.{few_variables}
use Rattle.bb_sym.proofs.all_outputs.output.Goals as goal

pub output_of-requires-clause-few : goal.output_of-requires-clause-few
output_of-requires-clause-few c = let few = few_variables c.args.pair.now c.spec-spec.ensures.kept in omega (arith, few, ap inputs_and_pins c.imp-imp.ensures.imp)

pub returns-clause-none : goal.returns-clause-none
returns-clause-none c = subst₂ (λ (spec imp : Netlist). IfOk c.output_of.result (λ answer. IfNone answer (AllRightTogether spec imp))) c.spec-spec.ensures.spec c.imp-imp.ensures.imp c.output_of.ensures.none

pub returns-clause-nodes : goal.returns-clause-nodes
returns-clause-nodes c =
    subst₂ (λ (spec imp : Netlist). IsErrOf c.output_of.result Nodes → HasMoreThan (IsBeadOfAny (output_functions spec imp)) c.args.nodes) c.spec-spec.ensures.spec c.imp-imp.ensures.imp c.output_of.ensures.nodes

pub returns-clause-within : goal.returns-clause-within
returns-clause-within c =
    subst₂ (λ (spec imp : Netlist). HasMoreThan (IsBeadOfAny (output_functions spec imp)) c.args.nodes → OnOk c.output_of.result ⊥) c.spec-spec.ensures.spec c.imp-imp.ensures.imp c.output_of.ensures.within
