use Rattle.std.proofs.Common.{rules, IsErrOf, ◌++◌, flat_map, subst₂}
use Rattle.bb_net.specs.Netlists.{Netlist}
use Rattle.bb_sym.specs.declared.fault.RungFault.TheVariants.{Nodes}
use Rattle.bb_sym.specs.Functions.{plain_functions, wrong_for_all_pins}
use Rattle.bb_sym.specs.Plain.{output_numbers}
use Rattle.bb_sym.specs.Inside.Made.{Makes, AreTooMany}
use Rattle.bb_sym.proofs.MadeLemmas.{Makes-then, too_many_within, too_many_then, within_append_left}
use Rattle.bb_sym.proofs.each_output.local_diagrams.Goals as goal

pub returns-in_err-made-clause-nodes : goal.returns-in_err-made-clause-nodes
returns-in_err-made-clause-nodes c =
    let spec = c.args.pair.now.spec in
    let imp = c.args.pair.now.imp in
    let s = c.args.d.now.store in
    let ts = plain_functions spec imp in
    let us = flat_map (wrong_for_all_pins spec imp) (output_numbers imp) in
    let reported : IsErrOf c.from_residual.result Nodes → AreTooMany s (plain_functions c.spec-spec.result.now c.imp-imp.result.now) = search rules in
    λ full. too_many_within s ts (ts ++ us) (within_append_left ts us) (subst₂ (λ (a b : Netlist). AreTooMany s (plain_functions a b)) c.spec-spec.ensures.spec c.imp-imp.ensures.imp (reported full))

pub returns-in_err-refs-clause-nodes : goal.returns-in_err-refs-clause-nodes
returns-in_err-refs-clause-nodes c =
    let spec = c.args.pair.now.spec in
    let imp = c.args.pair.now.imp in
    let s = c.args.d.now.store in
    let b = c.ordered_cells.new.d.store in
    let us = flat_map (wrong_for_all_pins spec imp) (output_numbers imp) in
    let made = subst₂ (λ (p q : Netlist). Makes s b (plain_functions p q)) c.spec-spec.ensures.spec c.imp-imp.ensures.imp c.in_ok-made.ensures.makes in
    let reported : IsErrOf c.from_residual-in_err-refs.result Nodes → AreTooMany b us = search rules in
    λ full. too_many_then s b (plain_functions spec imp) us made (reported full)

pub returns-clause-makes : goal.returns-clause-makes
returns-clause-makes c =
    let spec = c.args.pair.now.spec in
    let imp = c.args.pair.now.imp in
    let s = c.args.d.now.store in
    let b = c.ordered_cells.new.d.store in
    let made = subst₂ (λ (p q : Netlist). Makes s b (plain_functions p q)) c.spec-spec.ensures.spec c.imp-imp.ensures.imp c.in_ok-made.ensures.makes in
    Makes-then s b c.always_wrong_outputs.new.d.store (plain_functions spec imp) (flat_map (wrong_for_all_pins spec imp) (output_numbers imp)) made c.in_ok-refs.ensures.makes
