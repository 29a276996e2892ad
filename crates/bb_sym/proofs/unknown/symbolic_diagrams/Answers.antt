use Rattle.std.proofs.Common.{rules, IsErrOf, subst, ◌++◌, flat_map}
use Rattle.bb_sym.specs.declared.fault.RungFault.TheVariants.{Nodes}
use Rattle.bb_sym.specs.Functions.{mismatches}
use Rattle.bb_sym.specs.Plain.{output_numbers}
use Rattle.bb_sym.specs.Inside.Made.{Makes, AreTooMany}
use Rattle.bb_sym.proofs.MadeLemmas.{Makes-then, too_many_within, too_many_then, within_append_left}
use Rattle.bb_sym.specs.Inside.Rails.{known_functions}
use Rattle.bb_sym.proofs.InputCells.{symbolic_are}
use Rattle.bb_sym.proofs.unknown.symbolic_diagrams.Goals as goal

pub returns-in_err-made-clause-nodes : goal.returns-in_err-made-clause-nodes
returns-in_err-made-clause-nodes c =
    let spec = c.args.pair.now.spec in
    let imp = c.args.pair.now.imp in
    let ts = known_functions spec imp in
    let us = flat_map (mismatches spec imp) (output_numbers imp) in
    let reported : IsErrOf c.from_residual.result Nodes → AreTooMany c.args.d.now.store ts = search rules in
    λ full. subst (AreTooMany c.args.d.now.store) (symbolic_are spec imp) (too_many_within c.args.d.now.store ts (ts ++ us) (within_append_left ts us) (reported full))

pub returns-in_err-refs-clause-nodes : goal.returns-in_err-refs-clause-nodes
returns-in_err-refs-clause-nodes c =
    let spec = c.args.pair.now.spec in
    let imp = c.args.pair.now.imp in
    let us = flat_map (mismatches spec imp) (output_numbers imp) in
    let reported : IsErrOf c.from_residual-in_err-refs.result Nodes → AreTooMany c.input_cells.new.d.store us = search rules in
    λ full. subst (AreTooMany c.args.d.now.store) (symbolic_are spec imp) (too_many_then c.args.d.now.store c.input_cells.new.d.store (known_functions spec imp) us c.in_ok-made.ensures.makes (reported full))

pub returns-clause-makes : goal.returns-clause-makes
returns-clause-makes c =
    let spec = c.args.pair.now.spec in
    let imp = c.args.pair.now.imp in
    subst (Makes c.args.d.now.store c.known_wrong_outputs.new.d.store) (symbolic_are spec imp)
    (Makes-then c.args.d.now.store c.input_cells.new.d.store c.known_wrong_outputs.new.d.store (known_functions spec imp) (flat_map (mismatches spec imp) (output_numbers imp)) c.in_ok-made.ensures.makes c.in_ok-refs.ensures.makes)
