use Rattle.std.proofs.Common.{rules, IsErrOf, [], refl, subst, sym, ap, ◌∙◌, ◌≡◌, map, flat_map, length, arith}
use Rattle.bb_net.specs.Netlists.{Netlist}
use Rattle.bb_sym.specs.declared.fault.RungFault.TheVariants.{Nodes}
use Rattle.bb_sym.specs.Functions.{known_tables}
use Rattle.bb_sym.specs.Plain.{AreVariables, cell_bit, table, tables, variables, cell_numbers}
use Rattle.bb_sym.specs.Inside.Made.{Makes, AreTooMany, RepresentAll}
use Rattle.bb_sym.specs.Inside.Rails.{HaveAllRails, known_rails}
use Rattle.bb_sym.proofs.PlainCells.{few_variables, read_net}
use Rattle.bb_sym.proofs.InputCells.{inputs_only, inputs_read, refused_first, spec_fits, refused_bits, mid_vars, refused_known, input_cells_made, input_cells_occur}
use Rattle.bb_sym.proofs.mismatches.input_cells.Goals as goal

pub make_variables-requires : goal.make_variables-requires
make_variables-requires c = c.inputs-inputs.ensures.inputs ∙ (ap (λ (net : Netlist). net.inputs) c.imp-imp_net.ensures.imp ∙ c.requires.vars)

pub returns-in_err-make_variables-clause-nodes : goal.returns-in_err-make_variables-clause-nodes
returns-in_err-make_variables-clause-nodes c =
    let a = c.args.d.now.store in
    let reported : IsErrOf c.from_residual.result Nodes → AreTooMany a (variables a.vars) = search rules in
    λ full. refused_first c.args.pair.now c.spec-spec_net.ensures.kept a c.requires.vars (reported full)

pub net_cells-requires : goal.net_cells-requires
net_cells-requires c =
    let few = few_variables c.args.pair.now c.spec-spec_net.ensures.kept in
    let b = c.make_variables.new.d.store in
    subst (AreVariables b.vars 0 []) (sym c.spec-spec_net.ensures.spec)
    (spec_fits c.args.pair.now c.spec-spec_net.ensures.kept c.args.d.now.store c.requires.vars b c.in_ok-make_variables.ensures.makes (omega (arith, few, c.requires.vars)))

pub returns-in_err-spec-clause-nodes : goal.returns-in_err-spec-clause-nodes
returns-in_err-spec-clause-nodes c =
    let b = c.make_variables.new.d.store in
    let more = c.in_err-spec.ensures.nodes inputs_only (read_net c.spec-spec_net.result.now c.args.pair.now.spec c.spec-spec_net.ensures.spec b.vars b.vars 0 [] inputs_only refl (inputs_read c.args.pair.now c.spec-spec_net.ensures.kept b.vars)) in
    let reported : IsErrOf c.from_residual-in_err-spec.result Nodes → AreTooMany b (tables b.vars (map (cell_bit inputs_only c.spec-spec_net.result.now) (cell_numbers c.spec-spec_net.result.now))) = search (rules, more) in
    λ full. refused_bits c.args.pair.now c.spec-spec_net.ensures.kept c.args.d.now.store c.requires.vars b c.in_ok-make_variables.ensures.makes
    (subst (λ (net : Netlist). AreTooMany b (tables b.vars (map (cell_bit inputs_only net) (cell_numbers net)))) c.spec-spec_net.ensures.spec (reported full))

pub known_cells-requires : goal.known_cells-requires
known_cells-requires c =
    let b = c.make_variables.new.d.store in
    let mid = c.net_cells.new.d.store in
    let vars = subst (λ (net : Netlist). net.inputs ≡ mid.vars) (sym c.imp-imp_net.ensures.imp) (mid_vars c.args.pair.now c.spec-spec_net.ensures.kept c.args.d.now.store c.requires.vars b c.in_ok-make_variables.ensures.makes mid
    (subst (λ (net : Netlist). Makes b mid (tables b.vars (map (cell_bit inputs_only net) (cell_numbers net)))) c.spec-spec_net.ensures.spec (c.in_ok-spec.ensures.makes inputs_only (read_net c.spec-spec_net.result.now c.args.pair.now.spec c.spec-spec_net.ensures.spec b.vars b.vars 0 [] inputs_only refl (inputs_read c.args.pair.now c.spec-spec_net.ensures.kept b.vars))))) in
    record { vars = vars }

pub returns-in_err-imp-clause-nodes : goal.returns-in_err-imp-clause-nodes
returns-in_err-imp-clause-nodes c =
    let b = c.make_variables.new.d.store in
    let mid = c.net_cells.new.d.store in
    let reported : IsErrOf c.from_residual-in_err-imp.result Nodes → AreTooMany mid (flat_map (known_tables c.imp-imp_net.result.now) (cell_numbers c.imp-imp_net.result.now)) = search rules in
    λ full. refused_known c.args.pair.now c.spec-spec_net.ensures.kept c.args.d.now.store c.requires.vars b c.in_ok-make_variables.ensures.makes mid
    (subst (λ (net : Netlist). Makes b mid (tables b.vars (map (cell_bit inputs_only net) (cell_numbers net)))) c.spec-spec_net.ensures.spec (c.in_ok-spec.ensures.makes inputs_only (read_net c.spec-spec_net.result.now c.args.pair.now.spec c.spec-spec_net.ensures.spec b.vars b.vars 0 [] inputs_only refl (inputs_read c.args.pair.now c.spec-spec_net.ensures.kept b.vars))))
    (subst (λ (net : Netlist). AreTooMany mid (flat_map (known_tables net) (cell_numbers net))) c.imp-imp_net.ensures.imp (reported full))

pub returns-clause-cells : goal.returns-clause-cells
returns-clause-cells c =
    let b = c.make_variables.new.d.store in
    let mid = c.net_cells.new.d.store in
    let last = c.known_cells.new.d.store in
    let of_spec = c.in_ok-spec.spec.items in
    let imp = c.in_ok-imp.imp in
    input_cells_occur c.args.pair.now c.spec-spec_net.ensures.kept c.args.d.now.store c.requires.vars b c.in_ok-make_variables.ensures.makes mid
    (subst (λ (net : Netlist). Makes b mid (tables b.vars (map (cell_bit inputs_only net) (cell_numbers net)))) c.spec-spec_net.ensures.spec (c.in_ok-spec.ensures.makes inputs_only (read_net c.spec-spec_net.result.now c.args.pair.now.spec c.spec-spec_net.ensures.spec b.vars b.vars 0 [] inputs_only refl (inputs_read c.args.pair.now c.spec-spec_net.ensures.kept b.vars)))) last
    (subst (λ (net : Netlist). Makes mid last (flat_map (known_tables net) (cell_numbers net))) c.imp-imp_net.ensures.imp c.in_ok-imp.ensures.makes)
    of_spec imp.items
    (subst (λ (net : Netlist). (length of_spec ≡ length net.cells) × RepresentAll mid (λ place. table b.vars (cell_bit inputs_only net place)) of_spec) c.spec-spec_net.ensures.spec (c.in_ok-spec.ensures.count, c.in_ok-spec.ensures.cells inputs_only (read_net c.spec-spec_net.result.now c.args.pair.now.spec c.spec-spec_net.ensures.spec b.vars b.vars 0 [] inputs_only refl (inputs_read c.args.pair.now c.spec-spec_net.ensures.kept b.vars))))
    (subst (λ (net : Netlist). (length imp.items ≡ length net.cells) × HaveAllRails last (known_rails net) imp.items) c.imp-imp_net.ensures.imp (c.in_ok-imp.ensures.count, c.in_ok-imp.ensures.rails))

pub returns-clause-makes : goal.returns-clause-makes
returns-clause-makes c =
    let b = c.make_variables.new.d.store in
    let mid = c.net_cells.new.d.store in
    let last = c.known_cells.new.d.store in
    input_cells_made c.args.pair.now c.spec-spec_net.ensures.kept c.args.d.now.store c.requires.vars b c.in_ok-make_variables.ensures.makes mid
    (subst (λ (net : Netlist). Makes b mid (tables b.vars (map (cell_bit inputs_only net) (cell_numbers net)))) c.spec-spec_net.ensures.spec (c.in_ok-spec.ensures.makes inputs_only (read_net c.spec-spec_net.result.now c.args.pair.now.spec c.spec-spec_net.ensures.spec b.vars b.vars 0 [] inputs_only refl (inputs_read c.args.pair.now c.spec-spec_net.ensures.kept b.vars)))) last
    (subst (λ (net : Netlist). Makes mid last (flat_map (known_tables net) (cell_numbers net))) c.imp-imp_net.ensures.imp c.in_ok-imp.ensures.makes)
