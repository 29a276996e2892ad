use Rattle.std.proofs.Common.{rules, IsErrOf, ◌≡◌, ℕ, List, subst, sym, ◌∙◌, map}
use Rattle.bb_bits.specs.Truth.{variable}
use Rattle.bb_net.specs.Netlists.{Netlist}
use Rattle.bb_sym.specs.declared.fault.RungFault.TheVariants.{Nodes}
use Rattle.bb_sym.specs.Plain.{Reading, IsReadSo, AreVariables, tables, variables, cell_numbers, cell_bit, without_pins}
use Rattle.bb_sym.specs.Inside.Made.{AreTooMany}
use Rattle.bb_sym.proofs.MadeLemmas.{RepresentAll-kept, AreRefs-kept}
use Rattle.bb_sym.proofs.PlainCells.{spec_variables, spec_read, refused_variables, refused_spec, refused_imp, plain_made, plain_occur}
use Rattle.bb_sym.proofs.cells.plain_cells.Goals as goal

-- as many variables, read the same way
still_read : (net : Netlist) (n m first : ℕ) (starts : List ℕ) (r : Reading) → n ≡ m → IsReadSo m first starts net r → IsReadSo n first starts net r
still_read net n m first starts r e reads = subst (λ k. IsReadSo k first starts net r) (sym e) reads

pub returns-in_err-variables-clause-nodes : goal.returns-in_err-variables-clause-nodes
returns-in_err-variables-clause-nodes c =
    let a = c.args.d.now.store in
    let reported : IsErrOf c.from_residual.result Nodes → AreTooMany a (variables a.vars) = search rules in
    λ r reads full. refused_variables c.args.spec.now c.args.imp.now r a (reported full)

pub net_cells-requires : goal.net_cells-requires
net_cells-requires c =
    subst (λ n. AreVariables n c.args.first c.args.starts.now c.args.spec.now) (sym c.in_ok-variables.ensures.makes.kept.vars)
    (spec_variables c.args.spec.now c.args.imp.now c.requires.inputs c.requires.no_box c.args.d.now.store.vars c.args.first c.args.starts.now c.requires.variables)

pub returns-in_err-spec-clause-nodes : goal.returns-in_err-spec-clause-nodes
returns-in_err-spec-clause-nodes c = λ r reads.
    let n = c.args.d.now.store.vars in
    let b = c.make_variables.new.d.store in
    let for_spec = still_read c.args.spec.now b.vars n c.args.first c.args.starts.now (without_pins r) c.in_ok-variables.ensures.makes.kept.vars (spec_read c.args.spec.now c.args.imp.now c.requires.inputs c.requires.no_box n c.args.first c.args.starts.now r reads) in
    let more = c.net_cells.ensures.nodes (without_pins r) for_spec in
    let reported : IsErrOf c.from_residual-in_err-spec.result Nodes → AreTooMany b (tables b.vars (map (cell_bit (without_pins r) c.args.spec.now) (cell_numbers c.args.spec.now))) = search (rules, more) in
    λ full. refused_spec c.args.spec.now c.args.imp.now r c.args.d.now.store b c.in_ok-variables.ensures.makes (reported full)

pub net_cells-requires-2 : goal.net_cells-requires-2
net_cells-requires-2 c = subst (λ n. AreVariables n c.args.first c.args.starts.now c.args.imp.now) (sym (c.in_ok-spec.ensures.kept.vars ∙ c.in_ok-variables.ensures.makes.kept.vars)) c.requires.variables

pub returns-in_err-imp-clause-nodes : goal.returns-in_err-imp-clause-nodes
returns-in_err-imp-clause-nodes c = λ r reads.
    let n = c.args.d.now.store.vars in
    let b = c.make_variables.new.d.store in
    let last = c.net_cells.new.d.store in
    let vars = c.in_ok-variables.ensures.makes.kept.vars in
    let for_spec = still_read c.args.spec.now b.vars n c.args.first c.args.starts.now (without_pins r) vars (spec_read c.args.spec.now c.args.imp.now c.requires.inputs c.requires.no_box n c.args.first c.args.starts.now r reads) in
    let more = c.net_cells-2.ensures.nodes r (still_read c.args.imp.now last.vars n c.args.first c.args.starts.now r (c.in_ok-spec.ensures.kept.vars ∙ vars) reads) in
    let reported : IsErrOf c.from_residual-in_err-imp.result Nodes → AreTooMany last (tables last.vars (map (cell_bit r c.args.imp.now) (cell_numbers c.args.imp.now))) = search (rules, more) in
    λ full. refused_imp c.args.spec.now c.args.imp.now r c.args.d.now.store b c.in_ok-variables.ensures.makes last (c.in_ok-spec.ensures.makes (without_pins r) for_spec) (reported full)

pub returns-clause-variables : goal.returns-clause-variables
returns-clause-variables c =
    let refs = c.in_ok-variables.ensures.refs in (
      refs.0,
      RepresentAll-kept c.net_cells.new.d.store c.net_cells-2.new.d.store (variable c.args.d.now.store.vars) c.in_ok-variables.variables.items c.in_ok-imp.ensures.kept
          (RepresentAll-kept c.make_variables.new.d.store c.net_cells.new.d.store (variable c.args.d.now.store.vars) c.in_ok-variables.variables.items c.in_ok-spec.ensures.kept refs.1),
    )

pub returns-clause-refs : goal.returns-clause-refs
returns-clause-refs c = record {
  spec_whole = c.in_ok-spec.ensures.count;
  imp_whole = c.in_ok-imp.ensures.count;
  spec_refs = AreRefs-kept c.net_cells.new.d.store c.net_cells-2.new.d.store c.in_ok-spec.spec.items c.in_ok-imp.ensures.kept c.in_ok-spec.ensures.refs;
  imp_refs = c.in_ok-imp.ensures.refs;
}

pub returns-clause-cells : goal.returns-clause-cells
returns-clause-cells c = λ r reads.
    let n = c.args.d.now.store.vars in
    let b = c.make_variables.new.d.store in
    let mid = c.net_cells.new.d.store in
    let last = c.net_cells-2.new.d.store in
    let vars = c.in_ok-variables.ensures.makes.kept.vars in
    let for_spec = still_read c.args.spec.now b.vars n c.args.first c.args.starts.now (without_pins r) vars (spec_read c.args.spec.now c.args.imp.now c.requires.inputs c.requires.no_box n c.args.first c.args.starts.now r reads) in
    let for_imp = still_read c.args.imp.now mid.vars n c.args.first c.args.starts.now r (c.in_ok-spec.ensures.kept.vars ∙ vars) reads in
    plain_occur c.args.spec.now c.args.imp.now r c.args.d.now.store b c.in_ok-variables.ensures.makes mid (c.in_ok-spec.ensures.makes (without_pins r) for_spec) last c.in_ok-spec.spec.items c.in_ok-imp.imp.items
    (c.in_ok-imp.ensures.makes r for_imp) c.in_ok-spec.ensures.count (c.in_ok-spec.ensures.cells (without_pins r) for_spec) c.in_ok-imp.ensures.count (c.in_ok-imp.ensures.cells r for_imp)

pub returns-clause-makes : goal.returns-clause-makes
returns-clause-makes c = λ r reads.
    let n = c.args.d.now.store.vars in
    let b = c.make_variables.new.d.store in
    let mid = c.net_cells.new.d.store in
    let vars = c.in_ok-variables.ensures.makes.kept.vars in
    let for_spec = still_read c.args.spec.now b.vars n c.args.first c.args.starts.now (without_pins r) vars (spec_read c.args.spec.now c.args.imp.now c.requires.inputs c.requires.no_box n c.args.first c.args.starts.now r reads) in
    let for_imp = still_read c.args.imp.now mid.vars n c.args.first c.args.starts.now r (c.in_ok-spec.ensures.kept.vars ∙ vars) reads in
    plain_made c.args.spec.now c.args.imp.now r c.args.d.now.store b c.in_ok-variables.ensures.makes mid (c.in_ok-spec.ensures.makes (without_pins r) for_spec) c.net_cells-2.new.d.store (c.in_ok-imp.ensures.makes r for_imp)
