use Rattle.std.proofs.Common.{◌≡◌, ◌<◌, ◌-◌, ◌+◌, ℕ, All, List, filter, map, length, subst, sym, ap, ◌∙◌, arith}
use Rattle.std.specs.Prelude.{◌^◌, min, sum_by, slice_index_or}
use Rattle.std.proofs.lemmas.List.{length-map, get_or_default}
use Rattle.bb_names.specs.Inside.Checked.{syntax}
use Rattle.bb_names.specs.declared.checked.CheckedModule.{CheckedModule}
use Rattle.bb_names.specs.Nets.{nets_of}
use Rattle.bb_expr.specs.Inside.Shares.{capped}
use Rattle.bb_ast.specs.Syntax.{PlainModule}
use Rattle.bb_design.specs.Inside.Callees.{callees, called}
use Rattle.bb_hier.specs.Inside.Weights.{net_width, is_input_net, total_below}
use Rattle.bb_hier.proofs.CellTotals.{many_cells}
use Rattle.bb_hier.proofs.ModulesAt.{nets_at_place, module_is}
use Rattle.bb_hier.proofs.RecursiveNames.{all_there}
use Rattle.bb_hier.proofs.size.has_many_cells.Goals as goal

pub totals-requires-clause-there : goal.totals-requires-clause-there
totals-requires-clause-there c =
    let text = map syntax c.args.checked.now in
    let many : length text ≡ length c.args.called.now = omega (arith, ap length c.requires.called, length-map c.args.called.now (λ list. list.items), length-map text (callees text)) in
    subst (λ n. All (All (λ k. k < n)) (map (λ list. list.items) c.args.called.now)) many (subst (All (All (λ k. k < length text))) (sym c.requires.called) (all_there text))

pub returns : goal.returns
returns c =
    let text = map syntax c.args.checked.now in
    let modules = c.modules-modules.result.now in
    let many : length text ≡ length c.args.called.now = omega (arith, ap length c.requires.called, length-map c.args.called.now (λ list. list.items), length-map text (callees text)) in
    let wide : length text ≡ length c.args.checked.now = length-map c.args.checked.now syntax in
    let has = nets_at_place c.args.checked.now modules c.modules-modules.ensures.modules c.args.top c.index-modules-top.result c.index-modules-top.is c.requires.top c.modules-modules.ensures.checked in
    record {
      many = λ t at few. many_cells c.laws_of_designs.ensures (2 ^ 64 - 1) 1000000 (omega arith) text c.modules-modules.ensures.checked.sound c.args.top t at c.args.bits.now c.in_ok-constructs.constructs.items c.in_ok-instances.instances.items c.requires.bits
          c.in_ok-constructs.ensures.each (λ k x here reported. c.in_ok-instances.ensures.each k x here (ap (λ l. slice_index_or l k 0) c.deref.ensures.value ∙ reported)) (c.in_ok-instances.ensures.long ∙ sym wide) few
          c.cells_are_counted.ensures c.made_has_value.ensures c.values_have_width.ensures c.assignable_is_nets.ensures 2000000 c.port_bits-inputs.result c.saturating_add.result c.saturating_add-own.result c.index-2.result.now c.saturating_add-2.result (omega arith)
          (c.port_bits-inputs.ensures.bits ∙ ap (λ nets. capped (sum_by net_width (filter is_input_net nets))) (c.deref-3.ensures.value ∙ ap (λ (x : CheckedModule). x.nets.items) (sym c.index-modules-top.is) ∙ has.nets)
          ∙ ap (λ (m : PlainModule). capped (sum_by net_width (filter is_input_net (nets_of m))))
          (module_is c.args.checked.now modules c.modules-modules.ensures.modules c.args.top c.index-modules-top.result c.index-modules-top.is c.requires.top t at))
          (c.saturating_add.ensures ∙ ap (λ n. min (n + c.port_bits-inputs.result) (2 ^ 64 - 1))
          (c.index.ensures ∙ sym (get_or_default c.in_ok-constructs.constructs.items c.args.top 0 c.index.result.now (omega (arith, c.in_ok-constructs.ensures.long, c.requires.top)))))
          c.saturating_add-own.ensures
          (c.index-2.ensures ∙ sym (get_or_default c.in_ok-below.below.items c.args.top 0 c.index-2.result.now (omega (arith, c.in_ok-below.ensures.long, many, wide, c.requires.top)))
          ∙ c.in_ok-below.ensures.totals c.args.top ∙ ap (λ lists. capped (total_below lists (λ j. slice_index_or c.deref-2.result.now j 0) 64 c.args.top)) c.requires.called
          ∙ ap (λ (l : List ℕ). capped (total_below (called text) (λ j. slice_index_or l j 0) 64 c.args.top)) c.deref-2.ensures.value)
          c.saturating_add-2.ensures;
    }
