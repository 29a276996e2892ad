use Rattle.std.proofs.Common.{◌≡◌, ◌<◌, ◌-◌, All, map, length, refl, subst, sym, ap, ◌∙◌, arith}
use Rattle.std.specs.Prelude.{◌^◌, slice_index_or}
use Rattle.std.proofs.lemmas.List.{length-map, get_or_default}
use Rattle.bb_names.specs.Inside.Checked.{syntax}
use Rattle.bb_expr.specs.Inside.Shares.{capped}
use Rattle.bb_design.specs.Inside.Callees.{callees}
use Rattle.bb_hier.specs.Inside.Weights.{total_below}
use Rattle.bb_hier.proofs.HierarchySums.{many_bits}
use Rattle.bb_hier.proofs.RecursiveNames.{all_there}
use Rattle.bb_hier.proofs.size.has_many_bits.Goals as goal

pub totals-requires-clause-there : goal.totals-requires-clause-there
totals-requires-clause-there c =
    let text = map syntax c.args.checked.now in
    let many : length text ≡ length c.args.called.now = omega (arith, ap length c.requires.called, length-map c.args.called.now (λ list. list.items), length-map text (callees text)) in
    subst (λ n. All (All (λ k. k < n)) (map (λ list. list.items) c.args.called.now)) many (subst (All (All (λ k. k < length text))) (sym c.requires.called) (all_there text))

pub returns : goal.returns
returns c =
    let text = map syntax c.args.checked.now in
    let many : length text ≡ length c.args.called.now = omega (arith, ap length c.requires.called, length-map c.args.called.now (λ list. list.items), length-map text (callees text)) in
    record {
      many = λ t at. many_bits c.laws_of_designs.ensures (2 ^ 64 - 1) 1000000 (omega arith) text c.modules-modules.ensures.checked.sound c.args.top t at c.args.bits.now c.requires.bits
          (slice_index_or c.args.bits.now c.args.top 0) c.index.result.now c.saturating_add.result refl
          (c.index.ensures ∙ sym (get_or_default c.in_ok-below.below.items c.args.top 0 c.index.result.now (omega (arith, c.in_ok-below.ensures.long, many, length-map c.args.checked.now syntax, c.requires.top)))
          ∙ c.in_ok-below.ensures.totals c.args.top ∙ ap (λ lists. capped (total_below lists (λ j. slice_index_or c.args.bits.now j 0) 64 c.args.top)) c.requires.called)
          c.saturating_add.ensures;
    }
