use Rattle.std.proofs.Common.{◌≡◌, ◌<◌, All, false, map, length, subst, sym, ap, ◌∙◌, arith}
use Rattle.std.proofs.lemmas.List.{length-map}
use Rattle.bb_names.specs.Inside.Checked.{syntax}
use Rattle.bb_design.specs.Inside.Callees.{callees, called}
use Rattle.bb_hier.specs.Inside.Depths.{is_tall}
use Rattle.bb_hier.proofs.DepthHeights.{low_here}
use Rattle.bb_hier.proofs.DepthWalks.{shallow_where_low}
use Rattle.bb_hier.proofs.RecursiveNames.{all_there}
use Rattle.bb_hier.proofs.depth.low_instance.Goals as goal

pub heights_of-requires : goal.heights_of-requires
heights_of-requires c =
    let text = map syntax c.args.checked.now in
    let many : length text ≡ length c.args.called.now = omega (arith, ap length c.requires.called, length-map c.args.called.now (λ list. list.items), length-map text (callees text)) in
    record { there = subst (λ n. All (All (λ k. k < n)) (map (λ list. list.items) c.args.called.now)) many (subst (All (All (λ k. k < length text))) (sym c.requires.called) (all_there text)) }

pub returns-then-index-lt64-clause-none : goal.returns-then-index-lt64-clause-none
returns-then-index-lt64-clause-none c =
    let text = map syntax c.args.checked.now in
    let many : length text ≡ length c.args.called.now = omega (arith, ap length c.requires.called, length-map c.args.called.now (λ list. list.items), length-map text (callees text)) in
    let low : is_tall (called text) 64 c.args.top ≡ false = ap (λ lists. is_tall lists 64 c.args.top) (sym c.requires.called) ∙ sym (c.in_ok-heights.ensures.tall c.args.top 64 (omega arith))
    ∙ low_here c.in_ok-heights.heights.items c.args.top c.index.result.now c.index.ensures (omega (arith, c.requires.top, c.in_ok-heights.ensures.long, many, length-map c.args.checked.now syntax)) c.if-index-lt64.true in
    λ t at. shallow_where_low c.laws_of_designs.ensures text c.modules-modules.ensures.checked.sound c.args.top t at low
