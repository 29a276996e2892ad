use Rattle.std.proofs.Common.{◌≡◌, ◌+◌, length, sym, ap, ◌∙◌, subst, arith, map}
use Rattle.std.specs.List.{range_with_len}
use Rattle.bb_names.specs.Inside.Checked.{module_facts}
use Rattle.bb_names.specs.Ranges.{distance, place_of}
use Rattle.bb_expr.specs.declared.step.BitStep.TheVariants as of
use Rattle.bb_expr.specs.Cells.{without_cells, net_terms}
use Rattle.bb_expr.specs.Inside.Fit.{ranges_in}
use Rattle.bb_expr.specs.Inside.Growing.{Adds, AddsRow}
use Rattle.bb_expr.proofs.PlaceLemmas.{ranged-length, ranged-count}
use Rattle.bb_expr.proofs.NetBitLemmas.{adds-net, part-fits}
use Rattle.bb_expr.proofs.leaves.part.Goals as goal

pub extended-requires : goal.extended-requires
extended-requires c =
    let f = of.Net c.place_of.result in
    let from = c.first_place-from.result in
    let n = c.abs_diff-count.result + 1 in
    let count : n ≡ distance c.args.left c.args.right + 1 = ap (λ k. k + 1) c.abs_diff-count.ensures in
    omega (
      arith,
      ranged-length f from n c.args.steps.now.items c.net_bits.new.steps.items c.in_ok-bits.bits.items c.in_ok-bits.ensures,
      ranged-count f from n c.args.steps.now.items c.net_bits.new.steps.items c.in_ok-bits.bits.items c.in_ok-bits.ensures,
      ap length c.deref.ensures.value,
      count,
      c.requires.own,
      c.requires.room,
    )

pub returns : goal.returns
returns c =
    let m = module_facts c.args.scope.now in
    let range = ranges_in m c.args.name.now in
    let first : c.first_place-from.result ≡ place_of range c.args.left = c.first_place-from.ensures ∙ ap (λ r. place_of r c.args.left) c.range_of.ensures in
    let count : c.abs_diff-count.result + 1 ≡ distance c.args.left c.args.right + 1 = ap (λ k. k + 1) c.abs_diff-count.ensures in
    let row = subst (λ n. AddsRow (map (of.Net c.place_of.result) (range_with_len (place_of range c.args.left) n)) c.args.steps.now.items c.net_bits.new.steps.items c.in_ok-bits.bits.items) count
    (subst (λ k. AddsRow (map (of.Net c.place_of.result) (range_with_len k (c.abs_diff-count.result + 1))) c.args.steps.now.items c.net_bits.new.steps.items c.in_ok-bits.bits.items) first c.in_ok-bits.ensures) in
    let terms = net_terms c.args.name.now (place_of range c.args.left) (distance c.args.left c.args.right + 1) in
    let adds = adds-net m c.args.name.now c.place_of.result (place_of range c.args.left) (distance c.args.left c.args.right + 1) c.args.steps.now.items c.net_bits.new.steps.items c.in_ok-bits.bits.items
    c.requires.has c.place_of.ensures (part-fits range c.args.left c.args.right c.requires.bits) row in
    c.extended.ensures.made m.nets (without_cells terms) c.args.steps.now.items
    (subst (Adds m.nets (without_cells terms) c.args.steps.now.items c.net_bits.new.steps.items) (sym c.deref.ensures.value) adds)
