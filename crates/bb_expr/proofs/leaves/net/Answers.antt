use Rattle.std.proofs.Common.{◌≡◌, length, sym, ap, ◌∙◌, subst, arith, map}
use Rattle.std.specs.List.{range_with_len}
use Rattle.bb_names.specs.Inside.Checked.{module_facts}
use Rattle.bb_names.specs.Ranges.{range_width}
use Rattle.bb_expr.specs.declared.step.BitStep.TheVariants as of
use Rattle.bb_expr.specs.Cells.{without_cells, net_terms}
use Rattle.bb_expr.specs.Inside.Fit.{ranges_in}
use Rattle.bb_expr.specs.Inside.Growing.{Adds, AddsRow}
use Rattle.bb_expr.proofs.PlaceLemmas.{ranged-length, ranged-count}
use Rattle.bb_expr.proofs.NetBitLemmas.{adds-net}
use Rattle.bb_expr.proofs.leaves.net.Goals as goal

pub extended-requires : goal.extended-requires
extended-requires c =
    let f = of.Net c.place_of.result in
    let n = c.range_width-count.result in
    let own = c.range_width-count.ensures ∙ ap range_width c.range_of.ensures in
    omega (
      arith,
      ranged-length f 0 n c.args.steps.now.items c.net_bits.new.steps.items c.in_ok-bits.bits.items c.in_ok-bits.ensures,
      ranged-count f 0 n c.args.steps.now.items c.net_bits.new.steps.items c.in_ok-bits.bits.items c.in_ok-bits.ensures,
      ap length c.deref.ensures.value,
      own,
      c.requires.own,
      c.requires.room,
    )

pub returns : goal.returns
returns c =
    let m = module_facts c.args.scope.now in
    let own : c.range_width-count.result ≡ range_width (ranges_in m c.args.name.now) = c.range_width-count.ensures ∙ ap range_width c.range_of.ensures in
    let row = subst (λ n. AddsRow (map (of.Net c.place_of.result) (range_with_len 0 n)) c.args.steps.now.items c.net_bits.new.steps.items c.in_ok-bits.bits.items) own c.in_ok-bits.ensures in
    let adds = adds-net m c.args.name.now c.place_of.result 0 (range_width (ranges_in m c.args.name.now)) c.args.steps.now.items c.net_bits.new.steps.items c.in_ok-bits.bits.items c.requires.has c.place_of.ensures (omega arith) row in
    c.extended.ensures.made m.nets (without_cells (net_terms c.args.name.now 0 (range_width (ranges_in m c.args.name.now)))) c.args.steps.now.items
    (subst (Adds m.nets (without_cells (net_terms c.args.name.now 0 (range_width (ranges_in m c.args.name.now)))) c.args.steps.now.items c.net_bits.new.steps.items) (sym c.deref.ensures.value) adds)
