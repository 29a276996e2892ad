use Rattle.std.proofs.Common.{length, sym, ap, subst, arith, map}
use Rattle.bb_expr.specs.declared.step.BitStep.TheVariants as of
use Rattle.bb_expr.specs.Terms.{Const}
use Rattle.bb_expr.specs.Cells.{without_cells}
use Rattle.bb_expr.specs.Inside.Growing.{Adds}
use Rattle.bb_expr.proofs.PlaceLemmas.{all-mapped-length}
use Rattle.bb_expr.proofs.NetBitLemmas.{adds-constants}
use Rattle.bb_expr.proofs.leaves.number.Goals as goal

pub extended-requires : goal.extended-requires
extended-requires c =
    let lengths = all-mapped-length of.Const c.args.bits.now c.args.steps.now.items c.constants.new.steps.items c.in_ok-places.places.items c.in_ok-places.ensures in
    omega (arith, lengths.0, lengths.1, ap length c.deref.ensures.value, c.requires.own, c.requires.room)

pub returns : goal.returns
returns c = λ nets.
    c.extended.ensures.made nets (without_cells (map Const c.args.bits.now)) c.args.steps.now.items
    (subst (Adds nets (without_cells (map Const c.args.bits.now)) c.args.steps.now.items c.constants.new.steps.items) (sym c.deref.ensures.value)
    (adds-constants nets c.args.bits.now c.args.steps.now.items c.constants.new.steps.items c.in_ok-places.places.items c.in_ok-places.ensures))
