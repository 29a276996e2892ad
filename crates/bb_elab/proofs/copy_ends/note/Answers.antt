use Rattle.std.proofs.Common.{◌<◌, false, List, length, sym, ap, ◌∙◌, subst, arith}
use Rattle.std.specs.Prelude.{slice_index_or}
use Rattle.bb_net.specs.declared.loose.LooseCell.{LooseCell}
use Rattle.bb_net.specs.declared.loose.LooseCell.TheVariants.{Const}
use Rattle.bb_elab.proofs.ClockWalks.{ends_more, ends_copied}
use Rattle.bb_elab.proofs.copy_ends.note.Goals as goal

pub loop-step-preserved : goal.loop-step-preserved
loop-step-preserved c = let there : c.loop-step.at < length c.loop-step.ends = grind (arith, c.get.ensures.lookup, c.in-Some-None.is) in (
  ends_more c.args.list.now c.loop-step.ends c.loop-step.at c.args.end there c.loop-step.invariant.0 c.loop-step.invariant.1,
  ends_copied c.args.list.now c.loop-step.at c.in-Some.of c.args.end (subst (λ (cells : List LooseCell). c.loop-step.at < length cells) c.cells-cells.ensures.cells c.in-Some.ensures.some.0)
      (ap (λ (cells : List LooseCell). slice_index_or cells c.loop-step.at (Const false)) (sym c.cells-cells.ensures.cells) ∙ c.in-Some.ensures.some.1) c.loop-step.invariant.1,
)
