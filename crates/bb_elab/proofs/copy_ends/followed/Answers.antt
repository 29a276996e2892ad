use Rattle.std.proofs.Common.{◌≤◌, false, List, length, subst, sym, ap, ◌∙◌}
use Rattle.std.specs.Prelude.{slice_index_or}
use Rattle.bb_net.specs.declared.loose.LooseCell.{LooseCell}
use Rattle.bb_net.specs.declared.loose.LooseCell.TheVariants.{Const}
use Rattle.bb_elab.proofs.ClockWalks.{comes_first, comes_next, ends_kept, ends_noted, ends_soon}
use Rattle.bb_elab.proofs.copy_ends.followed.Goals as goal

pub loop-step-init : goal.loop-step-init
loop-step-init c = comes_first c.laws_of_cells.ensures c.args.list.now c.args.place

pub loop-step-preserved : goal.loop-step-preserved
loop-step-preserved c =
    comes_next c.laws_of_cells.ensures c.args.list.now c.args.place c.loop-step.at c.in-Some-copied_from.of c.loop-step._step c.loop-step.invariant
    (ap (λ (cells : List LooseCell). slice_index_or cells c.loop-step.at (Const false)) (sym c.cells-cells.ensures.cells) ∙ c.in-Some-copied_from.ensures.some.1)

pub returns-in-Some : goal.returns-in-Some
returns-in-Some c = record { end = ends_noted c.laws_of_cells.ensures c.args.list.now c.args.place c.loop-step.at c.loop-step._step c.in-Some.end c.loop-step.invariant (c.requires.ends c.loop-step.at c.in-Some.end c.in-Some.ensures.noted) }

pub returns-in_default-copied_from : goal.returns-in_default-copied_from
returns-in_default-copied_from c = record {
  end = ends_kept c.laws_of_cells.ensures c.args.list.now c.args.place c.loop-step.at c.loop-step._step c.loop-step.invariant
      (λ p copy. c.in_default-copied_from.ensures.none p (ap (λ (cells : List LooseCell). slice_index_or cells c.loop-step.at (Const false)) c.cells-cells.ensures.cells ∙ copy));
}

pub returns : goal.returns
returns c = record { end = ends_soon c.laws_of_cells.ensures c.args.list.now c.args.place c.loop-step.at c.loop-step._step c.loop-step.invariant (subst (λ (cells : List LooseCell). length cells ≤ c.loop-step._step) c.cells-cells.ensures.cells c.loop-step-test.false) }
