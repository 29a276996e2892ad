use Rattle.std.proofs.Common.{◌≡◌, ◌≤◌, length}
use Rattle.bb_uniq.specs.Inside.Meaning.{truth_of}
use Rattle.bb_sym.specs.Inside.Made.{Makes, Represents}
use Rattle.bb_input.proofs.ChoiceSteps.{from_box, functions_from, AreNoted}
use Rattle.bb_input.proofs.choosing.quantify_boxes.Given as goal

abbrev pub invariant-loop-left : goal.invariant-loop-left
invariant-loop-left l =
    let t = truth_of l.fn.d.store l.fn.f.0 in
    (l.left ≤ length l.boxes) × Represents l.d.store (from_box l.boxes t l.left) l.r × Makes l.fn.d.store l.d.store (functions_from l.boxes t l.left)
    × (length l.stages ≡ length l.boxes) × AreNoted l.d.store l.boxes t l.left l.stages

abbrev pub decreases-loop-left : goal.decreases-loop-left
decreases-loop-left l = l.left
