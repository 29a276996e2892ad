use Rattle.std.proofs.Common.{◌∙◌}
use Rattle.bb_strash.specs.Inside.Windows.{IsWindow}
use Rattle.bb_expand.proofs.WindowLemmas.{never_in_window}
use Rattle.bb_expand.proofs.cones.search_cell.Goals as goal

pub returns-in-Nowhere-clause-zero : goal.returns-in-Nowhere-clause-zero
returns-in-Nowhere-clause-zero c =
    let part = c.in-Some.part.net in
    let leaves = c.in-Some.part.leaves.items in
    let window : IsWindow c.args.net.now c.args.place part leaves = rw c.in-Some.is at c.in_ok-part.ensures in
    let nowhere = rw c.in-Nowhere.is at c.in_ok-by_solver.ensures.nowhere in
    never_in_window c.bits.ensures.constants c.args.net.now part c.in_ok-zero.zero c.args.place c.len-2.result leaves window c.in_ok-zero.ensures (c.len-2.ensures ∙ c.in-Some.part.leaves.ok.0) nowhere
