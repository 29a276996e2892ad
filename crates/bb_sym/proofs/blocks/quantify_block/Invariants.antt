use Rattle.std.proofs.Common.{◌≤◌}
use Rattle.bb_dd.specs.Inside.Results.{quantifier}
use Rattle.bb_uniq.specs.Inside.Meaning.{truth_of}
use Rattle.bb_sym.specs.Inside.Made.{Makes, Represents}
use Rattle.bb_sym.proofs.BlockLemmas.{from_each, functions_from}
use Rattle.bb_sym.proofs.blocks.quantify_block.Given as goal

abbrev pub invariant-loop-left : goal.invariant-loop-left
invariant-loop-left l =
    let op = quantifier l.all in
    let t = truth_of l.fn.d.store l.fn.f.0 in
    (l.left ≤ l.count) × Represents l.d.store (from_each op l.first l.count t l.left) l.r × Makes l.fn.d.store l.d.store (functions_from op l.first l.count t l.left)

abbrev pub decreases-loop-left : goal.decreases-loop-left
decreases-loop-left l = l.left
