use Rattle.std.proofs.Common.{ℕ, [], Vec, Global, ap, sym, ◌∙◌, arith, if◌then◌else◌}
use Rattle.bb_hier.proofs.RecursionLoops.{kept_more, all_kept}
use Rattle.bb_hier.proofs.recursion.forget_unmarked.Goals as goal

pub loop-k-preserved : goal.loop-k-preserved
loop-k-preserved c =
    kept_more c.args.top c.args.marks.now c.args.callees.now c.loop-k.callees c.loop-k.k c.index-callees-k.result c.keep_or_clear.new.list c.is_kept.result c.loop-k.invariant
    (omega (arith, c.loop-k-test.true, c.loop-k.invariant.whole)) c.index-callees-k.is (c.keep_or_clear.ensures.kept ∙ ap (λ (x : Vec ℕ Global). if c.is_kept.result then x.items else []) (sym c.index-callees-k.is)) c.is_kept.ensures

pub returns : goal.returns
returns c = record { kept = all_kept c.args.top c.args.marks.now c.args.callees.now c.loop-k.callees c.loop-k.k c.loop-k.invariant (omega (arith, c.loop-k-test.false, c.loop-k.invariant.whole)) }
