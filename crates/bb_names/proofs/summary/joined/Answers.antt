use Rattle.std.proofs.Common.{◌≡◌, ◌||◌, subst, arith}
use Rattle.bb_names.specs.Inside.Summaries.{plain_ranges, IsSummary}
use Rattle.bb_names.proofs.SummaryLemmas.{joined_first, joined_more}
use Rattle.bb_names.proofs.summary.joined.Goals.{then-s, else-s}
use Rattle.bb_names.proofs.summary.joined.Goals as goal

pub returns-in-None : goal.returns-in-None
returns-in-None c = λ n all h.
    let here = subst (IsSummary n all) c.in-None.is h in
    joined_first n all c.args.d c.ranges_with.result (c.ranges_with.ensures n (plain_ranges n all) here.ranges) here

pub returns-after-s : goal.returns-after-s
returns-after-s c = λ n all h.
    let here = subst (IsSummary n all) c.in-Some.is h in
    let either : c.if-s.result ≡ (c.in-Some.s.instances || c.args.d.instance) = elim c.if-s.branch [ then-s w ↦ grind (arith, w.result-is, w.if-s) | else-s w ↦ grind (arith, w.result-is, w.if-s) ] in
    rw (c.or.ensures, c.or-in-Some.ensures, either) (joined_more n all c.in-Some.s c.args.d c.ranges_with-in-Some.result (c.ranges_with-in-Some.ensures n (plain_ranges n all) here.ranges) here)
