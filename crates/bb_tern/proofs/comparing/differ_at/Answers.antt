use Rattle.std.proofs.Common.{ℕ, List, Some, length, map, vec_items, subst₂, arith}
use Rattle.bb_tern.specs.Inside.Lanes.{bits_in, pattern_at, ReportsWrong}
use Rattle.bb_tern.proofs.Compared.{lane_reports}
use Rattle.bb_tern.proofs.comparing.differ_at.Goals as goal

pub returns-clause-marks : goal.returns-clause-marks
returns-clause-marks c = λ k inside.
    let spec = c.args.spec.now in
    let imp = c.args.imp.now in
    let word = c.differing_lanes-lanes.result in
    let wanted = c.in_ok-wanted.wanted.items in
    let given = c.in_ok-given.given.items in
    let reports : ReportsWrong (bits_in wanted k) (λ place. Some (bits_in given k place)) spec.outs imp.outs (length imp.outs) word k =
    subst₂ (λ (a b : List ℕ). ReportsWrong (bits_in a k) (λ place. Some (bits_in b k place)) spec.outs imp.outs (length imp.outs) word k) c.deref.ensures.value c.deref-2.ensures.value
    (subst₂ (λ (o p : List ℕ). ReportsWrong (bits_in c.deref.result.now k) (λ place. Some (bits_in c.deref-2.result.now k place)) o p (length p) word k) c.outs.ensures.outs c.outs-2.ensures.outs
    (c.differing_lanes-lanes.ensures k (omega (arith, inside, c.requires.count)))) in
    lane_reports spec imp c.outs.ensures.kept c.outs-2.ensures.kept c.requires.outputs (pattern_at (map vec_items c.args.patterns.now) k) k wanted given (c.in_ok-wanted.ensures.bits k inside) (c.in_ok-given.ensures.bits k inside) word _ (c.in_ok-marks.ensures.marks k inside) reports
