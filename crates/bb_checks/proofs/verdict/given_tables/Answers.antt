use Rattle.std.proofs.Common.{sym}
use Rattle.bb_checks.proofs.verdict.given_tables.Goals as goal

pub returns-in-Some-clause-some : goal.returns-in-Some-clause-some
returns-in-Some-clause-some c =
    let gave = c.in-Some.ensures.some in
    (c.line-item.result, gave.0, (c.loop-line.line-index, c.loop-line-test.true, sym c.line-item.is), gave.1, gave.2)
