use Rattle.std.proofs.Common.{◌<◌, ◌≤◌, length, [], arith, All, get_or, subst}
use Rattle.std.proofs.lemmas.List.{take_all}
use Rattle.std.proofs.lemmas.List.Elements.{All-more}
use Rattle.std.proofs.lemmas.Option.{slice_get-get_or}
use Rattle.bb_rup.specs.Propagation.{IsOpen}
use Rattle.bb_rup.specs.Inside.Trails.{marked}
use Rattle.bb_rup.proofs.scan.scan.Goals as goal

pub loop-number-preserved : goal.loop-number-preserved
loop-number-preserved c =
    let within : c.loop-number.number < length c.args.clauses.now = omega (arith, c.len-number-end.ensures, c.loop-number-test.true) in
    All-more (IsOpen (marked c.args.marks.now)) c.args.clauses.now c.loop-number.number [] within c.loop-number.invariant
    (c.in-Quiet.ensures.quiet c.requires (get_or c.args.clauses.now c.loop-number.number []) (slice_get-get_or c.args.clauses.now c.loop-number.number [] within))

pub returns-clause-quiet : goal.returns-clause-quiet
returns-clause-quiet c =
    let past : length c.args.clauses.now ≤ c.loop-number.number = omega (arith, c.len-number-end.ensures, c.loop-number-test.false) in
    subst (All (IsOpen (marked c.args.marks.now))) (take_all c.loop-number.number c.args.clauses.now past) c.loop-number.invariant
