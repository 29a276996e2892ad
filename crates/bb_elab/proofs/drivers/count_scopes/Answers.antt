use Rattle.std.proofs.Common.{take, arith}
use Rattle.std.specs.List.{flat_map}
use Rattle.std.proofs.lemmas.List.{take_all}
use Rattle.bb_elab.specs.Inside.DrivenNumbers.{scope_numbers}
use Rattle.bb_elab.proofs.Tallies.{tally_more, tally_whole, flat_more}
use Rattle.bb_elab.proofs.drivers.count_scopes.Goals as goal

pub loop-scope-preserved : goal.loop-scope-preserved
loop-scope-preserved c =
    tally_more c.args.counts.now c.loop-scope.counts c.count_scope.new.counts (flat_map (scope_numbers c.args.placed.now c.args.templates.now) (take c.loop-scope.scope-index c.args.placed.now)) _ _ c.loop-scope.invariant c.count_scope.ensures.tally
    (flat_more c.args.placed.now c.loop-scope.scope-index c.scope-item.result c.loop-scope-test.true c.scope-item.is (scope_numbers c.args.placed.now c.args.templates.now))

pub returns : goal.returns
returns c = record {
  tally = tally_whole (flat_map (scope_numbers c.args.placed.now c.args.templates.now)) c.args.placed.now c.loop-scope.scope-index c.args.counts.now c.loop-scope.counts (take_all c.loop-scope.scope-index c.args.placed.now (omega (arith, c.loop-scope-test.false))) c.loop-scope.invariant;
}
