use Rattle.std.proofs.Common.{◌<◌, length, take, subst, sym, arith}
use Rattle.std.specs.Prelude.{All}
use Rattle.std.specs.List.{flat_map}
use Rattle.std.proofs.lemmas.List.{take_all}
use Rattle.bb_elab.specs.Inside.DrivenNumbers.{part_numbers}
use Rattle.bb_elab.proofs.Tallies.{tally_more, tally_whole, flat_more, all_of_one}
use Rattle.bb_elab.proofs.drivers.count_parts.Goals as goal

pub count_part-requires-clause-there : goal.count_part-requires-clause-there
count_part-requires-clause-there c =
    all_of_one c.args.parts.now c.loop-part.part-index c.part-item.result c.loop-part-test.true c.part-item.is (λ k. k < length c.loop-part.counts) (part_numbers c.args.placed.now c.args.scope.now)
    (subst (λ n. All (λ k. k < n) (flat_map (part_numbers c.args.placed.now c.args.scope.now) c.args.parts.now)) (sym c.loop-part.auto.counts) c.requires.there)

pub loop-part-preserved : goal.loop-part-preserved
loop-part-preserved c =
    tally_more c.args.counts.now c.loop-part.counts c.count_part.new.counts (flat_map (part_numbers c.args.placed.now c.args.scope.now) (take c.loop-part.part-index c.args.parts.now)) _ _ c.loop-part.invariant c.count_part.ensures.tally
    (flat_more c.args.parts.now c.loop-part.part-index c.part-item.result c.loop-part-test.true c.part-item.is (part_numbers c.args.placed.now c.args.scope.now))

pub returns : goal.returns
returns c = record {
  tally = tally_whole (flat_map (part_numbers c.args.placed.now c.args.scope.now)) c.args.parts.now c.loop-part.part-index c.args.counts.now c.loop-part.counts (take_all c.loop-part.part-index c.args.parts.now (omega (arith, c.loop-part-test.false))) c.loop-part.invariant;
}
