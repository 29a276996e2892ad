use Rattle.std.proofs.Common.{map, arith}
use Rattle.std.specs.List.{range_with_len}
use Rattle.bb_expr.specs.declared.step.BitStep.TheVariants as of
use Rattle.bb_expr.proofs.PlaceLemmas.{ranged-length, ranged-more}
use Rattle.bb_expr.proofs.rows.net_bits.Goals as goal

pub add-requires : goal.add-requires
add-requires c =
    omega (arith, ranged-length (of.Net c.args.net) c.args.from c.loop-turn.turn c.args.steps.now.items c.loop-turn.steps.items c.loop-turn.places.items c.loop-turn.invariant, c.requires.room, c.loop-turn-test.true)

pub loop-turn-preserved : goal.loop-turn-preserved
loop-turn-preserved c =
    ranged-more (of.Net c.args.net) c.args.from c.loop-turn.turn c.args.steps.now.items c.add.new.steps.items c.add.new.places.items
    (c.in_ok-add.ensures (map (of.Net c.args.net) (range_with_len c.args.from c.loop-turn.turn)) c.args.steps.now.items c.loop-turn.invariant)
