use Rattle.std.proofs.Common.{length, subst, sym}
use Rattle.bb_blast.specs.Inside.Logic.{IsLogicAmong}
use Rattle.bb_blast.proofs.gate_cells.add_terminals.Goals as goal

pub add_one_bit-requires : goal.add_one_bit-requires
add_one_bit-requires c = record {
  below = subst (IsLogicAmong (length c.args.spot.starts.now)) (sym c.logic-item.is) (c.requires.ins c.loop-logic.logic-index c.logic-item.result c.loop-logic-test.true);
}
