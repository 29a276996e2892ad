use Rattle.std.proofs.Common.{arith}
use Rattle.bb_match.proofs.PairLemmas.{ins_fit}
use Rattle.bb_match.proofs.index.index_of.Goals as goal

pub places_of-requires : goal.places_of-requires
places_of-requires c = record { small = ins_fit c.args.flat.now c.ins.result.now 4294967296 c.ins.ensures.ins c.ins.ensures.kept (omega arith) }
