use Rattle.std.proofs.Common.{arith}
use Rattle.bb_bits.proofs.TableLemmas.{few_inputs}
use Rattle.bb_bits.proofs.table.bit_count.Goals as goal

pub overflow_shl-result : goal.overflow_shl-result
overflow_shl-result c = omega (arith, few_inputs c.args.inputs c.args.outputs (omega arith) c.requires)
