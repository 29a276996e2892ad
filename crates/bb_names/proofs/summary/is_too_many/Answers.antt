use Rattle.std.proofs.Common.{arith}
use Rattle.bb_names.proofs.summary.is_too_many.Goals as goal

pub returns : goal.returns
returns c = λ n. grind (arith, c.is_second.ensures, c.if-is_second.false, c.is_second-else-is_second.ensures, c.if-is_second-2.false, c.if-s.false, c.if-d.false, c.is_other_range.ensures n)
