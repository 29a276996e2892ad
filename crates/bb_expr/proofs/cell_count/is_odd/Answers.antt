use Rattle.std.proofs.Common.{sym}
use Rattle.bb_expr.proofs.ShareLemmas.{odd-remainder}
use Rattle.bb_expr.proofs.cell_count.is_odd.Goals as goal

pub returns : goal.returns
returns c = sym (odd-remainder c.args.count)
