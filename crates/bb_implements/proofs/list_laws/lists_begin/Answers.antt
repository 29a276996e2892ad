use Rattle.bb_implements.proofs.ListPrefixes.{lists_begin}
use Rattle.bb_implements.proofs.list_laws.lists_begin.Goals as goal

pub returns : goal.returns
returns c = lists_begin
