use Rattle.bb_replace.proofs.ReplacedTops.{replaced_tops_stay}
use Rattle.bb_replace.proofs.laws.replaced_tops_stay.Goals as goal

pub returns : goal.returns
returns c = replaced_tops_stay
