use Rattle.std.proofs.Common.{refl, length}
use Rattle.bb_net.proofs.FirstBoxes.{firsts_there, shown_firsts}
use Rattle.bb_net.proofs.KindNumbers.{shown_counts, shown_occurs, shown_places}
use Rattle.bb_net.proofs.ShownLists.{shown_again, shown_new}
use Rattle.bb_net.proofs.kinds.kinds_are_shown.Goals as goal

pub returns-clause-count : goal.returns-clause-count
returns-clause-count c start = λ kinds xs k ordered len. shown_counts kinds xs ordered len k

pub returns-clause-first : goal.returns-clause-first
returns-clause-first c start = λ kinds xs none b ordered len h first. shown_occurs kinds xs none ordered len b h first

pub returns-clause-again : goal.returns-clause-again
returns-clause-again c start = shown_again

pub returns-clause-new : goal.returns-clause-new
returns-clause-new c start = shown_new

pub returns-clause-places : goal.returns-clause-places
returns-clause-places c start = λ xs. shown_places (length xs) xs refl

pub returns-clause-firsts : goal.returns-clause-firsts
returns-clause-firsts c start = λ kinds xs none ordered len. shown_firsts kinds xs none ordered len

pub returns-clause-there : goal.returns-clause-there
returns-clause-there c start = firsts_there
