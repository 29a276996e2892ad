use Rattle.bb_net.proofs.GrownKinds.{kinds_again, kinds_next, modules_fit, shown_differ, shows_key}
use Rattle.bb_net.proofs.kinds.keys_are_shown.Goals as goal

pub returns-clause-again : goal.returns-clause-again
returns-clause-again c = kinds_again

pub returns-clause-new : goal.returns-clause-new
returns-clause-new c = kinds_next

pub returns-clause-keys : goal.returns-clause-keys
returns-clause-keys c = λ keys kinds b are h. shows_key keys kinds are b h

pub returns-clause-differ : goal.returns-clause-differ
returns-clause-differ c = shown_differ

pub returns-clause-modules : goal.returns-clause-modules
returns-clause-modules c = modules_fit
