use Rattle.bb_elab.proofs.texts.+prefix.Given as goal

abbrev pub decreases-add_prefix : goal.decreases-add_prefix
decreases-add_prefix l = l.scope
