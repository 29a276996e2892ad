use Rattle.bb_match.proofs.laws.fitting_have_pair.Goals as goal

pub returns : goal.returns
returns c = λ care shared spec imp flat_spec flat_imp fit. (let kept = c.fitting_have_kept_pair.ensures care shared spec imp flat_spec flat_imp fit in (kept.0, kept.2))
