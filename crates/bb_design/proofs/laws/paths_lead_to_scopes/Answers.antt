use Rattle.bb_design.proofs.ScopeLaws.{paths_lead_to_scopes}
use Rattle.bb_design.proofs.laws.paths_lead_to_scopes.Goals as goal

pub returns : goal.returns
returns c = paths_lead_to_scopes
