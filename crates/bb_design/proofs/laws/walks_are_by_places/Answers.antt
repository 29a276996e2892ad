use Rattle.bb_design.proofs.WalksByPlaces.{walks_are_by_places}
use Rattle.bb_design.proofs.laws.walks_are_by_places.Goals as goal

pub returns : goal.returns
returns c = walks_are_by_places
