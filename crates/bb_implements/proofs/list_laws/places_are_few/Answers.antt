use Rattle.bb_implements.proofs.CellCounts.{places_are_few}
use Rattle.bb_implements.proofs.list_laws.places_are_few.Goals as goal

pub returns : goal.returns
returns c = places_are_few c.laws_of_designs.ensures
