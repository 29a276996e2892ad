use Rattle.bb_equiv.proofs.UnrolledInvariants.{broken_are_broken}
use Rattle.bb_equiv.proofs.invariant_laws.broken_are_broken.Goals as goal

pub returns : goal.returns
returns c = broken_are_broken c.lower_laws.ensures c.laws_of_designs.ensures (record { exists = c.value_exists.ensures; unique = c.value_is_unique.ensures })
