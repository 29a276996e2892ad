use Rattle.bb_equiv.proofs.UnrolledInvariants.{kept_are_invariants}
use Rattle.bb_equiv.proofs.invariant_laws.kept_are_invariants.Goals as goal

pub returns : goal.returns
returns c = kept_are_invariants c.lower_laws.ensures c.laws_of_designs.ensures (record { exists = c.value_exists.ensures; unique = c.value_is_unique.ensures })
