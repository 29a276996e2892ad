-- The faults of one side, and of a pair, as refusals of two texts. Lack of memory is one of its own.
use Rattle.bb_match.specs.declared.fault.MatchFault.{MatchFault}
use Rattle.bb_match.specs.declared.fault.MatchFault.TheVariants as pair
use Rattle.bb_frontend.specs.declared.refusal.Refusal.{Refusal}
use Rattle.bb_frontend.specs.declared.refusal.Refusal.TheVariants.{Spec, Imp, Pair, NoMemory}
use Rattle.bb_frontend.specs.declared.side_fault.SideFault.{SideFault}
use Rattle.bb_frontend.specs.declared.side_fault.SideFault.TheVariants as side

abbrev pub of_spec : SideFault → Refusal
of_spec (side.Token line) = Spec (side.Token line)
of_spec (side.Statement line) = Spec (side.Statement line)
of_spec (side.Deep line) = Spec (side.Deep line)
of_spec side.Unended = Spec side.Unended
of_spec (side.Named fault) = Spec (side.Named fault)
of_spec (side.Elaborated fault) = Spec (side.Elaborated fault)
of_spec side.NoMemory = NoMemory

abbrev pub of_imp : SideFault → Refusal
of_imp (side.Token line) = Imp (side.Token line)
of_imp (side.Statement line) = Imp (side.Statement line)
of_imp (side.Deep line) = Imp (side.Deep line)
of_imp side.Unended = Imp side.Unended
of_imp (side.Named fault) = Imp (side.Named fault)
of_imp (side.Elaborated fault) = Imp (side.Elaborated fault)
of_imp side.NoMemory = NoMemory

abbrev pub of_pair : MatchFault → Refusal
of_pair (pair.SpecBox n) = Pair (pair.SpecBox n)
of_pair (pair.NoCare n) = Pair (pair.NoCare n)
of_pair (pair.PortDiffers n) = Pair (pair.PortDiffers n)
of_pair (pair.RegDiffers n) = Pair (pair.RegDiffers n)
of_pair (pair.ClockNotInput n) = Pair (pair.ClockNotInput n)
of_pair (pair.ClockDiffers n) = Pair (pair.ClockDiffers n)
of_pair pair.TooManyPins = Pair pair.TooManyPins
of_pair pair.NoMemory = NoMemory
