-- Why a list of cells cannot be put in order.
use Rattle.bb_net.specs.declared.ordering.NetFault.{NetFault}
use Rattle.bb_net.specs.declared.ordering.NetFault.TheVariants.{Loop, NoMemory}
use Rattle.bb_net.specs.Loose.{LooseList, IsLeastOnClosedWalk}

-- a loop is reported by its least place; of want of memory nothing is said
abbrev pub IsFaultOf : LooseList → NetFault → Type 0
IsFaultOf l (Loop place) = IsLeastOnClosedWalk l place
IsFaultOf l NoMemory = Unit {0}
