use Rattle.std.proofs.Common.{take}
use Rattle.std.specs.Prelude.{filter}
use Rattle.std.specs.List.{flat_map}
use Rattle.bb_design.specs.Hierarchy.{Path}
use Rattle.bb_design.specs.NetBits.{bits_of_net}
use Rattle.bb_bits.specs.Inside.Places.{AreAt}
use Rattle.bb_blast.specs.Inside.BitBlasting.{is_port_of}
use Rattle.bb_blast.proofs.net_starts.port_bits.Given as goal

abbrev pub invariant-loop-k : goal.invariant-loop-k
invariant-loop-k l = (path : Path) → AreAt (flat_map (bits_of_net path) l.nets) l.bits.items (flat_map (bits_of_net path) (filter (is_port_of l.input) (take l.k l.nets)))
