use Rattle.std.proofs.Common.{◌≡◌, take}
use Rattle.bb_blast.specs.Inside.Listing.{Terminals, with_terminals}
use Rattle.bb_blast.proofs.gate_cells.add_terminals.Given as goal

abbrev pub invariant-loop-logic : goal.invariant-loop-logic
invariant-loop-logic l = ◌≡◌ {A = Terminals} (record { cells = l.cells.items; places = l.places.items }) (with_terminals l.spot.others l.spot.bits l.spot.starts.now l.initial.cells.items (take l.logic-index l.ins))
