use Rattle.std.proofs.Common.{◌≡◌, take}
use Rattle.std.specs.List.{fold}
use Rattle.bb_blast.specs.Inside.Listing.{Joining, joined_to}
use Rattle.bb_blast.proofs.gate_cells.add_joins.Given as goal

abbrev pub invariant-loop-terminal : goal.invariant-loop-terminal
invariant-loop-terminal l = ◌≡◌ {A = Joining} (record { cells = l.cells.items; place = l.place }) (fold (joined_to l.start l.gate) (record { cells = l.initial.cells.items; place = l.initial.place }) (take l.terminal-index l.rest))
