use Rattle.std.proofs.Common.{filter, take}
use Rattle.std.specs.List.{AllZip}
use Rattle.bb_design.specs.Hierarchy.{Design, scopes, is_box}
use Rattle.bb_blast.specs.Inside.Placements.{IsScopeAt, ArePlaced}
use Rattle.bb_elab.proofs.box_names.boxed_scopes.Given as goal

abbrev pub invariant-loop-scope : goal.invariant-loop-scope
invariant-loop-scope l = (d : Design) → ArePlaced d l.placed → AllZip (IsScopeAt d) l.boxed.items (filter is_box (take l.scope (scopes d)))
