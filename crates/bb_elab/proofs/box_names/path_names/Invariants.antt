use Rattle.std.proofs.Common.{◌≡◌, map, take}
use Rattle.std.specs.List.{AllZip}
use Rattle.bb_design.specs.Hierarchy.{Design, boxes}
use Rattle.bb_blast.specs.Inside.Placements.{IsScopeAt, ArePlaced}
use Rattle.bb_design.specs.Texts.{path_text}
use Rattle.bb_elab.proofs.box_names.path_names.Given as goal

abbrev pub invariant-loop-scope : goal.invariant-loop-scope
invariant-loop-scope l = (d : Design) → ArePlaced d l.placed → AllZip (IsScopeAt d) l.scopes (boxes d) → l.paths.items ≡ map (λ s. path_text s.path) (take l.scope-index (boxes d))
