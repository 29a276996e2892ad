use Rattle.std.proofs.Common.{◌≡◌, map, take}
use Rattle.std.specs.List.{AllZip}
use Rattle.bb_names.specs.Inside.Checked.{syntax}
use Rattle.bb_design.specs.Hierarchy.{Design, boxes}
use Rattle.bb_blast.specs.Inside.Placements.{IsScopeAt}
use Rattle.bb_elab.specs.Inside.Stages.{IsElaborated}
use Rattle.bb_implements.specs.Implements.{box_number, box_texts}
use Rattle.bb_elab.proofs.box_names.box_names.Given as goal

abbrev pub invariant-loop-number : goal.invariant-loop-number
invariant-loop-number l = (d : Design) → IsElaborated (map syntax l.checked) d l.elaborated → AllZip (IsScopeAt d) l.boxed (boxes d) → l.names.items ≡ map (λ b. box_texts d (box_number d b)) (take l.number-index l.numbers)
