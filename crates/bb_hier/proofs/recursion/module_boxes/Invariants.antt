use Rattle.std.proofs.Common.{◌≡◌, map, take}
use Rattle.std.specs.List.{enumerate_from}
use Rattle.bb_hier.specs.Inside.Recursions.{module_pins}
use Rattle.bb_hier.proofs.recursion.module_boxes.Given as goal

abbrev pub invariant-loop-place : goal.invariant-loop-place
invariant-loop-place l = l.boxes.items ≡ map module_pins (enumerate_from 0 (map (λ list. list.items) (take l.place l.callees)))
