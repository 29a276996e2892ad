use Rattle.std.proofs.Common.{◌≡◌, ◌++◌, map, take}
use Rattle.std.specs.Prelude.{zip}
use Rattle.std.specs.List.{flat_map}
use Rattle.bb_checks.specs.Rungs.{texts_at}
use Rattle.bb_checks.specs.TableLines.{box_lines}
use Rattle.bb_checks.proofs.table_lines.push_boxes.Given as goal

abbrev pub invariant-loop-k : goal.invariant-loop-k
invariant-loop-k l = l.text.items ≡ l.initial.text.items ++ flat_map (box_lines l.shared) (take l.k (zip (map (texts_at l.boxes) l.places) l.tables))
