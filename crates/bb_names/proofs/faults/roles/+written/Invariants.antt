use Rattle.std.proofs.Common.{◌≡◌, true, take, map}
use Rattle.std.specs.List.{list_all}
use Rattle.bb_ast.specs.Assignable.{is_assignable}
use Rattle.bb_ast.specs.Inside.Views.{expression}
use Rattle.bb_names.proofs.faults.roles.+written.Given as goal

abbrev pub invariant-may_all_be_written-loop-part : goal.invariant-may_all_be_written-loop-part
invariant-may_all_be_written-loop-part l = list_all is_assignable (map expression (take l.part-index l.parts)) ≡ true
