use Rattle.std.proofs.Common.{◌≡◌, [], take, map}
use Rattle.bb_ast.specs.Inside.Views.{module_view}
use Rattle.bb_names.specs.Faults.{module_faults}
use Rattle.bb_bits.specs.Earlier.{each_after}
use Rattle.bb_names.proofs.checking.check_modules.Given as goal

abbrev pub invariant-loop-place : goal.invariant-loop-place
invariant-loop-place l = each_after (module_faults (map module_view l.fn.source)) (map module_view (take l.place l.fn.source)) ≡ []
