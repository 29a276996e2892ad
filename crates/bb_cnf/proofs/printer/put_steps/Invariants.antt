use Rattle.std.proofs.Common.{◌≡◌, ◌++◌, take}
use Rattle.bb_cnf.specs.Lines.{step_lines}
use Rattle.bb_cnf.proofs.printer.put_steps.Given as goal

abbrev pub invariant-loop-place : goal.invariant-loop-place
invariant-loop-place l = l.into.items ≡ l.initial.into.items ++ step_lines l.first (take l.place l.steps)
