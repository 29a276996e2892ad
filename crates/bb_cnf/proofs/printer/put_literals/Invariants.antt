use Rattle.std.proofs.Common.{◌≡◌, ◌++◌, take}
use Rattle.std.specs.List.{flat_map}
use Rattle.bb_cnf.specs.Lines.{literal_text}
use Rattle.bb_cnf.proofs.printer.put_literals.Given as goal

abbrev pub invariant-loop-lit : goal.invariant-loop-lit
invariant-loop-lit l = l.into.items ≡ l.initial.into.items ++ flat_map literal_text (take l.lit-index l.lits)
