use Rattle.std.proofs.Common.{◌≡◌, ◌++◌, take}
use Rattle.std.specs.List.{flat_map}
use Rattle.bb_cnf.specs.Lines.{pair_text}
use Rattle.bb_cnf.proofs.printer.put_pairs.Given as goal

abbrev pub invariant-loop-pair : goal.invariant-loop-pair
invariant-loop-pair l = l.into.items ≡ l.initial.into.items ++ flat_map pair_text (take l.pair-index l.pairs)
