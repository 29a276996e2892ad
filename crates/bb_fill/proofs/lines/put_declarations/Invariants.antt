use Rattle.std.proofs.Common.{◌++◌, codes, take}
use Rattle.std.specs.List.{flat_map}
use Rattle.bb_fill.specs.Words.{printed}
use Rattle.bb_fill.specs.Inside.TextBuffers.{Adds}
use Rattle.bb_fill.proofs.lines.put_declarations.Given as goal

abbrev pub invariant-loop-name : goal.invariant-loop-name
invariant-loop-name l = Adds l.initial.out l.out (flat_map (λ name. l.kind ++ printed name ++ codes ";\n") (take l.name-index l.names))
