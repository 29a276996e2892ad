use Rattle.std.proofs.Common.{◌++◌, codes}
use Rattle.std.proofs.lemmas.List.{take_all}
use Rattle.bb_fill.specs.Words.{printed}
use Rattle.bb_fill.proofs.TextBuffers.{all_of, one_more}
use Rattle.bb_fill.proofs.lines.put_declarations.Goals as goal

pub loop-name-preserved : goal.loop-name-preserved
loop-name-preserved c = one_more (λ name. c.args.kind.now ++ printed name ++ codes ";\n") c.args.names.now c.loop-name.name-index c.name-item.result c.loop-name-test.true c.name-item.is c.loop-name.invariant c.put_declaration.ensures.adds

pub returns : goal.returns
returns c = record { adds = all_of (λ name. c.args.kind.now ++ printed name ++ codes ";\n") c.args.names.now c.loop-name.name-index (take_all c.loop-name.name-index c.args.names.now c.loop-name-test.false) c.loop-name.invariant }
