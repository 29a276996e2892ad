use Rattle.std.proofs.Common.{◌++◌, map, take}
use Rattle.bb_names.specs.Inside.Summaries.{named}
use Rattle.bb_names.proofs.DeclaredLists.{turn-names, end-names}
use Rattle.bb_names.proofs.declaring.declare_names.Goals as goal

pub loop-name-preserved : goal.loop-name-preserved
loop-name-preserved c = λ all before.
    turn-names c.declare.new.declared.entries all (λ n. named n c.args.d) c.args.names.now c.loop-name.name-index c.name-item.result c.loop-name-test.true c.name-item.is
    (c.in_ok-declare.ensures (all ++ map (λ n. named n c.args.d) (take c.loop-name.name-index c.args.names.now)) (c.loop-name.invariant all before))

pub returns : goal.returns
returns c = λ all before. end-names c.loop-name.declared.entries all (λ n. named n c.args.d) c.args.names.now c.loop-name.name-index c.loop-name-test.false (c.loop-name.invariant all before)
