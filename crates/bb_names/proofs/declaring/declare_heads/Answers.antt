use Rattle.std.proofs.Common.{◌++◌, map, take}
use Rattle.std.specs.List.{flat_map}
use Rattle.bb_ast.specs.Inside.Views.{head_view}
use Rattle.bb_names.specs.Declarations.{declared_by_head}
use Rattle.bb_names.proofs.DeclaredLists.{turn-flat, end-flat}
use Rattle.bb_names.proofs.declaring.declare_heads.Goals as goal

pub loop-head-preserved : goal.loop-head-preserved
loop-head-preserved c = λ all before.
    turn-flat c.declare_head.new.declared.entries all declared_by_head head_view c.args.heads.now c.loop-head.head-index c.head-item.result c.loop-head-test.true c.head-item.is
    (c.in_ok-declare_head.ensures (all ++ flat_map declared_by_head (map head_view (take c.loop-head.head-index c.args.heads.now))) (c.loop-head.invariant all before))

pub returns : goal.returns
returns c = λ all before. end-flat c.loop-head.declared.entries all declared_by_head head_view c.args.heads.now c.loop-head.head-index c.loop-head-test.false (c.loop-head.invariant all before)
