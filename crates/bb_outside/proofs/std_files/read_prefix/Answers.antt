use Rattle.std.proofs.Common.{arith}
use Rattle.std.proofs.lemmas.Grind.{common_steps}
use Rattle.bb_outside.proofs.Pieces.{prefix-full, prefix-end}
use Rattle.bb_outside.proofs.std_files.read_prefix.Goals as goal
use Rattle.bb_outside.proofs.std_files.read_prefix.Goals.{else-loop-buffer-test, then-loop-buffer-test+in-Ok+then-count-eq0}

pub returns-clause-prefix : goal.returns-clause-prefix
returns-clause-prefix g c =
    let read = c.loop-buffer.invariant.prefix in
    elim c.loop-buffer-test.branch [
      | else-loop-buffer-test w ↦ prefix-full _ _ c.args.limit c.loop-buffer.bytes.items read (grind (arith, common_steps))
      | then-loop-buffer-test+in-Ok+then-count-eq0 w ↦
          prefix-end _ _ _ c.args.limit c.loop-buffer.bytes.items _ read w.in-Ok.ensures.bytes.0 (grind (arith, common_steps))
          (w.in-Ok.ensures.bytes.1 w.if-count-eq0.true (grind (arith, common_steps))) (grind (arith, common_steps))
    ]
