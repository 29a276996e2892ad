use Rattle.std.proofs.Common.{length, refl, ◌∙◌, length-set}
use Rattle.bb_bits.specs.Numbers.{bits_of}
use Rattle.bb_expand.proofs.Spelled.{spelled_step, left_taken, left_whole}
use Rattle.bb_expand.proofs.numbers.spell.Goals as goal
use Rattle.bb_expand.proofs.numbers.spell.Goals.{then-power-rest, else-power-rest}

pub loop-i-preserved : goal.loop-i-preserved
loop-i-preserved c = (
  length-set c.loop-i.bits c.loop-i.i _ ∙ c.loop-i.invariant.0,
  spelled_step c.loop-i.bits (bits_of (length c.args.bits.now) c.args.number) (length c.args.bits.now) c.loop-i.i _ c.loop-i.rest c.if-power-rest.rest
      c.loop-i.invariant.0 c.loop-i-test.true c.requires.few refl (elim c.if-power-rest.branch [
        | then-power-rest w ↦ left_taken _ c.loop-i.rest c.if-power-rest.rest w.if-power-rest.true w.rest-is
        | else-power-rest w ↦ left_whole _ c.loop-i.rest c.if-power-rest.rest w.if-power-rest.false w.rest-is
      ]) c.loop-i.invariant.1,
)
