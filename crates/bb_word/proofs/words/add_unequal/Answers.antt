use Rattle.std.proofs.Common.{map}
use Rattle.bb_word.specs.Circuits.{equal}
use Rattle.bb_word.specs.Laws.Formulas.{formulas}
use Rattle.bb_word.proofs.FoldSteps.{IsInverted}
use Rattle.bb_word.proofs.words.add_unequal.Goals as goal

pub returns-clause-made : goal.returns-clause-made
returns-clause-made c =
    IsInverted c.args.net.now c.add_equal.new.net c.add_complement.new.net c.in_ok-equal.equal c.in_ok-place.place (λ part. equal formulas (map part c.args.left.now) (map part c.args.right.now)) c.in_ok-equal.ensures.made c.in_ok-place.ensures.ok c.in_ok-place.ensures.place
