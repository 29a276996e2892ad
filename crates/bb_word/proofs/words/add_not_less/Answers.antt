use Rattle.std.proofs.Common.{map}
use Rattle.bb_word.specs.Circuits.{less}
use Rattle.bb_word.specs.Laws.Formulas.{formulas}
use Rattle.bb_word.proofs.FoldSteps.{IsInverted}
use Rattle.bb_word.proofs.words.add_not_less.Goals as goal

pub returns-clause-made : goal.returns-clause-made
returns-clause-made c =
    IsInverted c.args.net.now c.add_less.new.net c.add_complement.new.net c.in_ok-less.less c.in_ok-place.place (λ part. less formulas formulas.zero (map part c.args.left.now) (map part c.args.right.now)) c.in_ok-less.ensures.made c.in_ok-place.ensures.ok c.in_ok-place.ensures.place
