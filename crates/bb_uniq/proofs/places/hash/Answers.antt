use Rattle.std.proofs.Common.{◌*◌, ◌^◌}
use Rattle.bb_uniq.specs.Inside.Probes.{hash_of}
use Rattle.bb_uniq.proofs.ProbeLemmas.{sum_in_word}
use Rattle.bb_uniq.proofs.places.hash.Goals as goal

pub returns : goal.returns
unfolding hash_of
returns c =
    rw (c.from-var.ensures, c.from-lo.ensures, c.from-hi.ensures) (sum_in_word (c.args.node.var * 11400714819323198485) (c.args.node.lo * 13787848793156543929) (c.args.node.hi * 10723151780598845931) (2 ^ 64))
