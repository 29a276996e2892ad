use Rattle.std.proofs.Common.{◌<◌, ◌/◌, length, subst, sym}
use Rattle.bb_make.proofs.Lengths.{imp-length, spec-length}
use Rattle.bb_make.proofs.pair.texts.Goals as goal

pub returns-clause-short : goal.returns-clause-short
returns-clause-short c = (
  subst (λ t. length t < 65536) (sym c.in_ok-spec.ensures.text) (spec-length c.args.n c.requires.width.1),
  subst (λ t. length t < 65536) (sym c.in_ok-imp.ensures.text) (imp-length c.args.n (c.args.n / 2) c.requires.width.1),
)
