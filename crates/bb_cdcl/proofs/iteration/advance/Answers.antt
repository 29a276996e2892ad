use Rattle.bb_cdcl.proofs.Derived.{derived_longer}
use Rattle.bb_cdcl.proofs.Measured.{push_less}
use Rattle.bb_cdcl.proofs.iteration.advance.Goals as goal

pub returns : goal.returns
returns c = (
  derived_longer _ _ _ _ c.requires.derived c.in_ok-extend.ensures.learned c.in_ok-extend.ensures.steps c.in_ok-extend.ensures.entries c.requires.reason,
  record {
    ready = c.in_ok-extend.ensures.ready;
    less = push_less _ _ _ _ _ c.in_ok-extend.ensures.same c.in_ok-extend.ensures.entries c.in_ok-extend.ensures.within;
    same = c.in_ok-extend.ensures.same;
  },
)
