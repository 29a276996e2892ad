use Rattle.std.proofs.Common.{ap, ◌∙◌, sym}
use Rattle.bb_cnf.specs.Inside.PartialResolvent.{held}
use Rattle.bb_cdcl.proofs.Analyzed.{covered_start, covered_down, passed}
use Rattle.bb_cdcl.proofs.analysis.has_at.Goals as goal

pub returns-clause-covered : goal.returns-clause-covered
returns-clause-covered c is all = covered_start _ _ _ c.entry_at-entry.result c.entry_at-entry.ensures all (ap (held c.args.resolvent.now) (sym c.negation.ensures) ∙ sym c.has.ensures ∙ is)

pub returns-clause-passed : goal.returns-clause-passed
returns-clause-passed c is all = passed _ _ _ c.entry_at-entry.result c.entry_at-entry.ensures (ap (held c.args.resolvent.now) (sym c.negation.ensures) ∙ sym c.has.ensures ∙ is) all

pub returns-clause-lower : goal.returns-clause-lower
returns-clause-lower c is top covered = covered_down _ _ _ _ c.entry_at-entry.result c.entry_at-entry.ensures (ap (held c.args.resolvent.now) (sym c.negation.ensures) ∙ sym c.has.ensures ∙ is) covered
