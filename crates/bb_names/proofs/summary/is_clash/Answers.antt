use Rattle.std.proofs.Common.{sym, ap, ◌∙◌, subst}
use Rattle.bb_names.specs.Inside.Summaries.{named, leaves_no_room, IsSummary}
use Rattle.bb_names.proofs.ClashLemmas.{clash_some, clash_none}
use Rattle.bb_names.proofs.summary.is_clash.Goals as goal

pub returns-in-Some : goal.returns-in-Some
returns-in-Some c = λ m n all port h.
    c.is_too_many.ensures n ∙ ap (λ p. leaves_no_room p (named n c.args.d) c.in-Some.s) port ∙ sym (clash_some m n c.args.d all c.in-Some.s (subst (IsSummary n all) c.in-Some.is h))

pub returns-in-None : goal.returns-in-None
returns-in-None c = λ m n all port h. sym (clash_none m n c.args.d all (subst (IsSummary n all) c.in-None.is h))
