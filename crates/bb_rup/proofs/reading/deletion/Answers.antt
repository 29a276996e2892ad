use Rattle.std.proofs.Common.{[], sym, ap, ◌∙◌}
use Rattle.std.proofs.lemmas.Result.{IfOk-weaker}
use Rattle.bb_rup.specs.Inside.Ahead.{words_with, literals_to_end}
use Rattle.bb_rup.proofs.reading.deletion.Goals as goal

pub returns-clause-ok : goal.returns-clause-ok
returns-clause-ok c =
    IfOk-weaker c.literals.result _ _
    (λ place e. (
      c.literals.new.into.items,
      ap (literals_to_end c.args.vars []) c.in-Some.ensures.words ∙ ap (λ done. literals_to_end c.args.vars done (words_with c.in-Some.first)) (sym c.new-lits.ensures.items) ∙ e,
    ))
    c.literals.ensures.ok
