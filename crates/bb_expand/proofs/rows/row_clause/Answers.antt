use Rattle.std.proofs.Common.{◌+◌, [], ◌∷◌, ◌++◌, take, sym, ap, ◌∙◌}
use Rattle.bb_expand.specs.Expansions.{differing}
use Rattle.bb_expand.proofs.RowLemmas.{differing_more}
use Rattle.bb_expand.proofs.rows.row_clause.Goals as goal

pub loop-i-preserved : goal.loop-i-preserved
loop-i-preserved c =
    c.in_ok-push.ensures.ok
    ∙ ap (λ t. t ++ c.having.result ∷ []) c.loop-i.invariant
    ∙ ap (λ l. differing (λ pin. c.args.base + pin + 1) (take c.loop-i.i c.args.ins.now) (take c.loop-i.i c.args.row.now) ++ l ∷ []) c.having.ensures
    ∙ sym (differing_more (λ pin. c.args.base + pin + 1) c.args.ins.now c.args.row.now c.loop-i.i c.loop-i-test.true c.requires.bits)
