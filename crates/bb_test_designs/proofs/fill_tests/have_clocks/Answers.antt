use Rattle.std.proofs.Common.{[], ◌∷◌, ◌++◌, ap, not, sym, take, ◌∙◌}
use Rattle.std.specs.Prelude.{IsSome}
use Rattle.std.proofs.lemmas.List.{take_more}
use Rattle.std.proofs.lemmas.List.Elements.{All-push}
use Rattle.bb_test_designs.proofs.fill_tests.have_clocks.Goals as goal

pub loop-reg-preserved : goal.loop-reg-preserved
loop-reg-preserved c =
    let regs = c.args.regs.now in
    let before = take c.loop-reg.reg-index regs in
    let reg = c.reg-item.result in
    rw (take_more regs c.loop-reg.reg-index reg c.loop-reg-test.true ∙ ap (λ r. before ++ r ∷ []) (sym c.reg-item.is))
    (All-push (λ r. IsSome r.clock) before reg c.loop-reg.invariant (c.is_none.ensures ∙ ap not c.if-is_none.false))
