use Rattle.std.proofs.Common.{◌∙◌, ℕ, Global}
use Rattle.std.specs.Prelude.{Vec}
use Rattle.std.proofs.lemmas.Result.{IfOk-weaker}
use Rattle.bb_expr.proofs.InstantiateWords.{adds-fold, one-out, places-count}
use Rattle.bb_expr.proofs.circuits.fold.Goals as goal

pub returns-clause-made : goal.returns-clause-made
returns-clause-made c = λ nets m old x.
    let one = one-out c.args.op c.args.bits.now c.in_ok-net.net c.in_ok-net.ensures.value in
    IfOk-weaker _ _ _ (λ (places : Vec ℕ Global) p.
    adds-fold c.args.op nets m old c.args.steps.now.items c.instantiate.new.steps.items c.args.bits.now places.items c.in_ok-net.net c.requires.some c.in_ok-net.ensures.circuit one c.in_ok-net.ensures.count p x) c.instantiate.ensures

pub returns-clause-count : goal.returns-clause-count
returns-clause-count c =
    let one = one-out c.args.op c.args.bits.now c.in_ok-net.net c.in_ok-net.ensures.value in
    IfOk-weaker _ _ _ (λ (places : Vec ℕ Global) p. places-count c.in_ok-net.net c.args.bits.now places.items c.args.steps.now.items c.instantiate.new.steps.items p ∙ one) c.instantiate.ensures
