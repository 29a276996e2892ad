use Rattle.std.proofs.Common.{ap, ◌∙◌}
use Rattle.std.proofs.lemmas.Result.{IfOk-weaker}
use Rattle.bb_strash.specs.Inside.Extensions.{bit}
use Rattle.bb_strash.proofs.GateBits.{gives_same, implies_is_choice, one_bit, or_is_choice}
use Rattle.bb_strash.proofs.choices.add_plain_mux.Goals as goal

pub returns-then-t-eq1-clause-gives : goal.returns-then-t-eq1-clause-gives
returns-then-t-eq1-clause-gives c =
    let net = c.args.net.now in
    let one = one_bit c.bits.ensures.gates net c.keeps_its_order.ensures c.requires.none in
    IfOk-weaker c.add_or.result _ _ (λ place. gives_same c.add_or.new.net place _ _
    (λ x. or_is_choice (bit net x c.args.c) (bit net x c.args.t) (bit net x c.args.e) (ap (bit net x) c.if-t-eq1.true ∙ one x))) c.add_or.ensures.gives

pub returns-then-e-eq1-clause-gives : goal.returns-then-e-eq1-clause-gives
returns-then-e-eq1-clause-gives c =
    let net = c.args.net.now in
    let one = one_bit c.bits.ensures.gates net c.keeps_its_order.ensures c.requires.none in
    IfOk-weaker c.add_implies.result _ _ (λ place. gives_same c.add_implies.new.net place _ _
    (λ x. implies_is_choice (bit net x c.args.c) (bit net x c.args.t) (bit net x c.args.e) (ap (bit net x) c.if-e-eq1.true ∙ one x))) c.add_implies.ensures.gives
