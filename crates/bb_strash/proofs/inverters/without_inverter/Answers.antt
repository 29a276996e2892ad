use Rattle.std.proofs.Common.{sym, ap, not, ◌∙◌}
use Rattle.bb_strash.specs.Inside.Extensions.{bit}
use Rattle.bb_strash.proofs.GateBits.{zero_bit, one_bit, inverter_bit, inverter_reads}
use Rattle.bb_strash.proofs.inverters.without_inverter.Goals as goal

pub returns-then-a-eq1-clause-same : goal.returns-then-a-eq1-clause-same
returns-then-a-eq1-clause-same c = λ x.
    let net = c.args.net.now in
    let kept = c.keeps_its_order.ensures in
    ap (bit net x) c.if-a-eq1.true ∙ one_bit c.bits.ensures.gates net kept c.requires.none x ∙ ap not (sym (zero_bit c.bits.ensures.gates net kept c.requires.none x))

pub returns-in-Some-clause-there : goal.returns-in-Some-clause-there
returns-in-Some-clause-there c = inverter_reads c.bits.ensures.gates c.args.net.now c.keeps_its_order.ensures c.requires.none c.args.a c.in-Some.b c.requires.there c.in-Some.ensures

pub returns-in-Some-clause-same : goal.returns-in-Some-clause-same
returns-in-Some-clause-same c = λ x.
    inverter_bit c.bits.ensures.gates c.args.net.now c.keeps_its_order.ensures c.requires.none x c.args.a c.in-Some.b c.requires.there c.in-Some.ensures
