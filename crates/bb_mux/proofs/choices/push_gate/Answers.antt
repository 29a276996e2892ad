use Rattle.bb_mux.proofs.GateBits.{pushed, pushed_gives}
use Rattle.bb_mux.proofs.choices.push_gate.Goals as goal

pub returns-clause-gives : goal.returns-clause-gives
returns-clause-gives c =
    let old = c.args.net.now in
    let extends = pushed old c.push.new.self c.args.cell c.keeps_its_order.ensures c.keeps_its_order-2.ensures c.requires.none c.requires.gate c.in_ok-place.ensures.ok in
    pushed_gives c.bits.ensures.gates c.bits.ensures.stay old c.push.new.self c.args.cell c.in_ok-place.place extends c.requires.reads c.in_ok-place.ensures.ok c.in_ok-place.ensures.place
