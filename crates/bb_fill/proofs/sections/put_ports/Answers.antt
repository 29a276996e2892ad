use Rattle.std.proofs.Common.{◌++◌, if◌then◌else◌, codes, [], subst}
use Rattle.bb_fill.specs.Words.{printed}
use Rattle.bb_fill.specs.Inside.TextBuffers.{Adds}
use Rattle.bb_fill.proofs.PortLists.{after_more, port_more}
use Rattle.bb_fill.proofs.sections.put_ports.Goals as goal

pub loop-name-preserved : goal.loop-name-preserved
loop-name-preserved c = (
  port_more c.args.begun c.args.names.now c.loop-name.name-index c.name-item.result c.loop-name-test.true c.name-item.is c.loop-name.invariant.0
      (subst (λ b. Adds c.loop-name.out c.put_port.new.out ((if b then codes "," else []) ++ printed c.name-item.result)) c.loop-name.invariant.1 c.put_port.ensures.adds),
  after_more c.args.begun c.args.names.now c.loop-name.name-index c.name-item.result c.loop-name-test.true c.name-item.is,
)
