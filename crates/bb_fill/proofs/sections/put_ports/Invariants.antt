use Rattle.std.proofs.Common.{◌≡◌, take}
use Rattle.bb_fill.specs.Inside.Ports.{begun_after, port_texts}
use Rattle.bb_fill.specs.Inside.TextBuffers.{Adds}
use Rattle.bb_fill.proofs.sections.put_ports.Given as goal

abbrev pub invariant-loop-name : goal.invariant-loop-name
invariant-loop-name l = Adds l.initial.out l.out (port_texts l.fn.begun (take l.name-index l.names)) × (l.begun ≡ begun_after l.fn.begun (take l.name-index l.names))
