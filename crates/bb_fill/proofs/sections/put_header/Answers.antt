use Rattle.std.proofs.Common.{◌∙◌, ap, ap₂, false}
use Rattle.bb_fill.specs.Inside.Ports.{begun_after, port_texts}
use Rattle.bb_fill.proofs.PortLists.{ports_joined}
use Rattle.bb_fill.proofs.TextBuffers.{both, same}
use Rattle.bb_fill.proofs.sections.put_header.Goals as goal

pub returns : goal.returns
returns c =
    let f = c.args.flat.now in
    let first = same (ap (port_texts false) c.ins.ensures.ins) c.put_ports-begun.ensures.adds in
    let second = same (ap₂ port_texts (c.put_ports-begun.ensures.begun ∙ ap (begun_after false) c.ins.ensures.ins) c.outs.ensures.outs) c.put_ports.ensures.adds in
    record { adds = λ stem. both (both c.put.ensures.adds (same (ports_joined f.ins f.outs) (both first second))) c.put-2.ensures.adds }
