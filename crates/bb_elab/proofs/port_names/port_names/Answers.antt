use Rattle.std.proofs.Common.{map, sym, subst}
use Rattle.bb_names.specs.Inside.Checked.{syntax}
use Rattle.bb_design.specs.NetBits.{net_order, top_inputs, top_outputs}
use Rattle.bb_bits.specs.Inside.Places.{AreAt}
use Rattle.bb_lemmas.proofs.AtPlaces.{at_below}
use Rattle.bb_elab.proofs.port_names.port_names.Goals as goal

pub bit_names-requires : goal.bit_names-requires
bit_names-requires c =
    let d = c.requires.design in
    let at = c.top_template-top.ensures.inputs (map syntax c.args.checked.now) d.0 d.1 in
    record { design = (d.0, d.1, at_below (net_order d.0) _ (top_inputs d.0) (subst (λ l. AreAt (net_order d.0) l (top_inputs d.0)) (sym c.deref.ensures.value) at)) }

pub bit_names-requires-2 : goal.bit_names-requires-2
bit_names-requires-2 c =
    let d = c.requires.design in
    let at = c.top_template-top.ensures.outputs (map syntax c.args.checked.now) d.0 d.1 in
    record { design = (d.0, d.1, at_below (net_order d.0) _ (top_outputs d.0) (subst (λ l. AreAt (net_order d.0) l (top_outputs d.0)) (sym c.deref-2.ensures.value) at)) }

pub returns-clause-ins : goal.returns-clause-ins
returns-clause-ins c = λ d has. c.in_ok-bit_names.ensures.names d has (top_inputs d) (subst (λ l. AreAt (net_order d) l (top_inputs d)) (sym c.deref.ensures.value) (c.top_template-top.ensures.inputs (map syntax c.args.checked.now) d has))

pub returns-clause-outs : goal.returns-clause-outs
returns-clause-outs c = λ d has. c.in_ok-bit_names-2.ensures.names d has (top_outputs d) (subst (λ l. AreAt (net_order d) l (top_outputs d)) (sym c.deref-2.ensures.value) (c.top_template-top.ensures.outputs (map syntax c.args.checked.now) d has))
