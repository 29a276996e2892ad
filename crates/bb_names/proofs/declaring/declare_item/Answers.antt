use Rattle.std.proofs.Common.{◌++◌, ap, sym, ◌∙◌, subst, map}
use Rattle.std.specs.Prelude.{OnOk}
use Rattle.bb_ast.specs.Inside.Views.{body_view, named_view, call_view}
use Rattle.bb_names.specs.declared.net.NetKind.TheVariants.{Wire}
use Rattle.bb_names.specs.Declarations.{declared_by, net_declaration, instance_declaration}
use Rattle.bb_names.specs.Inside.Summaries.{named, Describes}
use Rattle.bb_names.proofs.declaring.declare_item.Goals as goal

pub returns-in-Ports : goal.returns-in-Ports
returns-in-Ports c = λ all before.
    let same = ap (λ b. declared_by (body_view b)) c.in-Ports.is ∙ sym (λ i. map (λ n. c.port.ensures n i) c.in-Ports.names.items) ∙ ap (map (λ n. named n c.port.result)) (sym c.deref.ensures.value) in
    subst (λ z. OnOk c.declare_names.result (Describes c.declare_names.new.declared.entries (all ++ z))) (sym same) (c.declare_names.ensures all before)

pub returns-in-Nets : goal.returns-in-Nets
returns-in-Nets c = λ all before.
    let same = ap (λ b. declared_by (body_view b)) c.in-Nets.is ∙ ap (λ xs. map (λ x. net_declaration Wire c.in-Nets.range x.0) (map named_view xs)) (sym c.deref-in-Nets.ensures.value) in
    subst (λ z. OnOk c.declare_nets.result (Describes c.declare_nets.new.declared.entries (all ++ z))) (sym same) (c.declare_nets.ensures all before)

pub returns-in-Regs : goal.returns-in-Regs
returns-in-Regs c = λ all before.
    let same = ap (λ b. declared_by (body_view b)) c.in-Regs.is ∙ sym (λ i. map (λ n. c.net.ensures n i) c.in-Regs.names.items) ∙ ap (map (λ n. named n c.net.result)) (sym c.deref-in-Regs.ensures.value) in
    subst (λ z. OnOk c.declare_names-in-Regs.result (Describes c.declare_names-in-Regs.new.declared.entries (all ++ z))) (sym same) (c.declare_names-in-Regs.ensures all before)

pub returns-in-Supply : goal.returns-in-Supply
returns-in-Supply c = λ all before.
    let same = ap (λ b. declared_by (body_view b)) c.in-Supply.is ∙ ap (λ k. map (net_declaration k c.in-Supply.range) c.in-Supply.names.items) (sym c.supply_kind_of.ensures)
    ∙ sym (λ i. map (λ n. c.net-d.ensures n i) c.in-Supply.names.items) ∙ ap (map (λ n. named n c.net-d.result)) (sym c.deref-in-Supply.ensures.value) in
    subst (λ z. OnOk c.declare_names-in-Supply.result (Describes c.declare_names-in-Supply.new.declared.entries (all ++ z))) (sym same) (c.declare_names-in-Supply.ensures all before)

pub returns-in-Calls : goal.returns-in-Calls
returns-in-Calls c = λ all before.
    let same = ap (λ b. declared_by (body_view b)) c.in-Calls.is ∙ ap (λ xs. map (λ x. instance_declaration x.0) (map call_view xs)) (sym c.deref-in-Calls.ensures.value) in
    subst (λ z. OnOk c.declare_calls.result (Describes c.declare_calls.new.declared.entries (all ++ z))) (sym same) (c.declare_calls.ensures all before)
