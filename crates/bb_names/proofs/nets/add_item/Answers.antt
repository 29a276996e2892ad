use Rattle.std.proofs.Common.{ap, sym, ◌∙◌, refl, map, map-id}
use Rattle.std.proofs.lemmas.Result.{on_ok_weaker}
use Rattle.bb_ast.specs.Inside.Views.{body_view, named_view, call_view}
use Rattle.bb_names.specs.declared.net.NetKind.TheVariants.{Wire, Reg}
use Rattle.bb_names.specs.Declarations.{port_declaration, net_declaration, supply_kind, instance_declaration}
use Rattle.bb_names.specs.Inside.NetLists.{all_placed, nets_declared_by}
use Rattle.bb_names.proofs.NetLemmas.{declared-names, no_nets}
use Rattle.bb_names.proofs.nets.add_item.Goals as goal

pub returns-in-Ports : goal.returns-in-Ports
returns-in-Ports c =
    let same = ap (λ b. nets_declared_by (body_view b)) c.in-Ports.is ∙ declared-names (port_declaration c.in-Ports.field-0) (λ n. n) (λ n. refl) (λ n. refl) c.in-Ports.more.items ∙ map-id c.in-Ports.more.items in
    on_ok_weaker c.add_names.result (λ step. step ∙ ap (all_placed c.args.index.now.entries) (c.deref.ensures.value ∙ sym same)) c.add_names.ensures

pub returns-in-Regs : goal.returns-in-Regs
returns-in-Regs c =
    let same = ap (λ b. nets_declared_by (body_view b)) c.in-Regs.is ∙ declared-names (net_declaration Reg c.in-Regs.field-0) (λ n. n) (λ n. refl) (λ n. refl) c.in-Regs.more.items ∙ map-id c.in-Regs.more.items in
    on_ok_weaker c.add_names-in-Regs.result (λ step. step ∙ ap (all_placed c.args.index.now.entries) (c.deref-in-Regs.ensures.value ∙ sym same)) c.add_names-in-Regs.ensures

pub returns-in-Supply : goal.returns-in-Supply
returns-in-Supply c =
    let same = ap (λ b. nets_declared_by (body_view b)) c.in-Supply.is ∙ declared-names (net_declaration (supply_kind c.in-Supply.field-0) c.in-Supply.field-1) (λ n. n) (λ n. refl) (λ n. refl) c.in-Supply.more.items ∙ map-id c.in-Supply.more.items in
    on_ok_weaker c.add_names-in-Supply.result (λ step. step ∙ ap (all_placed c.args.index.now.entries) (c.deref-in-Supply.ensures.value ∙ sym same)) c.add_names-in-Supply.ensures

pub returns-in-Nets : goal.returns-in-Nets
returns-in-Nets c =
    let same = ap (λ b. nets_declared_by (body_view b)) c.in-Nets.is ∙ declared-names (λ x. net_declaration Wire c.in-Nets.field-0 x.0) (λ x. x.0) (λ n. refl) (λ n. refl) (map named_view c.in-Nets.all.items) in
    on_ok_weaker c.add_wires.result (λ step. step ∙ ap (all_placed c.args.index.now.entries) (ap (λ xs. map (λ x. x.0) (map named_view xs)) c.deref-in-Nets.ensures.value ∙ sym same)) c.add_wires.ensures

pub returns-in-Calls : goal.returns-in-Calls
returns-in-Calls c = sym (ap (λ b. all_placed c.args.index.now.entries (nets_declared_by (body_view b))) c.in-Calls.is ∙ ap (all_placed c.args.index.now.entries) (no_nets (λ x. instance_declaration x.0) (λ x. refl) (map call_view c.in-Calls.field-1.items)))
