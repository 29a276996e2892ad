use Rattle.std.proofs.Common.{◌≡◌, ◌++◌, [], ap, sym, ◌∙◌, subst, map, append-nil}
use Rattle.std.proofs.lemmas.Result.{on_ok_weaker}
use Rattle.std.specs.Prelude.{OnOk}
use Rattle.bb_ast.specs.Syntax.{Nets, Assign, Gates, Calls}
use Rattle.bb_ast.specs.Inside.Views.{body_view, named_view, call_view, arm_view, gate_view, module_view}
use Rattle.bb_names.specs.Declarations.{declared_by, net_declaration}
use Rattle.bb_names.specs.Inside.Firsts.{noted}
use Rattle.bb_names.specs.Sites.{declared_sites, item_sites}
use Rattle.bb_names.specs.Inside.Summaries.{named, Describes}
use Rattle.bb_names.proofs.faults.items.look_at_item.Goals as goal

pub returns-in-Ports-clause-noted : goal.returns-in-Ports-clause-noted
returns-in-Ports-clause-noted c = λ before h.
    let text = map module_view c.args.source.now in
    let m = module_view c.args.of.now in
    let same = ap (λ b. item_sites text before (body_view b)) c.in-Ports.is in
    subst (λ s. OnOk c.look_at_names.result (c.look_at_names.new.found ≡ noted text m c.args.found.now s)) (ap (declared_sites before) (ap (map (λ n. named n c.port.result)) c.deref.ensures.value ∙ (λ i. map (λ n. c.port.ensures n i) c.in-Ports.names.items)) ∙ sym same) (c.look_at_names.ensures.noted text before h)

pub returns-in-Ports-clause-declared : goal.returns-in-Ports-clause-declared
returns-in-Ports-clause-declared c = λ before h.
    subst (λ z. OnOk c.look_at_names.result (Describes c.look_at_names.new.earlier.entries (before ++ z))) (ap (map (λ n. named n c.port.result)) c.deref.ensures.value ∙ (λ i. map (λ n. c.port.ensures n i) c.in-Ports.names.items) ∙ sym (ap (λ b. declared_by (body_view b)) c.in-Ports.is)) (c.look_at_names.ensures.declared before h)

pub returns-in-Regs-clause-noted : goal.returns-in-Regs-clause-noted
returns-in-Regs-clause-noted c = λ before h.
    let text = map module_view c.args.source.now in
    let m = module_view c.args.of.now in
    let same = ap (λ b. item_sites text before (body_view b)) c.in-Regs.is in
    subst (λ s. OnOk c.look_at_names-in-Regs.result (c.look_at_names-in-Regs.new.found ≡ noted text m c.args.found.now s)) (ap (declared_sites before) (ap (map (λ n. named n c.net.result)) c.deref-in-Regs.ensures.value ∙ (λ i. map (λ n. c.net.ensures n i) c.in-Regs.names.items)) ∙ sym same) (c.look_at_names-in-Regs.ensures.noted text before h)

pub returns-in-Regs-clause-declared : goal.returns-in-Regs-clause-declared
returns-in-Regs-clause-declared c = λ before h.
    subst (λ z. OnOk c.look_at_names-in-Regs.result (Describes c.look_at_names-in-Regs.new.earlier.entries (before ++ z))) (ap (map (λ n. named n c.net.result)) c.deref-in-Regs.ensures.value ∙ (λ i. map (λ n. c.net.ensures n i) c.in-Regs.names.items) ∙ sym (ap (λ b. declared_by (body_view b)) c.in-Regs.is)) (c.look_at_names-in-Regs.ensures.declared before h)

pub returns-in-Supply-clause-noted : goal.returns-in-Supply-clause-noted
returns-in-Supply-clause-noted c = λ before h.
    let text = map module_view c.args.source.now in
    let m = module_view c.args.of.now in
    let same = ap (λ b. item_sites text before (body_view b)) c.in-Supply.is in
    subst (λ s. OnOk c.look_at_names-in-Supply.result (c.look_at_names-in-Supply.new.found ≡ noted text m c.args.found.now s)) (ap (declared_sites before) (ap (map (λ n. named n c.net-d.result)) c.deref-in-Supply.ensures.value ∙ (λ i. map (λ n. c.net-d.ensures n i) c.in-Supply.names.items) ∙ ap (λ k. map (net_declaration k c.in-Supply.range) c.in-Supply.names.items) c.supply_kind_of.ensures) ∙ sym same) (c.look_at_names-in-Supply.ensures.noted text before h)

pub returns-in-Supply-clause-declared : goal.returns-in-Supply-clause-declared
returns-in-Supply-clause-declared c = λ before h.
    subst (λ z. OnOk c.look_at_names-in-Supply.result (Describes c.look_at_names-in-Supply.new.earlier.entries (before ++ z))) (ap (map (λ n. named n c.net-d.result)) c.deref-in-Supply.ensures.value ∙ (λ i. map (λ n. c.net-d.ensures n i) c.in-Supply.names.items) ∙ ap (λ k. map (net_declaration k c.in-Supply.range) c.in-Supply.names.items) c.supply_kind_of.ensures ∙ sym (ap (λ b. declared_by (body_view b)) c.in-Supply.is)) (c.look_at_names-in-Supply.ensures.declared before h)

pub returns-in-Nets-clause-noted : goal.returns-in-Nets-clause-noted
returns-in-Nets-clause-noted c = λ before h.
    let text = map module_view c.args.source.now in
    let m = module_view c.args.of.now in
    let same = ap (λ b. item_sites text before (body_view b)) c.in-Nets.is in
    subst (λ s. OnOk c.look_at_nets.result (c.look_at_nets.new.found ≡ noted text m c.args.found.now s)) (ap (λ xs. item_sites text before (Nets c.in-Nets.range (map named_view xs))) c.deref-in-Nets.ensures.value ∙ sym same) (c.look_at_nets.ensures.noted text before h)

pub returns-in-Nets-clause-declared : goal.returns-in-Nets-clause-declared
returns-in-Nets-clause-declared c = λ before h.
    subst (λ z. OnOk c.look_at_nets.result (Describes c.look_at_nets.new.earlier.entries (before ++ z))) (ap (λ xs. declared_by (Nets c.in-Nets.range (map named_view xs))) c.deref-in-Nets.ensures.value ∙ sym (ap (λ b. declared_by (body_view b)) c.in-Nets.is)) (c.look_at_nets.ensures.declared before h)

pub returns-in-Calls-clause-noted : goal.returns-in-Calls-clause-noted
returns-in-Calls-clause-noted c = λ before h.
    let text = map module_view c.args.source.now in
    let m = module_view c.args.of.now in
    let same = ap (λ b. item_sites text before (body_view b)) c.in-Calls.is in
    subst (λ s. OnOk c.look_at_calls.result (c.look_at_calls.new.found ≡ noted text m c.args.found.now s)) (ap (λ xs. item_sites text before (Calls c.in-Calls.target (map call_view xs))) c.deref-in-Calls.ensures.value ∙ sym same) (c.look_at_calls.ensures.noted before h)

pub returns-in-Calls-clause-declared : goal.returns-in-Calls-clause-declared
returns-in-Calls-clause-declared c = λ before h.
    subst (λ z. OnOk c.look_at_calls.result (Describes c.look_at_calls.new.earlier.entries (before ++ z))) (ap (λ xs. declared_by (Calls c.in-Calls.target (map call_view xs))) c.deref-in-Calls.ensures.value ∙ sym (ap (λ b. declared_by (body_view b)) c.in-Calls.is)) (c.look_at_calls.ensures.declared before h)

pub returns-in-Assign-clause-noted : goal.returns-in-Assign-clause-noted
returns-in-Assign-clause-noted c = λ before h.
    let text = map module_view c.args.source.now in
    let m = module_view c.args.of.now in
    let same = ap (λ b. item_sites text before (body_view b)) c.in-Assign.is in
    subst (λ s. OnOk c.look_at_assigned.result (c.look_at_assigned.new.found ≡ noted text m c.args.found.now s)) (ap (λ xs. item_sites text before (Assign (map arm_view xs))) c.deref-in-Assign.ensures.value ∙ sym same) (c.look_at_assigned.ensures.noted text)

pub returns-in-Assign-clause-declared : goal.returns-in-Assign-clause-declared
returns-in-Assign-clause-declared c = λ before h.
    on_ok_weaker c.look_at_assigned.result (λ _. subst (Describes c.args.earlier.now.entries) (sym (ap (λ b. before ++ declared_by (body_view b)) c.in-Assign.is ∙ append-nil before)) h) (c.look_at_assigned.ensures.noted [])

pub returns-in-Gates-clause-noted : goal.returns-in-Gates-clause-noted
returns-in-Gates-clause-noted c = λ before h.
    let text = map module_view c.args.source.now in
    let m = module_view c.args.of.now in
    let same = ap (λ b. item_sites text before (body_view b)) c.in-Gates.is in
    subst (λ s. OnOk c.look_at_gates.result (c.look_at_gates.new.found ≡ noted text m c.args.found.now s)) (ap (λ xs. item_sites text before (Gates c.in-Gates.gate (map gate_view xs))) c.deref-in-Gates.ensures.value ∙ sym same) (c.look_at_gates.ensures.noted text)

pub returns-in-Gates-clause-declared : goal.returns-in-Gates-clause-declared
returns-in-Gates-clause-declared c = λ before h.
    on_ok_weaker c.look_at_gates.result (λ _. subst (Describes c.args.earlier.now.entries) (sym (ap (λ b. before ++ declared_by (body_view b)) c.in-Gates.is ∙ append-nil before)) h) (c.look_at_gates.ensures.noted [])

pub returns-in-Always-clause-noted : goal.returns-in-Always-clause-noted
returns-in-Always-clause-noted c = λ before h.
    let text = map module_view c.args.source.now in
    let m = module_view c.args.of.now in
    let same = ap (λ b. item_sites text before (body_view b)) c.in-Always.is in
    subst (λ s. OnOk c.look_at_register.result (c.look_at_register.new.found ≡ noted text m c.args.found.now s)) (sym same) (c.look_at_register.ensures.noted text)

pub returns-in-Always-clause-declared : goal.returns-in-Always-clause-declared
returns-in-Always-clause-declared c = λ before h.
    on_ok_weaker c.look_at_register.result (λ _. subst (Describes c.args.earlier.now.entries) (sym (ap (λ b. before ++ declared_by (body_view b)) c.in-Always.is ∙ append-nil before)) h) (c.look_at_register.ensures.noted [])
