use Rattle.std.proofs.Common.{◌≡◌, ◌+◌, ◌<◌, ◌≤◌, [], All, ◌∙◌, subst, inr}
use Rattle.std.specs.Prelude.{IsSome, None}
use Rattle.bb_lemmas.proofs.Tests.{if_err}
use Rattle.bb_net.specs.Pairs.{pin_count}
use Rattle.bb_match.specs.declared.fault.MatchFault.TheVariants.{PortDiffers, RegDiffers, TooManyPins}
use Rattle.bb_net.specs.CutPoints.{state_texts}
use Rattle.bb_match.specs.Refusals.{AreAmong, Box, SpecInput, SpecOutput, ImpInput, ImpOutput, SpecRegister, ImpRegister, SpecClock, ImpClock, Clocks, Pins, Fit, most_pins}
use Rattle.bb_match.proofs.Decisions.{none_at_first, none_more, fit_from}
use Rattle.bb_match.proofs.CheckLemmas.{if_err_weaker, on_ok_weaker, MayRefuse, past_care, refusal, Missing, WithBox, box_reported, WithoutClock, clock_reported}
use Rattle.bb_match.proofs.checking.check.Goals as goal

pub returns-in_err-check_boxes-clause-fault : goal.returns-in_err-check_boxes-clause-fault
returns-in_err-check_boxes-clause-fault c =
    let spec = c.args.spec.now in
    let imp = c.args.imp.now in
    let fault = c.in_err-check_boxes.field-0.0 in
    if_err c.from_residual.result (MayRefuse None spec imp) fault c.from_residual.ensures.1 (refusal None spec imp Box fault (none_at_first None spec imp) (box_reported None spec imp fault (subst (WithBox fault) c.boxes.ensures.boxes c.in_err-check_boxes.ensures.fault)))

pub returns-in_err-check_ports-clause-fault : goal.returns-in_err-check_ports-clause-fault
returns-in_err-check_ports-clause-fault c =
    let spec = c.args.spec.now in
    let imp = c.args.imp.now in
    let b1 = past_care spec imp (subst (λ l. l ≡ []) c.boxes.ensures.boxes c.in_ok-check_boxes.ensures.ok) in
    let fault = c.in_err-check_ports.field-0.0 in
    if_err c.from_residual-in_err-check_ports.result (MayRefuse None spec imp) fault c.from_residual-in_err-check_ports.ensures.1 (refusal None spec imp SpecInput fault b1 (subst (Missing PortDiffers imp.ins fault) c.ins.ensures.ins (c.in_err-check_ports.ensures.fault imp.ins c.requires.of_imp.ins)))

pub returns-in_err-check_ports-2-clause-fault : goal.returns-in_err-check_ports-2-clause-fault
returns-in_err-check_ports-2-clause-fault c =
    let spec = c.args.spec.now in
    let imp = c.args.imp.now in
    let b1 = past_care spec imp (subst (λ l. l ≡ []) c.boxes.ensures.boxes c.in_ok-check_boxes.ensures.ok) in
    let b2 = none_more None spec imp SpecInput b1 (subst (λ t. AreAmong t imp.ins) c.ins.ensures.ins (c.in_ok-check_ports.ensures.ok imp.ins c.requires.of_imp.ins)) in
    let fault = c.in_err-check_ports-2.field-0.0 in
    if_err c.from_residual-in_err-check_ports-2.result (MayRefuse None spec imp) fault c.from_residual-in_err-check_ports-2.ensures.1 (refusal None spec imp SpecOutput fault b2 (subst (Missing PortDiffers imp.outs fault) c.outs.ensures.outs (c.in_err-check_ports-2.ensures.fault imp.outs c.requires.of_imp.outs)))

pub returns-in_err-check_ports-3-clause-fault : goal.returns-in_err-check_ports-3-clause-fault
returns-in_err-check_ports-3-clause-fault c =
    let spec = c.args.spec.now in
    let imp = c.args.imp.now in
    let b1 = past_care spec imp (subst (λ l. l ≡ []) c.boxes.ensures.boxes c.in_ok-check_boxes.ensures.ok) in
    let b2 = none_more None spec imp SpecInput b1 (subst (λ t. AreAmong t imp.ins) c.ins.ensures.ins (c.in_ok-check_ports.ensures.ok imp.ins c.requires.of_imp.ins)) in
    let b3 = none_more None spec imp SpecOutput b2 (subst (λ t. AreAmong t imp.outs) c.outs.ensures.outs (c.in_ok-check_ports-2.ensures.ok imp.outs c.requires.of_imp.outs)) in
    let fault = c.in_err-check_ports-3.field-0.0 in
    if_err c.from_residual-in_err-check_ports-3.result (MayRefuse None spec imp) fault c.from_residual-in_err-check_ports-3.ensures.1 (refusal None spec imp ImpInput fault b3 (subst (Missing PortDiffers spec.ins fault) c.ins-2.ensures.ins (c.in_err-check_ports-3.ensures.fault spec.ins c.requires.of_spec.ins)))

pub returns-in_err-check_ports-4-clause-fault : goal.returns-in_err-check_ports-4-clause-fault
returns-in_err-check_ports-4-clause-fault c =
    let spec = c.args.spec.now in
    let imp = c.args.imp.now in
    let b1 = past_care spec imp (subst (λ l. l ≡ []) c.boxes.ensures.boxes c.in_ok-check_boxes.ensures.ok) in
    let b2 = none_more None spec imp SpecInput b1 (subst (λ t. AreAmong t imp.ins) c.ins.ensures.ins (c.in_ok-check_ports.ensures.ok imp.ins c.requires.of_imp.ins)) in
    let b3 = none_more None spec imp SpecOutput b2 (subst (λ t. AreAmong t imp.outs) c.outs.ensures.outs (c.in_ok-check_ports-2.ensures.ok imp.outs c.requires.of_imp.outs)) in
    let b4 = none_more None spec imp ImpInput b3 (subst (λ t. AreAmong t spec.ins) c.ins-2.ensures.ins (c.in_ok-check_ports-3.ensures.ok spec.ins c.requires.of_spec.ins)) in
    let fault = c.in_err-check_ports-4.field-0.0 in
    if_err c.from_residual-in_err-check_ports-4.result (MayRefuse None spec imp) fault c.from_residual-in_err-check_ports-4.ensures.1 (refusal None spec imp ImpOutput fault b4 (subst (Missing PortDiffers spec.outs fault) c.outs-2.ensures.outs (c.in_err-check_ports-4.ensures.fault spec.outs c.requires.of_spec.outs)))

pub returns-in_err-check_registers-clause-fault : goal.returns-in_err-check_registers-clause-fault
returns-in_err-check_registers-clause-fault c =
    let spec = c.args.spec.now in
    let imp = c.args.imp.now in
    let b1 = past_care spec imp (subst (λ l. l ≡ []) c.boxes.ensures.boxes c.in_ok-check_boxes.ensures.ok) in
    let b2 = none_more None spec imp SpecInput b1 (subst (λ t. AreAmong t imp.ins) c.ins.ensures.ins (c.in_ok-check_ports.ensures.ok imp.ins c.requires.of_imp.ins)) in
    let b3 = none_more None spec imp SpecOutput b2 (subst (λ t. AreAmong t imp.outs) c.outs.ensures.outs (c.in_ok-check_ports-2.ensures.ok imp.outs c.requires.of_imp.outs)) in
    let b4 = none_more None spec imp ImpInput b3 (subst (λ t. AreAmong t spec.ins) c.ins-2.ensures.ins (c.in_ok-check_ports-3.ensures.ok spec.ins c.requires.of_spec.ins)) in
    let b5 = none_more None spec imp ImpOutput b4 (subst (λ t. AreAmong t spec.outs) c.outs-2.ensures.outs (c.in_ok-check_ports-4.ensures.ok spec.outs c.requires.of_spec.outs)) in
    let fault = c.in_err-check_registers.field-0.0 in
    if_err c.from_residual-in_err-check_registers.result (MayRefuse None spec imp) fault c.from_residual-in_err-check_registers.ensures.1 (refusal None spec imp SpecRegister fault b5 (subst (Missing RegDiffers (state_texts imp) fault) (c.deref.ensures.value ∙ c.requires.of_spec.texts) (c.in_err-check_registers.ensures.fault (state_texts imp) c.requires.of_imp.regs)))

pub returns-in_err-check_registers-2-clause-fault : goal.returns-in_err-check_registers-2-clause-fault
returns-in_err-check_registers-2-clause-fault c =
    let spec = c.args.spec.now in
    let imp = c.args.imp.now in
    let b1 = past_care spec imp (subst (λ l. l ≡ []) c.boxes.ensures.boxes c.in_ok-check_boxes.ensures.ok) in
    let b2 = none_more None spec imp SpecInput b1 (subst (λ t. AreAmong t imp.ins) c.ins.ensures.ins (c.in_ok-check_ports.ensures.ok imp.ins c.requires.of_imp.ins)) in
    let b3 = none_more None spec imp SpecOutput b2 (subst (λ t. AreAmong t imp.outs) c.outs.ensures.outs (c.in_ok-check_ports-2.ensures.ok imp.outs c.requires.of_imp.outs)) in
    let b4 = none_more None spec imp ImpInput b3 (subst (λ t. AreAmong t spec.ins) c.ins-2.ensures.ins (c.in_ok-check_ports-3.ensures.ok spec.ins c.requires.of_spec.ins)) in
    let b5 = none_more None spec imp ImpOutput b4 (subst (λ t. AreAmong t spec.outs) c.outs-2.ensures.outs (c.in_ok-check_ports-4.ensures.ok spec.outs c.requires.of_spec.outs)) in
    let b6 = none_more None spec imp SpecRegister b5 (subst (λ t. AreAmong t (state_texts imp)) (c.deref.ensures.value ∙ c.requires.of_spec.texts) (c.in_ok-check_registers.ensures.ok (state_texts imp) c.requires.of_imp.regs)) in
    let fault = c.in_err-check_registers-2.field-0.0 in
    if_err c.from_residual-in_err-check_registers-2.result (MayRefuse None spec imp) fault c.from_residual-in_err-check_registers-2.ensures.1 (refusal None spec imp ImpRegister fault b6 (subst (Missing RegDiffers (state_texts spec) fault) (c.deref-2.ensures.value ∙ c.requires.of_imp.texts) (c.in_err-check_registers-2.ensures.fault (state_texts spec) c.requires.of_spec.regs)))

pub returns-in_err-check_clocks-clause-fault : goal.returns-in_err-check_clocks-clause-fault
returns-in_err-check_clocks-clause-fault c =
    let spec = c.args.spec.now in
    let imp = c.args.imp.now in
    let b1 = past_care spec imp (subst (λ l. l ≡ []) c.boxes.ensures.boxes c.in_ok-check_boxes.ensures.ok) in
    let b2 = none_more None spec imp SpecInput b1 (subst (λ t. AreAmong t imp.ins) c.ins.ensures.ins (c.in_ok-check_ports.ensures.ok imp.ins c.requires.of_imp.ins)) in
    let b3 = none_more None spec imp SpecOutput b2 (subst (λ t. AreAmong t imp.outs) c.outs.ensures.outs (c.in_ok-check_ports-2.ensures.ok imp.outs c.requires.of_imp.outs)) in
    let b4 = none_more None spec imp ImpInput b3 (subst (λ t. AreAmong t spec.ins) c.ins-2.ensures.ins (c.in_ok-check_ports-3.ensures.ok spec.ins c.requires.of_spec.ins)) in
    let b5 = none_more None spec imp ImpOutput b4 (subst (λ t. AreAmong t spec.outs) c.outs-2.ensures.outs (c.in_ok-check_ports-4.ensures.ok spec.outs c.requires.of_spec.outs)) in
    let b6 = none_more None spec imp SpecRegister b5 (subst (λ t. AreAmong t (state_texts imp)) (c.deref.ensures.value ∙ c.requires.of_spec.texts) (c.in_ok-check_registers.ensures.ok (state_texts imp) c.requires.of_imp.regs)) in
    let b7 = none_more None spec imp ImpRegister b6 (subst (λ t. AreAmong t (state_texts spec)) (c.deref-2.ensures.value ∙ c.requires.of_imp.texts) (c.in_ok-check_registers-2.ensures.ok (state_texts spec) c.requires.of_spec.regs)) in
    let fault = c.in_err-check_clocks.field-0.0 in
    if_err c.from_residual-in_err-check_clocks.result (MayRefuse None spec imp) fault c.from_residual-in_err-check_clocks.ensures.1 (refusal None spec imp SpecClock fault b7 (clock_reported spec fault (subst (WithoutClock fault) c.regs.ensures.regs c.in_err-check_clocks.ensures.fault)))

pub returns-in_err-check_clocks-2-clause-fault : goal.returns-in_err-check_clocks-2-clause-fault
returns-in_err-check_clocks-2-clause-fault c =
    let spec = c.args.spec.now in
    let imp = c.args.imp.now in
    let b1 = past_care spec imp (subst (λ l. l ≡ []) c.boxes.ensures.boxes c.in_ok-check_boxes.ensures.ok) in
    let b2 = none_more None spec imp SpecInput b1 (subst (λ t. AreAmong t imp.ins) c.ins.ensures.ins (c.in_ok-check_ports.ensures.ok imp.ins c.requires.of_imp.ins)) in
    let b3 = none_more None spec imp SpecOutput b2 (subst (λ t. AreAmong t imp.outs) c.outs.ensures.outs (c.in_ok-check_ports-2.ensures.ok imp.outs c.requires.of_imp.outs)) in
    let b4 = none_more None spec imp ImpInput b3 (subst (λ t. AreAmong t spec.ins) c.ins-2.ensures.ins (c.in_ok-check_ports-3.ensures.ok spec.ins c.requires.of_spec.ins)) in
    let b5 = none_more None spec imp ImpOutput b4 (subst (λ t. AreAmong t spec.outs) c.outs-2.ensures.outs (c.in_ok-check_ports-4.ensures.ok spec.outs c.requires.of_spec.outs)) in
    let b6 = none_more None spec imp SpecRegister b5 (subst (λ t. AreAmong t (state_texts imp)) (c.deref.ensures.value ∙ c.requires.of_spec.texts) (c.in_ok-check_registers.ensures.ok (state_texts imp) c.requires.of_imp.regs)) in
    let b7 = none_more None spec imp ImpRegister b6 (subst (λ t. AreAmong t (state_texts spec)) (c.deref-2.ensures.value ∙ c.requires.of_imp.texts) (c.in_ok-check_registers-2.ensures.ok (state_texts spec) c.requires.of_spec.regs)) in
    let b8 = none_more None spec imp SpecClock b7 (subst (λ l. All (λ r. IsSome r.clock) l) c.regs.ensures.regs c.in_ok-check_clocks.ensures.ok) in
    let fault = c.in_err-check_clocks-2.field-0.0 in
    if_err c.from_residual-in_err-check_clocks-2.result (MayRefuse None spec imp) fault c.from_residual-in_err-check_clocks-2.ensures.1 (refusal None spec imp ImpClock fault b8 (clock_reported imp fault (subst (WithoutClock fault) c.regs-2.ensures.regs c.in_err-check_clocks-2.ensures.fault)))

pub returns-in_err-check_same_clocks-clause-fault : goal.returns-in_err-check_same_clocks-clause-fault
returns-in_err-check_same_clocks-clause-fault c =
    let spec = c.args.spec.now in
    let imp = c.args.imp.now in
    let b1 = past_care spec imp (subst (λ l. l ≡ []) c.boxes.ensures.boxes c.in_ok-check_boxes.ensures.ok) in
    let b2 = none_more None spec imp SpecInput b1 (subst (λ t. AreAmong t imp.ins) c.ins.ensures.ins (c.in_ok-check_ports.ensures.ok imp.ins c.requires.of_imp.ins)) in
    let b3 = none_more None spec imp SpecOutput b2 (subst (λ t. AreAmong t imp.outs) c.outs.ensures.outs (c.in_ok-check_ports-2.ensures.ok imp.outs c.requires.of_imp.outs)) in
    let b4 = none_more None spec imp ImpInput b3 (subst (λ t. AreAmong t spec.ins) c.ins-2.ensures.ins (c.in_ok-check_ports-3.ensures.ok spec.ins c.requires.of_spec.ins)) in
    let b5 = none_more None spec imp ImpOutput b4 (subst (λ t. AreAmong t spec.outs) c.outs-2.ensures.outs (c.in_ok-check_ports-4.ensures.ok spec.outs c.requires.of_spec.outs)) in
    let b6 = none_more None spec imp SpecRegister b5 (subst (λ t. AreAmong t (state_texts imp)) (c.deref.ensures.value ∙ c.requires.of_spec.texts) (c.in_ok-check_registers.ensures.ok (state_texts imp) c.requires.of_imp.regs)) in
    let b7 = none_more None spec imp ImpRegister b6 (subst (λ t. AreAmong t (state_texts spec)) (c.deref-2.ensures.value ∙ c.requires.of_imp.texts) (c.in_ok-check_registers-2.ensures.ok (state_texts spec) c.requires.of_spec.regs)) in
    let b8 = none_more None spec imp SpecClock b7 (subst (λ l. All (λ r. IsSome r.clock) l) c.regs.ensures.regs c.in_ok-check_clocks.ensures.ok) in
    let b9 = none_more None spec imp ImpClock b8 (subst (λ l. All (λ r. IsSome r.clock) l) c.regs-2.ensures.regs c.in_ok-check_clocks-2.ensures.ok) in
    let fault = c.in_err-check_same_clocks.field-0.0 in
    if_err c.from_residual-in_err-check_same_clocks.result (MayRefuse None spec imp) fault c.from_residual-in_err-check_same_clocks.ensures.1 (refusal None spec imp Clocks fault b9 (c.in_err-check_same_clocks.ensures.fault))

pub returns-clause-ok : goal.returns-clause-ok
returns-clause-ok c =
    let spec = c.args.spec.now in
    let imp = c.args.imp.now in
    let b1 = past_care spec imp (subst (λ l. l ≡ []) c.boxes.ensures.boxes c.in_ok-check_boxes.ensures.ok) in
    let b2 = none_more None spec imp SpecInput b1 (subst (λ t. AreAmong t imp.ins) c.ins.ensures.ins (c.in_ok-check_ports.ensures.ok imp.ins c.requires.of_imp.ins)) in
    let b3 = none_more None spec imp SpecOutput b2 (subst (λ t. AreAmong t imp.outs) c.outs.ensures.outs (c.in_ok-check_ports-2.ensures.ok imp.outs c.requires.of_imp.outs)) in
    let b4 = none_more None spec imp ImpInput b3 (subst (λ t. AreAmong t spec.ins) c.ins-2.ensures.ins (c.in_ok-check_ports-3.ensures.ok spec.ins c.requires.of_spec.ins)) in
    let b5 = none_more None spec imp ImpOutput b4 (subst (λ t. AreAmong t spec.outs) c.outs-2.ensures.outs (c.in_ok-check_ports-4.ensures.ok spec.outs c.requires.of_spec.outs)) in
    let b6 = none_more None spec imp SpecRegister b5 (subst (λ t. AreAmong t (state_texts imp)) (c.deref.ensures.value ∙ c.requires.of_spec.texts) (c.in_ok-check_registers.ensures.ok (state_texts imp) c.requires.of_imp.regs)) in
    let b7 = none_more None spec imp ImpRegister b6 (subst (λ t. AreAmong t (state_texts spec)) (c.deref-2.ensures.value ∙ c.requires.of_imp.texts) (c.in_ok-check_registers-2.ensures.ok (state_texts spec) c.requires.of_spec.regs)) in
    let b8 = none_more None spec imp SpecClock b7 (subst (λ l. All (λ r. IsSome r.clock) l) c.regs.ensures.regs c.in_ok-check_clocks.ensures.ok) in
    let b9 = none_more None spec imp ImpClock b8 (subst (λ l. All (λ r. IsSome r.clock) l) c.regs-2.ensures.regs c.in_ok-check_clocks-2.ensures.ok) in
    let b10 = none_more None spec imp Clocks b9 (c.in_ok-check_same_clocks.ensures.ok) in
    on_ok_weaker c.check_pins.result (c.net.result.now.inputs + pin_count c.net.result.now.boxes ≤ most_pins) (Fit None spec imp)
    (λ few. fit_from None spec imp (none_more None spec imp Pins b10 (subst (λ n. n.inputs + pin_count n.boxes ≤ most_pins) c.net.ensures.net few))) c.check_pins.ensures.ok

pub returns-clause-fault : goal.returns-clause-fault
returns-clause-fault c =
    let spec = c.args.spec.now in
    let imp = c.args.imp.now in
    let b1 = past_care spec imp (subst (λ l. l ≡ []) c.boxes.ensures.boxes c.in_ok-check_boxes.ensures.ok) in
    let b2 = none_more None spec imp SpecInput b1 (subst (λ t. AreAmong t imp.ins) c.ins.ensures.ins (c.in_ok-check_ports.ensures.ok imp.ins c.requires.of_imp.ins)) in
    let b3 = none_more None spec imp SpecOutput b2 (subst (λ t. AreAmong t imp.outs) c.outs.ensures.outs (c.in_ok-check_ports-2.ensures.ok imp.outs c.requires.of_imp.outs)) in
    let b4 = none_more None spec imp ImpInput b3 (subst (λ t. AreAmong t spec.ins) c.ins-2.ensures.ins (c.in_ok-check_ports-3.ensures.ok spec.ins c.requires.of_spec.ins)) in
    let b5 = none_more None spec imp ImpOutput b4 (subst (λ t. AreAmong t spec.outs) c.outs-2.ensures.outs (c.in_ok-check_ports-4.ensures.ok spec.outs c.requires.of_spec.outs)) in
    let b6 = none_more None spec imp SpecRegister b5 (subst (λ t. AreAmong t (state_texts imp)) (c.deref.ensures.value ∙ c.requires.of_spec.texts) (c.in_ok-check_registers.ensures.ok (state_texts imp) c.requires.of_imp.regs)) in
    let b7 = none_more None spec imp ImpRegister b6 (subst (λ t. AreAmong t (state_texts spec)) (c.deref-2.ensures.value ∙ c.requires.of_imp.texts) (c.in_ok-check_registers-2.ensures.ok (state_texts spec) c.requires.of_spec.regs)) in
    let b8 = none_more None spec imp SpecClock b7 (subst (λ l. All (λ r. IsSome r.clock) l) c.regs.ensures.regs c.in_ok-check_clocks.ensures.ok) in
    let b9 = none_more None spec imp ImpClock b8 (subst (λ l. All (λ r. IsSome r.clock) l) c.regs-2.ensures.regs c.in_ok-check_clocks-2.ensures.ok) in
    let b10 = none_more None spec imp Clocks b9 (c.in_ok-check_same_clocks.ensures.ok) in
    if_err_weaker c.check_pins.result (λ fault. (fault ≡ TooManyPins) × (most_pins < c.net.result.now.inputs + pin_count c.net.result.now.boxes)) (MayRefuse None spec imp)
    (λ fault reported. refusal None spec imp Pins fault b10 (inr ([], reported.0, subst (λ n. most_pins < n.inputs + pin_count n.boxes) c.net.ensures.net reported.1))) c.check_pins.ensures.fault
