use Rattle.std.proofs.Common.{◌≡◌, ◌+◌, length, map, refl, sym, ap, ◌∙◌, subst, arith}
use Rattle.std.proofs.lemmas.List.{length-map}
use Rattle.std.proofs.lemmas.Result.{IfOk-weaker}
use Rattle.bb_names.specs.Inside.Checked.{syntax}
use Rattle.bb_design.specs.NetBits.{net_order, top_inputs}
use Rattle.bb_blast.specs.Inside.Placements.{IsStoredAt, AreStored}
use Rattle.bb_design.specs.Registers.{RegisterBit, registers, cut_bits}
use Rattle.bb_design.specs.Texts.{bit_text}
use Rattle.bb_lemmas.proofs.Zips.{zip_length}
use Rattle.bb_elab.proofs.NamedBits.{at_long}
use Rattle.bb_elab.proofs.NamedRegisters.{inputs_few, clocks_fit}
use Rattle.bb_elab.proofs.register_names.named_registers.Goals as goal

pub top_template-top-requires : goal.top_template-top-requires
top_template-top-requires c = let given = c.requires.design in record { design = (map syntax c.args.checked.now, given.0, given.3) }

pub overflow_cast-limit : goal.overflow_cast-limit
overflow_cast-limit c =
    let given = c.requires.design in
    let d = given.0 in
    let list = c.args.list.now in
    let long : c.len-limit.result ≡ length (top_inputs d) = omega (arith, c.len-limit.ensures, at_long (net_order d) _ (top_inputs d) (c.top_template-top.ensures.inputs (map syntax c.args.checked.now) d given.3)) in
    let small = inputs_few c.laws_of_cells.ensures d list given.1 given.2 given.4 c.lists_are_loose.ensures given.3.finite.bounded in
    omega (arith, long, small, c.laws_of_cells.ensures.few_inputs d given.4.lowering list given.4.listed (length (top_inputs d)) refl)

pub registers-requires-clause-long : goal.registers-requires-clause-long
registers-requires-clause-long c =
    let given = c.requires.design in
    let d = given.0 in
    ap length given.5 ∙ length-map (registers d) (λ (r : RegisterBit). bit_text d r.bit) ∙ sym (zip_length (IsStoredAt d) c.args.elaborated.now.stored.items (registers d) given.3.elaborated.registers) ∙ ap length (sym c.deref.ensures.value)

pub registers-requires-clause-fits : goal.registers-requires-clause-fits
registers-requires-clause-fits c =
    let given = c.requires.design in
    let d = given.0 in
    let first : 2 + c.input_count-first.result ≡ 2 + length (cut_bits d) = omega (arith, c.input_count-first.ensures.count, given.4.listed.inputs) in
    clocks_fit c.laws_of_cells.ensures d c.args.list.now given.1 given.2 given.4 c.lists_are_loose.ensures given.3.finite.bounded (2 + c.input_count-first.result) first c.deref.result.now (subst (AreStored d) (sym c.deref.ensures.value) given.3.elaborated.registers)

pub returns : goal.returns
returns c = record {
  registers = IfOk-weaker c.registers.result _ _ (λ regs is d net numbers has are texts.
      let first : 2 + c.input_count-first.result ≡ 2 + length (cut_bits d) = omega (arith, c.input_count-first.ensures.count, are.listed.inputs) in
      let limit : c.len-limit.result ≡ length (top_inputs d) = omega (arith, c.len-limit.ensures, at_long (net_order d) _ (top_inputs d) (c.top_template-top.ensures.inputs (map syntax c.args.checked.now) d has)) in
      is d net numbers has.finite.bounded has.elaborated.once are first limit (subst (AreStored d) (sym c.deref.ensures.value) has.elaborated.registers) texts) c.registers.ensures.registers;
}
