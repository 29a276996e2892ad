use Rattle.std.proofs.Common.{◌≡◌, ◌<◌, ◌≤◌, ◌+◌, ◌^◌, ◌++◌, length, take, drop, sym, ap, ◌∙◌, arith, length-append, length-take, length-drop}
use Rattle.std.proofs.Math.Seq.{take-append_seam}
use Rattle.std.proofs.lemmas.Grind.{common_steps}
use Rattle.bb_bits.specs.Numbers.{number_of}
use Rattle.bb_uniq.specs.Inside.Meaning.{truth_of}
use Rattle.bb_input.proofs.LeastRows.{rows_more}
use Rattle.bb_input.proofs.rows.fill_rows.Goals as goal

pub loop-row-preserved : goal.loop-row-preserved
loop-row-preserved c =
    let n = c.args.d.now.store.vars in
    let t = truth_of c.args.d.now.store c.args.f.0 in
    let own = c.args.table.now.inputs in
    let k = c.inputs-inputs.result in
    let row = c.loop-row.row in
    let old = c.loop-row.point in
    let new = c.fill_row.new.point in
    let bits = c.count_up.new.bits in
    let inputs : k ≡ own = c.inputs-inputs.ensures.inputs in
    let kept = c.loop-row.invariant.0 in
    let few : own ≤ 24 = c.tables_have_few_inputs.ensures c.args.table.now c.inputs-inputs.ensures.kept c.requires.outputs in
    let low : row < 2 ^ own = grind (arith, common_steps) in
    let number : number_of (take own old) ≡ row = c.loop-row.invariant.3 low in
    let long : length new ≡ n = c.fill_row.ensures.len ∙ c.loop-row.invariant.2 in
    let prefix : length (take k new) ≡ k = omega (arith, length-take k new, long, inputs, c.requires.pins) in
    let wide : length bits ≡ k = c.count_up.ensures.len ∙ prefix in
    let begins : take k new ≡ take own old = ap (λ j. take j new) (inputs ∙ sym kept) ∙ (c.fill_row.ensures.begins ∙ ap (λ j. take j old) kept) in
    let same_inputs : c.fill_row.new.table.inputs ≡ own = c.fill_row.ensures.inputs ∙ kept in
    let first = take c.fill_row.new.table.inputs old in (
      same_inputs,
      c.fill_row.ensures.outputs ∙ c.loop-row.invariant.1,
      (let whole : length (bits ++ drop k new) ≡ n = omega (arith, length-append bits (drop k new), wide, length-drop k new, long, inputs, c.requires.pins) in whole),
      λ below.
          let power : 2 ^ length (take k new) ≡ 2 ^ own = ap (λ j. 2 ^ j) (prefix ∙ inputs) in
          let value : number_of (take k new) ≡ row = ap number_of begins ∙ number in
          let counted = c.count_up.ensures.next (omega (arith, below, power, value)) in
          ap number_of (ap (λ j. take j (bits ++ drop k new)) (sym (wide ∙ inputs)) ∙ take-append_seam bits (drop k new)) ∙ (counted ∙ ap (λ j. j + 1) value),
      rows_more c.number_spelled_once.ensures n t c.loop-row.table c.fill_row.new.table row first c.fill_row.ensures.inputs c.fill_row.ensures.outputs c.loop-row.invariant.4
          (omega (arith, length-take c.fill_row.new.table.inputs old, c.loop-row.invariant.2, same_inputs, c.requires.pins)) (ap (λ j. number_of (take j old)) same_inputs ∙ number) c.fill_row.ensures.row c.fill_row.ensures.others,
    )
