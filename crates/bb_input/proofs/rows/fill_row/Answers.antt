use Rattle.std.proofs.Common.{◌≡◌, ◌-◌, List, Bool, length, take, drop, sym, ap, ◌∙◌, subst, subst₂, arith, length-take, length-drop, take_all}
use Rattle.bb_bits.specs.Tables.{row_of}
use Rattle.bb_uniq.specs.Inside.Meaning.{truth_of}
use Rattle.bb_input.specs.Inside.Rows.{IsLeastRow}
use Rattle.bb_input.proofs.LeastRows.{yes, least_row}
use Rattle.bb_input.proofs.rows.fill_row.Goals as goal

pub returns-clause-row : goal.returns-clause-row
returns-clause-row c =
    let n = c.args.d.now.store.vars in
    let t = truth_of c.args.d.now.store c.args.f.0 in
    let old = c.args.point.now in
    let new = c.least.new.point in
    let table = c.args.table.now in
    let k = c.inputs-inputs.result in
    let inputs : k ≡ table.inputs = c.inputs-inputs.ensures.inputs in
    let some = c.requires.some (take table.inputs old) (omega (arith, length-take table.inputs old, c.requires.point, c.requires.pins)) in
    let found = c.least.ensures.found (yes c.least.result (λ none. c.least.ensures.none none some.0 (some.1 ∙ sym c.requires.point, ap (λ j. take j some.0) inputs ∙ (some.2 ∙ ap (λ j. take j old) (sym inputs))) some.3)) in
    let row = least_row n k table.outputs t old new c.requires.point (omega (arith, inputs, c.requires.pins)) found in
    let is : row_of c.write_row.new.table c.args.row ≡ take table.outputs (drop k new) =
    c.write_row.ensures.row ∙ ap (take table.outputs) (take_all (length new - k) (drop k new) (omega (arith, length-drop k new))) in
    subst (λ m. IsLeastRow n t m (take c.write_row.new.table.inputs old) (row_of c.write_row.new.table c.args.row)) (sym c.write_row.ensures.outputs)
    (subst₂ (λ j (outs : List Bool). IsLeastRow n t table.outputs (take j old) outs) (inputs ∙ sym c.write_row.ensures.inputs) (sym is) row)
