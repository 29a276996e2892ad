use Rattle.std.proofs.Common.{◌≡◌, ◌<◌, ◌^◌, ℕ, true, false, length, sym, ap, ◌∙◌, arith}
use Rattle.std.specs.Prelude.{Option, Some, None, IfNone}
use Rattle.std.specs.Option.{is_some}
use Rattle.std.proofs.lemmas.List.{length-replicate}
use Rattle.bb_net.specs.Completions.{table_bits}
use Rattle.bb_bits.specs.Truth.{Truth, truth_at}
use Rattle.bb_net.specs.Netlists.{Netlist}
use Rattle.bb_input.specs.InputFunctions.{pins_and_inputs}
use Rattle.bb_input.proofs.Game.{lost_reports, won_reports}
use Rattle.bb_input.proofs.checking.reported.Goals as goal

where_none : (found : Option ℕ) (P : Type 0) → IfNone found P → is_some found ≡ false → P
where_none None P h e = h
where_none (Some n) P h e = absurd (let f : true ≡ false = e in cc)

pub returns-then-at : goal.returns-then-at
returns-then-at c =
    let p = c.args.point.now in
    let long : length p ≡ pins_and_inputs c.args.pair.now.imp = ap length c.requires.point ∙ (length-replicate c.args.made.now.diagrams.store.vars false ∙ c.requires.made.vars) in
    record { answer = lost_reports c.quantifiers.ensures c.tables.ensures c.functions.ensures c.args.pair.now.spec c.args.pair.now.imp p long (ap (λ (t : Truth). truth_at t p) (sym c.requires.made.last.table) ∙ (sym c.at.ensures ∙ c.if-at.true)) }

pub returns-then-boxes-gt1 : goal.returns-then-boxes-gt1
returns-then-boxes-gt1 c =
    let p = c.args.point.now in
    let long : length p ≡ pins_and_inputs c.args.pair.now.imp = ap length c.requires.point ∙ (length-replicate c.args.made.now.diagrams.store.vars false ∙ c.requires.made.vars) in
    let choices = won_reports c.quantifiers.ensures c.tables.ensures c.functions.ensures c.args.pair.now.spec c.args.pair.now.imp p long (ap (λ (t : Truth). truth_at t p) (sym c.requires.made.last.table) ∙ (sym c.at.ensures ∙ c.if-at.false)) in
    let same = ap length (c.boxes.ensures.boxes ∙ ap (λ (net : Netlist). net.boxes) c.imp-imp_net.ensures.imp) in
    record { answer = (choices, λ finishable. (let few = finishable.one_box in omega (arith, few, same, c.if-boxes-gt1.true))) }

pub returns-then-is_none : goal.returns-then-is_none
returns-then-is_none c =
    let p = c.args.point.now in
    let long : length p ≡ pins_and_inputs c.args.pair.now.imp = ap length c.requires.point ∙ (length-replicate c.args.made.now.diagrams.store.vars false ∙ c.requires.made.vars) in
    let choices = won_reports c.quantifiers.ensures c.tables.ensures c.functions.ensures c.args.pair.now.spec c.args.pair.now.imp p long (ap (λ (t : Truth). truth_at t p) (sym c.requires.made.last.table) ∙ (sym c.at.ensures ∙ c.if-at.false)) in
    let large = where_none c.table_bits.result (2 ^ 24 < table_bits c.imp-imp_net.result.now.boxes) c.table_bits.ensures.none c.if-is_none.ensures in
    let same : table_bits c.imp-imp_net.result.now.boxes ≡ table_bits c.args.pair.now.imp.boxes = ap (λ (net : Netlist). table_bits net.boxes) c.imp-imp_net.ensures.imp in
    record { answer = (choices, λ finishable. (let small = finishable.small in omega (arith, small, same, large))) }

pub least_tables-requires-clause-choices : goal.least_tables-requires-clause-choices
least_tables-requires-clause-choices c =
    let p = c.args.point.now in
    let long : length p ≡ pins_and_inputs c.args.pair.now.imp = ap length c.requires.point ∙ (length-replicate c.args.made.now.diagrams.store.vars false ∙ c.requires.made.vars) in
    let choices = won_reports c.quantifiers.ensures c.tables.ensures c.functions.ensures c.args.pair.now.spec c.args.pair.now.imp p long (ap (λ (t : Truth). truth_at t p) (sym c.requires.made.last.table) ∙ (sym c.at.ensures ∙ c.if-at.false)) in
    choices
