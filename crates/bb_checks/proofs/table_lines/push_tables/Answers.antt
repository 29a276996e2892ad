use Rattle.std.proofs.Common.{◌≡◌, ◌∙◌, ◌++◌, length, sym, ap, subst}
use Rattle.std.specs.Prelude.{OnOk}
use Rattle.std.proofs.lemmas.List.{length-map}
use Rattle.bb_checks.specs.Rungs.{texts_at}
use Rattle.bb_checks.specs.TableLines.{table_lines}
use Rattle.bb_checks.proofs.ShownBoxes.{first_texts}
use Rattle.bb_checks.proofs.table_lines.push_tables.Goals as goal

pub push_boxes-requires-clause-there : goal.push_boxes-requires-clause-there
push_boxes-requires-clause-there c =
    (first_texts c.kind_laws.ensures c.args.pair.now c.boxes.ensures.kept c.boxes.result.now c.deref.result.now c.boxes.ensures.boxes (c.deref.ensures.value ∙ c.in_ok-firsts.ensures.firsts)).there

pub push_boxes-requires-clause-count : goal.push_boxes-requires-clause-count
push_boxes-requires-clause-count c =
    let are = first_texts c.kind_laws.ensures c.args.pair.now c.boxes.ensures.kept c.boxes.result.now c.deref.result.now c.boxes.ensures.boxes (c.deref.ensures.value ∙ c.in_ok-firsts.ensures.firsts) in
    c.requires.reported.count ∙ ap length (sym are.shows) ∙ length-map c.deref.result.now (texts_at c.boxes.result.now)

pub push_boxes-requires-clause-outputs : goal.push_boxes-requires-clause-outputs
push_boxes-requires-clause-outputs c =
    let are = first_texts c.kind_laws.ensures c.args.pair.now c.boxes.ensures.kept c.boxes.result.now c.deref.result.now c.boxes.ensures.boxes (c.deref.ensures.value ∙ c.in_ok-firsts.ensures.firsts) in
    λ k h. c.requires.reported.outputs k h ∙ ap (λ ts. length (texts_at ts k).outs) (sym are.shows)

pub returns : goal.returns
returns c =
    let are = first_texts c.kind_laws.ensures c.args.pair.now c.boxes.ensures.kept c.boxes.result.now c.deref.result.now c.boxes.ensures.boxes (c.deref.ensures.value ∙ c.in_ok-firsts.ensures.firsts) in
    record { text = subst (λ ts. OnOk c.push_boxes.result (c.push_boxes.new.text.items ≡ c.args.text.now.items ++ table_lines c.args.shared ts c.args.tables.now)) are.shows c.push_boxes.ensures.text }
