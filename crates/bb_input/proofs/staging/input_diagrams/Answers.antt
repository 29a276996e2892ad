use Rattle.std.proofs.Common.{rules, IsErrOf, ◌≡◌, ◌<◌, ◌+◌, ◌||◌, ◌++◌, List, length, take, drop, sym, ap, ap₂, ◌∙◌, subst}
use Rattle.std.proofs.lemmas.List.{length-map}
use Rattle.std.proofs.Math.Seq.{take-append_seam}
use Rattle.bb_net.specs.Netlists.{Netlist, Pins}
use Rattle.bb_uniq.specs.Inside.Meaning.{truth_of}
use Rattle.bb_uniq.specs.declared.store.Ref.{Ref}
use Rattle.bb_sym.specs.declared.fault.RungFault.TheVariants.{Nodes}
use Rattle.bb_sym.specs.Inside.Made.{AreTooMany, Represents, ref_at}
use Rattle.bb_sym.specs.Plain.{block_functions}
use Rattle.bb_input.specs.InputFunctions.{pin_places, stage, boxes_functions}
use Rattle.bb_input.proofs.DiagramParts.{plain_part, refuting_part, refused_plain, refused_refuting, refused_inputs, refused_boxes, all_made, lost_occurs, stage_occurs, pins_occur}
use Rattle.bb_input.proofs.PinLemmas.{pins_counted}
use Rattle.bb_input.proofs.staging.input_diagrams.Goals as goal

pub returns-in_err-made-clause-nodes : goal.returns-in_err-made-clause-nodes
returns-in_err-made-clause-nodes c =
    let reported : IsErrOf c.from_residual-in_err-made.result Nodes → AreTooMany c.args.d.store (plain_part c.making.ensures c.args.pair.now.spec c.args.pair.now.imp c.args.d.store) = search rules in
    λ full. refused_plain c.making.ensures c.args.pair.now.spec c.args.pair.now.imp c.args.d.store (reported full)

pub returns-in_err-both-clause-nodes : goal.returns-in_err-both-clause-nodes
returns-in_err-both-clause-nodes c =
    let reported : IsErrOf c.from_residual-in_err-both.result Nodes → AreTooMany c.ordered_cells.new.d.store (refuting_part c.making.ensures c.args.pair.now.spec c.args.pair.now.imp c.args.d.store) = search rules in
    λ full. refused_refuting c.making.ensures c.args.pair.now.spec c.args.pair.now.imp c.args.d.store c.ordered_cells.new.d.store c.in_ok-made.ensures.makes (reported full)

pub returns-in_err-refuted-clause-nodes : goal.returns-in_err-refuted-clause-nodes
returns-in_err-refuted-clause-nodes c =
    let last = c.refuting.new.d.store in
    let reported : IsErrOf c.from_residual-in_err-refuted.result Nodes → AreTooMany last (block_functions ◌||◌ c.args.pins c.args.inputs (truth_of last c.in_ok-both.both.0)) = search rules in
    λ full. refused_inputs c.making.ensures c.args.pair.now.spec c.args.pair.now.imp c.args.d.store c.ordered_cells.new.d.store c.in_ok-made.ensures.makes c.refuting.new.d.store c.in_ok-both.ensures.makes c.in_ok-both.both c.in_ok-both.ensures.result c.args.pins c.args.inputs c.requires.pins c.requires.inputs (reported full)

pub returns-in_err-last-clause-nodes : goal.returns-in_err-last-clause-nodes
returns-in_err-last-clause-nodes c =
    let last = c.quantify_block.new.d.store in
    let reported : IsErrOf c.from_residual-in_err-last.result Nodes → AreTooMany last (boxes_functions 0 c.boxes-3.result.now (truth_of last c.in_ok-refuted.refuted.0)) = search rules in
    λ full. refused_boxes c.making.ensures c.args.pair.now.spec c.args.pair.now.imp c.args.d.store c.ordered_cells.new.d.store c.in_ok-made.ensures.makes c.refuting.new.d.store c.in_ok-both.ensures.makes c.in_ok-both.both c.in_ok-both.ensures.result c.args.pins c.args.inputs c.requires.pins c.requires.inputs c.quantify_block.new.d.store c.in_ok-refuted.ensures.makes c.in_ok-refuted.refuted c.in_ok-refuted.ensures.result c.boxes-3.result.now (c.boxes-3.ensures.boxes ∙ ap (λ (net : Netlist). net.boxes) c.imp-imp_net.ensures.imp) (reported full)

pub returns-clause-made : goal.returns-clause-made
returns-clause-made c =
    let imp = c.args.pair.now.imp in
    let same : c.boxes-3.result.now ≡ imp.boxes = c.boxes-3.ensures.boxes ∙ ap (λ (net : Netlist). net.boxes) c.imp-imp_net.ensures.imp in
    let vars = sym c.requires.vars ∙ ap₂ (λ j k. j + k) c.requires.pins c.requires.inputs in
    let made = all_made c.making.ensures c.args.pair.now.spec c.args.pair.now.imp c.args.d.store c.ordered_cells.new.d.store c.in_ok-made.ensures.makes c.refuting.new.d.store c.in_ok-both.ensures.makes c.in_ok-both.both c.in_ok-both.ensures.result c.args.pins c.args.inputs c.requires.pins c.requires.inputs c.quantify_block.new.d.store c.in_ok-refuted.ensures.makes c.in_ok-refuted.refuted c.in_ok-refuted.ensures.result c.boxes-3.result.now same c.quantify_boxes.new.d.store c.in_ok-last.ensures.makes in
    let long : c.in_ok-stages.stages.len ≡ length c.quantify_boxes.new.stages = c.in_ok-stages.ensures.len ∙ (ap length (c.boxes-2.ensures.boxes ∙ sym c.boxes-3.ensures.boxes) ∙ sym c.quantify_boxes.ensures.count) in
    let items : take c.in_ok-stages.stages.len (c.quantify_boxes.new.stages ++ drop (length c.quantify_boxes.new.stages) c.in_ok-stages.stages.items) ≡ c.quantify_boxes.new.stages =
    ap (λ n. take n (c.quantify_boxes.new.stages ++ drop (length c.quantify_boxes.new.stages) c.in_ok-stages.stages.items)) long ∙ take-append_seam c.quantify_boxes.new.stages (drop (length c.quantify_boxes.new.stages) c.in_ok-stages.stages.items) in
    record {
      vars = made.kept.vars ∙ vars;
      count = ap length items ∙ c.quantify_boxes.ensures.count ∙ ap length same;
      stages = λ b l. subst (λ (refs : List Ref). Represents c.quantify_boxes.new.d.store (stage c.args.pair.now.spec imp b) (ref_at refs b)) (sym items) (stage_occurs c.making.ensures c.args.pair.now.spec c.args.pair.now.imp c.args.d.store c.ordered_cells.new.d.store c.in_ok-made.ensures.makes c.refuting.new.d.store c.in_ok-both.ensures.makes c.in_ok-both.both c.in_ok-both.ensures.result c.args.pins c.args.inputs c.requires.pins c.requires.inputs c.quantify_block.new.d.store c.in_ok-refuted.ensures.makes c.in_ok-refuted.refuted c.in_ok-refuted.ensures.result c.boxes-3.result.now same c.quantify_boxes.new.d.store c.in_ok-last.ensures.makes b (ref_at c.quantify_boxes.new.stages b) (c.in_ok-last.ensures.stages b (subst (λ (boxes : List Pins). b < length boxes) (sym same) l)));
      last = lost_occurs c.making.ensures c.args.pair.now.spec c.args.pair.now.imp c.args.d.store c.ordered_cells.new.d.store c.in_ok-made.ensures.makes c.refuting.new.d.store c.in_ok-both.ensures.makes c.in_ok-both.both c.in_ok-both.ensures.result c.args.pins c.args.inputs c.requires.pins c.requires.inputs c.quantify_block.new.d.store c.in_ok-refuted.ensures.makes c.in_ok-refuted.refuted c.in_ok-refuted.ensures.result c.boxes-3.result.now same c.quantify_boxes.new.d.store c.in_ok-last.ensures.makes c.in_ok-last.last c.in_ok-last.ensures.result;
      pin_refs = ap length c.in_ok-pins.ensures ∙ (length-map (pin_places imp.boxes) (ref_at c.in_ok-made.made.imp.items) ∙ pins_counted imp.boxes);
      pins = pins_occur c.making.ensures c.args.pair.now.spec c.args.pair.now.imp c.args.d.store c.ordered_cells.new.d.store c.in_ok-made.ensures.makes c.refuting.new.d.store c.in_ok-both.ensures.makes c.in_ok-both.both c.in_ok-both.ensures.result c.args.pins c.args.inputs c.requires.pins c.requires.inputs c.quantify_block.new.d.store c.in_ok-refuted.ensures.makes c.in_ok-refuted.refuted c.in_ok-refuted.ensures.result c.boxes-3.result.now same c.quantify_boxes.new.d.store c.in_ok-last.ensures.makes vars c.imp-imp_net.ensures.kept.imp c.in_ok-made.made.spec.items c.in_ok-made.made.imp.items c.in_ok-pins.pins.items c.in_ok-made.ensures.cells c.in_ok-pins.ensures;
    }

pub returns-clause-makes : goal.returns-clause-makes
returns-clause-makes c =
    let same : c.boxes-3.result.now ≡ c.args.pair.now.imp.boxes = c.boxes-3.ensures.boxes ∙ ap (λ (net : Netlist). net.boxes) c.imp-imp_net.ensures.imp in
    all_made c.making.ensures c.args.pair.now.spec c.args.pair.now.imp c.args.d.store c.ordered_cells.new.d.store c.in_ok-made.ensures.makes c.refuting.new.d.store c.in_ok-both.ensures.makes c.in_ok-both.both c.in_ok-both.ensures.result c.args.pins c.args.inputs c.requires.pins c.requires.inputs c.quantify_block.new.d.store c.in_ok-refuted.ensures.makes c.in_ok-refuted.refuted c.in_ok-refuted.ensures.result c.boxes-3.result.now same c.quantify_boxes.new.d.store c.in_ok-last.ensures.makes
