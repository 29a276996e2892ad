use Rattle.std.proofs.Common.{rules, IsErrOf, ◌≡◌, ◌<◌, ◌+◌, ◌-◌, [], length, take, slice_index_or, refl, sym, ap, ◌∙◌, subst, arith}
use Rattle.std.proofs.lemmas.List.{get_or_default, length-set}
use Rattle.bb_net.specs.Netlists.{Pins, box_at}
use Rattle.bb_net.specs.Pairs.{pin_count}
use Rattle.bb_uniq.specs.Inside.Meaning.{truth_of}
use Rattle.bb_sym.specs.declared.fault.RungFault.TheVariants.{Nodes}
use Rattle.bb_sym.specs.Inside.Made.{Makes, AreTooMany, Represents}
use Rattle.bb_input.specs.InputFunctions.{box_quantified, box_functions}
use Rattle.bb_input.proofs.OrderLemmas.{fits_more}
use Rattle.bb_input.proofs.ChoiceSteps.{from_box, functions_from, from_none, functions_none, boxes_made, boxes_occur, boxes_refused, AreNoted, noted_more}
use Rattle.bb_input.proofs.choosing.quantify_boxes.Goals as goal

pub loop-left-init : goal.loop-left-init
loop-left-init c =
    let s = c.args.d.now.store in
    let t = truth_of s c.args.f.0 in
    let n = length c.args.boxes.now in (
      omega arith,
      record { ref = c.requires.f; table = sym (from_none c.args.boxes.now t n refl) },
      subst (Makes s s) (sym (functions_none c.args.boxes.now t n refl)) (c.making.ensures.none s),
      c.requires.stages,
      (λ b from there. absurd (omega (arith, from, there))),
    )

pub quantify_box-requires-clause-before : goal.quantify_box-requires-clause-before
quantify_box-requires-clause-before c =
    let boxes = c.args.boxes.now in
    let k = c.loop-left.left - 1 in
    let next : c.loop-left.left ≡ k + 1 = omega (arith, c.loop-left-test.true) in
    let l : k < length boxes = omega (arith, next, c.loop-left.invariant.0) in
    let box = c.index-boxes-left.result in
    let same : box ≡ box_at boxes k = c.index-boxes-left.is ∙ get_or_default boxes k box (record { ins = []; outs = [] }) l in
    let ins : length box.ins ≡ length (box_at boxes k).ins = ap (λ (pins : Pins). length pins.ins) same in
    let start = c.requires.starts k l in
    omega (arith, start, ins)

pub quantify_box-requires-clause-vars : goal.quantify_box-requires-clause-vars
quantify_box-requires-clause-vars c =
    let boxes = c.args.boxes.now in
    let k = c.loop-left.left - 1 in
    let next : c.loop-left.left ≡ k + 1 = omega (arith, c.loop-left-test.true) in
    let l : k < length boxes = omega (arith, next, c.loop-left.invariant.0) in
    let box = c.index-boxes-left.result in
    let same : box ≡ box_at boxes k = c.index-boxes-left.is ∙ get_or_default boxes k box (record { ins = []; outs = [] }) l in
    let ins : length box.ins ≡ length (box_at boxes k).ins = ap (λ (pins : Pins). length pins.ins) same in
    let start = c.requires.starts k l in
    let outs : length box.outs ≡ length (box_at boxes k).outs = ap (λ (pins : Pins). length pins.outs) same in
    let fits = fits_more boxes k l in
    omega (arith, start, outs, fits, c.requires.vars, c.loop-left.invariant.2.kept.vars)

pub quantify_box-requires-clause-few : goal.quantify_box-requires-clause-few
quantify_box-requires-clause-few c = omega (arith, c.requires.few, c.loop-left.invariant.2.kept.vars)

pub returns-in_err-r-clause-nodes : goal.returns-in_err-r-clause-nodes
returns-in_err-r-clause-nodes c =
    let boxes = c.args.boxes.now in
    let k = c.loop-left.left - 1 in
    let next : c.loop-left.left ≡ k + 1 = omega (arith, c.loop-left-test.true) in
    let l : k < length boxes = omega (arith, next, c.loop-left.invariant.0) in
    let box = c.index-boxes-left.result in
    let same : box ≡ box_at boxes k = c.index-boxes-left.is ∙ get_or_default boxes k box (record { ins = []; outs = [] }) l in
    let ins : length box.ins ≡ length (box_at boxes k).ins = ap (λ (pins : Pins). length pins.ins) same in
    let start = c.requires.starts k l in
    let first : slice_index_or c.args.starts.now k 0 - length box.ins ≡ pin_count (take k boxes) = omega (arith, start, ins) in
    let s = c.args.d.now.store in
    let old = c.loop-left.d.store in
    let t = truth_of s c.args.f.0 in
    let occur = subst (λ i. Represents old (from_box boxes t i) c.loop-left.r) next c.loop-left.invariant.1 in
    let made = subst (λ i. Makes s old (functions_from boxes t i)) next c.loop-left.invariant.2 in
    let reported : IsErrOf c.from_residual.result Nodes → AreTooMany old (box_functions (slice_index_or c.args.starts.now k 0 - length box.ins) box (truth_of old c.loop-left.r.0)) = search rules in
    λ full. boxes_refused c.making.ensures s old boxes t k l c.loop-left.r occur made (slice_index_or c.args.starts.now k 0 - length box.ins) first
    (subst (λ (pins : Pins). AreTooMany old (box_functions (slice_index_or c.args.starts.now k 0 - length box.ins) pins (truth_of old c.loop-left.r.0))) same (reported full))

pub loop-left-preserved : goal.loop-left-preserved
loop-left-preserved c =
    let boxes = c.args.boxes.now in
    let k = c.loop-left.left - 1 in
    let next : c.loop-left.left ≡ k + 1 = omega (arith, c.loop-left-test.true) in
    let l : k < length boxes = omega (arith, next, c.loop-left.invariant.0) in
    let box = c.index-boxes-left.result in
    let same : box ≡ box_at boxes k = c.index-boxes-left.is ∙ get_or_default boxes k box (record { ins = []; outs = [] }) l in
    let ins : length box.ins ≡ length (box_at boxes k).ins = ap (λ (pins : Pins). length pins.ins) same in
    let start = c.requires.starts k l in
    let first : slice_index_or c.args.starts.now k 0 - length box.ins ≡ pin_count (take k boxes) = omega (arith, start, ins) in
    let s = c.args.d.now.store in
    let old = c.loop-left.d.store in
    let t = truth_of s c.args.f.0 in
    let occur = subst (λ i. Represents old (from_box boxes t i) c.loop-left.r) next c.loop-left.invariant.1 in
    let made = subst (λ i. Makes s old (functions_from boxes t i)) next c.loop-left.invariant.2 in
    let noted = subst (λ i. AreNoted old boxes t i c.loop-left.stages) next c.loop-left.invariant.4 in
    let new = c.quantify_box.new.d.store in (
      omega (arith, l),
      boxes_occur c.making.ensures s old boxes t k l c.loop-left.r occur made (slice_index_or c.args.starts.now k 0 - length box.ins) first new c.in_ok-r.r
          (subst (λ (pins : Pins). Represents new (box_quantified (slice_index_or c.args.starts.now k 0 - length box.ins) pins (truth_of old c.loop-left.r.0)) c.in_ok-r.r) same c.in_ok-r.ensures.result),
      boxes_made c.making.ensures s old boxes t k l c.loop-left.r occur made (slice_index_or c.args.starts.now k 0 - length box.ins) first new (subst (λ (pins : Pins). Makes old new (box_functions (slice_index_or c.args.starts.now k 0 - length box.ins) pins (truth_of old c.loop-left.r.0))) same c.in_ok-r.ensures.makes),
      length-set c.loop-left.stages k c.loop-left.r ∙ c.loop-left.invariant.3,
      noted_more c.making.ensures old new c.in_ok-r.ensures.makes.kept boxes t k l c.loop-left.stages c.loop-left.invariant.3 c.loop-left.r occur noted,
    )

pub returns-clause-result : goal.returns-clause-result
returns-clause-result c =
    let none : c.loop-left.left ≡ 0 = omega (arith, c.loop-left-test.false) in
    subst (λ i. Represents c.loop-left.d.store (from_box c.args.boxes.now (truth_of c.args.d.now.store c.args.f.0) i) c.loop-left.r) none c.loop-left.invariant.1

pub returns-clause-makes : goal.returns-clause-makes
returns-clause-makes c =
    let none : c.loop-left.left ≡ 0 = omega (arith, c.loop-left-test.false) in
    subst (λ i. Makes c.args.d.now.store c.loop-left.d.store (functions_from c.args.boxes.now (truth_of c.args.d.now.store c.args.f.0) i)) none c.loop-left.invariant.2

pub returns-clause-stages : goal.returns-clause-stages
returns-clause-stages c = λ b l. c.loop-left.invariant.4 b (omega (arith, c.loop-left-test.false)) l
