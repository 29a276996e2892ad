use Rattle.std.proofs.Common.{◌≡◌, ◌<◌, ◌∙◌, ◌++◌, List, [], length, map, get_or, sym, ap, arith}
use Rattle.std.specs.Prelude.{zip}
use Rattle.std.specs.List.{flat_map}
use Rattle.std.proofs.lemmas.List.{get_or-map, get_or_read, length-map, take_all}
use Rattle.std.proofs.lemmas.Slice.Zip.{length-zip}
use Rattle.bb_net.specs.Pairs.{BoxTexts}
use Rattle.bb_checks.specs.Rungs.{texts_at}
use Rattle.bb_checks.specs.TableLines.{box_lines}
use Rattle.bb_checks.proofs.TableTexts.{one_more_box}
use Rattle.bb_checks.proofs.table_lines.push_boxes.Goals as goal

pub loop-k-preserved : goal.loop-k-preserved
loop-k-preserved c =
    let boxes = c.args.boxes.now in
    let places = c.args.places.now in
    let k = c.loop-k.k in
    let texts : List BoxTexts = map (texts_at boxes) places in
    let box = c.index-boxes-b.result in
    let h : k < length places = c.loop-k-test.true in
    let count : length texts ≡ length places = length-map places (texts_at boxes) in
    let is_box : box ≡ get_or texts k box =
    get_or_read boxes (get_or places k 0) box (c.requires.there k 0 h) c.index-boxes-b.is (record { path = []; «module» = []; ins = []; outs = [] }) ∙ sym (get_or-map (texts_at boxes) places k 0 box h) in
    c.in_ok-push_box.ensures.text
    ∙ one_more_box c.args.shared c.args.text.now.items c.loop-k.text.items texts c.args.tables.now k box c.index-tables-k.result
    (omega (arith, h, count)) (c.requires.count ∙ sym count) is_box c.index-tables-k.is c.loop-k.invariant

pub returns : goal.returns
returns c =
    let texts : List BoxTexts = map (texts_at c.args.boxes.now) c.args.places.now in
    record {
      text =
          c.loop-k.invariant
          ∙ ap (λ ps. c.args.text.now.items ++ flat_map (box_lines c.args.shared) ps)
          (take_all c.loop-k.k (zip texts c.args.tables.now) (omega (arith, c.loop-k-test.false, length-zip texts c.args.tables.now, length-map c.args.places.now (texts_at c.args.boxes.now), c.requires.count)));
    }
