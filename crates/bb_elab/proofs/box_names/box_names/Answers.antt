use Rattle.std.proofs.Common.{map, ap, ◌∙◌}
use Rattle.std.proofs.lemmas.List.{take_all}
use Rattle.bb_implements.specs.Implements.{box_number, box_texts}
use Rattle.bb_elab.proofs.NamedBits.{boxes_turn}
use Rattle.bb_elab.proofs.box_names.box_names.Goals as goal

pub loop-number-preserved : goal.loop-number-preserved
loop-number-preserved c = λ d has all.
    boxes_turn d c.args.boxed.now c.args.numbers.now all c.loop-number.number-index c.loop-number-test.true (c.requires.there c.loop-number.number-index 0 c.loop-number-test.true) c.in_ok-box_name.field-0
    (λ s at. c.in_ok-box_name.ensures.name d has s at) c.loop-number.names.items c.push.new.self.items (c.loop-number.invariant d has all) c.in_ok-push.ensures.items

pub returns : goal.returns
returns c = record {
  names = λ d has all. c.loop-number.invariant d has all ∙ ap (map (λ b. box_texts d (box_number d b))) (take_all c.loop-number.number-index c.args.numbers.now c.loop-number-test.false);
}
