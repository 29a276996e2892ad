use Rattle.std.proofs.Common.{map, ◌∙◌, refl}
use Rattle.bb_names.specs.Inside.Checked.{syntax}
use Rattle.bb_design.specs.NetBits.{net_order}
use Rattle.bb_design.specs.Texts.{pin_text}
use Rattle.bb_elab.proofs.LevelizedLists.{for_name}
use Rattle.bb_elab.proofs.NamedBits.{named_more, named_all, text_seen}
use Rattle.bb_elab.proofs.naming.pin_names.Goals as goal

pub pin_name-requires : goal.pin_name-requires
pin_name-requires c =
    let d = c.requires.design in
    record { design = for_name (map syntax c.args.checked.now) c.args.elaborated.now c.deref.result.now c.deref-in-loop-number.result.now c.deref.ensures.value c.deref-in-loop-number.ensures.value d.0 d.1 _ (d.2 c.loop-number.number-index 0 c.loop-number-test.true) }

pub loop-number-preserved : goal.loop-number-preserved
loop-number-preserved c = λ d has bits at.
    named_more (net_order d) (pin_text d) c.args.numbers.now c.loop-number.number-index _ c.loop-number-test.true refl c.in_ok-name.name
    (text_seen (map syntax c.args.checked.now) c.args.elaborated.now c.deref.result.now c.deref-in-loop-number.result.now c.deref.ensures.value c.deref-in-loop-number.ensures.value pin_text c.in_ok-name.name _ c.in_ok-name.ensures.name d has)
    c.loop-number.names.items c.push.new.self.items bits at (c.loop-number.invariant d has bits at) c.in_ok-push.ensures.items

pub returns : goal.returns
returns c = record { names = λ d has bits at. c.loop-number.invariant d has bits at ∙ named_all (net_order d) (pin_text d) c.args.numbers.now c.loop-number.number-index c.loop-number-test.false bits at }
