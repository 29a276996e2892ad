use Rattle.std.proofs.Common.{◌≡◌, ◌∙◌, All, List, length, ap, subst₂, arith}
use Rattle.std.proofs.lemmas.List.{get_or_default}
use Rattle.bb_net.specs.Netlists.{Pins, box_at}
use Rattle.bb_uniq.specs.declared.store.Ref.{Ref}
use Rattle.bb_nest.specs.Inside.Readers.{HasReader, own_refs, refs_before}
use Rattle.bb_nest.proofs.Loops.{each_more}
use Rattle.bb_nest.proofs.Reading.{count_next, own_slice, before_slice}
use Rattle.bb_nest.proofs.StageRows.{no_pins}
use Rattle.bb_nest.proofs.seeing.see_earlier.Goals as goal

pub loop-pins-preserved : goal.loop-pins-preserved
loop-pins-preserved c =
    let boxes = c.args.boxes.now in
    let refs = c.args.refs.now in
    let b = c.loop-pins.pins-index in
    let same : c.pins-item.result ≡ box_at boxes b = c.pins-item.is ∙ get_or_default boxes b c.pins-item.result no_pins c.loop-pins-test.true in
    let ins = ap length (c.ins-ins.ensures.ins ∙ ap (λ (pins : Pins). pins.ins) same) in
    let outs = ap length (c.outs.ensures.outs ∙ ap (λ (pins : Pins). pins.outs) same) in
    let next = count_next boxes b c.loop-pins-test.true in (
      omega (arith, c.loop-pins.invariant.0, ins, outs, next),
      each_more (λ j. All (HasReader (own_refs boxes j refs)) (refs_before boxes j refs)) b c.loop-pins.invariant.1
          (subst₂ (λ (own others : List Ref). All (HasReader own) others) (own_slice boxes refs b c.loop-pins.start (length c.ins-ins.result.now) c.loop-pins.invariant.0 ins) (before_slice boxes refs b c.loop-pins.start (length c.ins-ins.result.now) c.loop-pins.invariant.0 ins)
          (c.sees_all.ensures.yes c.if-not-sees_all.false)),
    )

pub returns-clause-yes : goal.returns-clause-yes
returns-clause-yes c = λ e b l. c.loop-pins.invariant.1 b (omega (arith, l, c.loop-pins-test.false))
