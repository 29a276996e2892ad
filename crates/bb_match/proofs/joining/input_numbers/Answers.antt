use Rattle.std.proofs.Common.{◌≡◌, ◌+◌, ◌++◌, map, length, ◌∙◌, arith}
use Rattle.bb_net.specs.CutPoints.{cut_inputs}
use Rattle.bb_match.specs.Pairing.{Picks}
use Rattle.bb_match.specs.Inside.Places.{text_place}
use Rattle.bb_match.proofs.CheckLemmas.{if_ok_weaker}
use Rattle.bb_match.proofs.PairLemmas.{ins_fit, ins_places_fit, states_places_fit, numbers_made}
use Rattle.bb_match.proofs.joining.input_numbers.Goals as goal

pub overflow_cast-ins : goal.overflow_cast-ins
overflow_cast-ins c = omega (arith, ins_fit c.args.spec.now c.ins-ins.result.now 4294967296 c.ins-ins.ensures.ins c.ins-ins.ensures.kept (omega arith))

pub places_after-requires-clause-first : goal.places_after-requires-clause-first
places_after-requires-clause-first c = ins_places_fit c.args.spec.now c.args.of_spec.now.ins.entries 4294967296 c.requires.of_spec.ins c.ins-ins.ensures.kept (omega arith)

pub places_after-requires-clause-second : goal.places_after-requires-clause-second
places_after-requires-clause-second c = states_places_fit c.args.spec.now c.ins-ins.result.now c.args.of_spec.now.regs.entries 4294967296 c.ins-ins.ensures.ins c.requires.of_spec.regs c.ins-ins.ensures.kept (omega arith)

pub returns : goal.returns
returns c =
    let spec = c.args.spec.now in
    let imp = c.args.imp.now in
    let ins = c.args.of_spec.now.ins.entries in
    let regs = c.args.of_spec.now.regs.entries in
    record {
      numbers = if_ok_weaker c.places_after.result (λ numbers. numbers.items ≡ map (λ text. 0 + text_place ins text) c.ins.result.now ++ map (λ text. length c.ins-ins.result.now + text_place regs text) c.deref.result.now)
          (λ numbers. Picks (cut_inputs spec) numbers.items (cut_inputs imp))
          (λ numbers made. numbers_made spec imp ins regs c.ins-ins.result.now c.ins.result.now c.deref.result.now numbers.items c.requires.of_spec.ins c.requires.of_spec.regs c.requires.fit c.ins-ins.ensures.ins c.ins.ensures.ins
          (c.deref.ensures.value ∙ c.requires.of_imp.texts) made) c.places_after.ensures.places;
    }
