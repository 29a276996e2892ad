use Rattle.std.proofs.Common.{◌≡◌, ◌+◌, ◌++◌, map, length, ◌∙◌, arith}
use Rattle.bb_net.specs.CutPoints.{cut_outputs}
use Rattle.bb_match.specs.Pairing.{Picks}
use Rattle.bb_match.specs.Inside.Places.{text_place}
use Rattle.bb_match.proofs.CheckLemmas.{if_ok_weaker}
use Rattle.bb_match.proofs.PairLemmas.{outs_places_fit, next_places_fit, picks_made}
use Rattle.bb_match.proofs.joining.output_picks.Goals as goal

pub places_after-requires-clause-first : goal.places_after-requires-clause-first
places_after-requires-clause-first c = outs_places_fit c.args.imp.now c.args.of_imp.now.outs.entries 4294967296 c.requires.of_imp.outs c.outs-outs.ensures.kept (omega arith)

pub places_after-requires-clause-second : goal.places_after-requires-clause-second
places_after-requires-clause-second c = next_places_fit c.args.imp.now c.outs-outs.result.now c.args.of_imp.now.regs.entries 4294967296 c.outs-outs.ensures.outs c.requires.of_imp.regs c.outs-outs.ensures.kept (omega arith)

pub returns : goal.returns
returns c =
    let spec = c.args.spec.now in
    let imp = c.args.imp.now in
    let outs = c.args.of_imp.now.outs.entries in
    let regs = c.args.of_imp.now.regs.entries in
    record {
      picks = if_ok_weaker c.places_after.result (λ picks. picks.items ≡ map (λ text. 0 + text_place outs text) c.outs.result.now ++ map (λ text. length c.outs-outs.result.now + text_place regs text) c.deref.result.now)
          (λ picks. Picks (cut_outputs imp) picks.items (cut_outputs spec))
          (λ picks made. picks_made spec imp outs regs c.outs.result.now c.outs-outs.result.now c.deref.result.now picks.items c.requires.of_imp.outs c.requires.of_imp.regs c.requires.fit c.outs.ensures.outs c.outs-outs.ensures.outs
          (c.deref.ensures.value ∙ c.requires.of_spec.texts) made) c.places_after.ensures.places;
    }
