use Rattle.std.proofs.Common.{◌≢◌, ◌<◌, ◌++◌, List, All, AllPairs, map, length, ◌∙◌, sym, ap, ap₂, subst, arith}
use Rattle.bb_net.specs.Kinds.{AreKinds}
use Rattle.bb_net.specs.Pairs.{BoxTexts, box_key}
use Rattle.bb_net.specs.Rearrangements.{IsRearranged}
use Rattle.bb_net.specs.CutPoints.{TopOutput, NextState}
use Rattle.bb_match.specs.Pairing.{IsPlainPairOf, output_name}
use Rattle.bb_match.proofs.PairLemmas.{numbers_count, numbers_there, picks_there, ins_texts, outs_texts, made_pair, pair_of, boxes_fit}
use Rattle.bb_match.proofs.joining.joined.Goals as goal

pub rearranged-requires-clause-count : goal.rearranged-requires-clause-count
rearranged-requires-clause-count c = numbers_count c.args.spec c.args.imp c.args.numbers.now c.into_parts-of_imp.ensures.kept c.requires.numbers ∙ sym (ap (λ f. f.net.inputs) c.into_parts-of_imp.ensures.parts)

pub rearranged-requires-clause-numbers : goal.rearranged-requires-clause-numbers
rearranged-requires-clause-numbers c =
    subst (λ f. All (λ n. n < f.net.inputs) c.args.numbers.now) (sym c.into_parts-of_imp.ensures.parts) (numbers_there c.args.spec c.args.imp c.args.numbers.now c.into_parts-spec_net.ensures.kept c.into_parts-of_imp.ensures.kept c.requires.fit c.requires.numbers)

pub rearranged-requires-clause-picks : goal.rearranged-requires-clause-picks
rearranged-requires-clause-picks c = subst (λ f. All (λ j. j < length f.net.outs) c.args.picks.now) (sym c.into_parts-of_imp.ensures.parts) (picks_there c.args.spec c.args.imp c.args.picks.now c.into_parts-of_imp.ensures.kept c.requires.picks)

pub kinds_of-requires-clause-small : goal.kinds_of-requires-clause-small
kinds_of-requires-clause-small c =
    subst (λ (l : List BoxTexts). length l < 4294967296) (sym c.deref.ensures.value) (boxes_fit c.args.imp c.into_parts-of_imp.result.boxes.items 4294967296 (ap (λ f. f.boxes) c.into_parts-of_imp.ensures.parts) c.into_parts-of_imp.ensures.kept (omega arith))

pub kinds_of-requires-clause-apart : goal.kinds_of-requires-clause-apart
kinds_of-requires-clause-apart c = subst (λ l. AllPairs ◌≢◌ (map (λ (b : BoxTexts). b.path) l)) (sym (c.deref.ensures.value ∙ ap (λ f. f.boxes) c.into_parts-of_imp.ensures.parts)) c.into_parts-of_imp.ensures.kept.apart.boxes

pub returns-clause-pair : goal.returns-clause-pair
returns-clause-pair c =
    let spec = c.args.spec in
    let imp = c.args.imp in
    let parts = c.into_parts-spec_net.ensures.parts in
    let rest = c.into_parts-of_imp.ensures.parts in
    let net = c.in_ok-imp_net.imp_net in
    let rearranged : IsRearranged c.args.numbers.now c.args.picks.now imp.net net = subst (λ n. IsRearranged c.args.numbers.now c.args.picks.now n net) (ap (λ f. f.net) rest) c.in_ok-imp_net.ensures.ok in
    let kinds = c.in_ok-kinds.kinds.items in
    let made = made_pair spec imp c.into_parts-spec_net.result.net net c.append.new.self.items c.in_ok-outs.outs.items c.into_parts-of_imp.result.boxes.items c.in_ok-kinds.kinds.items (ap (λ f. f.net) parts)
    (c.in_ok-append.ensures.items ∙ ap₂ (λ l m. l ++ m) (ap (λ f. f.ins) parts) c.requires.texts ∙ ins_texts spec)
    (c.in_ok-outs.ensures.names ∙ ap₂ (λ l m. map (λ text. output_name (TopOutput text)) l ++ map (λ r. output_name (NextState r.text)) m) (ap (λ f. f.outs) parts) (ap (λ f. f.regs) parts) ∙ outs_texts spec) (ap (λ f. f.boxes) rest) in
    subst (IsPlainPairOf c.args.shared spec imp) (sym made) (pair_of c.args.shared spec imp c.args.numbers.now c.args.picks.now net kinds c.requires.fit rearranged c.requires.numbers c.requires.picks
    (subst (λ l. AreKinds (map (box_key c.args.shared) l) kinds) (c.deref.ensures.value ∙ ap (λ f. f.boxes) rest) c.in_ok-kinds.ensures.kinds))
