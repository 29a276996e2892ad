use Rattle.std.proofs.Common.{◌≡◌, ◌+◌, ◌++◌, ◌∷◌, [], map, take, sym, ap, subst, ◌∙◌}
use Rattle.std.proofs.lemmas.List.{take_all}
use Rattle.bb_net.specs.Kinds.{AreKinds}
use Rattle.bb_net.specs.Pairs.{BoxTexts}
use Rattle.bb_match.proofs.KindLemmas.{AreKindsSo, Growth, grow, modules_more}
use Rattle.bb_match.proofs.kinds.module_kinds.Goals as goal

pub loop-named-preserved : goal.loop-named-preserved
loop-named-preserved c =
    let texts = c.args.boxes.now in
    let i = c.loop-named.named-index in
    let text = c.named-item.result in
    let keys = map (λ (b : BoxTexts). b.module) (take i texts) in
    let key : c.in_ok-clone.field-0 ≡ text.module = c.in_ok-clone.ensures.cases ∙ c.module.ensures.module in
    let growth : Growth = record { again = c.keys_are_shown.ensures.again; new = c.keys_are_shown.ensures.new; shown_again = c.kinds_are_shown.ensures.again; shown_new = c.kinds_are_shown.ensures.new; counts = c.kinds_are_shown.ensures.count } in
    let grown = grow growth keys c.loop-named.kinds.items c.loop-named.modules.keys c.insert_full.new.self.keys c.in_ok-clone.field-0 c.in_ok-kind.kind c.loop-named.invariant c.in_ok-kind.ensures.keys c.in_ok-kind.ensures.stored in
    subst (λ l. AreKindsSo (map (λ (b : BoxTexts). b.module) (take (i + 1) texts)) l c.insert_full.new.self.keys) (sym c.in_ok-push.ensures.items)
    (subst (λ l. AreKindsSo l (c.loop-named.kinds.items ++ c.in_ok-kind.kind ∷ []) c.insert_full.new.self.keys) (ap (λ k. keys ++ k ∷ []) key ∙ sym (modules_more texts i text c.loop-named-test.true c.named-item.is)) grown)

pub returns : goal.returns
returns c = record { kinds = subst (λ l. AreKinds (map (λ (b : BoxTexts). b.module) l) c.loop-named.kinds.items) (take_all c.loop-named.named-index c.args.boxes.now c.loop-named-test.false) c.loop-named.invariant.are }
