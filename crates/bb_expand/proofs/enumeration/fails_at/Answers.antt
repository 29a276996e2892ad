use Rattle.std.proofs.Common.{◌≡◌, ℕ, Bool, List, [], ap, ap₂, subst, ◌∙◌}
use Rattle.bb_net.specs.Kinds.{per_box}
use Rattle.bb_net.specs.Netlists.{Netlist}
use Rattle.bb_net.specs.Values.{flat, flat_with}
use Rattle.bb_expand.specs.Inside.Failures.{HasSameBits, HasOtherBit}
use Rattle.bb_expand.proofs.enumeration.fails_at.Goals as goal

-- what is reported of the lists that were compared is reported of the netlists
reported : (P : List ℕ → List Bool → List ℕ → List Bool → Type 0) (places at others there : List ℕ) (bits value wanted other : List Bool) → places ≡ at → bits ≡ value → others ≡ there → wanted ≡ other → P places bits others wanted → P at value there other
reported P places at others there bits value wanted other a b c d h =
    subst (P at value there) d (subst (λ l. P at value l wanted) c (subst (λ l. P at l others wanted) b (subst (λ l. P l bits others wanted) a h)))

pub returns-clause-yes : goal.returns-clause-yes
returns-clause-yes c e =
    let pair = c.args.pair.now in
    reported HasOtherBit c.outs.result.now pair.imp.outs c.outs-2.result.now pair.spec.outs c.value_with.new.out (flat_with pair.imp c.args.x.now (per_box pair.kinds c.args.tables.now)) c.value.new.out (flat pair.spec c.args.x.now [])
    (c.outs.ensures.outs ∙ ap (λ (n : Netlist). n.outs) c.imp-imp.ensures.imp)
    (c.value_with.ensures.value ∙ ap₂ (λ n (ks : List ℕ). flat_with n c.args.x.now (per_box ks c.args.tables.now)) c.imp-imp.ensures.imp c.kinds.ensures.kinds)
    (c.outs-2.ensures.outs ∙ ap (λ (n : Netlist). n.outs) c.spec-spec.ensures.spec)
    (c.value.ensures.value ∙ ap (λ n. flat n c.args.x.now []) c.spec-spec.ensures.spec)
    (c.differ.ensures.yes e)

pub returns-clause-no : goal.returns-clause-no
returns-clause-no c e =
    let pair = c.args.pair.now in
    reported HasSameBits c.outs.result.now pair.imp.outs c.outs-2.result.now pair.spec.outs c.value_with.new.out (flat_with pair.imp c.args.x.now (per_box pair.kinds c.args.tables.now)) c.value.new.out (flat pair.spec c.args.x.now [])
    (c.outs.ensures.outs ∙ ap (λ (n : Netlist). n.outs) c.imp-imp.ensures.imp)
    (c.value_with.ensures.value ∙ ap₂ (λ n (ks : List ℕ). flat_with n c.args.x.now (per_box ks c.args.tables.now)) c.imp-imp.ensures.imp c.kinds.ensures.kinds)
    (c.outs-2.ensures.outs ∙ ap (λ (n : Netlist). n.outs) c.spec-spec.ensures.spec)
    (c.value.ensures.value ∙ ap (λ n. flat n c.args.x.now []) c.spec-spec.ensures.spec)
    (c.differ.ensures.no e)
