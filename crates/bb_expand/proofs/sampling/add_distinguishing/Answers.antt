use Rattle.std.proofs.Common.{◌≡◌, [], ◌∷◌, ◌++◌, map, All, ap, ap₂, sym, subst, refl, ◌∙◌}
use Rattle.std.specs.Prelude.{vec_items, Contains}
use Rattle.std.proofs.lemmas.List.{map-append}
use Rattle.bb_subst.specs.Distinguishing.{AreDistinguishing}
use Rattle.bb_expand.specs.Inside.Sampling.{distinguishing_vectors, sample_vectors}
use Rattle.bb_expand.proofs.DistinguishingAmong.{among_both, with_distinguishing}
use Rattle.bb_expand.proofs.sampling.add_distinguishing.Goals as goal

pub returns-clause-samples : goal.returns-clause-samples
returns-clause-samples c =
    let old = distinguishing_vectors c.args.samples in
    let x = c.args.x.now in
    let new = c.in_ok-new.new in
    let is : map vec_items c.push.new.self.items ≡ old ++ x ∷ [] =
    ap (map vec_items) c.in_ok-push.ensures.items
    ∙ map-append vec_items new.distinguishing.items (c.in_ok-from_slice.field-0 ∷ [])
    ∙ ap₂ (λ l y. l ++ y ∷ []) (ap (map vec_items) c.in_ok-new.ensures.distinguishing) c.in_ok-from_slice.ensures.items in
    with_distinguishing c.args.pair.now.spec c.args.pair.now.imp c.args.pair.now.kinds c.args.clauses new _ c.in_ok-new.ensures.samples refl refl (subst (AreDistinguishing c.args.pair.now.spec c.args.pair.now.imp c.args.pair.now.kinds) (sym is) c.requires.distinguishing)
    (subst (All (Contains (sample_vectors new))) (sym is)
    (subst (λ xs. All (Contains xs) (old ++ x ∷ [])) (sym c.in_ok-new.ensures.vectors) (among_both old (sample_vectors c.args.samples) x c.requires.samples.among)))
