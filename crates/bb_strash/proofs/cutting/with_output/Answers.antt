use Rattle.std.proofs.Common.{◌<◌, ◌++◌, ◌∷◌, [], ℕ, List, All, length, sym, ap, ◌∙◌, subst}
use Rattle.std.proofs.lemmas.List.Elements.{All-cons, All-nil}
use Rattle.bb_strash.proofs.cutting.with_output.Goals as goal

pub finish-requires-clause-there : goal.finish-requires-clause-there
finish-requires-clause-there c =
    subst (All (λ k. k < length c.args.hashed.cells)) (sym (c.in_ok-push.ensures.items ∙ ap (λ (l : List ℕ). l ++ c.args.root ∷ []) c.new-outs.ensures.items))
    (All-cons (λ k. k < length c.args.hashed.cells) c.args.root [] c.requires.there (All-nil (λ k. k < length c.args.hashed.cells)))
