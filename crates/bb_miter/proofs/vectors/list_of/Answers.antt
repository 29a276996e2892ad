use Rattle.std.proofs.Common.{◌≡◌, ◌≢◌, AllPairs, List, Vec, Bool, Global, map, vec_items, subst, sym, rules}
use Rattle.bb_miter.proofs.TakenVectors.{apart}
use Rattle.bb_miter.proofs.vectors.list_of.Goals as goal

pub returns-clause-distinct : goal.returns-clause-distinct
returns-clause-distinct c =
    let all : c.loop-x.vectors.items ≡ c.args.found.keys = search rules in
    subst (λ (xs : List (Vec Bool Global)). AllPairs ◌≢◌ (map vec_items xs)) (sym all) (apart vec_items c.args.found.keys c.len.ensures.unique)
