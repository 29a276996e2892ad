use Rattle.std.proofs.Common.{false, arith, sym, subst}
use Rattle.std.specs.Bool.{Decides}
use Rattle.std.proofs.lemmas.List.{get_or_read}
use Rattle.bb_net.specs.Loose.{PlaceDependsOn}
use Rattle.bb_net.proofs.WalkLemmas.{on_walk}
use Rattle.bb_net.proofs.ordering.walks.is_on_walk.Goals as goal

pub returns : goal.returns
returns c =
    let seen = c.in_ok-seen.seen.items in
    let is = get_or_read seen c.args.start c.index.result.now (omega (arith, c.in_ok-seen.ensures.whole, c.requires.there)) c.index.ensures false in
    record { ok = on_walk c.args.loose.now c.args.start c.index.result.now c.requires.there (subst (λ b. Decides b (PlaceDependsOn c.args.loose.now c.args.start c.args.start)) (sym is) (c.in_ok-seen.ensures.ok c.args.start)) }
