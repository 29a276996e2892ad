use Rattle.std.proofs.Common.{◌≡◌, List, Bool, length, arith, sym, subst}
use Rattle.std.specs.Bool.{Decides}
use Rattle.std.proofs.lemmas.List.{with_items_is}
use Rattle.bb_net.specs.Loose.{PlaceDependsOn}
use Rattle.bb_net.specs.Values.{bit_of}
use Rattle.bb_net.proofs.WalkLemmas.{IsSearched-decides}
use Rattle.bb_net.proofs.ordering.walks.dependences.Goals as goal

pub returns : goal.returns
returns c =
    let l = c.args.loose.now in
    let seen = c.mark_reached.new.seen in
    let found = c.in_ok-mark_reached.ensures.ok in
    let len : length seen ≡ c.in_ok-seen.seen.len = omega (arith, found.whole, c.in_ok-seen.ensures.len, c.cell_count.ensures.count) in
    let same = with_items_is c.in_ok-seen.seen seen len in
    record {
      whole = subst (λ (xs : List Bool). length xs ≡ length l.cells) (sym same) found.whole;
      ok = λ k. subst (λ (xs : List Bool). Decides (bit_of xs k) (PlaceDependsOn l c.args.start k)) (sym same) (IsSearched-decides l c.args.start seen found k);
    }
