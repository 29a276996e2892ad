use Rattle.std.proofs.Common.{◌≡◌, ◌∙◌, ◌++◌, [], map, length, sym, ap, subst, arith}
use Rattle.std.specs.BinaryHeap.{heap_items}
use Rattle.bb_net.specs.Orders.{IsOrderOf}
use Rattle.bb_net.specs.Inside.Placings.{IsPlaced, IsPlacingBy, given_place}
use Rattle.bb_net.proofs.OrderedLists.{IsOrderOf-from}
use Rattle.bb_net.proofs.ordering.finish.Goals as goal

pub add_outs-requires-clause-whole : goal.add_outs-requires-clause-whole
add_outs-requires-clause-whole c =
    let s = c.args.s in
    λ k h. subst (λ xs. IsPlaced xs k) (sym c.deref.ensures.value) (c.requires.whole k (omega (arith, h, ap length c.deref.ensures.value, c.requires.placing.begun.whole)))

pub returns : goal.returns
returns c =
    let l = c.args.loose.now in
    let s = c.args.s in
    let p = subst (λ xs. IsPlacingBy l s.net s.to.items s.numbers.items s.numbered.items s.waiting.items xs (heap_items s.ready) [] []) c.requires.settled c.requires.placing in
    let q = subst (λ xs. IsPlacingBy l s.net s.to.items s.numbers.items s.numbered.items s.waiting.items [] xs [] []) c.requires.none_ready p in
    let o = IsOrderOf-from l s.net s.to.items s.numbers.items s.numbered.items s.waiting.items q c.keeps_its_order.ensures c.requires.whole in
    let net : c.add_outs.new.net ≡ record s.net { outs = s.net.outs ++ map (given_place s.to.items) l.outs } =
    c.in_ok-add_outs.ensures.ok ∙ ap (λ xs. record s.net { outs = s.net.outs ++ map (given_place xs) c.output_places.result.now }) c.deref.ensures.value ∙ ap (λ xs. record s.net { outs = s.net.outs ++ map (given_place s.to.items) xs }) c.output_places.ensures.outs in
    record { ok = subst (λ m. IsOrderOf l m s.numbers.items) (sym net) o }
