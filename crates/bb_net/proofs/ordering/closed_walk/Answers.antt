use Rattle.std.proofs.Common.{ℕ, [], Option, sym, subst}
use Rattle.std.specs.Prelude.{IfNone}
use Rattle.std.specs.BinaryHeap.{heap_items}
use Rattle.bb_net.specs.Loose.{IsOnClosedWalk}
use Rattle.bb_net.specs.Inside.Placings.{IsOpen, IsPlacingBy}
use Rattle.bb_net.proofs.OrderedLists.{open_on_walk, stuck_walk}
use Rattle.bb_net.proofs.ordering.closed_walk.Goals as goal

pub least_on_walk-requires-clause-placed : goal.least_on_walk-requires-clause-placed
least_on_walk-requires-clause-placed c = λ k walk.
    let s = c.args.s.now in
    subst (λ xs. IsOpen xs k) (sym c.deref.ensures.value) (open_on_walk c.args.loose.now s.to.items s.numbers.items c.requires.placing.list c.requires.placing.begun k walk)

pub unreachable-requires : goal.unreachable-requires
unreachable-requires c =
    let l = c.args.loose.now in
    let s = c.args.s.now in
    let p = subst (λ xs. IsPlacingBy l s.net s.to.items s.numbers.items s.numbered.items s.waiting.items xs (heap_items s.ready) [] []) c.requires.settled c.requires.placing in
    let q = subst (λ xs. IsPlacingBy l s.net s.to.items s.numbers.items s.numbered.items s.waiting.items [] xs [] []) c.requires.none_ready p in
    let walk = stuck_walk l s.net s.to.items s.numbers.items s.numbered.items s.waiting.items q c.requires.open.0 c.requires.open.1 c.requires.open.2 in
    let none = subst (λ (o : Option ℕ). IfNone o ((k : ℕ) → IsOnClosedWalk l k → ⊥)) c.in-None.is c.in_ok-place.ensures.none in
    none walk.0 walk.1
