use Rattle.std.proofs.Common.{sym, subst}
use Rattle.bb_uniq.specs.Inside.Nodes.{IsStore}
use Rattle.bb_uniq.specs.Inside.Probes.{ArePlaces}
use Rattle.bb_uniq.proofs.Making.{IsStore-empty}
use Rattle.bb_uniq.proofs.store.Store.start.Goals as goal

pub invariant_of-result : goal.invariant_of-result
invariant_of-result c =
    let none = c.in_ok-nodes.ensures in
    let places = c.in_ok-places.ensures in (
      subst (λ nodes. IsStore (record { vars = c.args.vars; limit = c.args.limit; nodes = nodes })) (sym none.items) (IsStore-empty c.args.vars c.args.limit),
      c.requires.vars,
      c.requires.limit,
      none.capacity,
      subst (ArePlaces c.in_ok-places.places.items) (sym none.items) places.places,
      places.room,
    )
