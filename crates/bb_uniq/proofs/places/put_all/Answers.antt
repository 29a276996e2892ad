use Rattle.std.proofs.Common.{refl, sym, subst, length, []}
use Rattle.bb_uniq.specs.Inside.Probes.{ArePlaces}
use Rattle.bb_uniq.proofs.ProbeLemmas.{ArePlaces-free}
use Rattle.bb_uniq.proofs.places.put_all.Goals as goal

pub loop-k-init : goal.loop-k-init
loop-k-init c = (subst (λ p. ArePlaces p []) (sym c.requires.free) (ArePlaces-free (length c.args.places.now) c.requires.power), refl)
