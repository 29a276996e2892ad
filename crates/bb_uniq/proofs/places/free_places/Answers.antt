use Rattle.std.proofs.Common.{◌≡◌, length, arith, sym, subst, ap, ◌∙◌, vec_len, []}
use Rattle.std.specs.Prelude.{replicate}
use Rattle.std.proofs.lemmas.List.{length-replicate}
use Rattle.bb_uniq.specs.Inside.Probes.{ArePlaces}
use Rattle.bb_uniq.proofs.ProbeLemmas.{ArePlaces-free, free_from_none, power_of_least}
use Rattle.bb_uniq.proofs.places.free_places.Goals as goal
use Rattle.bb_uniq.proofs.places.free_places.Goals.{In_ok-resize}

free : (c : In_ok-resize) → c.resize.new.self.items ≡ replicate c.min.result 0
free c = free_from_none c.min.result (vec_len c.in_ok-places.places) c.in_ok-places.places.items c.resize.new.self.items c.in_ok-places.ensures.items c.in_ok-places.ensures.len c.in_ok-resize.ensures.items

pub returns-clause-places : goal.returns-clause-places
returns-clause-places c =
    subst (λ p. ArePlaces p []) (sym (free c)) (ArePlaces-free c.min.result (power_of_least c.min.result c.places_for-whole.result c.min.ensures c.places_for-whole.ensures.power))

pub returns-clause-room : goal.returns-clause-room
returns-clause-room c =
    let size = c.places_for-whole.ensures in
    let used : length c.resize.new.self.items ≡ c.min.result = ap length (free c) ∙ length-replicate c.min.result 0 in
    record {
      whole = c.places_for-whole.result;
      is_power = size.power;
      enough = size.enough;
      within = omega (arith, c.in_ok-places.ensures.capacity, c.resize.ensures.capacity);
      used = omega (arith, used, c.min.ensures);
    }
