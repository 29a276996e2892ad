use Rattle.std.proofs.Common.{◌≤◌, ◌<◌, ◌*◌, ◌+◌, ℕ, length, arith, vec_capacity}
use Rattle.std.specs.Int.{IsPowerOfTwo}
use Rattle.bb_uniq.specs.Inside.Probes.{HasRoom}
use Rattle.bb_uniq.proofs.ProbeLemmas.{may_double}
use Rattle.bb_uniq.proofs.places.make_room.Goals as goal

-- where the places do not suffice for one more node, twice as many are within the room
doubled : (limit place_room count nodes : ℕ) (room : HasRoom limit place_room count) → IsPowerOfTwo count → count < 2 * (nodes + 1) → nodes < limit → 2 * count ≤ room.whole
doubled limit place_room count nodes room power few new =
    let e = room.enough in
    may_double count room.whole power room.is_power (omega (arith, few, new, e))

pub double-requires-clause-room : goal.double-requires-clause-room
double-requires-clause-room c =
    let room = c.requires.room in
    let count = length c.args.places.now.items in
    let few : count < 2 * (length c.args.nodes.now + 1) = grind (arith) in
    let fits : 2 * count ≤ room.whole = doubled c.args.limit (vec_capacity c.args.places.now) count (length c.args.nodes.now) room c.requires.places.count few c.requires.new in
    omega (arith, fits, room.within)

pub returns-then-len-nodes-clause-room : goal.returns-then-len-nodes-clause-room
returns-then-len-nodes-clause-room c =
    let room = c.requires.room in
    let count = length c.args.places.now.items in
    let few : count < 2 * (length c.args.nodes.now + 1) = grind (arith) in
    let fits : 2 * count ≤ room.whole = doubled c.args.limit (vec_capacity c.args.places.now) count (length c.args.nodes.now) room c.requires.places.count few c.requires.new in
    record {
      whole = room.whole;
      is_power = room.is_power;
      enough = room.enough;
      within = omega (arith, room.within, c.double.ensures.room);
      used = omega (arith, fits, c.double.ensures.count);
    }
