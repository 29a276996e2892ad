-- What is in a flat netlist by numbers.
use Rattle.std.proofs.Common.{ℕ, zero, suc, ◌<◌, List, [], ◌∷◌, length, arith}
use Rattle.bb_net.specs.Netlists.{Pins, box_at}

pub box_there : (boxes : List Pins) (b p : ℕ) → p < length (box_at boxes b).outs → b < length boxes
box_there [] b p lt = absurd (omega (arith, lt))
box_there (q ∷ boxes) zero p lt = omega arith
box_there (q ∷ boxes) (suc b) p lt = let fits = box_there boxes b p lt in omega (arith, fits)
