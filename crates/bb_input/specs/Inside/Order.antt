-- The variables of the pins of boxes, box after box, each box's input pins and then its output pins.
use Rattle.std.specs.Prelude.{◌≡◌, ◌<◌, ℕ, ◌+◌, List, [], ◌∷◌, ◌++◌, length, take, slice_index_or}
use Rattle.std.specs.List.{range_with_len}
use Rattle.bb_net.specs.Netlists.{Pins, box_at}
use Rattle.bb_net.specs.Pairs.{pin_count}

-- the variables of the input pins, where the first box's begin at a number
abbrev pub in_variables : ℕ → List Pins → List ℕ
in_variables first [] = []
in_variables first (box ∷ boxes) = range_with_len first (length box.ins) ++ in_variables (first + (length box.ins + length box.outs)) boxes

-- the variables at which the output pins of the boxes start
abbrev pub AreStarts : List Pins → List ℕ → Type 0
AreStarts boxes starts = (b : ℕ) → b < length boxes → slice_index_or starts b 0 ≡ pin_count (take b boxes) + length (box_at boxes b).ins
