-- Where the bits of each table begin, where these boxes are shown, one for each sharing class.
use Rattle.std.specs.Prelude.{◌≡◌, ℕ, ◌<◌, List, length, slice_index, take}
use Rattle.bb_net.specs.Completions.{table_bits}
use Rattle.bb_net.specs.Netlists.{Pins}

-- for each box how many table bits come before its own
pub record AreStarts (starts : List ℕ) (boxes : List Pins) : Type 0 where
  pub count : length starts ≡ length boxes
  pub each : (b : ℕ) → b < length boxes → slice_index starts b ≡ table_bits (take b boxes)
