-- Rows of nested boxes as least points of the function of a stage. Its first variables are the pins of the boxes before
-- the box, the box's input pins follow, and then its output pins. The bits before are those at input pins with the same
-- Ref.
use Rattle.std.specs.Prelude.{◌≡◌, ◌<◌, ℕ, ◌^◌, Bool, false, List, ◌++◌, length, map, take, drop, replicate}
use Rattle.bb_bits.specs.Numbers.{number_of}
use Rattle.bb_bits.specs.Tables.{TableBits, row_of}
use Rattle.bb_bits.specs.Truth.{Truth, truth_at}
use Rattle.bb_net.specs.Netlists.{Pins, box_at}
use Rattle.bb_net.specs.Values.{bit_of}
use Rattle.bb_quant.specs.Inside.LeastPoints.{IsLeastPoint}
use Rattle.bb_uniq.specs.declared.store.Ref.{Ref}
use Rattle.bb_nest.specs.Inside.Readers.{AreReaders, own_refs, refs_before}

-- the bits up to the input pins of the box, where these have the bits ins
abbrev pub prefix_of : List ℕ → List Bool → List Bool
prefix_of readers ins = map (bit_of ins) readers ++ ins

-- the m bits after a prefix in the least point at which a table of n variables is 0, or zeros where it is 1 everywhere
pub data IsStageRow (n : ℕ) (t : Truth) (m : ℕ) (prefix outs : List Bool) : Type 0 where
  AtLeast : (point : List Bool) → length point ≡ n → take (length prefix) point ≡ prefix → IsLeastPoint t false (length prefix) point point
      → outs ≡ take m (drop (length prefix) point)
      → IsStageRow n t m prefix outs
  AtNone : ((point : List Bool) → length point ≡ n → take (length prefix) point ≡ prefix → truth_at t point ≡ false → ⊥)
      → outs ≡ replicate m false
      → IsStageRow n t m prefix outs

-- the first rows of a table are such
abbrev pub HasStageRows : ℕ → Truth → List ℕ → TableBits → ℕ → Type 0
HasStageRows n t readers bits count = (ins : List Bool) → length ins ≡ bits.inputs → number_of ins < count → IsStageRow n t bits.outputs (prefix_of readers ins) (row_of bits (number_of ins))

-- the table of box b, where the pins of all boxes have these Refs; without output pins its rows are empty
pub record IsStageTable (n : ℕ) (t : Truth) (refs : List Ref) (boxes : List Pins) (b : ℕ) (bits : TableBits) : Type 0 where
  pub inputs : bits.inputs ≡ length (box_at boxes b).ins
  pub outputs : bits.outputs ≡ length (box_at boxes b).outs
  pub readers : List ℕ
  pub read : AreReaders (own_refs boxes b refs) (refs_before boxes b refs) readers
  pub rows : 0 < bits.outputs → HasStageRows n t readers bits (2 ^ bits.inputs)
