-- Laws of crates below on which the laws of nested boxes rest.
use Rattle.std.specs.Prelude.{◌≡◌, ◌<◌, ◌⊎◌, ℕ, ◌^◌, Bool, List, length}
use Rattle.bb_bits.specs.Numbers.{number_of, bits_of}
use Rattle.bb_bits.specs.Laws.RowLaws.{RowsHaveTable, RowsAreChosen}
use Rattle.bb_net.specs.Conditions.{PinBits, ChoicesSuit}
use Rattle.bb_net.specs.Netlists.{Netlist, IsOrdered}
use Rattle.bb_net.specs.Values.{value_of, IsValue, ValueGoesByBoxes}

-- bits can be a value of a netlist
abbrev pub ValueExists : Type 0
ValueExists = (net : Netlist) (x : List Bool) (box : ℕ → ℕ → List Bool → Bool) → IsOrdered net → IsValue net x box (value_of net x box)

pub record LawsBelow : Type 0 where
  pub below : (bits : List Bool) → number_of bits < 2 ^ length bits
  pub width : (n number : ℕ) → length (bits_of n number) ≡ n
  pub spelled : (bits : List Bool) → bits_of (length bits) (number_of bits) ≡ bits
  pub tables : RowsHaveTable
  pub chosen : RowsAreChosen
  pub exists : ValueExists
  pub swap : ValueGoesByBoxes
  pub suit : (spec imp : Netlist) (chosen : List PinBits) → ChoicesSuit spec imp chosen ⊎ (ChoicesSuit spec imp chosen → ⊥)
