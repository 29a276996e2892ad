-- The answer when a netlist is to be filled: a name that clashes; or else that the text would be too large; or else the
-- text.
use Rattle.std.specs.Prelude.{◌≡◌, ℕ, List, Option, Some, None, Result, Ok, Err, Vec}
use Rattle.std.specs.declared.alloc.Global.{Global}
use Rattle.bb_bits.specs.Tables.{TableBits}
use Rattle.bb_net.specs.Flats.{FlatNet}
use Rattle.bb_fill.specs.declared.fault.FillFault.{FillFault}
use Rattle.bb_fill.specs.declared.fault.FillFault.TheVariants as faults
use Rattle.bb_fill.specs.Filled.{filled_text}
use Rattle.bb_fill.specs.Clashes.{AreNamesApart, IsClash}
use Rattle.bb_fill.specs.Sizes.{IsSmallText, IsTooLargeText}

pub data Answer : Type 0 where
  Clash : List ℕ → Answer
  TooLarge : Answer
  Text : List ℕ → Answer

-- the answer to a netlist with these tables, one for each box
pub data IsFillAnswer (f : FlatNet) (tables : List TableBits) (answer : Answer) : Type 0 where
  Clashes : (name : List ℕ) → IsClash f name → answer ≡ Clash name → IsFillAnswer f tables answer
  IsLarge : AreNamesApart f → IsTooLargeText f tables → answer ≡ TooLarge → IsFillAnswer f tables answer
  IsFilled : AreNamesApart f → IsSmallText f tables → answer ≡ Text (filled_text f tables) → IsFillAnswer f tables answer

-- the answer of a result; lack of memory is none
abbrev pub answer_of : Result (Vec ℕ Global) FillFault → Option Answer
answer_of (Ok text) = Some (Text text.items)
answer_of (Err (faults.Clash name)) = Some (Clash name)
answer_of (Err faults.TooLarge) = Some TooLarge
answer_of (Err faults.NoMemory) = None
