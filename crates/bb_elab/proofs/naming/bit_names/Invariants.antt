use Rattle.std.proofs.Common.{◌≡◌, List, map, take}
use Rattle.bb_names.specs.Inside.Checked.{syntax}
use Rattle.bb_design.specs.Hierarchy.{Design}
use Rattle.bb_design.specs.NetBits.{Bit}
use Rattle.bb_elab.specs.Inside.DrivenNumbers.{AreBitsAt}
use Rattle.bb_elab.specs.Inside.Stages.{IsElaborated}
use Rattle.bb_design.specs.Texts.{bit_text}
use Rattle.bb_elab.proofs.naming.bit_names.Given as goal

abbrev pub invariant-loop-number : goal.invariant-loop-number
invariant-loop-number l = (d : Design) → IsElaborated (map syntax l.checked) d l.elaborated → (bits : List Bit) → AreBitsAt d l.numbers bits → l.names.items ≡ map (bit_text d) (take l.number-index bits)
