-- The words of a fault: what is wrong, the line where the fault has one, and the name where it has one.
use Rattle.std.specs.Prelude.{ℕ, List, [], ◌++◌, codes}
use Rattle.bb_design.specs.declared.fault.ElabFault.{ElabFault}
use Rattle.bb_design.specs.declared.fault.ElabFault.TheVariants as elab
use Rattle.bb_names.specs.declared.fault.NameFault.{NameFault}
use Rattle.bb_names.specs.declared.fault.NameFault.TheVariants as name
use Rattle.bb_frontend.specs.declared.side_fault.SideFault.{SideFault}
use Rattle.bb_frontend.specs.declared.side_fault.SideFault.TheVariants.{Token, Statement, Deep, Unended, Named, Elaborated, NoMemory}
use Rattle.bb_frontend.specs.Refusals.{at_line}

-- words with a name after them
abbrev pub with_name : List ℕ → List ℕ → List ℕ
with_name words n = words ++ codes " " ++ n

abbrev pub name_words : NameFault → List ℕ
name_words (name.Twice line n) = with_name (at_line (codes "twice") line) n
name_words (name.Unknown line n) = with_name (at_line (codes "unknown") line) n
name_words (name.Select line n) = with_name (at_line (codes "select") line) n
name_words (name.Width line n) = with_name (at_line (codes "width") line) n
name_words (name.Role line n) = with_name (at_line (codes "role") line) n
name_words name.NoMemory = []

abbrev pub design_words : ElabFault → List ℕ
design_words elab.NoTop = codes "notop"
design_words (elab.Recursive n) = with_name (codes "recursive") n
design_words (elab.TooDeep n) = with_name (codes "toodeep") n
design_words elab.TooLarge = codes "toolarge"
design_words (elab.DrivenTwice n) = with_name (codes "driventwice") n
design_words (elab.Undriven n) = with_name (codes "undriven") n
design_words (elab.Loop n) = with_name (codes "loop") n
design_words (elab.BoxTwice n) = with_name (codes "boxtwice") n
design_words (elab.RegTwice n) = with_name (codes "regtwice") n
design_words (elab.PortTwice n) = with_name (codes "porttwice") n
design_words elab.NoMemory = []

abbrev pub fault_words : SideFault → List ℕ
fault_words (Token line) = at_line (codes "token") line
fault_words (Statement line) = at_line (codes "statement") line
fault_words (Deep line) = at_line (codes "deep") line
fault_words Unended = codes "unended"
fault_words (Named fault) = name_words fault
fault_words (Elaborated fault) = design_words fault
fault_words NoMemory = []
