-- The filled text as syntax: its first line is the header of a module, its last one ends it, and each line between them is an item. A word is a
-- number of one bit or a net by its name; the backslash and the blank of an escaped name are no part of it (IEEE 1364-2005, 3.7.1).
use Rattle.std.specs.Prelude.{ℕ, ◌+◌, List, [], ◌∷◌, ◌++◌, None, map, codes, decimal}
use Rattle.bb_ast.specs.Syntax.{Expression, Net, Sized, Cond, arm, no_arm, PlainBody, Ports, Regs, Assign, Gates, Always, PlainItem, PlainHead, PlainModule}
use Rattle.bb_ast.specs.declared.module.Dir.{Dir}
use Rattle.bb_ast.specs.declared.module.Dir.TheVariants as directions
use Rattle.bb_ast.specs.declared.module.Gate.{Gate}
use Rattle.bb_ast.specs.declared.module.Gate.TheVariants as gates
use Rattle.bb_bits.specs.Tables.{TableBits}
use Rattle.bb_net.specs.Flats.{FlatNet}
use Rattle.bb_fill.specs.Words.{NetWord, Bit, Named, CellNet, ChoiceNet, stem_of}
use Rattle.bb_fill.specs.Lines.{Line, Primitive}
use Rattle.bb_fill.specs.Lines as lines
use Rattle.bb_fill.specs.Filled.{filled_lines}

-- a word as an expression
abbrev pub expression_of : List ℕ → NetWord → Expression
expression_of stem (Bit b) = Sized (b ∷ [])
expression_of stem (Named name) = Net name
expression_of stem (CellNet number) = Net (stem ++ decimal number)
expression_of stem (ChoiceNet number) = Net (stem ++ codes "t" ++ decimal number)

abbrev pub gate_of : Primitive → Gate
gate_of lines.Not = gates.Not
gate_of lines.And = gates.And
gate_of lines.Or = gates.Or
gate_of lines.Xor = gates.Xor
gate_of lines.Buf = gates.Buf

-- the declaration of a port of one bit
abbrev pub port_body : Dir → List ℕ → PlainBody
port_body direction name = Ports (record { dir = direction; kind = None; range = None }) (name ∷ [])

-- the item of a line; the header and the end are none
abbrev pub bodies_of : List ℕ → Line → List PlainBody
bodies_of stem (lines.Module ports) = []
bodies_of stem (lines.Input name) = port_body directions.Input name ∷ []
bodies_of stem (lines.Output name) = port_body directions.Output name ∷ []
bodies_of stem (lines.Reg name) = Regs None (name ∷ []) ∷ []
bodies_of stem (lines.Gate primitive out ins) = Gates (gate_of primitive) ((None, map (expression_of stem) (out ∷ ins)) ∷ []) ∷ []
bodies_of stem (lines.Assign left condition high low) =
    Assign ((expression_of stem left, Cond (arm (expression_of stem condition) (expression_of stem high) no_arm) (expression_of stem low)) ∷ []) ∷ []
bodies_of stem (lines.Always falling clock name data_word) =
    Always (record { falling = falling; clock = Net clock; left = Net name; right = expression_of stem data_word }) ∷ []
bodies_of stem lines.End = []

-- the items of lines that are numbered on from a number
abbrev pub items_of : List ℕ → ℕ → List Line → List PlainItem
items_of stem line [] = []
items_of stem line (first ∷ rest) = map (λ body. record { line = line; body = body }) (bodies_of stem first) ++ items_of stem (line + 1) rest

abbrev pub plain_head : List ℕ → PlainHead
plain_head name = record { name = name; decl = None }

-- the module that the filled text is
abbrev pub filled_module : FlatNet → List TableBits → PlainModule
filled_module f tables = record {
  name = codes "filled";
  line = 1;
  heads = map plain_head (f.ins ++ f.outs);
  items = items_of (stem_of f) 1 (filled_lines f tables);
}
