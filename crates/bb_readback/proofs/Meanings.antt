-- What the lines of the filled text mean in a design: bits of nets, operands, constructs, and what drives a bit. Each net has one bit, and there
-- is one scope, at the empty path.
use Rattle.std.proofs.Common.{ℕ, Bool, List, [], ◌∷◌, map, unwrap_or}
use Rattle.bb_ast.specs.Syntax.{Net, PlainAlways}
use Rattle.bb_expr.specs.Terms.{Term}
use Rattle.bb_expr.specs.Terms as term
use Rattle.bb_fill.specs.Words.{NetWord, Bit}
use Rattle.bb_fill.specs.Lines.{Line, Gate, Assign, Always}
use Rattle.bb_fill.specs.Laws.{identifier}
use Rattle.bb_readback.specs.Laws.Modules.{expression_of, gate_of}
use Rattle.bb_design.specs.NetBits.{Bit as NetBit}
use Rattle.bb_design.specs.Constructs.{Construct, Assignment, GateInstance, Register}
use Rattle.bb_design.specs.Drivers.{Drive, Free, MadeOf, driven}
use Rattle.bb_design.specs.GateFunctions.{gate_gives, on_terms}
use Rattle.bb_readback.proofs.WordSites.{choice_of}

-- the one bit of a net
abbrev pub bit_named : List ℕ → NetBit
bit_named n = record { path = []; net = n; place = 0 }

-- what a word is called; a number has no name
abbrev pub name_of : List ℕ → NetWord → List ℕ
name_of stem word = unwrap_or (identifier stem word) []

-- the bit of the net that a word is
abbrev pub bit_of_word : List ℕ → NetWord → NetBit
bit_of_word stem word = bit_named (name_of stem word)

-- what a word is as an operand
abbrev pub term_of : List ℕ → NetWord → Term
term_of stem (Bit b) = term.Const b
term_of stem word = term.Net (name_of stem word) 0

-- the item of a register
abbrev pub always_of : List ℕ → Bool → List ℕ → List ℕ → NetWord → PlainAlways
always_of stem falling clock name data_word = record { falling = falling; clock = Net clock; left = Net name; right = expression_of stem data_word }

-- what a line is in its module
abbrev pub constructs_of : List ℕ → Line → List Construct
constructs_of stem (Gate primitive out ins) = GateInstance (gate_of primitive) (expression_of stem out ∷ []) (map (expression_of stem) ins) ∷ []
constructs_of stem (Assign left condition high low) = Assignment (expression_of stem left) (choice_of stem condition high low) ∷ []
constructs_of stem (Always falling clock name data_word) = Register (always_of stem falling clock name data_word) ∷ []
constructs_of stem line = []

-- what a line drives, and by what
abbrev pub drives_of : List ℕ → Line → List Drive
drives_of stem (Gate primitive out ins) = driven (MadeOf [] (gate_gives on_terms (gate_of primitive) (map (term_of stem) ins))) (bit_of_word stem out) ∷ []
drives_of stem (Assign left condition high low) =
    driven (MadeOf [] (term.Mux (term_of stem condition) (term_of stem high) (term_of stem low))) (bit_of_word stem left) ∷ []
drives_of stem (Always falling clock name data_word) = driven Free (bit_named name) ∷ []
drives_of stem line = []
