-- Items of a module (IEEE 1364-2005, A.1.4, A.2, A.3, A.4 and A.6, in a profile). Brackets and conditionals nest to less than
-- depth levels. A wire declaration may mix names with and without assignment, which the standard does not allow.
use Rattle.std.specs.Prelude.{◌≡◌, ℕ, Bool, true, false, List, [], ◌∷◌, Option, None}
use Rattle.bb_ast.specs.declared.module.Gate.{Gate}
use Rattle.bb_ast.specs.declared.module.Gate.TheVariants as gates
use Rattle.bb_ast.specs.Syntax.{Expression, Net, Bit, PlainConns, Order, Named, PlainBody, Ports, Nets, Regs, Supply, Assign, Gates, Calls, Always}
use Rattle.bb_lex.specs.declared.keyword.Keyword.{Keyword}
use Rattle.bb_lex.specs.declared.keyword.Keyword.TheVariants as words
use Rattle.bb_lex.specs.declared.mark.Mark.TheVariants.{LeftRound, RightRound, LeftSquare, RightSquare, Comma, Semicolon, Dot, Equals, At, LessEqual}
use Rattle.bb_parse.specs.Symbols.{Symbol, Identifier, Reserved, PlainNumber, Sign}
use Rattle.bb_parse.specs.Lists.{Rule, IsName, IsOptional, IsList}
use Rattle.bb_parse.specs.Expressions.{IsExpr, IsLval}
use Rattle.bb_parse.specs.Declarations.{IsRange, IsPort}

abbrev pub IsAssigned : ℕ → Rule Expression
IsAssigned depth ts e rest = (a : List Symbol) × (ts ≡ Sign Equals ∷ a) × IsExpr depth a e rest

-- a name, with an assignment or without
abbrev pub IsNet : ℕ → Rule (List ℕ × Option Expression)
IsNet depth ts x rest = (a : List Symbol) × (ts ≡ Identifier x.0 ∷ a) × IsOptional (IsAssigned depth) a x.1 rest

abbrev pub IsAssignment : ℕ → Rule (Expression × Expression)
IsAssignment depth ts x rest = (a : List Symbol) × IsLval depth ts x.0 (Sign Equals ∷ a) × IsExpr depth a x.1 rest

abbrev pub supply_word : Bool → Keyword
supply_word false = words.Supply0
supply_word true = words.Supply1

abbrev pub gate_word : Gate → Keyword
gate_word gates.And = words.And
gate_word gates.Nand = words.Nand
gate_word gates.Or = words.Or
gate_word gates.Nor = words.Nor
gate_word gates.Xor = words.Xor
gate_word gates.Xnor = words.Xnor
gate_word gates.Buf = words.Buf
gate_word gates.Not = words.Not

-- two terminals or more
abbrev pub AreTerminals : ℕ → Rule (List Expression)
AreTerminals depth ts [] rest = ⊥
AreTerminals depth ts (x ∷ xs) rest = (a : List Symbol) × IsExpr depth ts x (Sign Comma ∷ a) × IsList (IsExpr depth) a xs rest

-- a gate, with a name or without
abbrev pub IsGate : ℕ → Rule (Option (List ℕ) × List Expression)
IsGate depth ts x rest = (a : List Symbol) × IsOptional IsName ts x.0 (Sign LeftRound ∷ a) × AreTerminals depth a x.1 (Sign RightRound ∷ rest)

-- a connection by order, which may be open
abbrev pub IsPlace : ℕ → Rule (Option Expression)
IsPlace depth = IsOptional (IsExpr depth)

-- a connection by the name of a port, which may be open
abbrev pub IsNamed : ℕ → Rule (List ℕ × Option Expression)
IsNamed depth ts x rest = (a : List Symbol) × (ts ≡ Sign Dot ∷ Identifier x.0 ∷ Sign LeftRound ∷ a) × IsPlace depth a x.1 (Sign RightRound ∷ rest)

-- the connections of an instance: a lone open connection is none
abbrev pub AreConns : ℕ → Rule PlainConns
AreConns depth ts (Order []) rest = ts ≡ rest
AreConns depth ts (Order (None ∷ [])) rest = ⊥
AreConns depth ts (Order places) rest = IsList (IsPlace depth) ts places rest
AreConns depth ts (Named all) rest = IsList (IsNamed depth) ts all rest

abbrev pub IsCall : ℕ → Rule (List ℕ × PlainConns)
IsCall depth ts x rest = (a : List Symbol) × (ts ≡ Identifier x.0 ∷ Sign LeftRound ∷ a) × AreConns depth a x.1 (Sign RightRound ∷ rest)

abbrev pub edge_word : Bool → Keyword
edge_word false = words.Posedge
edge_word true = words.Negedge

-- a net or one bit of it
abbrev pub IsClockExpression : Rule Expression
IsClockExpression ts (Net name) rest = ts ≡ Identifier name ∷ rest
IsClockExpression ts (Bit name i) rest = ts ≡ Identifier name ∷ Sign LeftSquare ∷ PlainNumber i ∷ Sign RightSquare ∷ rest
IsClockExpression ts _ rest = ⊥

abbrev pub IsItem : ℕ → Rule PlainBody
IsItem depth ts (Ports port names) rest = (a : List Symbol) × IsPort ts port a × IsList IsName a names (Sign Semicolon ∷ rest)
IsItem depth ts (Nets range nets) rest = (a b : List Symbol) × (ts ≡ Reserved words.Wire ∷ a) × IsOptional IsRange a range b × IsList (IsNet depth) b nets (Sign Semicolon ∷ rest)
IsItem depth ts (Regs range names) rest = (a b : List Symbol) × (ts ≡ Reserved words.Reg ∷ a) × IsOptional IsRange a range b × IsList IsName b names (Sign Semicolon ∷ rest)
IsItem depth ts (Supply high range names) rest =
    (a b : List Symbol) × (ts ≡ Reserved (supply_word high) ∷ a) × IsOptional IsRange a range b × IsList IsName b names (Sign Semicolon ∷ rest)
IsItem depth ts (Assign all) rest = (a : List Symbol) × (ts ≡ Reserved words.Assign ∷ a) × IsList (IsAssignment depth) a all (Sign Semicolon ∷ rest)
IsItem depth ts (Gates gate all) rest = (a : List Symbol) × (ts ≡ Reserved (gate_word gate) ∷ a) × IsList (IsGate depth) a all (Sign Semicolon ∷ rest)
IsItem depth ts (Calls name all) rest = (a : List Symbol) × (ts ≡ Identifier name ∷ a) × IsList (IsCall depth) a all (Sign Semicolon ∷ rest)
IsItem depth ts (Always r) rest =
    (a b c : List Symbol) × (ts ≡ Reserved words.Always ∷ Sign At ∷ Sign LeftRound ∷ Reserved (edge_word r.falling) ∷ a) × IsClockExpression a r.clock (Sign RightRound ∷ b)
    × IsLval depth b r.left (Sign LessEqual ∷ c) × IsExpr depth c r.right (Sign Semicolon ∷ rest)
