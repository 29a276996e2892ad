-- Declarations and headers (IEEE 1364-2005, A.1.2, A.1.3 and A.2, in a profile). Where a header declares its ports, a name
-- without a direction repeats the declaration before it.
use Rattle.std.specs.Prelude.{◌≡◌, ◌⊎◌, ℕ, List, [], ◌∷◌, Some, None}
use Rattle.bb_ast.specs.declared.module.Dir.{Dir}
use Rattle.bb_ast.specs.declared.module.Dir.TheVariants as dirs
use Rattle.bb_ast.specs.declared.module.Port.{Port}
use Rattle.bb_ast.specs.declared.module.PortKind.{PortKind}
use Rattle.bb_ast.specs.declared.module.PortKind.TheVariants as port_kinds
use Rattle.bb_ast.specs.declared.module.Range.{Range}
use Rattle.bb_ast.specs.Syntax.{PlainHead}
use Rattle.bb_lex.specs.declared.keyword.Keyword.{Keyword}
use Rattle.bb_lex.specs.declared.keyword.Keyword.TheVariants as words
use Rattle.bb_lex.specs.declared.mark.Mark.TheVariants.{LeftRound, RightRound, LeftSquare, RightSquare, Comma, Semicolon, Colon}
use Rattle.bb_parse.specs.Symbols.{Symbol, Identifier, Reserved, PlainNumber, Sign}
use Rattle.bb_parse.specs.Lists.{Rule, IsOptional, IsList}

abbrev pub IsRange : Rule Range
IsRange ts range rest = ts ≡ Sign LeftSquare ∷ PlainNumber range.left ∷ Sign Colon ∷ PlainNumber range.right ∷ Sign RightSquare ∷ rest

abbrev pub direction_word : Dir → Keyword
direction_word dirs.Input = words.Input
direction_word dirs.Output = words.Output

abbrev pub port_kind_word : PortKind → Keyword
port_kind_word port_kinds.Wire = words.Wire
port_kind_word port_kinds.Reg = words.Reg

abbrev pub IsPortKind : Rule PortKind
IsPortKind ts kind rest = ts ≡ Reserved (port_kind_word kind) ∷ rest

-- a direction, a kind or none, and a range or none
abbrev pub IsPort : Rule Port
IsPort ts port rest = (a b : List Symbol) × (ts ≡ Reserved (direction_word port.dir) ∷ a) × IsOptional IsPortKind a port.kind b × IsOptional IsRange b port.range rest

-- a name without a declaration
abbrev pub IsPlainHead : Rule PlainHead
IsPlainHead ts head rest = (ts ≡ Identifier head.name ∷ rest) × (head.decl ≡ None)

-- a declaration, or the one before it
abbrev pub IsNextPort : Port → Rule Port
IsNextPort before ts port rest = IsPort ts port rest ⊎ ((port ≡ before) × (ts ≡ rest))

-- any number of a comma and a name with its declaration, where before is the last declaration so far
abbrev pub IsMoreDeclared : Port → Rule (List PlainHead)
IsMoreDeclared before ts [] rest = ts ≡ rest
IsMoreDeclared before ts (head ∷ heads) rest =
    (port : Port) × (a b : List Symbol) × (ts ≡ Sign Comma ∷ a) × IsNextPort before a port (Identifier head.name ∷ b) × (head.decl ≡ Some port) × IsMoreDeclared port b heads rest

-- names with declarations; the first has its own
abbrev pub AreDeclared : Rule (List PlainHead)
AreDeclared ts [] rest = ⊥
AreDeclared ts (head ∷ heads) rest = (port : Port) × (a : List Symbol) × IsPort ts port (Identifier head.name ∷ a) × (head.decl ≡ Some port) × IsMoreDeclared port a heads rest

-- the names of a header
pub data AreHeads (ts : List Symbol) (heads : List PlainHead) (rest : List Symbol) : Type 0 where
  absent : ts ≡ rest → heads ≡ [] → AreHeads ts heads rest
  empty : ts ≡ Sign LeftRound ∷ Sign RightRound ∷ rest → heads ≡ [] → AreHeads ts heads rest
  named : (a : List Symbol) → ts ≡ Sign LeftRound ∷ a → IsList IsPlainHead a heads (Sign RightRound ∷ rest) → AreHeads ts heads rest
  declared : (a : List Symbol) → ts ≡ Sign LeftRound ∷ a → AreDeclared a heads (Sign RightRound ∷ rest) → AreHeads ts heads rest

-- the header of a module: its name and the names of its header
abbrev pub IsHeader : Rule (List ℕ × List PlainHead)
IsHeader ts x rest = (a : List Symbol) × (ts ≡ Reserved words.Module ∷ Identifier x.0 ∷ a) × AreHeads a x.1 (Sign Semicolon ∷ rest)
