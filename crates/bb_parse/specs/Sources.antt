-- Which source a text's tokens mean, or which is the first fault. The tokens are cut after each ; and each endmodule.
-- Outside a module a header is good, inside one an item or endmodule; no statement nests deeper than 200.
use Rattle.std.specs.Prelude.{◌≡◌, ◌≢◌, ◌⊎◌, ◌<◌, ◌≤◌, ℕ, List, [], ◌∷◌, ◌++◌, Bool, true, false}
use Rattle.std.specs.List.{AllByRecursion}
use Rattle.bb_ast.specs.Syntax.{PlainBody, PlainItem, PlainHead, PlainModule}
use Rattle.bb_lex.specs.declared.keyword.Keyword.TheVariants as words
use Rattle.bb_lex.specs.declared.mark.Mark.TheVariants as marks
use Rattle.bb_lex.specs.declared.token.Kind.{Kind}
use Rattle.bb_lex.specs.declared.token.Kind.TheVariants as kinds
use Rattle.bb_lex.specs.declared.token.Token.{Token}
use Rattle.bb_lex.specs.Cut.{AreTokens}
use Rattle.bb_parse.specs.declared.fault.ParseFault.{ParseFault}
use Rattle.bb_parse.specs.declared.fault.ParseFault.TheVariants.{Statement, Unended, Deep, NoMemory}
use Rattle.bb_parse.specs.Symbols.{Symbol, Reserved, AreSymbols}
use Rattle.bb_parse.specs.Declarations.{IsHeader}
use Rattle.bb_parse.specs.Items.{IsItem}
use Rattle.bb_parse.specs.Nesting.{nesting}

-- ; and endmodule end a statement
abbrev pub ends_statement : Kind → Bool
ends_statement (kinds.Word words.Endmodule) = true
ends_statement (kinds.Mark marks.Semicolon) = true
ends_statement kind = false

-- the last token, and no other, ends it
abbrev pub IsStatement : List Token → Type 0
IsStatement [] = ⊥
IsStatement (t ∷ []) = ends_statement t.kind ≡ true
IsStatement (t ∷ u ∷ ts) = (ends_statement t.kind ≡ false) × IsStatement (u ∷ ts)

-- the first statement of tokens, and the tokens after it
abbrev pub IsFirstStatement : List Token → List Token → List Token → Type 0
IsFirstStatement tokens statement rest = (tokens ≡ statement ++ rest) × IsStatement statement

-- no statement ends among these
abbrev pub HaveNoEnd : List Token → Type 0
HaveNoEnd tokens = AllByRecursion (λ t. ends_statement t.kind ≡ false) tokens

abbrev pub line_of : List Token → ℕ
line_of [] = 0
line_of (t ∷ ts) = t.line

-- a statement that nests no deeper than 200 is the header of a module
abbrev pub IsHeaderOf : List ℕ → List Token → List ℕ × List PlainHead → Type 0
IsHeaderOf text statement x = (ts : List Symbol) × AreSymbols text statement ts × (nesting ts ≤ 200) × IsHeader ts x []

-- a statement that nests no deeper than 200 is an item, at whatever depth of its expressions
abbrev pub IsItemOf : List ℕ → List Token → PlainBody → Type 0
IsItemOf text statement body = (ts : List Symbol) × AreSymbols text statement ts × (nesting ts ≤ 200) × (depth : ℕ) × IsItem depth ts body []

-- endmodule alone
abbrev pub IsEnd : List ℕ → List Token → Type 0
IsEnd text statement = AreSymbols text statement (Reserved words.Endmodule ∷ [])

-- the items of a module, its endmodule, and the tokens after it
abbrev pub AreItems : List ℕ → List Token → List PlainItem → List Token → Type 0
AreItems text tokens [] rest = (s : List Token) × IsFirstStatement tokens s rest × IsEnd text s
AreItems text tokens (item ∷ items) rest =
    (s a : List Token) × IsFirstStatement tokens s a × IsItemOf text s item.body × (item.line ≡ line_of s) × AreItems text a items rest

-- modules up to the end
abbrev pub IsSource : List ℕ → List Token → List PlainModule → Type 0
IsSource text tokens [] = tokens ≡ []
IsSource text tokens (m ∷ ms) =
    (s a b : List Token) × IsFirstStatement tokens s a × IsHeaderOf text s (m.name, m.heads) × (m.line ≡ line_of s) × AreItems text a m.items b × IsSource text b ms

pub data SourcePlace : Type 0 where
  Outside : SourcePlace
  Inside : SourcePlace

-- a statement that is good at its place, and the place after it
abbrev pub IsGood : List ℕ → SourcePlace → List Token → SourcePlace → Type 0
IsGood text Outside s Outside = ⊥
IsGood text Outside s Inside = (x : List ℕ × List PlainHead) × IsHeaderOf text s x
IsGood text Inside s Inside = (body : PlainBody) × IsItemOf text s body
IsGood text Inside s Outside = IsEnd text s

-- from a place on, good statements up to another place, and the tokens after them
abbrev pub AreGood : List ℕ → SourcePlace → List Token → List (List Token) → SourcePlace → List Token → Type 0
AreGood text place tokens [] after rest = (place ≡ after) × (tokens ≡ rest)
AreGood text place tokens (s ∷ ss) after rest = (next : SourcePlace) × (a : List Token) × IsFirstStatement tokens s a × IsGood text place s next × AreGood text next a ss after rest

-- at these tokens, in this place, something is wrong: the next statement nests too deep or else is not good, or there is
-- none and tokens are left or a module is open
abbrev pub IsStatementFault : List ℕ → SourcePlace → List Token → ParseFault → Type 0
IsStatementFault text place tokens (Statement line) =
    (s a : List Token) × (ts : List Symbol) × IsFirstStatement tokens s a × AreSymbols text s ts × (nesting ts ≤ 200) × ((next : SourcePlace) → IsGood text place s next → ⊥) × (line ≡ line_of s)
IsStatementFault text place tokens (Deep line) = (s a : List Token) × (ts : List Symbol) × IsFirstStatement tokens s a × AreSymbols text s ts × (200 < nesting ts) × (line ≡ line_of s)
IsStatementFault text place tokens Unended = HaveNoEnd tokens × ((tokens ≢ []) ⊎ (place ≡ Inside))
IsStatementFault text place tokens NoMemory = ⊥

-- the first fault: all statements before it are good
abbrev pub IsFaultFrom : List ℕ → SourcePlace → List Token → ParseFault → Type 0
IsFaultFrom text place tokens fault = (prefix : List (List Token)) × (after : SourcePlace) × (a : List Token) × AreGood text place tokens prefix after a × IsStatementFault text after a fault

abbrev pub IsParseFault : List ℕ → List Token → ParseFault → Type 0
IsParseFault text tokens fault = IsFaultFrom text Outside tokens fault

-- a text reads as the source that its tokens mean
abbrev pub ReadsAs : List ℕ → List PlainModule → Type 0
ReadsAs text modules = (tokens : List Token) × AreTokens text tokens × IsSource text tokens modules
