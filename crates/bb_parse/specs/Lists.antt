-- Rules of the grammar as definite clauses: IsRule ts x rest says that ts begins with symbols that mean x by the rule,
-- and that rest are the symbols after them.
use Rattle.std.specs.Prelude.{◌≡◌, ℕ, List, [], ◌∷◌, Option, Some, None}
use Rattle.bb_lex.specs.declared.mark.Mark.TheVariants.{Comma}
use Rattle.bb_parse.specs.Symbols.{Symbol, Identifier, Sign}

-- a rule of the grammar for syntax of a type
abbrev pub Rule : Type 0 → Type 1
Rule A = List Symbol → A → List Symbol → Type 0

-- a name
abbrev pub IsName : Rule (List ℕ)
IsName ts name rest = ts ≡ Identifier name ∷ rest

-- the rule, or nothing
abbrev pub IsOptional : {A : Type 0} → Rule A → Rule (Option A)
IsOptional is ts None rest = ts ≡ rest
IsOptional is ts (Some x) rest = is ts x rest

-- any number of a comma and what follows it
abbrev pub IsMore : {A : Type 0} → Rule A → Rule (List A)
IsMore is ts [] rest = ts ≡ rest
IsMore is ts (x ∷ xs) rest = (a b : List Symbol) × (ts ≡ Sign Comma ∷ a) × is a x b × IsMore is b xs rest

-- one or more, with commas between
abbrev pub IsList : {A : Type 0} → Rule A → Rule (List A)
IsList is ts [] rest = ⊥
IsList is ts (x ∷ xs) rest = (a : List Symbol) × is ts x a × IsMore is a xs rest
