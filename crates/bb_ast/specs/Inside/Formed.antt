-- Well-formed syntax. Names are printable, nothing is a run, a level or a list of no parts, operators on words are in
-- one expression only where they are of one level of precedence, sized numbers have 1 to 128 bits, other numbers are
-- below 2 ^ 31, left sides are what may be assigned, and a clock is a net or one bit of a net. What a text reads as is
-- well formed; how deep it nests, and which names of a header are declared there, is not said here.
use Rattle.std.specs.Prelude.{◌≡◌, true, ℕ, ◌<◌, ◌≤◌, ◌^◌, List, [], ◌∷◌, Option, None, length, IfSome}
use Rattle.std.specs.List.{AllByRecursion}
use Rattle.bb_bits.specs.Names.{IsPrintable}
use Rattle.bb_ast.specs.declared.module.Port.{Port}
use Rattle.bb_ast.specs.declared.module.Range.{Range}
use Rattle.bb_ast.specs.Assignable.{is_assignable}
use Rattle.bb_ast.specs.Levels.{level_of}
use Rattle.bb_ast.specs.Syntax.{Expression, Net, Bit, Part, Sized, Plain, Not, Fold, Chain, Words, Cond, Concat, Repeat, Operands, no_operand, operand, WordOperands, no_word, word, Arms, no_arm, arm, Parts, no_part, part}
use Rattle.bb_ast.specs.Syntax.{PlainConns, Order, Named, PlainBody, Ports, Nets, Regs, Supply, Assign, Gates, Calls, Always, PlainHead, PlainModule}

-- what a plain number says, also as an index or a count
abbrev pub IsSmall : ℕ → Type 0
IsSmall n = n < 2 ^ 31

abbrev mutual
  -- a well-formed expression
  pub IsFormedExpression : Expression → Type 0
  IsFormedExpression (Net name) = IsPrintable name
  IsFormedExpression (Bit name i) = IsPrintable name × IsSmall i
  IsFormedExpression (Part name i j) = IsPrintable name × IsSmall i × IsSmall j
  IsFormedExpression (Sized bits) = (1 ≤ length bits) × (length bits ≤ 128)
  IsFormedExpression (Plain n) = IsSmall n
  IsFormedExpression (Not k e) = (1 ≤ k) × IsFormedExpression e
  IsFormedExpression (Fold op e) = IsFormedExpression e
  IsFormedExpression (Chain e no_operand) = ⊥
  IsFormedExpression (Chain e (operand op x rest)) = IsFormedExpression e × IsFormedExpression x × AreFormedOperands rest
  IsFormedExpression (Words e no_word) = ⊥
  IsFormedExpression (Words e (word op x rest)) = IsFormedExpression e × IsFormedExpression x × AreFormedWords (level_of op) rest
  IsFormedExpression (Cond no_arm last) = ⊥
  IsFormedExpression (Cond (arm c v rest) last) = IsFormedExpression c × IsFormedExpression v × AreFormedArms rest × IsFormedExpression last
  IsFormedExpression (Concat no_part) = ⊥
  IsFormedExpression (Concat (part e rest)) = IsFormedExpression e × AreFormedParts rest
  IsFormedExpression (Repeat k no_part) = ⊥
  IsFormedExpression (Repeat k (part e rest)) = IsSmall k × IsFormedExpression e × AreFormedParts rest

  pub AreFormedOperands : Operands → Type 0
  AreFormedOperands no_operand = Unit {0}
  AreFormedOperands (operand op e rest) = IsFormedExpression e × AreFormedOperands rest

  -- operators of one level of precedence
  pub AreFormedWords : ℕ → WordOperands → Type 0
  AreFormedWords level no_word = Unit {0}
  AreFormedWords level (word op e rest) = (level_of op ≡ level) × IsFormedExpression e × AreFormedWords level rest

  pub AreFormedArms : Arms → Type 0
  AreFormedArms no_arm = Unit {0}
  AreFormedArms (arm c v rest) = IsFormedExpression c × IsFormedExpression v × AreFormedArms rest

  pub AreFormedParts : Parts → Type 0
  AreFormedParts no_part = Unit {0}
  AreFormedParts (part e rest) = IsFormedExpression e × AreFormedParts rest

-- one or more, each of a kind
abbrev pub SomeEach : {A : Type 0} → (A → Type 0) → List A → Type 0
SomeEach is xs = (1 ≤ length xs) × AllByRecursion is xs

abbrev pub IsFormedRange : Range → Type 0
IsFormedRange range = IsSmall range.left × IsSmall range.right

abbrev pub IsFormedPort : Port → Type 0
IsFormedPort port = IfSome port.range IsFormedRange

-- a name with what is assigned or connected to it
abbrev pub IsFormedPair : List ℕ × Option Expression → Type 0
IsFormedPair x = IsPrintable x.0 × IfSome x.1 IsFormedExpression

-- both sides of an assignment
abbrev pub IsFormedAssignment : Expression × Expression → Type 0
IsFormedAssignment x = IsFormedExpression x.0 × IsFormedExpression x.1 × (is_assignable x.0 ≡ true)

-- a clock
abbrev pub IsNetOrBit : Expression → Type 0
IsNetOrBit (Net name) = Unit {0}
IsNetOrBit (Bit name i) = Unit {0}
IsNetOrBit e = ⊥

-- a gate has two terminals or more
abbrev pub IsFormedGate : Option (List ℕ) × List Expression → Type 0
IsFormedGate x = IfSome x.0 IsPrintable × (2 ≤ length x.1) × AllByRecursion IsFormedExpression x.1

-- by order a lone open connection is none; by name there is a connection
abbrev pub IsFormedConns : PlainConns → Type 0
IsFormedConns (Order (None ∷ [])) = ⊥
IsFormedConns (Order places) = AllByRecursion (λ place. IfSome place IsFormedExpression) places
IsFormedConns (Named all) = SomeEach IsFormedPair all

abbrev pub IsFormedCall : List ℕ × PlainConns → Type 0
IsFormedCall x = IsPrintable x.0 × IsFormedConns x.1

abbrev pub IsFormedBody : PlainBody → Type 0
IsFormedBody (Ports port names) = IsFormedPort port × SomeEach IsPrintable names
IsFormedBody (Nets range nets) = IfSome range IsFormedRange × SomeEach IsFormedPair nets
IsFormedBody (Regs range names) = IfSome range IsFormedRange × SomeEach IsPrintable names
IsFormedBody (Supply high range names) = IfSome range IsFormedRange × SomeEach IsPrintable names
IsFormedBody (Assign all) = SomeEach IsFormedAssignment all
IsFormedBody (Gates gate all) = SomeEach IsFormedGate all
IsFormedBody (Calls name all) = IsPrintable name × SomeEach IsFormedCall all
IsFormedBody (Always r) = IsFormedExpression r.clock × IsFormedExpression r.left × IsFormedExpression r.right × IsNetOrBit r.clock × (is_assignable r.left ≡ true)

-- a name of a header, with its declaration where the header has it
abbrev pub IsFormedHead : PlainHead → Type 0
IsFormedHead head = IsPrintable head.name × IfSome head.decl IsFormedPort

-- a well-formed module
abbrev pub IsFormed : PlainModule → Type 0
IsFormed m = IsPrintable m.name × AllByRecursion IsFormedHead m.heads × AllByRecursion (λ item. IsFormedBody item.body) m.items
