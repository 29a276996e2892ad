-- What the tokens of a text mean is well formed: each rule of the grammar takes well-formed symbols to well-formed syntax.
use Rattle.std.proofs.Common.{◌≡◌, refl, ℕ, zero, suc, ◌≤◌, List, [], ◌∷◌, Option, Some, None, true, sym, subst, arith, length, inl, inr, IfSome}
use Rattle.std.specs.List.{AllByRecursion}
use Rattle.std.proofs.lemmas.Bool.Decides.{nat_tests}
use Rattle.bb_ast.specs.declared.expr.Op.{Op}
use Rattle.bb_ast.specs.declared.operators.WordOp.{WordOp}
use Rattle.bb_ast.specs.Levels.{level_of}
use Rattle.bb_ast.specs.declared.module.Port.{Port}
use Rattle.bb_ast.specs.declared.module.PortKind.{PortKind}
use Rattle.bb_ast.specs.Syntax.{Expression, Net, Bit, Part, Concat, Repeat, operands, word_operands, arms, listed_parts, Order, Named, PlainBody, Ports, Nets, Regs, Supply, Assign, Gates, Calls, Always, PlainItem, PlainHead, PlainModule}
use Rattle.bb_ast.specs.Inside.Formed.{IsSmall, IsFormedExpression, AreFormedOperands, AreFormedWords, AreFormedArms, AreFormedParts, SomeEach, IsFormedRange, IsFormedPort, IsFormedPair, IsFormedAssignment, IsFormedGate, IsFormedConns, IsFormedCall, IsFormedBody, IsFormedHead, IsFormed, IsNetOrBit}
use Rattle.bb_ast.specs.Assignable.{is_assignable}
use Rattle.bb_bits.specs.Names.{IsPrintable}
use Rattle.bb_lex.specs.declared.mark.Mark.{Mark}
use Rattle.bb_lex.specs.declared.mark.Mark.TheVariants.{Comma, Query, Colon, RightRound, Equals, LessEqual, Semicolon}
use Rattle.bb_lex.specs.declared.token.Token.{Token}
use Rattle.bb_lex.specs.Bytes.{is_graphic, Each}
use Rattle.bb_lex.specs.Cut.{IsTokenOf}
use Rattle.bb_lex.specs.Laws.{TokensAreInText, NamesArePrintable, SizedBitsFit, PlainValuesFit}
use Rattle.bb_lex.specs.Meaning.{name_of, IsNameOrWord}
use Rattle.bb_parse.specs.Symbols.{Symbol, Identifier, Reserved, SizedNumber, PlainNumber, Sign, IsSymbol, AreSymbols}
use Rattle.bb_parse.specs.Lists.{Rule, IsName, IsOptional, IsMore, IsList}
use Rattle.bb_parse.specs.Expressions.{IsSelect, IsPrimary, select, sized, plain, round, concat, repeat, IsSigns, with_signs, IsNegated, IsFold, IsUnary, on_words, bit_operator, word_operator, IsOperands, chain_expression, worded, IsChain, is_bitwise, IsLevel, IsArms, conditional, IsExpr, IsLval}
use Rattle.bb_parse.specs.Declarations.{IsRange, IsPortKind, IsPort, IsPlainHead, IsNextPort, IsMoreDeclared, AreDeclared, AreHeads, absent, empty, named, declared, IsHeader}
use Rattle.bb_parse.specs.Items.{IsAssigned, IsNet, IsAssignment, AreTerminals, IsGate, IsPlace, IsNamed, AreConns, IsCall, IsClockExpression, IsItem}
use Rattle.bb_parse.specs.Sources.{IsFirstStatement, AreItems, IsSource}
use Rattle.bb_parse.specs.Laws.{SourcesAreFormed}
use Rattle.bb_parse.proofs.OperatorMarks.{of_row-some}
use Rattle.bb_parse.proofs.Parts.{by_either}
use Rattle.bb_parse.proofs.ReadLaws.{all_of_text}
use Rattle.bb_parse.proofs.SourceLoop.{all_parts}

-- a symbol that a token of a text can stand for
abbrev IsSound : Symbol → Type 0
IsSound (Identifier name) = IsPrintable name
IsSound (Reserved word) = Unit {0}
IsSound (SizedNumber bits) = (1 ≤ length bits) × (length bits ≤ 128)
IsSound (PlainNumber n) = IsSmall n
IsSound (Sign mark) = Unit {0}

abbrev AreSound : List Symbol → Type 0
AreSound ts = AllByRecursion IsSound ts

-- from such symbols the rule makes what is formed, and leaves such symbols
abbrev Forms : {A : Type 0} → (A → Type 0) → Rule A → Type 0
Forms {A} is_formed is = (ts : List Symbol) (x : A) (rest : List Symbol) → is ts x rest → AreSound ts → is_formed x × AreSound rest

by : (ts us : List Symbol) → ts ≡ us → AreSound ts → AreSound us
by ts us e h = subst AreSound e h

-- lists

optional_forms : {A : Type 0} (P : A → Type 0) (is : Rule A) → Forms P is → Forms (λ o. IfSome o P) (IsOptional is)
optional_forms P is f ts None rest p h = (tt, by ts rest p h)
optional_forms P is f ts (Some x) rest p h = f ts x rest p h

module _ {A : Type 0} (P : A → Type 0) (is : Rule A) (f : Forms P is) where
  more_forms : Forms (AllByRecursion P) (IsMore is)
  more_forms ts [] rest p h = (tt, by ts rest p h)
  more_forms ts (x ∷ xs) rest p h =
      let w = f p.0 x p.1 p.3 (by ts (Sign Comma ∷ p.0) p.2 h).1 in
      let v = more_forms p.1 xs rest p.4 w.1 in
      ((w.0, v.0), v.1)

  list_forms : Forms (SomeEach P) (IsList is)
  list_forms ts [] rest p h = elim p [ ]
  list_forms ts (x ∷ xs) rest p h =
      let w = f ts x p.0 p.1 h in
      let v = more_forms p.0 xs rest p.2 w.1 in
      ((omega arith, (w.0, v.0)), v.1)

name_forms : Forms IsPrintable IsName
name_forms ts name rest p h = by ts (Identifier name ∷ rest) p h

-- expressions

parts_formed : (xs : List Expression) → AllByRecursion IsFormedExpression xs → AreFormedParts (listed_parts xs)
parts_formed [] h = tt
parts_formed (x ∷ xs) h = (h.0, parts_formed xs h.1)

concat_formed : (xs : List Expression) → SomeEach IsFormedExpression xs → IsFormedExpression (Concat (listed_parts xs))
concat_formed [] h = absurd (omega (arith, h.0))
concat_formed (x ∷ xs) h = (h.1.0, parts_formed xs h.1.1)

repeat_formed : (k : ℕ) (xs : List Expression) → IsSmall k → SomeEach IsFormedExpression xs → IsFormedExpression (Repeat k (listed_parts xs))
repeat_formed k [] s h = absurd (omega (arith, h.0))
repeat_formed k (x ∷ xs) s h = (s, h.1.0, parts_formed xs h.1.1)

select_forms : Forms IsFormedExpression IsSelect
select_forms ts (Net name) rest p h = by ts _ p h
select_forms ts (Bit name i) rest p h = let w = by ts _ p h in ((w.0, w.1.1.0), w.1.1.1.1)
select_forms ts (Part name i j) rest p h = let w = by ts _ p h in ((w.0, w.1.1.0, w.1.1.1.1.0), w.1.1.1.1.1.1)
select_forms ts e rest p h = elim p [ ]

module _ (inner : Rule Expression) (f : Forms IsFormedExpression inner) where
  primary_forms : Forms IsFormedExpression (IsPrimary inner)
  primary_forms ts e rest (select p) h = select_forms ts e rest p h
  primary_forms ts e rest (sized bits p q) h = let w = by ts _ p h in (subst IsFormedExpression (sym q) w.0, w.1)
  primary_forms ts e rest (plain n p q) h = let w = by ts _ p h in (subst IsFormedExpression (sym q) w.0, w.1)
  primary_forms ts e rest (round a p i) h = let w = f a e _ i (by ts _ p h).1 in (w.0, w.1.1)
  primary_forms ts e rest (concat all a p l q) h =
      let w = list_forms IsFormedExpression inner f a all _ l (by ts _ p h).1 in
      (subst IsFormedExpression (sym q) (concat_formed all w.0), w.1.1)
  primary_forms ts e rest (repeat k all a p l q) h =
      let u = by ts _ p h in
      let w = list_forms IsFormedExpression inner f a all _ l u.1.1.1 in
      (subst IsFormedExpression (sym q) (repeat_formed k all u.1.0 w.0), w.1.1.1)

  signs_form : (k : ℕ) (ts rest : List Symbol) → IsSigns k ts rest → AreSound ts → AreSound rest
  signs_form zero ts rest p h = by ts rest p h
  signs_form (suc k) ts rest p h = signs_form k p.0 rest p.2 (by ts _ p.1 h).1

  negated_formed : (k : ℕ) (e : Expression) → IsFormedExpression e → IsFormedExpression (with_signs k e)
  negated_formed zero e h = h
  negated_formed (suc k) e h = (omega arith, h)

  negated_forms : (is : Rule Expression) → Forms IsFormedExpression is → Forms IsFormedExpression (IsNegated is)
  negated_forms is one ts e rest p h =
      let w = one p.1 p.2 rest p.4 (signs_form p.0 ts p.1 p.3 h) in
      (subst IsFormedExpression (sym p.5) (negated_formed p.0 p.2 w.0), w.1)

  fold_forms : Forms IsFormedExpression (IsFold inner)
  fold_forms ts e rest (inl p) h = primary_forms ts e rest p h
  fold_forms ts e rest (inr p) h =
      let w = negated_forms (IsPrimary inner) primary_forms p.2 p.3 rest p.6 (by ts _ p.4 h).1 in
      (subst IsFormedExpression (sym p.7) w.0, w.1)

  unary_forms : Forms IsFormedExpression (IsUnary inner)
  unary_forms = negated_forms (IsFold inner) fold_forms

-- a formed operand, after an operator of a kind
abbrev IsFormedOperand : {O : Type 0} → (O → Type 0) → O × Expression → Type 0
IsFormedOperand is x = is x.0 × IsFormedExpression x.1

operands_formed : (xs : List (Op × Expression)) → AllByRecursion (IsFormedOperand (λ op. Unit {0})) xs → AreFormedOperands (operands xs)
operands_formed [] h = tt
operands_formed (x ∷ xs) h = (h.0.1, operands_formed xs h.1)

words_formed : (n : ℕ) (xs : List (WordOp × Expression)) → AllByRecursion (IsFormedOperand (λ op. level_of op ≡ n)) xs → AreFormedWords n (word_operands xs)
words_formed n [] h = tt
words_formed n (x ∷ xs) h = (h.0.0, h.0.1, words_formed n xs h.1)

-- what is made of a first operand and others is formed
abbrev MakesFormed : {O : Type 0} → (O → Type 0) → (Expression → List (O × Expression) → Expression) → Type 0
MakesFormed {O} is made = (e : Expression) (xs : List (O × Expression)) → IsFormedExpression e → AllByRecursion (IsFormedOperand is) xs → IsFormedExpression (made e xs)

chained_formed : MakesFormed (λ op. Unit {0}) chain_expression
chained_formed e [] f h = f
chained_formed e (x ∷ xs) f h = (f, h.0.1, operands_formed xs h.1)

worded_formed : (n : ℕ) → MakesFormed (λ op. level_of op ≡ n) worded
worded_formed n e [] f h = f
worded_formed n e (x ∷ xs) f h = (f, h.0.1, subst (λ (m : ℕ). AreFormedWords m (word_operands xs)) (sym h.0.0) (words_formed n xs h.1))

module _ {O : Type 0} (operator : Mark → Option O) (kind : O → Type 0) (k : (m : Mark) (op : O) → operator m ≡ Some op → kind op) (is : Rule Expression) (f : Forms IsFormedExpression is) where
  operands_form : Forms (AllByRecursion (IsFormedOperand kind)) (IsOperands operator is)
  operands_form ts [] rest p h = (tt, by ts rest p h)
  operands_form ts (x ∷ xs) rest p h =
      let w = f p.1 x.1 p.2 p.5 (by ts _ p.3 h).1 in
      let v = operands_form p.2 xs rest p.6 w.1 in
      (((k p.0 x.0 p.4, w.0), v.0), v.1)

  chain_forms : (made : Expression → List (O × Expression) → Expression) → MakesFormed kind made → Forms IsFormedExpression (IsChain operator made is)
  chain_forms made m ts e rest p h =
      let w = f ts p.0 p.2 p.3 h in
      let v = operands_form p.2 p.1 rest p.4 w.1 in
      (subst IsFormedExpression (sym p.5) (m p.0 p.1 w.0 v.0), v.1)

-- a condition with its value
abbrev IsFormedArm : Expression × Expression → Type 0
IsFormedArm x = IsFormedExpression x.0 × IsFormedExpression x.1

arms_formed : (xs : List (Expression × Expression)) → AllByRecursion IsFormedArm xs → AreFormedArms (arms xs)
arms_formed [] h = tt
arms_formed (x ∷ xs) h = (h.0.0, h.0.1, arms_formed xs h.1)

conditional_formed : (xs : List (Expression × Expression)) (last : Expression) → AllByRecursion IsFormedArm xs → IsFormedExpression last → IsFormedExpression (conditional xs last)
conditional_formed [] last h f = f
conditional_formed (x ∷ xs) last h f = (h.0.0, h.0.1, arms_formed xs h.1, f)

module _ (inner : Rule Expression) (f : Forms IsFormedExpression inner) where
  level_forms : (n : ℕ) → Forms IsFormedExpression (IsLevel n inner)
  level_forms zero ts e rest p h = unary_forms inner f ts e rest p h
  level_forms (suc n) ts e rest p h =
      by_either (is_bitwise n) _ _ _
      (λ q. chain_forms (bit_operator n) (λ op. Unit {0}) (λ m op is. tt) (IsLevel n inner) (level_forms n) chain_expression chained_formed ts e rest q h)
      (λ q. chain_forms (word_operator n) (λ op. level_of op ≡ n) (λ m op is. (of_row-some level_of n (on_words m) op is).1) (IsLevel n inner) (level_forms n) worded (worded_formed n) ts e rest q h)
      p

  arms_form : (ts : List Symbol) (xs : List (Expression × Expression)) (last : Expression) (rest : List Symbol) → IsArms inner ts xs last rest → AreSound ts
      → (AllByRecursion IsFormedArm xs × IsFormedExpression last) × AreSound rest
  arms_form ts [] last rest p h = let w = level_forms 9 ts last rest p h in ((tt, w.0), w.1)
  arms_form ts (x ∷ xs) last rest p h =
      let u = level_forms 9 ts x.0 (Sign Query ∷ p.0) p.2 h in
      let v = f p.0 x.1 (Sign Colon ∷ p.1) p.3 u.1.1 in
      let w = arms_form p.1 xs last rest p.4 v.1.1 in
      ((((u.0, v.0), w.0.0), w.0.1), w.1)

expr_forms : (n : ℕ) → Forms IsFormedExpression (IsExpr n)
expr_forms zero ts e rest p h = elim p [ ]
expr_forms (suc n) ts e rest p h =
    let w = arms_form (IsExpr n) (expr_forms n) ts p.0 p.1 rest p.2 h in
    (subst IsFormedExpression (sym p.3) (conditional_formed p.0 p.1 w.0.0 w.0.1), w.1)

-- what is formed and may be on a left side
abbrev IsFormedLeft : Expression → Type 0
IsFormedLeft e = IsFormedExpression e × (is_assignable e ≡ true)

select_assignable : (ts : List Symbol) (e : Expression) (rest : List Symbol) → IsSelect ts e rest → is_assignable e ≡ true
select_assignable ts (Net name) rest p = refl
select_assignable ts (Bit name i) rest p = refl
select_assignable ts (Part name i j) rest p = refl
select_assignable ts e rest p = elim p [ ]

lefts_formed : (xs : List Expression) → AllByRecursion IsFormedLeft xs → AllByRecursion IsFormedExpression xs
lefts_formed [] h = tt
lefts_formed (x ∷ xs) h = (h.0.0, lefts_formed xs h.1)

lefts_assignable : (xs : List Expression) → AllByRecursion IsFormedLeft xs → is_assignable (Concat (listed_parts xs)) ≡ true
lefts_assignable [] h = refl
lefts_assignable (x ∷ xs) h = rw h.0.1 (lefts_assignable xs h.1)

lval_forms : (n : ℕ) → Forms IsFormedLeft (IsLval n)
lval_forms zero ts e rest p h = elim p [ ]
lval_forms (suc n) ts e rest (inl p) h = let w = select_forms ts e rest p h in ((w.0, select_assignable ts e rest p), w.1)
lval_forms (suc n) ts e rest (inr p) h =
    let w = list_forms IsFormedLeft (IsLval n) (lval_forms n) p.1 p.0 _ p.3 (by ts _ p.2 h).1 in
    (subst IsFormedLeft (sym p.4) (concat_formed p.0 (w.0.0, lefts_formed p.0 w.0.1), lefts_assignable p.0 w.0.1), w.1.1)

-- declarations

range_forms : Forms IsFormedRange IsRange
range_forms ts range rest p h = let w = by ts _ p h in ((w.1.0, w.1.1.1.0), w.1.1.1.1.1)

optional_range_forms : Forms (λ o. IfSome o IsFormedRange) (IsOptional IsRange)
optional_range_forms = optional_forms IsFormedRange IsRange range_forms

kind_forms : (ts : List Symbol) (o : Option PortKind) (rest : List Symbol) → IsOptional IsPortKind ts o rest → AreSound ts → AreSound rest
kind_forms ts None rest p h = by ts rest p h
kind_forms ts (Some k) rest p h = (by ts _ p h).1

port_forms : Forms IsFormedPort IsPort
port_forms ts port rest p h = optional_range_forms p.1 port.range rest p.4 (kind_forms p.0 port.kind p.1 p.3 (by ts _ p.2 h).1)

plain_head_forms : Forms IsFormedHead IsPlainHead
plain_head_forms ts head rest p h =
    let w = by ts _ p.0 h in
    let none : IfSome head.decl IsFormedPort = subst (λ (o : Option Port). IfSome o IsFormedPort) (sym p.1) tt in
    ((w.0, none), w.1)

-- a declaration, where the one before it is formed
next_port_forms : (before : Port) → IsFormedPort before → Forms IsFormedPort (IsNextPort before)
next_port_forms before g ts port rest (inl p) h = port_forms ts port rest p h
next_port_forms before g ts port rest (inr p) h = (subst IsFormedPort (sym p.0) g, by ts rest p.1 h)

declared_head : (head : PlainHead) (port : Port) → head.decl ≡ Some port → IsPrintable head.name → IsFormedPort port → IsFormedHead head
declared_head head port e name g = (name, subst (λ (o : Option Port). IfSome o IsFormedPort) (sym e) g)

more_declared_form : (before : Port) → IsFormedPort before → Forms (AllByRecursion IsFormedHead) (IsMoreDeclared before)
more_declared_form before g ts [] rest p h = (tt, by ts rest p h)
more_declared_form before g ts (head ∷ heads) rest p h =
    let w = next_port_forms before g p.1 p.0 (Identifier head.name ∷ p.2) p.4 (by ts _ p.3 h).1 in
    let v = more_declared_form p.0 w.0 p.2 heads rest p.6 w.1.1 in
    ((declared_head head p.0 p.5 w.1.0 w.0, v.0), v.1)

declared_form : Forms (AllByRecursion IsFormedHead) AreDeclared
declared_form ts [] rest p h = elim p [ ]
declared_form ts (head ∷ heads) rest p h =
    let w = port_forms ts p.0 (Identifier head.name ∷ p.1) p.2 h in
    let v = more_declared_form p.0 w.0 p.1 heads rest p.4 w.1.1 in
    ((declared_head head p.0 p.3 w.1.0 w.0, v.0), v.1)

no_heads : (heads : List PlainHead) → heads ≡ [] → AllByRecursion IsFormedHead heads
no_heads heads e = subst (λ (hs : List PlainHead). AllByRecursion IsFormedHead hs) (sym e) tt

heads_form : Forms (AllByRecursion IsFormedHead) AreHeads
heads_form ts heads rest (absent p q) h = (no_heads heads q, by ts rest p h)
heads_form ts heads rest (empty p q) h = (no_heads heads q, (by ts _ p h).1.1)
heads_form ts heads rest (named a p l) h = let w = list_forms IsFormedHead IsPlainHead plain_head_forms a heads _ l (by ts _ p h).1 in (w.0.1, w.1.1)
heads_form ts heads rest (declared a p l) h = let w = declared_form a heads _ l (by ts _ p h).1 in (w.0, w.1.1)

header_formed : (ts : List Symbol) (x : List ℕ × List PlainHead) → IsHeader ts x [] → AreSound ts → IsPrintable x.0 × AllByRecursion IsFormedHead x.1
header_formed ts x p h = let w = by ts _ p.1 h in (w.1.0, (heads_form p.0 x.1 _ p.2 w.1.1).0)

-- items

assigned_forms : (depth : ℕ) → Forms IsFormedExpression (IsAssigned depth)
assigned_forms depth ts e rest p h = expr_forms depth p.0 e rest p.2 (by ts _ p.1 h).1

net_forms : (depth : ℕ) → Forms IsFormedPair (IsNet depth)
net_forms depth ts x rest p h =
    let u = by ts _ p.1 h in
    let w = optional_forms IsFormedExpression (IsAssigned depth) (assigned_forms depth) p.0 x.1 rest p.2 u.1 in
    ((u.0, w.0), w.1)

assignment_forms : (depth : ℕ) → Forms IsFormedAssignment (IsAssignment depth)
assignment_forms depth ts x rest p h =
    let u = lval_forms depth ts x.0 (Sign Equals ∷ p.0) p.1 h in
    let w = expr_forms depth p.0 x.1 rest p.2 u.1.1 in
    ((u.0.0, w.0, u.0.1), w.1)

terminals_form : (depth : ℕ) → Forms (λ xs. (2 ≤ length xs) × AllByRecursion IsFormedExpression xs) (AreTerminals depth)
terminals_form depth ts [] rest p h = elim p [ ]
terminals_form depth ts (x ∷ xs) rest p h =
    let u = expr_forms depth ts x (Sign Comma ∷ p.0) p.1 h in
    let w = list_forms IsFormedExpression (IsExpr depth) (expr_forms depth) p.0 xs rest p.2 u.1.1 in
    ((omega (arith, w.0.0), (u.0, w.0.1)), w.1)

gate_forms : (depth : ℕ) → Forms IsFormedGate (IsGate depth)
gate_forms depth ts x rest p h =
    let u = optional_forms IsPrintable IsName name_forms ts x.0 _ p.1 h in
    let w = terminals_form depth p.0 x.1 (Sign RightRound ∷ rest) p.2 u.1.1 in
    ((u.0, w.0.0, w.0.1), w.1.1)

place_forms : (depth : ℕ) → Forms (λ o. IfSome o IsFormedExpression) (IsPlace depth)
place_forms depth = optional_forms IsFormedExpression (IsExpr depth) (expr_forms depth)

named_forms : (depth : ℕ) → Forms IsFormedPair (IsNamed depth)
named_forms depth ts x rest p h =
    let u = by ts _ p.1 h in
    let w = place_forms depth p.0 x.1 (Sign RightRound ∷ rest) p.2 u.1.1.1 in
    ((u.1.0, w.0), w.1.1)

conns_form : (depth : ℕ) → Forms IsFormedConns (AreConns depth)
conns_form depth ts (Order []) rest p h = (tt, by ts rest p h)
conns_form depth ts (Order (None ∷ [])) rest p h = elim p [ ]
conns_form depth ts (Order (None ∷ y ∷ places)) rest p h = let w = list_forms (λ o. IfSome o IsFormedExpression) (IsPlace depth) (place_forms depth) ts (None ∷ y ∷ places) rest p h in (w.0.1, w.1)
conns_form depth ts (Order (Some e ∷ places)) rest p h = let w = list_forms (λ o. IfSome o IsFormedExpression) (IsPlace depth) (place_forms depth) ts (Some e ∷ places) rest p h in (w.0.1, w.1)
conns_form depth ts (Named all) rest p h = list_forms IsFormedPair (IsNamed depth) (named_forms depth) ts all rest p h

call_forms : (depth : ℕ) → Forms IsFormedCall (IsCall depth)
call_forms depth ts x rest p h =
    let u = by ts _ p.1 h in
    let w = conns_form depth p.0 x.1 (Sign RightRound ∷ rest) p.2 u.1.1 in
    ((u.0, w.0), w.1.1)

clock_forms : Forms (λ e. IsFormedExpression e × IsNetOrBit e) IsClockExpression
clock_forms ts (Net name) rest p h = let w = by ts _ p h in ((w.0, tt), w.1)
clock_forms ts (Bit name i) rest p h = let w = by ts _ p h in (((w.0, w.1.1.0), tt), w.1.1.1.1)
clock_forms ts e rest p h = elim p [ ]

item_formed : (depth : ℕ) (ts : List Symbol) (body : PlainBody) → IsItem depth ts body [] → AreSound ts → IsFormedBody body
item_formed depth ts (Ports port names) p h =
    let u = port_forms ts port p.0 p.1 h in
    (u.0, (list_forms IsPrintable IsName name_forms p.0 names _ p.2 u.1).0)
item_formed depth ts (Nets range nets) p h =
    let u = optional_range_forms p.0 range p.1 p.3 (by ts _ p.2 h).1 in
    (u.0, (list_forms IsFormedPair (IsNet depth) (net_forms depth) p.1 nets _ p.4 u.1).0)
item_formed depth ts (Regs range names) p h =
    let u = optional_range_forms p.0 range p.1 p.3 (by ts _ p.2 h).1 in
    (u.0, (list_forms IsPrintable IsName name_forms p.1 names _ p.4 u.1).0)
item_formed depth ts (Supply high range names) p h =
    let u = optional_range_forms p.0 range p.1 p.3 (by ts _ p.2 h).1 in
    (u.0, (list_forms IsPrintable IsName name_forms p.1 names _ p.4 u.1).0)
item_formed depth ts (Assign all) p h = (list_forms IsFormedAssignment (IsAssignment depth) (assignment_forms depth) p.0 all _ p.2 (by ts _ p.1 h).1).0
item_formed depth ts (Gates gate all) p h = (list_forms IsFormedGate (IsGate depth) (gate_forms depth) p.0 all _ p.2 (by ts _ p.1 h).1).0
item_formed depth ts (Calls name all) p h =
    let u = by ts _ p.1 h in
    (u.0, (list_forms IsFormedCall (IsCall depth) (call_forms depth) p.0 all _ p.2 u.1).0)
item_formed depth ts (Always r) p h =
    let u = clock_forms p.0 r.clock (Sign RightRound ∷ p.1) p.4 (by ts _ p.3 h).1.1.1.1 in
    let v = lval_forms depth p.1 r.left (Sign LessEqual ∷ p.2) p.5 u.1.1 in
    let w = expr_forms depth p.2 r.right (Sign Semicolon ∷ []) p.6 v.1.1 in
    (u.0.0, v.0.0, w.0, u.0.1, v.0.1)

-- symbols of a text

graphic_printable : (b : ℕ) → is_graphic b ≡ true → (33 ≤ b) × (b ≤ 126)
graphic_printable b h = (grind (arith, nat_tests), grind (arith, nat_tests))

each_printable : (bytes : List ℕ) → Each is_graphic bytes → AllByRecursion (λ b. (33 ≤ b) × (b ≤ 126)) bytes
each_printable [] h = tt
each_printable (b ∷ bytes) h = (graphic_printable b h.0, each_printable bytes h.1)

module _ (names : NamesArePrintable) (sized_fit : SizedBitsFit) (plain_fit : PlainValuesFit) (text : List ℕ) where
  symbol_sound : (t : Token) (s : Symbol) → IsTokenOf t text → IsSymbol text t s → IsSound s
  symbol_sound t (Identifier n) is p =
      let printable = names t text is (subst IsNameOrWord (sym p.0) tt) in
      subst IsPrintable (sym p.1) (printable.0, each_printable (name_of t text) printable.1)
  symbol_sound t (Reserved w) is p = tt
  symbol_sound t (SizedNumber bits) is p = sized_fit t text bits p.1
  symbol_sound t (PlainNumber n) is p = subst IsSmall (sym p.1) (plain_fit t text is p.0)
  symbol_sound t (Sign m) is p = tt

  symbols_sound : (tokens : List Token) (ts : List Symbol) → AllByRecursion (λ t. IsTokenOf t text) tokens → AreSymbols text tokens ts → AreSound ts
  symbols_sound [] [] all p = tt
  symbols_sound [] (s ∷ ss) all p = elim p [ ]
  symbols_sound (t ∷ tokens) [] all p = elim p [ ]
  symbols_sound (t ∷ tokens) (s ∷ ss) all p = (symbol_sound t s all.0 p.0, symbols_sound tokens ss all.1 p.1)

  -- the tokens of a statement, and those after it
  split : (tokens s a : List Token) → IsFirstStatement tokens s a → AllByRecursion (λ t. IsTokenOf t text) tokens → AllByRecursion (λ t. IsTokenOf t text) s × AllByRecursion (λ t. IsTokenOf t text) a
  split tokens s a first all = all_parts (λ t. IsTokenOf t text) s a (subst (λ (z : List Token). AllByRecursion (λ t. IsTokenOf t text) z) first.0 all)

  items_formed : (tokens : List Token) (items : List PlainItem) (rest : List Token) → AreItems text tokens items rest → AllByRecursion (λ t. IsTokenOf t text) tokens
      → AllByRecursion (λ item. IsFormedBody item.body) items × AllByRecursion (λ t. IsTokenOf t text) rest
  items_formed tokens [] rest p all = (tt, (split tokens p.0 rest p.1 all).1)
  items_formed tokens (item ∷ items) rest p all =
      let both = split tokens p.0 p.1 p.2 all in
      let here = item_formed p.3.3 p.3.0 item.body p.3.4 (symbols_sound p.0 p.3.0 both.0 p.3.1) in
      let later = items_formed p.1 items rest p.5 both.1 in
      ((here, later.0), later.1)

  source_formed : (tokens : List Token) (modules : List PlainModule) → IsSource text tokens modules → AllByRecursion (λ t. IsTokenOf t text) tokens → AllByRecursion IsFormed modules
  source_formed tokens [] p all = tt
  source_formed tokens (m ∷ ms) p all =
      let both = split tokens p.0 p.1 p.3 all in
      let header = header_formed p.4.0 (m.name, m.heads) p.4.3 (symbols_sound p.0 p.4.0 both.0 p.4.1) in
      let items = items_formed p.1 m.items p.2 p.6 both.1 in
      ((header.0, header.1, items.0), source_formed p.2 ms p.7 items.1)

pub sources_are_formed : NamesArePrintable → SizedBitsFit → PlainValuesFit → TokensAreInText → SourcesAreFormed
sources_are_formed names sized_fit plain_fit occur text modules p =
    source_formed names sized_fit plain_fit text p.0 modules p.2 (all_of_text occur text p.0 p.1)
