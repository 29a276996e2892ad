-- A source is no larger than its list of tokens: each rule of the grammar takes as many symbols as its meaning counts.
use Rattle.std.proofs.Common.{◌≡◌, ℕ, zero, suc, ◌+◌, ◌≤◌, List, [], ◌∷◌, Option, Some, None, ap, ◌∙◌, arith, length, length-append, inl, inr}
use Rattle.std.specs.List.{sum_by}
use Rattle.std.proofs.lemmas.List.Sums.{sum_by-cons}
use Rattle.bb_ast.specs.declared.expr.Op.{Op}
use Rattle.bb_ast.specs.declared.operators.WordOp.{WordOp}
use Rattle.bb_ast.specs.declared.module.Port.{Port}
use Rattle.bb_ast.specs.declared.module.PortKind.{PortKind}
use Rattle.bb_ast.specs.declared.module.Range.{Range}
use Rattle.bb_ast.specs.Syntax.{Expression, Net, Bit, Part, operands, word_operands, arms, listed_parts}
use Rattle.bb_ast.specs.Syntax.{PlainConns, Order, Named, PlainBody, Ports, Nets, Regs, Supply, Assign, Gates, Calls, Always, PlainItem, PlainHead, PlainModule}
use Rattle.bb_lex.specs.declared.mark.Mark.{Mark}
use Rattle.bb_lex.specs.declared.mark.Mark.TheVariants.{Query, Colon}
use Rattle.bb_lex.specs.declared.token.Token.{Token}
use Rattle.bb_lex.specs.Laws.{TokensAreFew}
use Rattle.bb_parse.specs.Symbols.{Symbol, Sign}
use Rattle.bb_parse.specs.Lists.{Rule, IsName, IsOptional, IsMore, IsList}
use Rattle.bb_parse.specs.Expressions.{IsSelect, IsPrimary, select, sized, plain, round, concat, repeat, IsSigns, with_signs, IsNegated, IsFold, IsUnary, bit_operator, word_operator, IsOperands, chain_expression, worded, IsChain, is_bitwise, IsLevel, IsArms, conditional, IsExpr, IsLval}
use Rattle.bb_parse.specs.Declarations.{IsRange, IsPortKind, IsPort, IsPlainHead, IsNextPort, IsMoreDeclared, AreDeclared, AreHeads, absent, empty, named, declared, IsHeader}
use Rattle.bb_parse.specs.Items.{IsAssigned, IsNet, IsAssignment, AreTerminals, IsGate, IsPlace, IsNamed, AreConns, IsCall, IsClockExpression, IsItem}
use Rattle.bb_parse.specs.Sources.{AreItems, IsSource}
use Rattle.bb_ast.specs.Inside.Sizes.{expression_size, operands_size, words_size, arms_size, parts_size, optional_size, pair_size, conns_size, gate_size, call_size, item_size, module_size, source_size}
use Rattle.bb_parse.specs.Laws.{SourcesAreShort, TextsAreLong}
use Rattle.bb_parse.proofs.Parts.{by_either}
use Rattle.bb_parse.proofs.SymbolLaws.{length-symbols}

-- what is of the rule takes as many symbols as its size, or more
abbrev Takes : {A : Type 0} → (A → ℕ) → Rule A → Type 0
Takes {A} size is = (ts : List Symbol) (x : A) (rest : List Symbol) → is ts x rest → size x + length rest ≤ length ts

-- lists

module _ {A : Type 0} (size : A → ℕ) (is : Rule A) (t : Takes size is) where
  -- a comma precedes each member
  more_takes : (ts : List Symbol) (xs : List A) (rest : List Symbol) → IsMore is ts xs rest → sum_by (λ x. 1 + size x) xs + length rest ≤ length ts
  more_takes ts [] rest p = omega (arith, ap length p)
  more_takes ts (x ∷ xs) rest p = omega (arith, ap length p.2, t p.0 x p.1 p.3, more_takes p.1 xs rest p.4, sum_by-cons (λ (z : A). 1 + size z) x xs)

  -- from the second on
  list_takes : (ts : List Symbol) (xs : List A) (rest : List Symbol) → IsList is ts xs rest → sum_by (λ x. 1 + size x) xs + length rest ≤ 1 + length ts
  list_takes ts [] rest p = elim p [ ]
  list_takes ts (x ∷ xs) rest p = omega (arith, t ts x p.0 p.1, more_takes p.0 xs rest p.2, sum_by-cons (λ (z : A). 1 + size z) x xs)

  more_sized : Takes (sum_by size) (IsMore is)
  more_sized ts [] rest p = omega (arith, ap length p)
  more_sized ts (x ∷ xs) rest p = omega (arith, ap length p.2, t p.0 x p.1 p.3, more_sized p.1 xs rest p.4, sum_by-cons size x xs)

  list_sized : Takes (sum_by size) (IsList is)
  list_sized ts [] rest p = elim p [ ]
  list_sized ts (x ∷ xs) rest p = omega (arith, t ts x p.0 p.1, more_sized p.0 xs rest p.2, sum_by-cons size x xs)

-- names

name_takes : Takes (λ (name : List ℕ). 1) IsName
name_takes ts name rest p = omega (arith, ap length p)

names_length : (names : List (List ℕ)) → sum_by (λ (name : List ℕ). 1) names ≡ length names
names_length [] = omega arith
names_length (n ∷ names) = omega (arith, sum_by-cons (λ (name : List ℕ). 1) n names, names_length names)

names_take : Takes length (IsList IsName)
names_take ts names rest p = omega (arith, names_length names, list_sized (λ (name : List ℕ). 1) IsName name_takes ts names rest p)

optional_shortens : {A : Type 0} (is : Rule A) → ((ts : List Symbol) (x : A) (rest : List Symbol) → is ts x rest → length rest ≤ length ts) → (ts : List Symbol) (o : Option A) (rest : List Symbol)
    → IsOptional is ts o rest → length rest ≤ length ts
optional_shortens is s ts None rest p = omega (arith, ap length p)
optional_shortens is s ts (Some x) rest p = s ts x rest p

-- expressions

parts_sum : (xs : List Expression) → parts_size (listed_parts xs) ≡ sum_by expression_size xs
parts_sum [] = omega arith
parts_sum (x ∷ xs) = omega (arith, parts_sum xs, sum_by-cons expression_size x xs)

select_takes : Takes expression_size IsSelect
select_takes ts (Net name) rest p = omega (arith, ap length p)
select_takes ts (Bit name i) rest p = omega (arith, ap length p)
select_takes ts (Part name i j) rest p = omega (arith, ap length p)
select_takes ts e rest p = elim p [ ]

module _ (inner : Rule Expression) (t : Takes expression_size inner) where
  primary_takes : Takes expression_size (IsPrimary inner)
  primary_takes ts e rest (select p) = select_takes ts e rest p
  primary_takes ts e rest (sized bits p q) = omega (arith, ap length p, ap expression_size q)
  primary_takes ts e rest (plain n p q) = omega (arith, ap length p, ap expression_size q)
  primary_takes ts e rest (round a p i) = omega (arith, ap length p, t a e _ i)
  primary_takes ts e rest (concat all a p l q) = omega (arith, ap length p, list_sized expression_size inner t a all _ l, ap expression_size q, parts_sum all)
  primary_takes ts e rest (repeat k all a p l q) = omega (arith, ap length p, list_sized expression_size inner t a all _ l, ap expression_size q, parts_sum all)

  signs_shorten : (k : ℕ) (ts rest : List Symbol) → IsSigns k ts rest → k + length rest ≤ length ts
  signs_shorten zero ts rest p = omega (arith, ap length p)
  signs_shorten (suc k) ts rest p = omega (arith, ap length p.1, signs_shorten k p.0 rest p.2)

  negated_size : (k : ℕ) (e : Expression) → expression_size (with_signs k e) ≤ k + expression_size e
  negated_size zero e = omega arith
  negated_size (suc k) e = omega arith

  negated_takes : (is : Rule Expression) → Takes expression_size is → Takes expression_size (IsNegated is)
  negated_takes is one ts e rest p = omega (arith, signs_shorten p.0 ts p.1 p.3, one p.1 p.2 rest p.4, ap expression_size p.5, negated_size p.0 p.2)

  fold_takes : Takes expression_size (IsFold inner)
  fold_takes ts e rest (inl p) = primary_takes ts e rest p
  fold_takes ts e rest (inr p) = omega (arith, ap length p.4, negated_takes (IsPrimary inner) primary_takes p.2 p.3 rest p.6, ap expression_size p.7)

  unary_takes : Takes expression_size (IsUnary inner)
  unary_takes = negated_takes (IsFold inner) fold_takes

-- the operands of a chain, each with its operator
abbrev operand_size : {O : Type 0} → O × Expression → ℕ
operand_size x = 1 + expression_size x.1

operands_sum : (xs : List (Op × Expression)) → operands_size (operands xs) ≡ sum_by operand_size xs
operands_sum [] = omega arith
operands_sum (x ∷ xs) = omega (arith, operands_sum xs, sum_by-cons (operand_size {O = Op}) x xs)

words_sum : (xs : List (WordOp × Expression)) → words_size (word_operands xs) ≡ sum_by operand_size xs
words_sum [] = omega arith
words_sum (x ∷ xs) = omega (arith, words_sum xs, sum_by-cons (operand_size {O = WordOp}) x xs)

-- what is made of a first operand and others is as large as these
abbrev AddsUp : {O : Type 0} → (Expression → List (O × Expression) → Expression) → Type 0
AddsUp {O} made = (e : Expression) (xs : List (O × Expression)) → expression_size (made e xs) ≡ expression_size e + sum_by operand_size xs

chained_size : AddsUp chain_expression
chained_size e [] = omega arith
chained_size e (x ∷ xs) = omega (arith, operands_sum (x ∷ xs))

worded_size : AddsUp worded
worded_size e [] = omega arith
worded_size e (x ∷ xs) = omega (arith, words_sum (x ∷ xs))

module _ {O : Type 0} (operator : Mark → Option O) (is : Rule Expression) (t : Takes expression_size is) where
  operands_take : Takes (sum_by operand_size) (IsOperands operator is)
  operands_take ts [] rest p = omega (arith, ap length p)
  operands_take ts (x ∷ xs) rest p = omega (arith, ap length p.3, t p.1 x.1 p.2 p.5, operands_take p.2 xs rest p.6, sum_by-cons (operand_size {O = O}) x xs)

  chain_takes : (made : Expression → List (O × Expression) → Expression) → AddsUp made → Takes expression_size (IsChain operator made is)
  chain_takes made adds ts e rest p = omega (arith, t ts p.0 p.2 p.3, operands_take p.2 p.1 rest p.4, ap expression_size p.5, adds p.0 p.1)

conditional_size : (xs : List (Expression × Expression)) (last : Expression) → expression_size (conditional xs last) ≡ arms_size (arms xs) + expression_size last
conditional_size [] last = omega arith
conditional_size (x ∷ xs) last = omega arith

module _ (inner : Rule Expression) (t : Takes expression_size inner) where
  level_takes : (k : ℕ) → Takes expression_size (IsLevel k inner)
  level_takes zero ts e rest p = unary_takes inner t ts e rest p
  level_takes (suc k) ts e rest p =
      by_either (is_bitwise k) _ _ _
      (λ q. chain_takes (bit_operator k) (IsLevel k inner) (level_takes k) chain_expression chained_size ts e rest q)
      (λ q. chain_takes (word_operator k) (IsLevel k inner) (level_takes k) worded worded_size ts e rest q)
      p

  arms_take : (ts : List Symbol) (xs : List (Expression × Expression)) (last : Expression) (rest : List Symbol) → IsArms inner ts xs last rest
      → arms_size (arms xs) + expression_size last + length rest ≤ length ts
  arms_take ts [] last rest p = omega (arith, level_takes 9 ts last rest p)
  arms_take ts (x ∷ xs) last rest p =
      omega (arith, level_takes 9 ts x.0 (Sign Query ∷ p.0) p.2, t p.0 x.1 (Sign Colon ∷ p.1) p.3, arms_take p.1 xs last rest p.4)

expr_takes : (n : ℕ) → Takes expression_size (IsExpr n)
expr_takes zero ts e rest p = elim p [ ]
expr_takes (suc n) ts e rest p = omega (arith, arms_take (IsExpr n) (expr_takes n) ts p.0 p.1 rest p.2, ap expression_size p.3, conditional_size p.0 p.1)

lval_takes : (n : ℕ) → Takes expression_size (IsLval n)
lval_takes zero ts e rest p = elim p [ ]
lval_takes (suc n) ts e rest (inl p) = select_takes ts e rest p
lval_takes (suc n) ts e rest (inr p) =
    omega (arith, ap length p.2, list_sized expression_size (IsLval n) (lval_takes n) p.1 p.0 _ p.3, ap expression_size p.4, parts_sum p.0)

-- items

assigned_takes : (depth : ℕ) → Takes (λ e. 1 + expression_size e) (IsAssigned depth)
assigned_takes depth ts e rest p = omega (arith, ap length p.1, expr_takes depth p.0 e rest p.2)

optional_assigned : (depth : ℕ) → Takes optional_size (IsOptional (IsAssigned depth))
optional_assigned depth ts None rest p = omega (arith, ap length p)
optional_assigned depth ts (Some e) rest p = omega (arith, assigned_takes depth ts e rest p)

net_takes : (depth : ℕ) → Takes pair_size (IsNet depth)
net_takes depth ts x rest p = omega (arith, ap length p.1, optional_assigned depth p.0 x.1 rest p.2)

assignment_takes : (depth : ℕ) → Takes (λ x. expression_size x.0 + expression_size x.1) (IsAssignment depth)
assignment_takes depth ts x rest p = omega (arith, lval_takes depth ts x.0 _ p.1, expr_takes depth p.0 x.1 rest p.2)

terminals_take : (depth : ℕ) (ts : List Symbol) (xs : List Expression) (rest : List Symbol) → AreTerminals depth ts xs rest → sum_by (λ e. 1 + expression_size e) xs + length rest ≤ 1 + length ts
terminals_take depth ts [] rest p = elim p [ ]
terminals_take depth ts (x ∷ xs) rest p =
    omega (arith, expr_takes depth ts x _ p.1, list_takes expression_size (IsExpr depth) (expr_takes depth) p.0 xs rest p.2, sum_by-cons (λ (e : Expression). 1 + expression_size e) x xs)

gate_takes : (depth : ℕ) → Takes gate_size (IsGate depth)
gate_takes depth ts x rest p = omega (arith, optional_shortens IsName (λ a n b q. omega (arith, ap length q)) ts x.0 _ p.1, terminals_take depth p.0 x.1 _ p.2)

place_takes : (depth : ℕ) → Takes optional_size (IsPlace depth)
place_takes depth ts None rest p = omega (arith, ap length p)
place_takes depth ts (Some e) rest p = expr_takes depth ts e rest p

named_takes : (depth : ℕ) → Takes pair_size (IsNamed depth)
named_takes depth ts x rest p = omega (arith, ap length p.1, place_takes depth p.0 x.1 _ p.2)

conns_take : (depth : ℕ) (ts : List Symbol) (x : PlainConns) (rest : List Symbol) → AreConns depth ts x rest → conns_size x + length rest ≤ 1 + length ts
conns_take depth ts (Order []) rest p = omega (arith, ap length p)
conns_take depth ts (Order (None ∷ [])) rest p = elim p [ ]
conns_take depth ts (Order places) rest p = list_takes optional_size (IsPlace depth) (place_takes depth) ts places rest p
conns_take depth ts (Named all) rest p = omega (arith, list_sized pair_size (IsNamed depth) (named_takes depth) ts all rest p)

call_takes : (depth : ℕ) → Takes call_size (IsCall depth)
call_takes depth ts x rest p = omega (arith, ap length p.1, conns_take depth p.0 x.1 _ p.2)

kind_shortens : (ts : List Symbol) (o : Option PortKind) (rest : List Symbol) → IsOptional IsPortKind ts o rest → length rest ≤ length ts
kind_shortens = optional_shortens IsPortKind (λ ts kind rest q. omega (arith, ap length q))

range_shortens : (ts : List Symbol) (o : Option Range) (rest : List Symbol) → IsOptional IsRange ts o rest → length rest ≤ length ts
range_shortens = optional_shortens IsRange (λ ts range rest q. omega (arith, ap length q))

port_shortens : (ts : List Symbol) (port : Port) (rest : List Symbol) → IsPort ts port rest → length rest ≤ length ts
port_shortens ts port rest p = omega (arith, ap length p.2, kind_shortens p.0 port.kind p.1 p.3, range_shortens p.1 port.range rest p.4)

clock_takes : Takes expression_size IsClockExpression
clock_takes ts (Net name) rest p = omega (arith, ap length p)
clock_takes ts (Bit name i) rest p = omega (arith, ap length p)
clock_takes ts e rest p = elim p [ ]

item_takes : (depth : ℕ) (ts : List Symbol) (body : PlainBody) → IsItem depth ts body [] → item_size body ≤ length ts
item_takes depth ts (Ports port names) p = omega (arith, port_shortens ts port p.0 p.1, names_take p.0 names _ p.2)
item_takes depth ts (Nets range nets) p = omega (arith, ap length p.2, range_shortens p.0 range p.1 p.3, list_sized pair_size (IsNet depth) (net_takes depth) p.1 nets _ p.4)
item_takes depth ts (Regs range names) p = omega (arith, ap length p.2, range_shortens p.0 range p.1 p.3, names_take p.1 names _ p.4)
item_takes depth ts (Supply high range names) p = omega (arith, ap length p.2, range_shortens p.0 range p.1 p.3, names_take p.1 names _ p.4)
item_takes depth ts (Assign all) p =
    omega (arith, ap length p.1, list_sized (λ (x : Expression × Expression). expression_size x.0 + expression_size x.1) (IsAssignment depth) (assignment_takes depth) p.0 all _ p.2)
item_takes depth ts (Gates gate all) p = omega (arith, ap length p.1, list_sized gate_size (IsGate depth) (gate_takes depth) p.0 all _ p.2)
item_takes depth ts (Calls name all) p = omega (arith, ap length p.1, list_sized call_size (IsCall depth) (call_takes depth) p.0 all _ p.2)
item_takes depth ts (Always r) p =
    omega (arith, ap length p.3, clock_takes p.0 r.clock _ p.4, lval_takes depth p.1 r.left _ p.5, expr_takes depth p.2 r.right _ p.6)

-- headers

next_port_shortens : (before : Port) (ts : List Symbol) (port : Port) (rest : List Symbol) → IsNextPort before ts port rest → length rest ≤ length ts
next_port_shortens before ts port rest (inl p) = port_shortens ts port rest p
next_port_shortens before ts port rest (inr p) = omega (arith, ap length p.1)

more_declared_take : (before : Port) → Takes length (IsMoreDeclared before)
more_declared_take before ts [] rest p = omega (arith, ap length p)
more_declared_take before ts (head ∷ heads) rest p =
    omega (arith, ap length p.3, next_port_shortens before p.1 p.0 _ p.4, more_declared_take p.0 p.2 heads rest p.6)

declared_take : Takes length AreDeclared
declared_take ts [] rest p = elim p [ ]
declared_take ts (head ∷ heads) rest p = omega (arith, port_shortens ts p.0 _ p.2, more_declared_take p.0 p.1 heads rest p.4)

plain_head_takes : Takes (λ (head : PlainHead). 1) IsPlainHead
plain_head_takes ts head rest p = omega (arith, ap length p.0)

heads_length : (heads : List PlainHead) → sum_by (λ (head : PlainHead). 1) heads ≡ length heads
heads_length [] = omega arith
heads_length (h ∷ heads) = omega (arith, sum_by-cons (λ (head : PlainHead). 1) h heads, heads_length heads)

heads_take : Takes length AreHeads
heads_take ts heads rest (absent p q) = omega (arith, ap length p, ap length q)
heads_take ts heads rest (empty p q) = omega (arith, ap length p, ap length q)
heads_take ts heads rest (named a p l) = omega (arith, ap length p, heads_length heads, list_sized (λ (head : PlainHead). 1) IsPlainHead plain_head_takes a heads _ l)
heads_take ts heads rest (declared a p l) = omega (arith, ap length p, declared_take a heads _ l)

header_takes : (ts : List Symbol) (x : List ℕ × List PlainHead) → IsHeader ts x [] → 2 + length x.1 ≤ length ts
header_takes ts x p = omega (arith, ap length p.1, heads_take p.0 x.1 _ p.2)

-- sources

module _ (text : List ℕ) where
  items_take : (tokens : List Token) (items : List PlainItem) (rest : List Token) → AreItems text tokens items rest → sum_by (λ item. item_size item.body) items + length rest ≤ length tokens
  items_take tokens [] rest p = omega (arith, ap length p.1.0 ∙ length-append p.0 rest)
  items_take tokens (item ∷ items) rest p =
      omega (
        arith,
        ap length p.2.0 ∙ length-append p.0 p.1,
        length-symbols text p.0 p.3.0 p.3.1,
        item_takes p.3.3 p.3.0 item.body p.3.4,
        items_take p.1 items rest p.5,
        sum_by-cons (λ (z : PlainItem). item_size z.body) item items,
      )

  pub source_short : (tokens : List Token) (modules : List PlainModule) → IsSource text tokens modules → source_size modules ≤ length tokens
  source_short tokens [] p = omega arith
  source_short tokens (m ∷ ms) p =
      omega (
        arith,
        ap length p.3.0 ∙ length-append p.0 p.1,
        length-symbols text p.0 p.4.0 p.4.1,
        header_takes p.4.0 (m.name, m.heads) p.4.3,
        items_take p.1 m.items p.2 p.6,
        source_short p.2 ms p.7,
        sum_by-cons (λ (z : PlainModule). 2 + module_size z) m ms,
      )

pub sources_are_short : SourcesAreShort
sources_are_short = source_short

pub texts_are_long : TokensAreFew → TextsAreLong
texts_are_long few text modules p = omega (arith, source_short text p.0 modules p.2, few text p.0 p.1)
