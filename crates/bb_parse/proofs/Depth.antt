-- Where the counter of nesting stays within 200, 201 levels are enough: what is of a rule at any depth is of it at that one.
use Rattle.std.proofs.Common.{◌≡◌, inl, inr, ℕ, zero, suc, ◌+◌, ◌-◌, ◌≤◌, List, [], ◌∷◌, Option, Some, None, subst, arith}
use Rattle.bb_ast.specs.declared.module.Range.{Range}
use Rattle.bb_ast.specs.Syntax.{Expression, Net, Bit, Part, Order, Named, PlainBody, Ports, Nets, Regs, Supply, Assign, Gates, Calls, Always}
use Rattle.bb_lex.specs.declared.mark.Mark.{Mark}
use Rattle.bb_lex.specs.declared.mark.Mark.TheVariants.{LeftRound, RightRound, LeftSquare, RightSquare, LeftBrace, RightBrace, Comma, Semicolon, Colon, Dot, Equals, Tilde, Query, LessEqual}
use Rattle.bb_parse.specs.Symbols.{Symbol, Identifier, SizedNumber, PlainNumber, Sign}
use Rattle.bb_parse.specs.Lists.{Rule, IsName, IsOptional, IsMore, IsList}
use Rattle.bb_parse.specs.Expressions.{IsSelect, IsPrimary, select, sized, plain, round, concat, repeat, IsSigns, IsNegated, IsFold, IsUnary, bit_operator, word_operator, chain_expression, worded, IsOperands, IsChain, is_bitwise, IsLevel, IsArms, IsExpr, IsLval}
use Rattle.bb_parse.specs.Declarations.{IsRange}
use Rattle.bb_parse.specs.Items.{IsAssigned, IsNet, IsAssignment, AreTerminals, IsGate, IsPlace, IsNamed, AreConns, IsCall, IsClockExpression, IsItem}
use Rattle.bb_parse.specs.Nesting.{mark_count, mark_square, greatest_from, nesting}
use Rattle.bb_parse.proofs.OperatorMarks.{KeepsCount, KeepCounts, one_keeps_counts, bits_keep_counts, words_keep_counts}
use Rattle.bb_parse.proofs.Parts.{to_either}
use Rattle.bb_parse.proofs.Statements.{greatest_least}

-- from a count on, the counter stays within 200
abbrev Within : ℕ → List Symbol → Type 0
Within c ts = greatest_from 0 c ts ≤ 200

-- what is of the one rule is of the other where the counter stays within 200, as it then does after it
abbrev Narrows : {A : Type 0} → ℕ → Rule A → Rule A → Type 0
Narrows {A} c is is' = (ts : List Symbol) (x : A) (rest : List Symbol) → is ts x rest → Within c ts → is' ts x rest × Within c rest

along : (c : ℕ) (ts a : List Symbol) → ts ≡ a → Within c ts → Within c a
along c ts a e w = subst (λ (z : List Symbol). Within c z) e w

back : (c : ℕ) (a : List Symbol) → Within (c + 1 - 1) a → Within c a
back c a w = let e : c + 1 - 1 ≡ c = omega arith in subst (λ (z : ℕ). Within z a) e w

-- lists

module _ {A : Type 0} (c : ℕ) (is is' : Rule A) (n : Narrows c is is') where
  more_narrows : Narrows c (IsMore is) (IsMore is')
  more_narrows ts [] rest p w = (p, along c ts rest p w)
  more_narrows ts (x ∷ xs) rest p w =
      let w' = along c ts (Sign Comma ∷ p.0) p.2 w in
      let one = n p.0 x p.1 p.3 (omega (arith, w')) in
      let others = more_narrows p.1 xs rest p.4 one.1 in
      ((p.0, p.1, p.2, one.0, others.0), others.1)

  list_narrows : Narrows c (IsList is) (IsList is')
  list_narrows ts [] rest p w = elim p [ ]
  list_narrows ts (x ∷ xs) rest p w =
      let one = n ts x p.0 p.1 w in
      let others = more_narrows p.0 xs rest p.2 one.1 in
      ((p.0, one.0, others.0), others.1)

  optional_narrows : Narrows c (IsOptional is) (IsOptional is')
  optional_narrows ts None rest p w = (p, along c ts rest p w)
  optional_narrows ts (Some x) rest p w = n ts x rest p w

-- expressions

select_within : (c : ℕ) (ts : List Symbol) (e : Expression) (rest : List Symbol) → IsSelect ts e rest → Within c ts → Within c rest
select_within c ts (Net name) rest p w = let w' = along c ts (Identifier name ∷ rest) p w in omega (arith, w')
select_within c ts (Bit name i) rest p w = let w' = along c ts (Identifier name ∷ Sign LeftSquare ∷ PlainNumber i ∷ Sign RightSquare ∷ rest) p w in omega (arith, w')
select_within c ts (Part name i j) rest p w =
    let w' = along c ts (Identifier name ∷ Sign LeftSquare ∷ PlainNumber i ∷ Sign Colon ∷ PlainNumber j ∷ Sign RightSquare ∷ rest) p w in omega (arith, w')
select_within c ts e rest p w = elim p [ ]

-- after a mark that opens and closes nothing
after_operator : (c : ℕ) (m : Mark) (a : List Symbol) → KeepsCount m c → Within c (Sign m ∷ a) → Within c a
after_operator c m a keeps w =
    let w1 : greatest_from (mark_square m 0) (mark_count m 0 c) a ≤ 200 = omega (arith, w) in
    rw (keeps.0, keeps.1) at w1

module _ (c : ℕ) (inner inner' : Rule Expression) (n : (d : ℕ) → c + 1 ≤ d → Narrows d inner inner') where
  primary_narrows : Narrows c (IsPrimary inner) (IsPrimary inner')
  primary_narrows ts e rest (select p) w = (select p, select_within c ts e rest p w)
  primary_narrows ts e rest (sized bits p q) w = let w' = along c ts (SizedNumber bits ∷ rest) p w in (sized bits p q, omega (arith, w'))
  primary_narrows ts e rest (plain k p q) w = let w' = along c ts (PlainNumber k ∷ rest) p w in (plain k p q, omega (arith, w'))
  primary_narrows ts e rest (round a p i) w =
      let w' = along c ts (Sign LeftRound ∷ a) p w in
      let one = n (c + 1) (omega arith) a e (Sign RightRound ∷ rest) i (omega (arith, w')) in
      let w1 : greatest_from 0 (c + 1 - 1) rest ≤ 200 = omega (arith, one.1) in
      (round a p one.0, back c rest w1)
  primary_narrows ts e rest (concat all a p l q) w =
      let w' = along c ts (Sign LeftBrace ∷ a) p w in
      let one = list_narrows (c + 1) inner inner' (n (c + 1) (omega arith)) a all (Sign RightBrace ∷ rest) l (omega (arith, w')) in
      let w1 : greatest_from 0 (c + 1 - 1) rest ≤ 200 = omega (arith, one.1) in
      (concat all a p one.0 q, back c rest w1)
  primary_narrows ts e rest (repeat k all a p l q) w =
      let w' = along c ts (Sign LeftBrace ∷ PlainNumber k ∷ Sign LeftBrace ∷ a) p w in
      let one = list_narrows (c + 1 + 1) inner inner' (n (c + 1 + 1) (omega arith)) a all (Sign RightBrace ∷ Sign RightBrace ∷ rest) l (omega (arith, w')) in
      let w1 : greatest_from 0 (c + 1 + 1 - 1) (Sign RightBrace ∷ rest) ≤ 200 = omega (arith, one.1) in
      let w2 : greatest_from 0 (c + 1) (Sign RightBrace ∷ rest) ≤ 200 = back (c + 1) (Sign RightBrace ∷ rest) w1 in
      let w3 : greatest_from 0 (c + 1 - 1) rest ≤ 200 = omega (arith, w2) in
      (repeat k all a p one.0 q, back c rest w3)

  signs_within : (k : ℕ) (ts a : List Symbol) → IsSigns k ts a → Within c ts → Within c a
  signs_within zero ts a p w = along c ts a p w
  signs_within (suc k) ts a p w = let w' = along c ts (Sign Tilde ∷ p.0) p.1 w in signs_within k p.0 a p.2 (omega (arith, w'))

  negated_narrows : (is is' : Rule Expression) → Narrows c is is' → Narrows c (IsNegated is) (IsNegated is')
  negated_narrows is is' narrows ts e rest p w =
      let one = narrows p.1 p.2 rest p.4 (signs_within p.0 ts p.1 p.3 w) in
      ((p.0, p.1, p.2, p.3, one.0, p.5), one.1)

  fold_narrows : Narrows c (IsFold inner) (IsFold inner')
  fold_narrows ts e rest (inl p) w = let one = primary_narrows ts e rest p w in (inl one.0, one.1)
  fold_narrows ts e rest (inr p) w =
      let w' = after_operator c p.0 p.2 (one_keeps_counts p.0 p.1 c p.5) (along c ts (Sign p.0 ∷ p.2) p.4 w) in
      let one = negated_narrows (IsPrimary inner) (IsPrimary inner') primary_narrows p.2 p.3 rest p.6 w' in
      (inr (p.0, p.1, p.2, p.3, p.4, p.5, one.0, p.7), one.1)

  unary_narrows : Narrows c (IsUnary inner) (IsUnary inner')
  unary_narrows = negated_narrows (IsFold inner) (IsFold inner') fold_narrows

module _ {O : Type 0} (c : ℕ) (operator : Mark → Option O) (keeps : KeepCounts operator) (is is' : Rule Expression) (n : Narrows c is is') where
  operands_narrow : Narrows c (IsOperands operator is) (IsOperands operator is')
  operands_narrow ts [] rest p w = (p, along c ts rest p w)
  operands_narrow ts (x ∷ xs) rest p w =
      let w' = after_operator c p.0 p.1 (keeps p.0 x.0 c p.4) (along c ts (Sign p.0 ∷ p.1) p.3 w) in
      let one = n p.1 x.1 p.2 p.5 w' in
      let others = operands_narrow p.2 xs rest p.6 one.1 in
      ((p.0, p.1, p.2, p.3, p.4, one.0, others.0), others.1)

  chain_narrows : (made : Expression → List (O × Expression) → Expression) → Narrows c (IsChain operator made is) (IsChain operator made is')
  chain_narrows made ts e rest p w =
      let one = n ts p.0 p.2 p.3 w in
      let others = operands_narrow p.2 p.1 rest p.4 one.1 in
      ((p.0, p.1, p.2, one.0, others.0, p.5), others.1)

module _ (c : ℕ) (inner inner' : Rule Expression) (n : (d : ℕ) → c + 1 ≤ d → Narrows d inner inner') where
  level_narrows : (k : ℕ) → Narrows c (IsLevel k inner) (IsLevel k inner')
  level_narrows zero ts e rest p w = unary_narrows c inner inner' n ts e rest p w
  level_narrows (suc k) ts e rest p w =
      to_either (is_bitwise k) _ _ _ _ (Within c rest)
      (λ q. chain_narrows c (bit_operator k) (bits_keep_counts k) (IsLevel k inner) (IsLevel k inner') (level_narrows k) chain_expression ts e rest q w)
      (λ q. chain_narrows c (word_operator k) (words_keep_counts k) (IsLevel k inner) (IsLevel k inner') (level_narrows k) worded ts e rest q w)
      p

  arms_narrow : (ts : List Symbol) (xs : List (Expression × Expression)) (last : Expression) (rest : List Symbol) → IsArms inner ts xs last rest → Within c ts
      → IsArms inner' ts xs last rest × Within c rest
  arms_narrow ts [] last rest p w = level_narrows 9 ts last rest p w
  arms_narrow ts (x ∷ xs) last rest p w =
      let one = level_narrows 9 ts x.0 (Sign Query ∷ p.0) p.2 w in
      let two = n (c + 1) (omega arith) p.0 x.1 (Sign Colon ∷ p.1) p.3 (omega (arith, one.1)) in
      let w1 : greatest_from 0 (c + 1 - 1) p.1 ≤ 200 = omega (arith, two.1) in
      let others = arms_narrow p.1 xs last rest p.4 (back c p.1 w1) in
      ((p.0, p.1, one.0, two.0, others.0), others.1)

too_deep : (c : ℕ) (ts : List Symbol) → 201 ≤ c + 0 → Within c ts → ⊥
too_deep c ts h w = omega (arith, greatest_least 0 c ts)

expr_narrows : (n c m : ℕ) → 201 ≤ c + m → Narrows c (IsExpr n) (IsExpr m)
expr_narrows zero c m h ts e rest p w = elim p [ ]
expr_narrows (suc n) c zero h ts e rest p w = absurd (too_deep c ts h w)
expr_narrows (suc n) c (suc m) h ts e rest p w =
    let all = arms_narrow c (IsExpr n) (IsExpr m) (λ d le. expr_narrows n d m (omega arith)) ts p.0 p.1 rest p.2 w in
    ((p.0, p.1, all.0, p.3), all.1)

lval_narrows : (n c m : ℕ) → 201 ≤ c + m → Narrows c (IsLval n) (IsLval m)
lval_narrows zero c m h ts e rest p w = elim p [ ]
lval_narrows (suc n) c zero h ts e rest p w = absurd (too_deep c ts h w)
lval_narrows (suc n) c (suc m) h ts e rest (inl p) w = (inl p, select_within c ts e rest p w)
lval_narrows (suc n) c (suc m) h ts e rest (inr p) w =
    let w' = along c ts (Sign LeftBrace ∷ p.1) p.2 w in
    let all = list_narrows (c + 1) (IsLval n) (IsLval m) (lval_narrows n (c + 1) m (omega arith)) p.1 p.0 (Sign RightBrace ∷ rest) p.3 (omega (arith, w')) in
    let w1 : greatest_from 0 (c + 1 - 1) rest ≤ 200 = omega (arith, all.1) in
    (inr (p.0, p.1, p.2, all.0, p.4), back c rest w1)

-- items

at_any : (n c : ℕ) → Narrows c (IsExpr n) (IsExpr 201)
at_any n c = expr_narrows n c 201 (omega arith)

left_at_any : (n c : ℕ) → Narrows c (IsLval n) (IsLval 201)
left_at_any n c = lval_narrows n c 201 (omega arith)

range_within : (c : ℕ) (ts : List Symbol) (range : Option Range) (rest : List Symbol) → IsOptional IsRange ts range rest → Within c ts → Within c rest
range_within c ts None rest p w = along c ts rest p w
range_within c ts (Some r) rest p w =
    let w' = along c ts (Sign LeftSquare ∷ PlainNumber r.left ∷ Sign Colon ∷ PlainNumber r.right ∷ Sign RightSquare ∷ rest) p w in omega (arith, w')

assigned_narrows : (n : ℕ) → Narrows 0 (IsAssigned n) (IsAssigned 201)
assigned_narrows n ts e rest p w =
    let w' = along 0 ts (Sign Equals ∷ p.0) p.1 w in
    let one = at_any n 0 p.0 e rest p.2 (omega (arith, w')) in
    ((p.0, p.1, one.0), one.1)

net_narrows : (n : ℕ) → Narrows 0 (IsNet n) (IsNet 201)
net_narrows n ts x rest p w =
    let w' = along 0 ts (Identifier x.0 ∷ p.0) p.1 w in
    let one = optional_narrows 0 (IsAssigned n) (IsAssigned 201) (assigned_narrows n) p.0 x.1 rest p.2 (omega (arith, w')) in
    ((p.0, p.1, one.0), one.1)

assignment_narrows : (n : ℕ) → Narrows 0 (IsAssignment n) (IsAssignment 201)
assignment_narrows n ts x rest p w =
    let left = left_at_any n 0 ts x.0 (Sign Equals ∷ p.0) p.1 w in
    let right = at_any n 0 p.0 x.1 rest p.2 (omega (arith, left.1)) in
    ((p.0, left.0, right.0), right.1)

terminals_narrow : (n c : ℕ) → Narrows c (AreTerminals n) (AreTerminals 201)
terminals_narrow n c ts [] rest p w = elim p [ ]
terminals_narrow n c ts (x ∷ xs) rest p w =
    let one = at_any n c ts x (Sign Comma ∷ p.0) p.1 w in
    let others = list_narrows c (IsExpr n) (IsExpr 201) (at_any n c) p.0 xs rest p.2 (omega (arith, one.1)) in
    ((p.0, one.0, others.0), others.1)

name_within : (c : ℕ) (ts : List Symbol) (name : Option (List ℕ)) (rest : List Symbol) → IsOptional IsName ts name rest → Within c ts → Within c rest
name_within c ts None rest p w = along c ts rest p w
name_within c ts (Some n) rest p w = let w' = along c ts (Identifier n ∷ rest) p w in omega (arith, w')

gate_narrows : (n : ℕ) → Narrows 0 (IsGate n) (IsGate 201)
gate_narrows n ts x rest p w =
    let w' = name_within 0 ts x.0 (Sign LeftRound ∷ p.0) p.1 w in
    let one = terminals_narrow n 1 p.0 x.1 (Sign RightRound ∷ rest) p.2 (omega (arith, w')) in
    ((p.0, p.1, one.0), omega (arith, one.1))

place_narrows : (n c : ℕ) → Narrows c (IsPlace n) (IsPlace 201)
place_narrows n c = optional_narrows c (IsExpr n) (IsExpr 201) (at_any n c)

named_narrows : (n : ℕ) → Narrows 1 (IsNamed n) (IsNamed 201)
named_narrows n ts x rest p w =
    let w' = along 1 ts (Sign Dot ∷ Identifier x.0 ∷ Sign LeftRound ∷ p.0) p.1 w in
    let one = place_narrows n 2 p.0 x.1 (Sign RightRound ∷ rest) p.2 (omega (arith, w')) in
    ((p.0, p.1, one.0), omega (arith, one.1))

conns_narrow : (n : ℕ) → Narrows 1 (AreConns n) (AreConns 201)
conns_narrow n ts (Order []) rest p w = (p, along 1 ts rest p w)
conns_narrow n ts (Order (None ∷ [])) rest p w = elim p [ ]
conns_narrow n ts (Order (None ∷ x ∷ xs)) rest p w = list_narrows 1 (IsPlace n) (IsPlace 201) (place_narrows n 1) ts (None ∷ x ∷ xs) rest p w
conns_narrow n ts (Order (Some e ∷ xs)) rest p w = list_narrows 1 (IsPlace n) (IsPlace 201) (place_narrows n 1) ts (Some e ∷ xs) rest p w
conns_narrow n ts (Named all) rest p w = list_narrows 1 (IsNamed n) (IsNamed 201) (named_narrows n) ts all rest p w

call_narrows : (n : ℕ) → Narrows 0 (IsCall n) (IsCall 201)
call_narrows n ts x rest p w =
    let w' = along 0 ts (Identifier x.0 ∷ Sign LeftRound ∷ p.0) p.1 w in
    let one = conns_narrow n p.0 x.1 (Sign RightRound ∷ rest) p.2 (omega (arith, w')) in
    ((p.0, p.1, one.0), omega (arith, one.1))

clock_within : (c : ℕ) (ts : List Symbol) (e : Expression) (rest : List Symbol) → IsClockExpression ts e rest → Within c ts → Within c rest
clock_within c ts (Net name) rest p w = let w' = along c ts (Identifier name ∷ rest) p w in omega (arith, w')
clock_within c ts (Bit name i) rest p w = let w' = along c ts (Identifier name ∷ Sign LeftSquare ∷ PlainNumber i ∷ Sign RightSquare ∷ rest) p w in omega (arith, w')
clock_within c ts e rest p w = elim p [ ]

pub item_narrows : (n : ℕ) (ts : List Symbol) (body : PlainBody) (rest : List Symbol) → IsItem n ts body rest → nesting ts ≤ 200 → IsItem 201 ts body rest
item_narrows n ts (Ports port names) rest p w = p
item_narrows n ts (Nets range nets) rest p w =
    let w' = along 0 ts _ p.2 w in
    let w1 = range_within 0 p.0 range p.1 p.3 (omega (arith, w')) in
    (p.0, p.1, p.2, p.3, (list_narrows 0 (IsNet n) (IsNet 201) (net_narrows n) p.1 nets (Sign Semicolon ∷ rest) p.4 w1).0)
item_narrows n ts (Regs range names) rest p w = p
item_narrows n ts (Supply high range names) rest p w = p
item_narrows n ts (Assign all) rest p w =
    let w' = along 0 ts _ p.1 w in
    (p.0, p.1, (list_narrows 0 (IsAssignment n) (IsAssignment 201) (assignment_narrows n) p.0 all (Sign Semicolon ∷ rest) p.2 (omega (arith, w'))).0)
item_narrows n ts (Gates gate all) rest p w =
    let w' = along 0 ts _ p.1 w in
    (p.0, p.1, (list_narrows 0 (IsGate n) (IsGate 201) (gate_narrows n) p.0 all (Sign Semicolon ∷ rest) p.2 (omega (arith, w'))).0)
item_narrows n ts (Calls name all) rest p w =
    let w' = along 0 ts _ p.1 w in
    (p.0, p.1, (list_narrows 0 (IsCall n) (IsCall 201) (call_narrows n) p.0 all (Sign Semicolon ∷ rest) p.2 (omega (arith, w'))).0)
item_narrows n ts (Always r) rest p w =
    let w' = along 0 ts _ p.3 w in
    let clock = clock_within 1 p.0 r.clock (Sign RightRound ∷ p.1) p.4 (omega (arith, w')) in
    let left = left_at_any n 0 p.1 r.left (Sign LessEqual ∷ p.2) p.5 (omega (arith, clock)) in
    let right = at_any n 0 p.2 r.right (Sign Semicolon ∷ rest) p.6 (omega (arith, left.1)) in
    (p.0, p.1, p.2, p.3, p.4, left.0, right.0)
