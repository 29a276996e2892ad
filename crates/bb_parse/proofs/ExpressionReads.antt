-- What is an expression is read as it.
use Rattle.std.proofs.Common.{◌≡◌, ◌⊎◌, inl, inr, ℕ, zero, suc, ◌+◌, Option, ◌<◌, ◌≤◌, List, [], ◌∷◌, Some, None, Bool, true, false, refl, ap, sym, ◌∙◌, arith, length}
use Rattle.bb_ast.specs.Syntax.{Expression, Net, Bit, Part, Plain}
use Rattle.bb_lex.specs.declared.mark.Mark.{Mark}
use Rattle.bb_lex.specs.declared.mark.Mark.TheVariants.{LeftRound, RightRound, LeftBrace, RightBrace, Comma, Colon, Dot, Tilde, Query}
use Rattle.bb_lex.specs.declared.token.Kind.TheVariants as kinds
use Rattle.bb_parse.specs.Symbols.{Symbol, Identifier, Reserved, SizedNumber, PlainNumber, Sign}
use Rattle.bb_parse.specs.Lists.{Rule, IsMore, IsList}
use Rattle.bb_parse.specs.Expressions.{IsSelect, IsPrimary, select, sized, plain, round, concat, repeat, IsSigns, IsNegated, on_one, IsFold, IsUnary, bit_operator, chain_expression, word_operator, worded, IsOperands, IsChain, is_bitwise, IsLevel, IsLor, IsArms, conditional, IsExpr, IsLval}
use Rattle.bb_parse.specs.Inside.Symbols.{is_next, after, next_kind}
use Rattle.bb_parse.specs.Inside.Steps.{Read, ◌>>=◌}
use Rattle.bb_parse.specs.Inside.Expressions.{begins_operator, begins_repeat, read_braces, read_round, read_primary, read_signs, read_negated, next_operator, read_fold, read_unary, read_operands, chain_from, read_row, read_level, read_arm, read_arms, read_conditional, read_expr, read_lvals, read_lval}
use Rattle.bb_parse.proofs.Marks.{rank_next, no_query}
use Rattle.bb_parse.proofs.OperatorMarks.{AreOfRank, bit_ranks, word_ranks, no_operator}
use Rattle.bb_parse.proofs.Parts.{either_complete}
use Rattle.bb_parse.proofs.Levels.{level_alone, level_none}
use Rattle.bb_parse.proofs.ListLaws.{Complete, more_stops, list_complete}
use Rattle.bb_parse.proofs.ExpressionLaws.{select_complete}

select_begins : (ts : List Symbol) (e : Expression) (rest : List Symbol) → IsSelect ts e rest → next_kind ts ≡ Some kinds.Name
select_begins ts (Net name) rest p = rw p refl
select_begins ts (Bit name i) rest p = rw p refl
select_begins ts (Part name i j) rest p = rw p refl
select_begins ts e rest p = elim p [ ]

-- a number before { is read alone
PlainFirst : (List Symbol → Read Expression) → Type 0
PlainFirst read = (k : ℕ) (z : List Symbol) (x : Expression) (b : List Symbol) → read (PlainNumber k ∷ Sign LeftBrace ∷ z) ≡ Some (x, b) → b ≡ Sign LeftBrace ∷ z

repeat_is : (ts : List Symbol) → begins_repeat ts ≡ true → (k : ℕ) × (z : List Symbol) × (ts ≡ PlainNumber k ∷ z) × (is_next LeftBrace z ≡ true)
repeat_is [] h = cc
repeat_is (Identifier n ∷ ts) h = cc
repeat_is (Reserved w ∷ ts) h = cc
repeat_is (SizedNumber b ∷ ts) h = cc
repeat_is (PlainNumber n ∷ ts) h = (n, ts, refl, h)
repeat_is (Sign m ∷ ts) h = cc

brace_is : (ts : List Symbol) → is_next LeftBrace ts ≡ true → ts ≡ Sign LeftBrace ∷ after ts
brace_is [] h = cc
brace_is (Identifier n ∷ ts) h = cc
brace_is (Reserved w ∷ ts) h = cc
brace_is (SizedNumber b ∷ ts) h = cc
brace_is (PlainNumber n ∷ ts) h = cc
brace_is (Sign LeftBrace ∷ ts) h = refl
brace_is (Sign m ∷ ts) h = cc

-- no brace comes after a member of a list in braces
no_brace_after : {A : Type 0} (is : Rule A) (b : List Symbol) (xs : List A) (rest : List Symbol) → IsMore is b xs (Sign RightBrace ∷ rest) → is_next LeftBrace b ≡ false
no_brace_after is b [] rest q = rw q refl
no_brace_after is b (x ∷ xs) rest q = rw q.2 refl

true_or_false : (b : Bool) → (b ≡ true) ⊎ (b ≡ false)
true_or_false true = inl refl
true_or_false false = inr refl

no_sign : (read_one : List Symbol → Read Expression) → ((a : List Symbol) → read_one (Sign Tilde ∷ a) ≡ None) → (a : List Symbol) (x : Expression × List Symbol)
    → read_one a ≡ Some x → is_next Tilde a ≡ false
no_sign read_one none [] x h = refl
no_sign read_one none (Identifier n ∷ ts) x h = refl
no_sign read_one none (Reserved w ∷ ts) x h = refl
no_sign read_one none (SizedNumber b ∷ ts) x h = refl
no_sign read_one none (PlainNumber n ∷ ts) x h = refl
no_sign read_one none (Sign Tilde ∷ ts) x h = let e = sym (none ts) ∙ h in absurd (cc)
no_sign read_one none (Sign m ∷ ts) x h = refl

ranked : {O : Type 0} (operator : Mark → Option O) (n : ℕ) → AreOfRank operator (n + 2) → AreOfRank operator (suc (suc n))
ranked operator n ranks m op h = omega (arith, ranks m op h)

module _ (inner : Rule Expression) (read : List Symbol → Read Expression) (c : Complete 11 inner read) (alone : PlainFirst read) where
  no_repeat : (a : List Symbol) (all : List Expression) (rest : List Symbol) → IsList inner a all (Sign RightBrace ∷ rest) → begins_repeat a ≡ false
  unfolding PlainFirst
  no_repeat a [] rest p = elim p [ ]
  no_repeat a (x ∷ xs) rest p =
      elim (true_or_false (begins_repeat a)) [
        | inl h ↦
            let r = repeat_is a h in
            let one = c a x p.0 p.1 (more_stops inner read p.0 xs (Sign RightBrace ∷ rest) p.2 (omega arith)) in
            let begins : a ≡ PlainNumber r.0 ∷ Sign LeftBrace ∷ after r.1 = r.2 ∙ ap (λ z. PlainNumber r.0 ∷ z) (brace_is r.1 r.3) in
            let left : p.0 ≡ Sign LeftBrace ∷ after r.1 = alone r.0 (after r.1) x p.0 (ap read (sym begins) ∙ one.0) in
            let not_left : is_next LeftBrace p.0 ≡ false = no_brace_after inner p.0 xs rest p.2 in
            let is_left : is_next LeftBrace p.0 ≡ true = ap (is_next LeftBrace) left in
            cc
        | inr h ↦ h
      ]

  primary_complete : Complete 1 (IsPrimary inner) (read_primary read)
  unfolding read_primary read_round read_braces
  primary_complete ts e rest (select p) h =
      let one = select_complete ts e rest p h in
      (rw (select_begins ts e rest p) one.0, one.1)
  primary_complete ts e rest (sized bits p q) h = (rw (p, q) refl, omega (arith, ap length p))
  primary_complete ts e rest (plain n p q) h = (rw (p, q) refl, omega (arith, ap length p))
  primary_complete ts e rest (round a p i) h =
      let one = c a e (Sign RightRound ∷ rest) i (omega arith) in
      (rw (p, one.0) refl, omega (arith, ap length p, one.1))
  primary_complete ts e rest (concat all a p l q) h =
      let one = list_complete inner read c a all (Sign RightBrace ∷ rest) l (omega arith) in
      (rw (p, q, no_repeat a all rest l, one.0) refl, omega (arith, ap length p, one.1))
  primary_complete ts e rest (repeat k all a p l q) h =
      let one = list_complete inner read c a all (Sign RightBrace ∷ Sign RightBrace ∷ rest) l (omega arith) in
      (rw (p, q, one.0) refl, omega (arith, ap length p, one.1))

  no_fold : (a : List Symbol) (x : Expression × List Symbol) → read_primary read a ≡ Some x → next_operator on_one a ≡ None
  unfolding read_primary
  no_fold [] x h = refl
  no_fold (Identifier n ∷ ts) x h = refl
  no_fold (Reserved w ∷ ts) x h = refl
  no_fold (SizedNumber b ∷ ts) x h = refl
  no_fold (PlainNumber n ∷ ts) x h = refl
  no_fold (Sign LeftRound ∷ ts) x h = refl
  no_fold (Sign LeftBrace ∷ ts) x h = refl
  no_fold (Sign m ∷ ts) x h = absurd (cc)

  signs_complete : (k : ℕ) (ts a : List Symbol) (n : ℕ) → IsSigns k ts a → is_next Tilde a ≡ false → length ts ≤ n → (read_signs n ts ≡ (k, a)) × (length a ≤ length ts)
  signs_complete zero ts a zero p h le = (ap (λ z. (0, z)) p, omega (arith, ap length p))
  signs_complete zero ts a (suc n) p h le = (rw (p, h) refl, omega (arith, ap length p))
  signs_complete (suc k) ts a zero p h le = absurd (omega (arith, ap length p.1))
  signs_complete (suc k) ts a (suc n) p h le =
      let le' : length p.0 ≤ n = omega (arith, ap length p.1) in
      let others = signs_complete k p.0 a n p.2 h le' in
      (rw (p.1, others.0) refl, omega (arith, ap length p.1, others.1))

  -- what begins with no sign is read after a run of signs
  negated_complete : (is : Rule Expression) (read_one : List Symbol → Read Expression) → Complete 1 is read_one → ((a : List Symbol) → read_one (Sign Tilde ∷ a) ≡ None)
      → Complete 1 (IsNegated is) (read_negated read_one)
  unfolding read_negated
  negated_complete is read_one one none ts e rest p h =
      let found = one p.1 p.2 rest p.4 h in
      let run = signs_complete p.0 ts p.1 (length ts) p.3 (no_sign read_one none p.1 (p.2, rest) found.0) (omega arith) in
      (rw (run.0, found.0, p.5) refl, omega (arith, run.1, found.1))

  primary_no_sign : (a : List Symbol) → read_primary read (Sign Tilde ∷ a) ≡ None
  unfolding read_primary
  primary_no_sign a = refl

  fold_no_sign : (a : List Symbol) → read_fold read (Sign Tilde ∷ a) ≡ None
  unfolding read_fold
  fold_no_sign a = primary_no_sign a

  fold_complete : Complete 1 (IsFold inner) (read_fold read)
  unfolding read_fold
  fold_complete ts e rest (inl p) h =
      let one = primary_complete ts e rest p h in
      (rw (no_fold ts (e, rest) one.0) one.0, one.1)
  fold_complete ts e rest (inr p) h =
      let one = negated_complete (IsPrimary inner) (read_primary read) primary_complete primary_no_sign p.2 p.3 rest p.6 h in
      (rw (p.4, p.5, one.0, p.7) refl, omega (arith, ap length p.4, one.1))

  unary_complete : Complete 1 (IsUnary inner) (read_unary read)
  unary_complete = negated_complete (IsFold inner) (read_fold read) fold_complete fold_no_sign

module _ {O : Type 0} (operator : Mark → Option O) (is : Rule Expression) (operand : List Symbol → Read Expression) (k : ℕ) (ranks : AreOfRank operator (suc k)) (c : Complete k is operand) where
  operands_stop : (ts : List Symbol) (xs : List (O × Expression)) (rest : List Symbol) → IsOperands operator is ts xs rest → suc k < rank_next rest → k < rank_next ts
  operands_stop ts [] rest p h = rw p (omega arith)
  operands_stop ts (x ∷ xs) rest p h = rw p.3 (omega (arith, ranks p.0 x.0 p.4))

  operands_complete : (ts : List Symbol) (xs : List (O × Expression)) (rest : List Symbol) (n : ℕ) → IsOperands operator is ts xs rest → suc k < rank_next rest → length ts ≤ n
      → (read_operands operator operand n ts ≡ Some (xs, rest)) × (length rest ≤ length ts)
  operands_complete ts [] rest zero p h le = (ap (λ z. Some ([], z)) p, omega (arith, ap length p))
  operands_complete ts [] rest (suc n) p h le = (rw (p, no_operator operator (suc k) ranks rest h) refl, omega (arith, ap length p))
  operands_complete ts (x ∷ xs) rest zero p h le = absurd (omega (arith, ap length p.3))
  operands_complete ts (x ∷ xs) rest (suc n) p h le =
      let one = c p.1 x.1 p.2 p.5 (operands_stop p.2 xs rest p.6 h) in
      let le' : length p.2 ≤ n = omega (arith, ap length p.3, one.1) in
      let others = operands_complete p.2 xs rest n p.6 h le' in
      (rw (p.3, p.4, one.0, others.0) refl, omega (arith, ap length p.3, one.1, others.1))

  chain_complete : (made : Expression → List (O × Expression) → Expression) (ts : List Symbol) (e : Expression) (rest : List Symbol) → IsChain operator made is ts e rest → suc k < rank_next rest
      → (operand ts >>= (λ x. chain_from made x.0 (read_operands operator operand (length x.1) x.1)) ≡ Some (e, rest)) × (length rest < length ts)
  chain_complete made ts e rest p h =
      let one = c ts p.0 p.2 p.3 (operands_stop p.2 p.1 rest p.4 h) in
      let others = operands_complete p.2 p.1 rest (length p.2) p.4 h (omega arith) in
      (rw (one.0, others.0, p.5) refl, omega (arith, one.1, others.1))

module _ (inner : Rule Expression) (read : List Symbol → Read Expression) (c : Complete 11 inner read) (alone : PlainFirst read) where
  level_complete : (n : ℕ) → Complete (suc n) (IsLevel n inner) (read_level n read)
  unfolding read_level read_row
  level_complete zero ts e rest p h = unary_complete inner read c alone ts e rest p h
  level_complete (suc n) ts e rest p h =
      either_complete (is_bitwise n) _ _ _ (read_level n read ts) _ _ (e, rest)
      (λ q. chain_complete (bit_operator n) (IsLevel n inner) (read_level n read) (suc n) (ranked (bit_operator n) n (bit_ranks n)) (level_complete n) chain_expression ts e rest q h)
      (λ q. chain_complete (word_operator n) (IsLevel n inner) (read_level n read) (suc n) (ranked (word_operator n) n (word_ranks n)) (level_complete n) worded ts e rest q h)
      p

  lor_complete : Complete 10 (IsLor inner) (read_level 9 read)
  lor_complete = level_complete 9

  arms_complete : (ts : List Symbol) (xs : List (Expression × Expression)) (last : Expression) (rest : List Symbol) (n : ℕ) → IsArms inner ts xs last rest → 11 < rank_next rest → length ts ≤ n
      → (read_arms read n ts ≡ Some ((xs, last), rest)) × (length rest < length ts)
  unfolding read_arm
  arms_complete ts [] last rest zero p h le = absurd (omega (arith, (lor_complete ts last rest p (omega arith)).1))
  arms_complete ts [] last rest (suc n) p h le =
      let one = lor_complete ts last rest p (omega arith) in
      (rw (one.0, no_query rest h) refl, one.1)
  arms_complete ts (x ∷ xs) last rest zero p h le = absurd (omega (arith, (lor_complete ts x.0 (Sign Query ∷ p.0) p.2 (omega arith)).1))
  arms_complete ts (x ∷ xs) last rest (suc n) p h le =
      let one = lor_complete ts x.0 (Sign Query ∷ p.0) p.2 (omega arith) in
      let two = c p.0 x.1 (Sign Colon ∷ p.1) p.3 (omega arith) in
      let le' : length p.1 ≤ n = omega (arith, one.1, two.1) in
      let others = arms_complete p.1 xs last rest n p.4 h le' in
      (rw (one.0, two.0, others.0) refl, omega (arith, one.1, two.1, others.1))

  conditional_complete : (ts : List Symbol) (e : Expression) (rest : List Symbol) (xs : List (Expression × Expression)) (last : Expression)
      → IsArms inner ts xs last rest → e ≡ conditional xs last → 11 < rank_next rest → (read_conditional read ts ≡ Some (e, rest)) × (length rest < length ts)
  unfolding read_conditional
  conditional_complete ts e rest xs last p q h =
      let all = arms_complete ts xs last rest (length ts) p h (omega arith) in
      (rw (all.0, q) refl, all.1)

brace_stops : (z : List Symbol) → begins_operator (Sign LeftBrace ∷ z) ≡ false
unfolding begins_operator
brace_stops z = refl

plain_unary : (read : List Symbol → Read Expression) (k : ℕ) (z : List Symbol) → read_level 0 read (PlainNumber k ∷ Sign LeftBrace ∷ z) ≡ Some (Plain k, Sign LeftBrace ∷ z)
unfolding read_level read_negated read_fold read_primary
plain_unary read k z = refl

plain_alone : (read : List Symbol → Read Expression) (k : ℕ) (z : List Symbol) → read_conditional read (PlainNumber k ∷ Sign LeftBrace ∷ z) ≡ Some (Plain k, Sign LeftBrace ∷ z)
unfolding read_conditional
plain_alone read k z = rw (level_alone read (PlainNumber k ∷ Sign LeftBrace ∷ z) (Sign LeftBrace ∷ z) (Plain k) 9 0 9 (omega arith) (plain_unary read k z) (brace_stops z)) refl

some_is : (u v : Expression × List Symbol) → Some u ≡ Some v → u ≡ v
some_is u v h = cc

second : (u v : Expression × List Symbol) → Some u ≡ Some v → u.1 ≡ v.1
second u v h = ap (λ (z : Expression × List Symbol). z.1) (some_is u v h)

plain_first : (n : ℕ) → PlainFirst (read_expr n)
unfolding PlainFirst read_expr
plain_first zero k z x b h = cc
plain_first (suc n) k z x b h = second (x, b) (Plain k, Sign LeftBrace ∷ z) (sym h ∙ plain_alone (read_expr n) k z)

pub expr_complete : (n : ℕ) → Complete 11 (IsExpr n) (read_expr n)
unfolding read_expr
expr_complete zero ts e rest p h = elim p [ ]
expr_complete (suc n) ts e rest p h = conditional_complete (IsExpr n) (read_expr n) (expr_complete n) (plain_first n) ts e rest p.0 p.1 p.2 p.3 h

no_brace : (ts : List Symbol) → next_kind ts ≡ Some kinds.Name → is_next LeftBrace ts ≡ false
no_brace [] h = cc
no_brace (Identifier n ∷ ts) h = refl
no_brace (Reserved w ∷ ts) h = cc
no_brace (SizedNumber b ∷ ts) h = cc
no_brace (PlainNumber n ∷ ts) h = cc
no_brace (Sign m ∷ ts) h = cc

pub lval_complete : (n : ℕ) → Complete 1 (IsLval n) (read_lval n)
unfolding read_lval read_lvals
lval_complete zero ts e rest p h = elim p [ ]
lval_complete (suc n) ts e rest (inl p) h =
    let one = select_complete ts e rest p h in
    (rw (no_brace ts (select_begins ts e rest p)) one.0, one.1)
lval_complete (suc n) ts e rest (inr p) h =
    let all = list_complete (IsLval n) (read_lval n) (λ ts' x rest' q k. lval_complete n ts' x rest' q (omega arith)) p.1 p.0 (Sign RightBrace ∷ rest) p.3 (omega arith) in
    (rw (p.2, p.4, all.0) refl, omega (arith, ap length p.2, all.1))

comma_unary : (read : List Symbol → Read Expression) (z : List Symbol) → read_level 0 read (Sign Comma ∷ z) ≡ None
unfolding read_level read_negated read_fold read_primary
comma_unary read z = refl

comma_none : (n : ℕ) (z : List Symbol) → read_expr n (Sign Comma ∷ z) ≡ None
unfolding read_expr read_conditional
comma_none zero z = refl
comma_none (suc n) z = rw (level_none (read_expr n) (Sign Comma ∷ z) 9 0 9 (omega arith) (comma_unary (read_expr n) z)) refl

round_unary : (read : List Symbol → Read Expression) (z : List Symbol) → read_level 0 read (Sign RightRound ∷ z) ≡ None
unfolding read_level read_negated read_fold read_primary
round_unary read z = refl

round_none : (n : ℕ) (z : List Symbol) → read_expr n (Sign RightRound ∷ z) ≡ None
unfolding read_expr read_conditional
round_none zero z = refl
round_none (suc n) z = rw (level_none (read_expr n) (Sign RightRound ∷ z) 9 0 9 (omega arith) (round_unary (read_expr n) z)) refl

dot_unary : (read : List Symbol → Read Expression) (z : List Symbol) → read_level 0 read (Sign Dot ∷ z) ≡ None
unfolding read_level read_negated read_fold read_primary
dot_unary read z = refl

dot_none : (n : ℕ) (z : List Symbol) → read_expr n (Sign Dot ∷ z) ≡ None
unfolding read_expr read_conditional
dot_none zero z = refl
dot_none (suc n) z = rw (level_none (read_expr n) (Sign Dot ∷ z) 9 0 9 (omega arith) (dot_unary (read_expr n) z)) refl

-- no expression begins with a comma, ) or .
pub expr_begins : (n : ℕ) (ts : List Symbol) (x : Expression × List Symbol) → read_expr n ts ≡ Some x
    → (is_next Comma ts ≡ false) × (is_next RightRound ts ≡ false) × (is_next Dot ts ≡ false)
expr_begins n [] x h = (refl, refl, refl)
expr_begins n (Identifier a ∷ ts) x h = (refl, refl, refl)
expr_begins n (Reserved w ∷ ts) x h = (refl, refl, refl)
expr_begins n (SizedNumber b ∷ ts) x h = (refl, refl, refl)
expr_begins n (PlainNumber a ∷ ts) x h = (refl, refl, refl)
expr_begins n (Sign Comma ∷ ts) x h = let e = sym (comma_none n ts) ∙ h in cc
expr_begins n (Sign RightRound ∷ ts) x h = let e = sym (round_none n ts) ∙ h in cc
expr_begins n (Sign Dot ∷ ts) x h = let e = sym (dot_none n ts) ∙ h in cc
expr_begins n (Sign m ∷ ts) x h = (refl, refl, refl)
