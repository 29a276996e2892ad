-- What is read as an expression is one, and what is an expression is read as it.
use Rattle.std.proofs.Common.{◌≡◌, inl, inr, ℕ, zero, suc, List, [], ◌∷◌, Option, Some, None, Bool, true, false, refl, ap, sym, ◌∙◌, subst, arith, length, IfSome, if◌then◌else◌}
use Rattle.bb_ast.specs.declared.operators.FoldOp.{FoldOp}
use Rattle.bb_ast.specs.Syntax.{Expression, Net, Bit, Part}
use Rattle.bb_lex.specs.declared.mark.Mark.{Mark}
use Rattle.bb_lex.specs.declared.mark.Mark.TheVariants.{LeftRound, RightRound, LeftSquare, RightSquare, LeftBrace, RightBrace, Colon, Tilde, Query}
use Rattle.bb_parse.specs.Symbols.{Symbol, Identifier, Reserved, SizedNumber, PlainNumber, Sign}
use Rattle.bb_parse.specs.Lists.{Rule, IsList}
use Rattle.bb_parse.specs.Expressions.{IsSelect, IsPrimary, select, sized, plain, round, concat, repeat, IsSigns, IsNegated, on_one, IsFold, IsUnary, bit_operator, chain_expression, word_operator, worded, IsOperands, IsChain, is_bitwise, IsLevel, IsLor, IsArms, conditional, IsExpr, IsLval}
use Rattle.bb_parse.specs.Inside.Symbols.{is_next, after}
use Rattle.bb_parse.specs.Inside.Steps.{Read, read_mark, read_name, read_plain, read_list}
use Rattle.bb_parse.specs.Inside.Expressions.{read_index, read_select, begins_repeat, read_braces, read_round, bracket_at, read_primary, read_signs, read_negated, next_operator, fold_at, read_fold, read_unary, operands_at, read_operands, chain_from, read_row, read_level, with_arms, read_arm, read_arms, read_conditional, read_expr, read_lvals, read_lval}
use Rattle.bb_parse.proofs.Marks.{next_is, no_square}
use Rattle.bb_parse.proofs.OperatorMarks.{operator_is}
use Rattle.bb_parse.proofs.Parts.{and_then, and_so, either_way, either_sound, after_prefix, mark_sound, name_sound, plain_sound}
use Rattle.bb_parse.proofs.ListLaws.{Sound, Complete, list_sound}

-- selects

index_sound : (name : List ℕ) (all ts : List Symbol) → all ≡ Identifier name ∷ Sign LeftSquare ∷ ts → IfSome (read_index name ts) (λ x. IsSelect all x.0 x.1)
unfolding read_index
index_sound name all ts begins =
    and_then (read_plain ts) _ (λ i. ts ≡ PlainNumber i.0 ∷ i.1) _ (plain_sound ts) (λ i p.
    either_way (is_next Colon i.1) _ _ _
    (λ h. and_then (read_plain (after i.1)) _ (λ j. after i.1 ≡ PlainNumber j.0 ∷ j.1) _ (plain_sound (after i.1)) (λ j q.
    and_then (read_mark RightSquare j.1) _ (λ u. j.1 ≡ Sign RightSquare ∷ u.1) _ (mark_sound RightSquare j.1) (λ u r.
    begins ∙ ap (λ z. Identifier name ∷ Sign LeftSquare ∷ z) (p ∙ ap (λ z. PlainNumber i.0 ∷ z) (next_is Colon i.1 h ∙ ap (λ z. Sign Colon ∷ z) (q ∙ ap (λ z. PlainNumber j.0 ∷ z) r))))))
    (λ h. and_then (read_mark RightSquare i.1) _ (λ u. i.1 ≡ Sign RightSquare ∷ u.1) _ (mark_sound RightSquare i.1) (λ u r.
    begins ∙ ap (λ z. Identifier name ∷ Sign LeftSquare ∷ z) (p ∙ ap (λ z. PlainNumber i.0 ∷ z) r))))

pub select_sound : Sound IsSelect read_select
unfolding read_select
select_sound ts =
    and_then (read_name ts) _ (λ n. ts ≡ Identifier n.0 ∷ n.1) _ (name_sound ts) (λ n p.
    either_way (is_next LeftSquare n.1) _ _ _
    (λ h. index_sound n.0 ts (after n.1) (p ∙ ap (λ z. Identifier n.0 ∷ z) (next_is LeftSquare n.1 h)))
    (λ h. p))

pub select_complete : Complete 1 IsSelect read_select
unfolding read_select read_index
select_complete ts (Net name) rest p h = (rw (p, no_square rest h) refl, omega (arith, ap length p))
select_complete ts (Bit name i) rest p h = (rw p refl, omega (arith, ap length p))
select_complete ts (Part name i j) rest p h = (rw p refl, omega (arith, ap length p))
select_complete ts e rest p h = elim p [ ]

-- primaries

repeat_begins : (ts : List Symbol) → begins_repeat ts ≡ true → IfSome (read_plain ts) (λ k. (ts ≡ PlainNumber k.0 ∷ k.1) × (is_next LeftBrace k.1 ≡ true))
repeat_begins [] h = tt
repeat_begins (Identifier n ∷ ts) h = tt
repeat_begins (Reserved w ∷ ts) h = tt
repeat_begins (SizedNumber b ∷ ts) h = tt
repeat_begins (PlainNumber n ∷ ts) h = (refl, h)
repeat_begins (Sign m ∷ ts) h = tt

module _ (inner : Rule Expression) (read : List Symbol → Read Expression) (s : Sound inner read) where
  round_sound : (all ts : List Symbol) → all ≡ Sign LeftRound ∷ ts → IfSome (read_round read ts) (λ x. IsPrimary inner all x.0 x.1)
  unfolding read_round
  round_sound all ts begins =
      and_then (read ts) _ (λ e. inner ts e.0 e.1) _ (s ts) (λ e p.
      and_then (read_mark RightRound e.1) _ (λ u. e.1 ≡ Sign RightRound ∷ u.1) _ (mark_sound RightRound e.1) (λ u q.
      round ts begins (subst (λ z. inner ts e.0 z) q p)))

  braces_sound : (all ts : List Symbol) → all ≡ Sign LeftBrace ∷ ts → IfSome (read_braces read ts) (λ x. IsPrimary inner all x.0 x.1)
  unfolding read_braces
  braces_sound all ts begins =
      either_way (begins_repeat ts) _ _ _
      (λ h. and_then (read_plain ts) _ (λ k. (ts ≡ PlainNumber k.0 ∷ k.1) × (is_next LeftBrace k.1 ≡ true)) _ (repeat_begins ts h) (λ k p.
      and_then (read_list read (after k.1)) _ (λ es. IsList inner (after k.1) es.0 es.1) _ (list_sound inner read s (after k.1)) (λ es q.
      and_then (read_mark RightBrace es.1) _ (λ u. es.1 ≡ Sign RightBrace ∷ u.1) _ (mark_sound RightBrace es.1) (λ u r.
      and_then (read_mark RightBrace u.1) _ (λ v. u.1 ≡ Sign RightBrace ∷ v.1) _ (mark_sound RightBrace u.1) (λ v t.
      repeat k.0 es.0 (after k.1) (begins ∙ ap (λ z. Sign LeftBrace ∷ z) (p.0 ∙ ap (λ z. PlainNumber k.0 ∷ z) (next_is LeftBrace k.1 p.1)))
      (subst (λ z. IsList inner (after k.1) es.0 z) (r ∙ ap (λ z. Sign RightBrace ∷ z) t) q) refl)))))
      (λ h. and_then (read_list read ts) _ (λ es. IsList inner ts es.0 es.1) _ (list_sound inner read s ts) (λ es q.
      and_then (read_mark RightBrace es.1) _ (λ u. es.1 ≡ Sign RightBrace ∷ u.1) _ (mark_sound RightBrace es.1) (λ u r.
      concat es.0 ts begins (subst (λ z. IsList inner ts es.0 z) r q) refl)))

  bracket_sound : (m : Mark) (all ts : List Symbol) → all ≡ Sign m ∷ ts → IfSome (bracket_at m read ts) (λ x. IsPrimary inner all x.0 x.1)
  bracket_sound LeftRound all ts begins = round_sound all ts begins
  bracket_sound LeftBrace all ts begins = braces_sound all ts begins
  bracket_sound m all ts begins = tt

  primary_sound : Sound (IsPrimary inner) (read_primary read)
  unfolding read_primary
  primary_sound [] = tt
  primary_sound (Identifier n ∷ ts) = and_so (read_select (Identifier n ∷ ts)) (λ x. IsSelect (Identifier n ∷ ts) x.0 x.1) _ (select_sound (Identifier n ∷ ts)) (λ x p. select p)
  primary_sound (Reserved w ∷ ts) = tt
  primary_sound (SizedNumber b ∷ ts) = sized b refl refl
  primary_sound (PlainNumber n ∷ ts) = plain n refl refl
  primary_sound (Sign m ∷ ts) = bracket_sound m (Sign m ∷ ts) ts refl

  signs_by : (b : Bool) (r : ℕ × List Symbol) (ts : List Symbol) → (b ≡ true → IsSigns (suc r.0) ts r.1)
      → (let z : ℕ × List Symbol = if b then (suc r.0, r.1) else (0, ts) in IsSigns z.0 ts z.1)
  signs_by true r ts h = h refl
  signs_by false r ts h = refl

  signs_sound : (n : ℕ) (ts : List Symbol) → IsSigns (read_signs n ts).0 ts (read_signs n ts).1
  signs_sound zero ts = refl
  signs_sound (suc n) ts = signs_by (is_next Tilde ts) (read_signs n (after ts)) ts (λ h. (after ts, next_is Tilde ts h, signs_sound n (after ts)))

  negated_sound : (is : Rule Expression) (read_one : List Symbol → Read Expression) → Sound is read_one → Sound (IsNegated is) (read_negated read_one)
  unfolding read_negated
  negated_sound is read_one one ts =
      and_then (read_one (read_signs (length ts) ts).1) _ (λ e. is (read_signs (length ts) ts).1 e.0 e.1) _ (one (read_signs (length ts) ts).1) (λ e p.
      ((read_signs (length ts) ts).0, (read_signs (length ts) ts).1, e.0, signs_sound (length ts) ts, p, refl))

  fold_sound_by : (ts : List Symbol) (o : Option FoldOp) → next_operator on_one ts ≡ o → IfSome (fold_at o read ts) (λ x. IsFold inner ts x.0 x.1)
  fold_sound_by ts None e = and_so (read_primary read ts) (λ x. IsPrimary inner ts x.0 x.1) _ (primary_sound ts) (λ x p. inl p)
  fold_sound_by ts (Some op) e =
      let m = operator_is on_one ts op e in
      and_then (read_negated (read_primary read) (after ts)) _ (λ x. IsNegated (IsPrimary inner) (after ts) x.0 x.1) _
      (negated_sound (IsPrimary inner) (read_primary read) primary_sound (after ts)) (λ x p.
      inr (m.0, op, after ts, x.0, m.1, m.2, p, refl))

  fold_sound : Sound (IsFold inner) (read_fold read)
  unfolding read_fold
  fold_sound ts = fold_sound_by ts (next_operator on_one ts) refl

  unary_sound : Sound (IsUnary inner) (read_unary read)
  unary_sound = negated_sound (IsFold inner) (read_fold read) fold_sound

-- chains

module _ {O : Type 0} where
  operands_either : (o : Option O) (ts : List Symbol) (more : O → Read (List (O × Expression))) (P : List (O × Expression) × List Symbol → Type 0)
      → (o ≡ None → P ([], ts)) → ((op : O) → o ≡ Some op → IfSome (more op) P) → IfSome (operands_at o ts more) P
  operands_either None ts more P h k = h refl
  operands_either (Some op) ts more P h k = k op refl

  module _ (operator : Mark → Option O) (is : Rule Expression) (operand : List Symbol → Read Expression) (s : Sound is operand) where
    operands_sound : (n : ℕ) → Sound (IsOperands operator is) (read_operands operator operand n)
    operands_sound zero ts = refl
    operands_sound (suc n) ts =
        let P : List (O × Expression) × List Symbol → Type 0 = λ xs. IsOperands operator is ts xs.0 xs.1 in
        operands_either (next_operator operator ts) ts _ P (λ h. refl) (λ op h.
        let m = operator_is operator ts op h in
        and_then (operand (after ts)) _ (λ x. is (after ts) x.0 x.1) P (s (after ts)) (λ x p.
        let y : O × Expression = (op, x.0) in
        after_prefix y (read_operands operator operand n x.1) P (and_so (read_operands operator operand n x.1) (λ xs. IsOperands operator is x.1 xs.0 xs.1) (λ xs. IsOperands operator is ts (y ∷ xs.0) xs.1) (operands_sound n x.1) (λ xs q.
        (m.0, after ts, x.1, m.1, m.2, p, q)))))

    chain_sound : (made : Expression → List (O × Expression) → Expression) (ts : List Symbol) (x : Expression) (a : List Symbol) → is ts x a
        → IfSome (chain_from made x (read_operands operator operand (length a) a)) (λ y. IsChain operator made is ts y.0 y.1)
    chain_sound made ts x a p =
        and_then (read_operands operator operand (length a) a) _ (λ xs. IsOperands operator is a xs.0 xs.1) _ (operands_sound (length a) a) (λ xs q.
        (x, xs.0, a, p, q, refl))

module _ (inner : Rule Expression) (read : List Symbol → Read Expression) (s : Sound inner read) where
  level_sound : (n : ℕ) → Sound (IsLevel n inner) (read_level n read)
  unfolding read_level read_row
  level_sound zero ts = unary_sound inner read s ts
  level_sound (suc n) ts =
      and_then (read_level n read ts) _ (λ x. IsLevel n inner ts x.0 x.1) _ (level_sound n ts) (λ x p.
      either_sound (is_bitwise n) _ _ _ _
      (chain_sound (bit_operator n) (IsLevel n inner) (read_level n read) (level_sound n) chain_expression ts x.0 x.1 p)
      (chain_sound (word_operator n) (IsLevel n inner) (read_level n read) (level_sound n) worded ts x.0 x.1 p))

  arms_prefix : (x : Expression × Expression) (r : Read (List (Expression × Expression) × Expression)) (P : (List (Expression × Expression) × Expression) × List Symbol → Type 0)
      → IfSome r (λ y. P ((x ∷ y.0.0, y.0.1), y.1)) → IfSome (with_arms (x ∷ []) r) P
  arms_prefix x None P h = tt
  arms_prefix x (Some y) P h = h

  arm_sound : (y : Expression) (ts : List Symbol) → IfSome (read_arm y read ts) (λ a. (a.0.0 ≡ y) × inner ts a.0.1 (Sign Colon ∷ a.1))
  unfolding read_arm
  arm_sound y ts =
      and_then (read ts) _ (λ v. inner ts v.0 v.1) _ (s ts) (λ v q.
      and_then (read_mark Colon v.1) _ (λ u. v.1 ≡ Sign Colon ∷ u.1) _ (mark_sound Colon v.1) (λ u r.
      (refl, subst (λ z. inner ts v.0 z) r q)))

  arms_sound : (n : ℕ) (ts : List Symbol) → IfSome (read_arms read n ts) (λ x. IsArms inner ts x.0.0 x.0.1 x.1)
  arms_sound zero ts = tt
  arms_sound (suc n) ts =
      let P : (List (Expression × Expression) × Expression) × List Symbol → Type 0 = λ x. IsArms inner ts x.0.0 x.0.1 x.1 in
      and_then (read_level 9 read ts) _ (λ c. IsLor inner ts c.0 c.1) P (level_sound 9 ts) (λ c p.
      either_way (is_next Query c.1) _ _ P
      (λ h. and_then (read_arm c.0 read (after c.1)) _ (λ a. (a.0.0 ≡ c.0) × inner (after c.1) a.0.1 (Sign Colon ∷ a.1)) P (arm_sound c.0 (after c.1)) (λ a q.
      arms_prefix a.0 (read_arms read n a.1) P (and_so (read_arms read n a.1) (λ x. IsArms inner a.1 x.0.0 x.0.1 x.1) (λ x. IsArms inner ts (a.0 ∷ x.0.0) x.0.1 x.1) (arms_sound n a.1) (λ x t.
      (after c.1, a.1, subst (λ z. IsLor inner ts z (Sign Query ∷ after c.1)) (sym q.0) (subst (λ z. IsLor inner ts c.0 z) (next_is Query c.1 h) p), q.1, t)))))
      (λ h. p))

  conditional_sound : (ts : List Symbol) → IfSome (read_conditional read ts)
      (λ x. (xs : List (Expression × Expression)) × (last : Expression) × IsArms inner ts xs last x.1 × (x.0 ≡ conditional xs last))
  unfolding read_conditional
  conditional_sound ts =
      and_then (read_arms read (length ts) ts) _ (λ x. IsArms inner ts x.0.0 x.0.1 x.1) _ (arms_sound (length ts) ts) (λ x p. (x.0.0, x.0.1, p, refl))

pub expr_sound : (n : ℕ) → Sound (IsExpr n) (read_expr n)
unfolding read_expr
expr_sound zero ts = tt
expr_sound (suc n) ts = conditional_sound (IsExpr n) (read_expr n) (expr_sound n) ts

pub lval_sound : (n : ℕ) → Sound (IsLval n) (read_lval n)
unfolding read_lval read_lvals
lval_sound zero ts = tt
lval_sound (suc n) ts =
    either_way (is_next LeftBrace ts) _ _ _
    (λ h. and_then (read_list (read_lval n) (after ts)) _ (λ es. IsList (IsLval n) (after ts) es.0 es.1) _ (list_sound (IsLval n) (read_lval n) (lval_sound n) (after ts)) (λ es p.
    and_then (read_mark RightBrace es.1) _ (λ u. es.1 ≡ Sign RightBrace ∷ u.1) _ (mark_sound RightBrace es.1) (λ u q.
    inr (es.0, after ts, next_is LeftBrace ts h, subst (λ z. IsList (IsLval n) (after ts) es.0 z) q p, refl))))
    (λ h. and_so (read_select ts) (λ x. IsSelect ts x.0 x.1) _ (select_sound ts) (λ x p. inl p))
