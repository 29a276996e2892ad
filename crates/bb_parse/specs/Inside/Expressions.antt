-- Reading expressions from the left, on lists.
use Rattle.std.specs.Prelude.{ℕ, zero, suc, ◌+◌, Bool, false, ◌||◌, is_some, List, [], ◌∷◌, ◌++◌, Option, Some, None, length, if◌then◌else◌}
use Rattle.bb_ast.specs.declared.operators.FoldOp.{FoldOp}
use Rattle.bb_ast.specs.Syntax.{Expression, Net, Bit, Part, Sized, Plain, Fold, Concat, Repeat, listed_parts}
use Rattle.bb_lex.specs.declared.mark.Mark.{Mark}
use Rattle.bb_lex.specs.declared.mark.Mark.TheVariants.{LeftRound, RightRound, LeftSquare, RightSquare, LeftBrace, RightBrace, Colon, Tilde, Query}
use Rattle.bb_lex.specs.declared.token.Kind.{Kind}
use Rattle.bb_lex.specs.declared.token.Kind.TheVariants as kinds
use Rattle.bb_parse.specs.Symbols.{Symbol, Identifier, Reserved, SizedNumber, PlainNumber, Sign}
use Rattle.bb_parse.specs.Expressions.{with_signs, on_one, bit_operator_of, on_words, bit_operator, word_operator, chain_expression, worded, is_bitwise, conditional}
use Rattle.bb_parse.specs.Inside.Symbols.{is_next, after, next_kind}
use Rattle.bb_parse.specs.Inside.Steps.{Read, ◌>>=◌, read_mark, read_name, read_sized, read_plain, with_prefix, read_list}

-- after a name and [
unfoldable pub read_index : List ℕ → List Symbol → Read Expression
read_index name ts = read_plain ts >>= (λ i.
    if is_next Colon i.1 then read_plain (after i.1) >>= (λ j. read_mark RightSquare j.1 >>= (λ u. Some (Part name i.0 j.0, u.1)))
    else read_mark RightSquare i.1 >>= (λ u. Some (Bit name i.0, u.1)))

unfoldable pub read_select : List Symbol → Read Expression
read_select ts = read_name ts >>= (λ n. if is_next LeftSquare n.1 then read_index n.0 (after n.1) else Some (Net n.0, n.1))

-- a number and { come next
abbrev pub begins_repeat : List Symbol → Bool
begins_repeat [] = false
begins_repeat (Identifier n ∷ ts) = false
begins_repeat (Reserved w ∷ ts) = false
begins_repeat (SizedNumber b ∷ ts) = false
begins_repeat (PlainNumber n ∷ ts) = is_next LeftBrace ts
begins_repeat (Sign m ∷ ts) = false

-- after {
unfoldable pub read_braces : (List Symbol → Read Expression) → List Symbol → Read Expression
read_braces inner ts =
    if begins_repeat ts then read_plain ts >>= (λ k. read_list inner (after k.1) >>= (λ es. read_mark RightBrace es.1 >>= (λ u. read_mark RightBrace u.1 >>= (λ v. Some (Repeat k.0 (listed_parts es.0), v.1)))))
    else read_list inner ts >>= (λ es. read_mark RightBrace es.1 >>= (λ u. Some (Concat (listed_parts es.0), u.1)))

unfoldable pub read_round : (List Symbol → Read Expression) → List Symbol → Read Expression
read_round inner ts = inner ts >>= (λ e. read_mark RightRound e.1 >>= (λ u. Some (e.0, u.1)))

abbrev pub bracket_at : Mark → (List Symbol → Read Expression) → List Symbol → Read Expression
bracket_at LeftRound inner ts = read_round inner ts
bracket_at LeftBrace inner ts = read_braces inner ts
bracket_at _ inner ts = None

abbrev pub primary_at : Option Kind → (List Symbol → Read Expression) → List Symbol → Read Expression
primary_at None inner ts = None
primary_at (Some kinds.Name) inner ts = read_select ts
primary_at (Some (kinds.Word w)) inner ts = None
primary_at (Some kinds.Sized) inner ts = read_sized ts >>= (λ x. Some (Sized x.0, x.1))
primary_at (Some kinds.Plain) inner ts = read_plain ts >>= (λ x. Some (Plain x.0, x.1))
primary_at (Some (kinds.Mark m)) inner ts = bracket_at m inner (after ts)

unfoldable pub read_primary : (List Symbol → Read Expression) → List Symbol → Read Expression
read_primary inner ts = primary_at (next_kind ts) inner ts

-- a run of ~, at most n signs
abbrev pub read_signs : ℕ → List Symbol → ℕ × List Symbol
read_signs zero ts = (0, ts)
read_signs (suc n) ts = if is_next Tilde ts then (suc (read_signs n (after ts)).0, (read_signs n (after ts)).1) else (0, ts)

-- k more signs
unfoldable pub plus_signs : ℕ → ℕ × List Symbol → ℕ × List Symbol
plus_signs k read = (k + read.0, read.1)

-- a run of ~ before what is read
unfoldable pub read_negated : (List Symbol → Read Expression) → List Symbol → Read Expression
read_negated read ts = read (read_signs (length ts) ts).1 >>= (λ e. Some (with_signs (read_signs (length ts) ts).0 e.0, e.1))

-- the operator that the next symbol is
abbrev pub next_operator : {O : Type 0} → (Mark → Option O) → List Symbol → Option O
next_operator operator [] = None
next_operator operator (Identifier n ∷ ts) = None
next_operator operator (Reserved w ∷ ts) = None
next_operator operator (SizedNumber b ∷ ts) = None
next_operator operator (PlainNumber n ∷ ts) = None
next_operator operator (Sign m ∷ ts) = operator m

abbrev pub fold_at : Option FoldOp → (List Symbol → Read Expression) → List Symbol → Read Expression
fold_at None inner ts = read_primary inner ts
fold_at (Some op) inner ts = read_negated (read_primary inner) (after ts) >>= (λ x. Some (Fold op x.0, x.1))

unfoldable pub read_fold : (List Symbol → Read Expression) → List Symbol → Read Expression
read_fold inner ts = fold_at (next_operator on_one ts) inner ts

abbrev pub read_unary : (List Symbol → Read Expression) → List Symbol → Read Expression
read_unary inner = read_negated (read_fold inner)

-- an operator between two operands comes next
unfoldable pub begins_operator : List Symbol → Bool
begins_operator ts = is_some (next_operator bit_operator_of ts) || is_some (next_operator on_words ts)

-- what comes with an operator, or the end of the chain
abbrev pub operands_at : {O : Type 0} → Option O → List Symbol → (O → Read (List (O × Expression))) → Read (List (O × Expression))
operands_at None ts more = Some ([], ts)
operands_at (Some op) ts more = more op

abbrev pub read_operands : {O : Type 0} → (Mark → Option O) → (List Symbol → Read Expression) → ℕ → List Symbol → Read (List (O × Expression))
read_operands operator operand zero ts = Some ([], ts)
read_operands operator operand (suc n) ts = operands_at (next_operator operator ts) ts
    (λ op. operand (after ts) >>= (λ x. with_prefix ((op, x.0) ∷ []) (read_operands operator operand n x.1)))

-- the chain of an operand and those that were read
abbrev pub chain_from : {O : Type 0} → (Expression → List (O × Expression) → Expression) → Expression → Read (List (O × Expression)) → Read Expression
chain_from made x read = read >>= (λ xs. Some (made x xs.0, xs.1))

-- after the first operand of a chain of a row
unfoldable pub read_row : ℕ → (List Symbol → Read Expression) → Expression → List Symbol → Read Expression
read_row n operand x ts =
    if is_bitwise n then chain_from chain_expression x (read_operands (bit_operator n) operand (length ts) ts)
    else chain_from worded x (read_operands (word_operator n) operand (length ts) ts)

-- a unary, and then row by row what goes on with it
unfoldable pub read_level : ℕ → (List Symbol → Read Expression) → List Symbol → Read Expression
read_level zero inner ts = read_unary inner ts
read_level (suc n) inner ts = read_level n inner ts >>= (λ x. read_row n (read_level n inner) x.0 x.1)

-- with these before arms that were read
abbrev pub with_arms : List (Expression × Expression) → Read (List (Expression × Expression) × Expression) → Read (List (Expression × Expression) × Expression)
with_arms prefix None = None
with_arms prefix (Some x) = Some ((prefix ++ x.0.0, x.0.1), x.1)

-- after a condition and ?, its value and :
unfoldable pub read_arm : Expression → (List Symbol → Read Expression) → List Symbol → Read (Expression × Expression)
read_arm x inner ts = inner ts >>= (λ v. read_mark Colon v.1 >>= (λ u. Some ((x, v.0), u.1)))

-- at most n conditions, and the last branch
abbrev pub read_arms : (List Symbol → Read Expression) → ℕ → List Symbol → Read (List (Expression × Expression) × Expression)
read_arms inner zero ts = None
read_arms inner (suc n) ts = read_level 9 inner ts >>= (λ c.
    if is_next Query c.1 then read_arm c.0 inner (after c.1) >>= (λ a. with_arms (a.0 ∷ []) (read_arms inner n a.1))
    else Some (([], c.0), c.1))

-- the conditional of arms that were read
abbrev pub conditional_from : Read (List (Expression × Expression) × Expression) → Read Expression
conditional_from read = read >>= (λ x. Some (conditional x.0.0 x.0.1, x.1))

unfoldable pub read_conditional : (List Symbol → Read Expression) → List Symbol → Read Expression
read_conditional inner ts = conditional_from (read_arms inner (length ts) ts)

unfoldable pub read_expr : ℕ → List Symbol → Read Expression
read_expr zero ts = None
read_expr (suc n) ts = read_conditional (read_expr n) ts

-- after {, what may be assigned
unfoldable pub read_lvals : (List Symbol → Read Expression) → List Symbol → Read Expression
read_lvals inner ts = read_list inner ts >>= (λ es. read_mark RightBrace es.1 >>= (λ u. Some (Concat (listed_parts es.0), u.1)))

unfoldable pub read_lval : ℕ → List Symbol → Read Expression
read_lval zero ts = None
read_lval (suc n) ts = if is_next LeftBrace ts then read_lvals (read_lval n) (after ts) else read_select ts
