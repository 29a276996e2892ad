-- The own width of an expression (IEEE 1364-2005, 5.4.1, table 5-22, in a profile): a net has its own, a select has as
-- many bits as it names, a sized number has its size and a plain one 32. The operands of ~ and of a chain and the
-- branches of a conditional are as wide as the widest, and so is a sum or a difference; a shift is as wide as its left
-- operand, and a comparison, a truth of words or a reduction has one bit. The widths of parts are added, and a
-- replication multiplies them.
use Rattle.std.specs.Prelude.{ℕ, ◌+◌, ◌*◌, List, [], ◌∷◌, Option, map, fold, max, sum, length}
use Rattle.bb_ast.specs.declared.module.Range.{Range}
use Rattle.bb_ast.specs.declared.operators.WordOp.{WordOp}
use Rattle.bb_ast.specs.declared.operators.WordOp.TheVariants as ops
use Rattle.bb_ast.specs.Syntax.{Expression}
use Rattle.bb_ast.specs.Folds.{Cases, fold_by, fold_expression}
use Rattle.bb_names.specs.Ranges.{distance, range_width}

-- the range of each net by its name
abbrev pub Ranges : Type 0
Ranges = List ℕ → Option Range

abbrev pub greatest : List ℕ → ℕ
greatest [] = 0
greatest (n ∷ ns) = max n (greatest ns)

-- the own width of an operator on words, whose operands have the own widths l and r
abbrev pub operator_width : WordOp → ℕ → ℕ → ℕ
operator_width ops.Plus l r = max l r
operator_width ops.Minus l r = max l r
operator_width ops.Equal l r = 1
operator_width ops.NotEqual l r = 1
operator_width ops.Less l r = 1
operator_width ops.LessEqual l r = 1
operator_width ops.Greater l r = 1
operator_width ops.GreaterEqual l r = 1
operator_width ops.Left l r = l
operator_width ops.Right l r = l
operator_width ops.Both l r = 1
operator_width ops.Either l r = 1

abbrev pub widths : Ranges → Cases ℕ ℕ
widths ranges = record {
  net = λ n. range_width (ranges n);
  bit = λ n i. 1;
  part = λ n i j. distance i j + 1;
  sized = λ bits. length bits;
  plain = λ n. 32;
  not = λ k e. e;
  reduce = λ op e. 1;
  chain = λ e rest. max e (greatest (map (λ x. x.1) rest));
  words = λ e rest. fold (λ left x. operator_width x.0 left x.1) e rest;
  cond = λ all last. max (greatest (map (λ x. x.1) all)) last;
  concat = λ all. sum all;
  repeat = λ k all. k * sum all;
}

abbrev pub own_width : Ranges → Expression → ℕ
own_width ranges = fold_expression (widths ranges)

-- an operand: its own width, and what it gives at each width of its context
pub record Operand (A : Type 0) : Type 0 where
  pub width : ℕ
  pub at : ℕ → A

-- what it gives by itself
abbrev pub alone : {A : Type 0} → Operand A → A
alone x = x.at x.width

-- A definition by width: a case gives a function of the width of its context, and sees of an operand its own width and what it
-- gives at each width. So in `a & 3'd1` at width 8, a being a net of one bit, the case of a chain sees a with the width 1 and the
-- number with the width 3, and takes both at 8; that of a conditional takes the condition by itself, at its own width.
abbrev pub fold_at : {A : Type 0} → Ranges → Cases (Operand A) (ℕ → A) → Expression → ℕ → A
fold_at ranges = fold_by (λ e a. record { width = own_width ranges e; at = a })

-- The widths at which an operator on words takes its first and its second operand, which have the own widths l and r, in a context
-- of the width w: a sum or a difference takes both at the context's, a comparison both at the greater of the two, a shift the
-- first at the context's and the second at its own, and a truth of words each at its own.
abbrev pub first_at : WordOp → ℕ → ℕ → ℕ → ℕ
first_at ops.Plus l r w = w
first_at ops.Minus l r w = w
first_at ops.Equal l r w = max l r
first_at ops.NotEqual l r w = max l r
first_at ops.Less l r w = max l r
first_at ops.LessEqual l r w = max l r
first_at ops.Greater l r w = max l r
first_at ops.GreaterEqual l r w = max l r
first_at ops.Left l r w = w
first_at ops.Right l r w = w
first_at ops.Both l r w = l
first_at ops.Either l r w = l

abbrev pub second_at : WordOp → ℕ → ℕ → ℕ → ℕ
second_at ops.Plus l r w = w
second_at ops.Minus l r w = w
second_at ops.Equal l r w = max l r
second_at ops.NotEqual l r w = max l r
second_at ops.Less l r w = max l r
second_at ops.LessEqual l r w = max l r
second_at ops.Greater l r w = max l r
second_at ops.GreaterEqual l r w = max l r
second_at ops.Left l r w = r
second_at ops.Right l r w = r
second_at ops.Both l r w = r
second_at ops.Either l r w = r

-- an operator on words, the operand left of it and its right operand as one operand: gives has the operator, the widths
-- at which it takes both, what they give there, and the width of the context
abbrev pub word_step : {A : Type 0} → (WordOp → ℕ → ℕ → A → A → ℕ → A) → Operand A → WordOp × Operand A → Operand A
word_step gives left x = record {
  width = operator_width x.0 left.width x.1.width;
  at = λ w.
      let m = first_at x.0 left.width x.1.width w in
      let n = second_at x.0 left.width x.1.width w in
      gives x.0 m n (left.at m) (x.1.at n) w;
}

-- operators on words of one level, grouped to the left
abbrev pub words_at : {A : Type 0} → (WordOp → ℕ → ℕ → A → A → ℕ → A) → Operand A → List (WordOp × Operand A) → ℕ → A
words_at gives e rest = (fold (word_step gives) e rest).at
