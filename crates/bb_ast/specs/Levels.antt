-- The levels of precedence of the operators on words, the tightest first (IEEE 1364-2005, 5.1.2, table 5-4): sums and differences,
-- shifts, comparisons by order, comparisons by equality, &&, ||. The bitwise operators &, ^ and | have theirs, 4 to 6, between.
use Rattle.std.specs.Prelude.{◌≡◌, ℕ}
use Rattle.bb_ast.specs.declared.operators.WordOp.{WordOp}
use Rattle.bb_ast.specs.declared.operators.WordOp.TheVariants as ops
use Rattle.bb_ast.specs.Syntax.{WordOperands, no_word, word}

abbrev pub level_of : WordOp → ℕ
level_of ops.Plus = 0
level_of ops.Minus = 0
level_of ops.Left = 1
level_of ops.Right = 1
level_of ops.Less = 2
level_of ops.LessEqual = 2
level_of ops.Greater = 2
level_of ops.GreaterEqual = 2
level_of ops.Equal = 3
level_of ops.NotEqual = 3
level_of ops.Both = 7
level_of ops.Either = 8

abbrev pub AreOfLevel : ℕ → WordOperands → Type 0
AreOfLevel level no_word = Unit {0}
AreOfLevel level (word op e rest) = (level_of op ≡ level) × AreOfLevel level rest

-- all of them are of one level
abbrev pub IsOneLevel : WordOperands → Type 0
IsOneLevel no_word = Unit {0}
IsOneLevel (word op e rest) = AreOfLevel (level_of op) rest
