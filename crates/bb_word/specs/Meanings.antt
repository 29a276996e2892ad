-- What the operators on two words mean. A word spells a number, its first bit the most significant one (IEEE 1364-2005, 5.1.5, 5.1.7
-- to 5.1.9 and 5.1.12, for unsigned operands).
use Rattle.std.specs.Prelude.{ℕ, ◌+◌, ◌-◌, ◌*◌, ◌/◌, ◌%◌, ◌^◌, Bool, not, ◌&&◌, ◌||◌, if◌then◌else◌, nat_eq, nat_lt, List, length}
use Rattle.std.specs.List.{list_any}
use Rattle.bb_bits.specs.Numbers.{number_of, bits_of}
use Rattle.bb_ast.specs.declared.operators.WordOp.{WordOp}
use Rattle.bb_ast.specs.declared.operators.WordOp.TheVariants as ops

-- a truth value as a number
abbrev pub truth : Bool → ℕ
truth b = if b then 1 else 0

-- how many bits the result has, by the number of bits of the left operand
abbrev pub word_width : WordOp → ℕ → ℕ
word_width ops.Plus left = left
word_width ops.Minus left = left
word_width ops.Equal left = 1
word_width ops.NotEqual left = 1
word_width ops.Less left = 1
word_width ops.LessEqual left = 1
word_width ops.Greater left = 1
word_width ops.GreaterEqual left = 1
word_width ops.Left left = left
word_width ops.Right left = left
word_width ops.Both left = 1
word_width ops.Either left = 1

-- the number that the result spells, of operands of one width where the operator needs it (HaveOneWidth): sum and difference modulo 2
-- to the width, the comparison of the numbers, a product with a power of two modulo 2 to the width or the quotient by it, rounded down,
-- and the truth of "some bit is 1"
abbrev pub word_number : WordOp → List Bool → List Bool → ℕ
word_number ops.Plus a b = (number_of a + number_of b) % 2 ^ length a
word_number ops.Minus a b = (number_of a + 2 ^ length a - number_of b) % 2 ^ length a
word_number ops.Equal a b = truth (nat_eq (number_of a) (number_of b))
word_number ops.NotEqual a b = truth (not (nat_eq (number_of a) (number_of b)))
word_number ops.Less a b = truth (nat_lt (number_of a) (number_of b))
word_number ops.LessEqual a b = truth (not (nat_lt (number_of b) (number_of a)))
word_number ops.Greater a b = truth (nat_lt (number_of b) (number_of a))
word_number ops.GreaterEqual a b = truth (not (nat_lt (number_of a) (number_of b)))
word_number ops.Left a b = (number_of a * 2 ^ number_of b) % 2 ^ length a
word_number ops.Right a b = number_of a / 2 ^ number_of b
word_number ops.Both a b = truth (list_any (λ x. x) a && list_any (λ x. x) b)
word_number ops.Either a b = truth (list_any (λ x. x) a || list_any (λ x. x) b)

-- the bits that spell it, the most significant first
abbrev pub word_bits : WordOp → List Bool → List Bool → List Bool
word_bits op a b = bits_of (word_width op (length a)) (word_number op a b)
