-- The value of an expression at the width of its context (IEEE 1364-2005, 5.1.5 to 5.1.14 and 5.4, in a profile): a
-- list of that many bits, the most significant first, where the width is at least the expression's own. A condition, a
-- part, the amount of a shift, and an operand of a truth of words or of a reduction are taken at their own width. An
-- operator on words gives the bits of the number that it means, with zeros on their left; a reduction gives one bit,
-- with zeros on its left.
use Rattle.std.specs.Prelude.{ℕ, zero, suc, ◌+◌, Bool, false, not, ◌&&◌, ◌||◌, if◌then◌else◌, List, [], ◌∷◌, map, fold}
use Rattle.std.specs.List.{list_any, flat_map, range_with_len}
use Rattle.bb_ast.specs.declared.expr.Op.{Op}
use Rattle.bb_ast.specs.declared.expr.Op.TheVariants as ops
use Rattle.bb_ast.specs.declared.operators.WordOp.{WordOp}
use Rattle.bb_ast.specs.Syntax.{Expression}
use Rattle.bb_ast.specs.Folds.{Cases}
use Rattle.bb_bits.specs.Numbers.{bits_of}
use Rattle.bb_names.specs.Ranges.{distance, range_width, place_of}
use Rattle.bb_names.specs.Widths.{Ranges, Operand, alone, fold_at, words_at}
use Rattle.bb_word.specs.Folds.{fold_bit}
use Rattle.bb_word.specs.Meanings.{word_bits}
use Rattle.bb_expr.specs.Lists.{extended, copies, bitwise}

-- the bits of each net by its name, the leftmost first
abbrev pub Bits : Type 0
Bits = List ℕ → ℕ → Bool

-- count bits of a net, from a place on
abbrev pub net_bits : Bits → List ℕ → ℕ → ℕ → List Bool
net_bits env n place count = map (env n) (range_with_len place count)

-- complemented k times
abbrev pub complemented : ℕ → Bool → Bool
complemented zero b = b
complemented (suc k) b = not (complemented k b)

abbrev pub op_bit : Op → Bool → Bool → Bool
op_bit ops.And a b = a && b
op_bit ops.Or a b = a || b
op_bit ops.Xor a b = if a then not b else b
op_bit ops.Xnor a b = if a then b else not b

-- the value of the first arm whose condition has a bit 1, else the last branch
abbrev pub chosen_arm : List (Operand (List Bool) × Operand (List Bool)) → Operand (List Bool) → ℕ → List Bool
chosen_arm [] last w = last.at w
chosen_arm (x ∷ xs) last w = if list_any (λ b. b) (alone x.0) then x.1.at w else chosen_arm xs last w

-- an operator on words of the values of its operands, at the widths at which it takes them
abbrev pub word_value : WordOp → ℕ → ℕ → List Bool → List Bool → ℕ → List Bool
word_value op m n a b w = extended false w (word_bits op a b)

abbrev pub values : Ranges → Bits → Cases (Operand (List Bool)) (ℕ → List Bool)
values ranges env = record {
  net = λ n w. extended false w (net_bits env n 0 (range_width (ranges n)));
  bit = λ n i w. extended false w (net_bits env n (place_of (ranges n) i) 1);
  part = λ n i j w. extended false w (net_bits env n (place_of (ranges n) i) (distance i j + 1));
  sized = λ bits w. extended false w bits;
  plain = λ n w. extended false w (bits_of 32 n);
  not = λ k e w. map (complemented k) (e.at w);
  reduce = λ op e w. extended false w (fold_bit op (alone e) ∷ []);
  chain = λ e rest w. fold (λ bits x. bitwise (op_bit x.0) bits (x.1.at w)) (e.at w) rest;
  words = λ e rest w. words_at word_value e rest w;
  cond = λ all last w. chosen_arm all last w;
  concat = λ all w. extended false w (flat_map alone all);
  repeat = λ k all w. extended false w (copies k (flat_map alone all));
}

abbrev pub value : Ranges → Bits → Expression → ℕ → List Bool
value ranges env = fold_at ranges (values ranges env)
