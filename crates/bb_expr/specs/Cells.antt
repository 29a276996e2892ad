-- The cells of an expression at the width of its context. Each occurrence of an operator makes cells of its own, and
-- nothing is folded or shared: an odd run of ~, and each &, ^ and | of a chain, one for each bit, each ~^ two, an arm
-- of a conditional a choice for each bit and the ors of its condition, an operator on words or a reduction those of its
-- circuit, at the widths at which it takes its operands. Nets, selects, numbers, concatenations and replications make
-- none; the parts of a replication occur once. Where high bits are cut off later, their cells are made all the same.
use Rattle.std.specs.Prelude.{ℕ, ◌+◌, ◌-◌, ◌*◌, false, if◌then◌else◌, List, [], ◌∷◌, ◌++◌, map, fold, reverse, sum_by}
use Rattle.std.specs.List.{flat_map, range_with_len}
use Rattle.bb_ast.specs.declared.expr.Op.{Op}
use Rattle.bb_ast.specs.declared.expr.Op.TheVariants as ops
use Rattle.bb_ast.specs.declared.operators.WordOp.{WordOp}
use Rattle.bb_ast.specs.declared.operators.FoldOp.{FoldOp}
use Rattle.bb_ast.specs.Syntax.{Expression}
use Rattle.bb_ast.specs.Folds.{Cases}
use Rattle.bb_bits.specs.Numbers.{bits_of}
use Rattle.bb_names.specs.Ranges.{distance, range_width, place_of}
use Rattle.bb_names.specs.Widths.{Ranges, Operand, alone, fold_at, words_at}
use Rattle.bb_word.specs.Folds.{fold_circuit, fold_cells, is_odd}
use Rattle.bb_word.specs.Gates.{Made as Circuit}
use Rattle.bb_word.specs.Words.{word_circuit, word_cells}
use Rattle.bb_expr.specs.Lists.{extended, copies, bitwise}
use Rattle.bb_expr.specs.Terms.{Term, Const, Net, Not, And, Or, Xor, Mux, terms}

-- the cells for each bit of an operator of a chain
abbrev pub op_cells : Op → ℕ
op_cells ops.And = 1
op_cells ops.Or = 1
op_cells ops.Xor = 1
op_cells ops.Xnor = 2

-- an operator on words, whose operands make a and b cells at the widths m and n at which it takes them
abbrev pub word_count : WordOp → ℕ → ℕ → ℕ → ℕ → ℕ → ℕ
word_count op m n a b w = a + b + word_cells op m n

-- the number of cells
abbrev pub counts : Cases (Operand ℕ) (ℕ → ℕ)
counts = record {
  net = λ n w. 0;
  bit = λ n i w. 0;
  part = λ n i j w. 0;
  sized = λ bits w. 0;
  plain = λ n w. 0;
  not = λ k e w. e.at w + (if is_odd k then w else 0);
  reduce = λ op e w. alone e + fold_cells op e.width;
  chain = λ e rest w. e.at w + sum_by (λ x. x.1.at w + op_cells x.0 * w) rest;
  words = λ e rest w. words_at word_count e rest w;
  cond = λ all last w. sum_by (λ x. alone x.0 + (x.0.width - 1) + x.1.at w + w) all + last.at w;
  concat = λ all w. sum_by alone all;
  repeat = λ k all w. sum_by alone all;
}

abbrev pub cell_count : Ranges → Expression → ℕ → ℕ
cell_count ranges = fold_at ranges counts

-- the bits of an expression, the most significant first, and the cells that were made for them
pub record MadeTerms : Type 0 where
  pub bits : List Term
  pub cells : List Term

-- bits that need no cell
abbrev pub without_cells : List Term → MadeTerms
without_cells bits = record { bits = bits; cells = [] }

-- count bits of a net, from a place on
abbrev pub net_terms : List ℕ → ℕ → ℕ → List Term
net_terms n place count = map (Net n) (range_with_len place count)

-- a cell for each bit
abbrev pub complement_terms : List Term → List Term
complement_terms bits = map Not bits

-- an operator between the operands left of it, already combined, and its right operand
abbrev pub operated : Op → List Term → List Term → MadeTerms
operated ops.And a b = record { bits = bitwise And a b; cells = bitwise And a b }
operated ops.Or a b = record { bits = bitwise Or a b; cells = bitwise Or a b }
operated ops.Xor a b = record { bits = bitwise Xor a b; cells = bitwise Xor a b }
operated ops.Xnor a b = record { bits = complement_terms (bitwise Xor a b); cells = bitwise Xor a b ++ complement_terms (bitwise Xor a b) }

abbrev pub chained : MadeTerms → MadeTerms → MadeTerms → MadeTerms
chained a b made = record { bits = made.bits; cells = a.cells ++ b.cells ++ made.cells }

-- a circuit, whose bits go from the least significant one upwards, after the cells of its operands, with zeros on the
-- left
abbrev pub circuit_made : List Term → Circuit Term → ℕ → MadeTerms
circuit_made cells circuit w = record { bits = extended (Const false) w (reverse circuit.bits); cells = cells ++ circuit.cells }

abbrev pub word_made : WordOp → ℕ → ℕ → MadeTerms → MadeTerms → ℕ → MadeTerms
word_made op m n a b w = circuit_made (a.cells ++ b.cells) (word_circuit terms op (reverse a.bits) (reverse b.bits)) w

abbrev pub fold_made : FoldOp → MadeTerms → ℕ → MadeTerms
fold_made op a w = circuit_made a.cells (fold_circuit terms op (reverse a.bits)) w

-- whether some bit is 1, from the most significant on: the bit, and its cells
abbrev pub any_from : Term → List Term → Term × List Term
any_from a [] = (a, [])
any_from a (b ∷ bs) = let rest = any_from (Or a b) bs in (rest.0, Or a b ∷ rest.1)

abbrev pub any_bit : List Term → Term × List Term
any_bit [] = (Const false, [])
any_bit (b ∷ bs) = any_from b bs

-- a cell for each bit
abbrev pub selected : Term → List Term → List Term → List Term
selected c (t ∷ ts) (e ∷ es) = Mux c t e ∷ selected c ts es
selected c _ _ = []

-- an arm, and what is chosen where its condition does not hold
abbrev pub arm_made : MadeTerms → MadeTerms → MadeTerms → MadeTerms
arm_made c t e = let any = any_bit c.bits in
    record { bits = selected any.0 t.bits e.bits; cells = c.cells ++ any.1 ++ t.cells ++ e.cells ++ selected any.0 t.bits e.bits }

-- the last arm is innermost
abbrev pub arms_made : List (Operand MadeTerms × Operand MadeTerms) → Operand MadeTerms → ℕ → MadeTerms
arms_made [] last w = last.at w
arms_made (x ∷ xs) last w = arm_made (alone x.0) (x.1.at w) (arms_made xs last w)

-- the bits of parts side by side, and their cells
abbrev pub part_bits : List (Operand MadeTerms) → List Term
part_bits all = flat_map (λ x. (alone {A = MadeTerms} x).bits) all

abbrev pub part_cells : List (Operand MadeTerms) → List Term
part_cells all = flat_map (λ x. (alone {A = MadeTerms} x).cells) all

abbrev pub makes : Ranges → Cases (Operand MadeTerms) (ℕ → MadeTerms)
makes ranges = record {
  net = λ n w. without_cells (extended (Const false) w (net_terms n 0 (range_width (ranges n))));
  bit = λ n i w. without_cells (extended (Const false) w (net_terms n (place_of (ranges n) i) 1));
  part = λ n i j w. without_cells (extended (Const false) w (net_terms n (place_of (ranges n) i) (distance i j + 1)));
  sized = λ bits w. without_cells (extended (Const false) w (map Const bits));
  plain = λ n w. without_cells (extended (Const false) w (map Const (bits_of 32 n)));
  not = λ k e w. let x = e.at w in if is_odd k then record { bits = complement_terms x.bits; cells = x.cells ++ complement_terms x.bits } else x;
  reduce = λ op e w. fold_made op (alone e) w;
  chain = λ e rest w. fold (λ a x. let b = x.1.at w in chained a b (operated x.0 a.bits b.bits)) (e.at w) rest;
  words = λ e rest w. words_at word_made e rest w;
  cond = λ all last w. arms_made all last w;
  concat = λ all w. record { bits = extended (Const false) w (part_bits all); cells = part_cells all };
  repeat = λ k all w. record { bits = extended (Const false) w (copies k (part_bits all)); cells = part_cells all };
}

abbrev pub made : Ranges → Expression → ℕ → MadeTerms
made ranges = fold_at ranges (makes ranges)
