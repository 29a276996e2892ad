-- Lists of steps as they grow: which cells have been made so far, and the places of the bits.
use Rattle.std.specs.Prelude.{◌≡◌, ◌<◌, ◌≤◌, ℕ, ◌+◌, ◌*◌, false, reverse, List, [], ◌∷◌, ◌++◌, map, length, All, slice_index_or}
use Rattle.std.specs.List.{range_with_len, flat_map}
use Rattle.std.specs.List.Sorted.{IsPermutation}
use Rattle.bb_names.specs.declared.net.NetInfo.{NetInfo}
use Rattle.bb_expr.specs.declared.step.BitStep.{BitStep}
use Rattle.bb_expr.specs.declared.step.BitStep.TheVariants as steps
use Rattle.bb_ast.specs.Syntax.{Expression}
use Rattle.bb_ast.specs.declared.expr.Op.{Op}
use Rattle.bb_ast.specs.declared.expr.Op.TheVariants as ops
use Rattle.bb_ast.specs.declared.operators.WordOp.{WordOp}
use Rattle.bb_ast.specs.declared.operators.FoldOp.{FoldOp}
use Rattle.bb_names.specs.Widths.{Ranges, own_width}
use Rattle.bb_expr.specs.Lists.{extended, bitwise}
use Rattle.bb_expr.specs.Terms.{Term, Const, And, Or, Xor, terms}
use Rattle.bb_word.specs.Words.{word_circuit}
use Rattle.bb_word.specs.Folds.{fold_circuit}
use Rattle.bb_expr.specs.Cells.{MadeTerms, made, complement_terms, any_bit, operated, chained, arm_made}
use Rattle.bb_expr.specs.Lowered.{ReadsEarlier, operators, term_at}

abbrev pub step_at : List BitStep → ℕ → BitStep
step_at all place = slice_index_or all place (steps.Const false)

-- each step reads earlier ones, or a bit that a net has
abbrev pub AreOrdered : List NetInfo → List BitStep → Type 0
AreOrdered nets all = (k : ℕ) → k < length all → ReadsEarlier nets k (step_at all k)

-- the operators among the steps are these cells
pub record AreSteps (nets : List NetInfo) (all : List BitStep) (cells : List Term) : Type 0 where
  pub earlier : AreOrdered nets all
  pub made : IsPermutation cells (operators nets all)

-- the steps that were added make these bits and these cells, whatever was made before; and they are few
pub record Adds (nets : List NetInfo) (m : MadeTerms) (old new : List BitStep) (bits : List ℕ) : Type 0 where
  pub more : List BitStep
  pub grows : new ≡ old ++ more
  pub within : All (λ k. k < length new) bits
  pub long : length bits ≡ length m.bits
  pub few : length new ≤ length old + (length bits + 3 * length m.cells)
  pub makes : (cells : List Term) → AreSteps nets old cells → AreSteps nets new (cells ++ m.cells) × (map (term_at nets new) bits ≡ m.bits)

-- a row of steps after others, with its places
pub record AddsRow (rows old new : List BitStep) (places : List ℕ) : Type 0 where
  pub grows : new ≡ old ++ rows
  pub numbered : places ≡ range_with_len (length old) (length rows)

-- an operator for each pair of bits
abbrev pub paired : (ℕ → ℕ → BitStep) → List ℕ → List ℕ → List BitStep
paired op [] ys = []
paired op (x ∷ xs) [] = []
paired op (x ∷ xs) (y ∷ ys) = op x y ∷ paired op xs ys

-- the operator between two bits, before an inversion
abbrev pub gate_step : Op → ℕ → ℕ → BitStep
gate_step ops.And = steps.And
gate_step ops.Or = steps.Or
gate_step ops.Xor = steps.Xor
gate_step ops.Xnor = steps.Xor

abbrev pub gate_term : Op → Term → Term → Term
gate_term ops.And = And
gate_term ops.Or = Or
gate_term ops.Xor = Xor
gate_term ops.Xnor = Xor

-- whether some bit is 1
abbrev pub reduced : MadeTerms → MadeTerms
reduced m = let any = any_bit m.bits in record { bits = any.0 ∷ []; cells = m.cells ++ any.1 }

-- with zeros on the left
abbrev pub widened : ℕ → MadeTerms → MadeTerms
widened w m = record { bits = extended (Const false) w m.bits; cells = m.cells }

-- with a complement of each bit
abbrev pub complemented : MadeTerms → MadeTerms
complemented m = record { bits = complement_terms m.bits; cells = m.cells ++ complement_terms m.bits }

-- one expression's bits with another's, by an operator
abbrev pub gated : Op → MadeTerms → MadeTerms → MadeTerms
gated op m n = let bits = bitwise (gate_term op) m.bits n.bits in record { bits = bits; cells = m.cells ++ n.cells ++ bits }

-- a circuit on one expression's bits and another's, which reads them from the least significant one upwards
abbrev pub word_joined : WordOp → MadeTerms → MadeTerms → MadeTerms
word_joined op m n = let circuit = word_circuit terms op (reverse m.bits) (reverse n.bits) in record { bits = reverse circuit.bits; cells = (m.cells ++ n.cells) ++ circuit.cells }

-- the same on one expression's bits alone
abbrev pub fold_joined : FoldOp → MadeTerms → MadeTerms
fold_joined op m = let circuit = fold_circuit terms op (reverse m.bits) in record { bits = reverse circuit.bits; cells = m.cells ++ circuit.cells }

-- parts side by side, each at its own width
abbrev pub beside : Ranges → List Expression → MadeTerms
beside ranges all = record {
  bits = flat_map (λ e. (made ranges e (own_width ranges e)).bits) all;
  cells = flat_map (λ e. (made ranges e (own_width ranges e)).cells) all;
}

-- a number of steps that suffices while an expression's bits and cells are made
abbrev pub most_steps : ℕ → ℕ → ℕ
most_steps width cells = width + 4 * cells

-- the operands of a chain after what was made before them
abbrev pub chained_on : Ranges → ℕ → MadeTerms → List (Op × Expression) → MadeTerms
chained_on ranges w m [] = m
chained_on ranges w m (x ∷ xs) = let right = made ranges x.1 w in chained_on ranges w (chained m right (operated x.0 m.bits right.bits)) xs

-- the arms of a conditional before what is made where no condition holds
abbrev pub arms_on : Ranges → ℕ → MadeTerms → List (Expression × Expression) → MadeTerms
arms_on ranges w m [] = m
arms_on ranges w m (x ∷ xs) = arm_made (made ranges x.0 (own_width ranges x.0)) (made ranges x.1 w) (arms_on ranges w m xs)
