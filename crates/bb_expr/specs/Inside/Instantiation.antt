-- An operator's netlist instantiated among steps.
use Rattle.std.specs.Prelude.{◌≡◌, ℕ, ◌+◌, ◌-◌, Bool, true, false, ◌||◌, if◌then◌else◌, nat_eq, nat_lt, List, [], ◌∷◌, ◌++◌, map, length, drop, slice_index_or}
use Rattle.std.specs.List.{list_any}
use Rattle.bb_net.specs.declared.cell.Cell.{Cell}
use Rattle.bb_net.specs.declared.cell.Cell.TheVariants as cells
use Rattle.bb_net.specs.Netlists.{Netlist, IsNetlist}
use Rattle.bb_word.specs.Laws.Formulas.{Formula}
use Rattle.bb_word.specs.Laws.Formulas as formula
use Rattle.bb_expr.specs.declared.circuits.Instantiation.{Instantiation}
use Rattle.bb_expr.specs.declared.step.BitStep.{BitStep}
use Rattle.bb_expr.specs.declared.step.BitStep.TheVariants as steps
use Rattle.bb_expr.specs.Terms.{Term, Const, Not, And, Or, Xor, Mux}

-- a cell reads a place
abbrev pub is_read : ℕ → Cell → Bool
is_read place (cells.Const b) = false
is_read place (cells.Input i) = false
is_read place (cells.Not a) = nat_eq a place
is_read place (cells.And a b) = nat_eq a place || nat_eq b place
is_read place (cells.Or a b) = nat_eq a place || nat_eq b place
is_read place (cells.Xor a b) = nat_eq a place || nat_eq b place
is_read place (cells.Mux c t e) = nat_eq c place || (nat_eq t place || nat_eq e place)
is_read place (cells.BoxOut b p) = false

-- some cell does
abbrev pub read_by : ℕ → List Cell → Bool
read_by place all = list_any (is_read place) all

-- some output is at a place
abbrev pub is_out : ℕ → List ℕ → Bool
is_out place outs = list_any (λ out. nat_eq out place) outs

-- the cells of a netlist after the constants and the inputs
abbrev pub after_inputs : Netlist → List Cell
after_inputs net = drop (net.inputs + 2) net.cells

-- something reads a constant at this place
abbrev pub is_needed : Netlist → ℕ → Bool
is_needed net place = read_by place (after_inputs net) || is_out place net.outs

-- a constant that something reads
abbrev pub constant_steps : Bool → Bool → List BitStep
constant_steps bit needed = if needed then steps.Const bit ∷ [] else []

-- the steps, and then the constants that the netlist needs
abbrev pub with_zero : Netlist → List BitStep → List BitStep
with_zero net old = old ++ constant_steps false (is_needed net 0)

abbrev pub with_constants : Netlist → List BitStep → List BitStep
with_constants net old = with_zero net old ++ constant_steps true (is_needed net 1)

-- the place among the steps of a cell of the netlist: its cells 0 and 1 are the constants, and the inputs follow
abbrev pub moved : Instantiation → List ℕ → ℕ → ℕ
moved at inputs place =
    if nat_eq place 0 then at.zero else (if nat_eq place 1 then at.one else (if nat_lt place (2 + length inputs) then slice_index_or inputs (place - 2) 0 else at.first + (place - (2 + length inputs))))

-- a cell as a step, which reads the same cells at their new places; after the inputs there are neither inputs nor boxes
abbrev pub instantiated : (ℕ → ℕ) → Cell → BitStep
instantiated to (cells.Const b) = steps.Const b
instantiated to (cells.Input i) = steps.Const false
instantiated to (cells.Not a) = steps.Not (to a)
instantiated to (cells.And a b) = steps.And (to a) (to b)
instantiated to (cells.Or a b) = steps.Or (to a) (to b)
instantiated to (cells.Xor a b) = steps.Xor (to a) (to b)
instantiated to (cells.Mux c t e) = steps.Mux (to c) (to t) (to e)
instantiated to (cells.BoxOut b p) = steps.Const false

-- the netlist comes after these steps, with its inputs and its outputs at these places
pub record IsInstantiated (net : Netlist) (inputs : List ℕ) (old new : List BitStep) (places : List ℕ) : Type 0 where
  pub at : Instantiation
  pub zero : is_needed net 0 ≡ true → at.zero ≡ length old
  pub one : is_needed net 1 ≡ true → at.one ≡ length (with_zero net old)
  pub first : at.first ≡ length (with_constants net old)
  pub steps : new ≡ with_constants net old ++ map (instantiated (moved at inputs)) (after_inputs net)
  pub outs : places ≡ map (moved at inputs) net.outs
  pub kept : IsNetlist net

-- what a formula is made of, where the inputs are made of these
abbrev pub formula_term : List Term → Formula → Term
formula_term inputs (formula.Const b) = Const b
formula_term inputs (formula.Input i) = slice_index_or inputs i (Const false)
formula_term inputs (formula.Not a) = Not (formula_term inputs a)
formula_term inputs (formula.And a b) = And (formula_term inputs a) (formula_term inputs b)
formula_term inputs (formula.Or a b) = Or (formula_term inputs a) (formula_term inputs b)
formula_term inputs (formula.Xor a b) = Xor (formula_term inputs a) (formula_term inputs b)
formula_term inputs (formula.Mux c t e) = Mux (formula_term inputs c) (formula_term inputs t) (formula_term inputs e)

-- an operator
abbrev pub is_gate : Formula → Bool
is_gate (formula.Const b) = false
is_gate (formula.Input i) = false
is_gate f = true

-- this constant
abbrev pub is_constant : Bool → Formula → Bool
is_constant true (formula.Const b) = b
is_constant false (formula.Const true) = false
is_constant false (formula.Const false) = true
is_constant bit f = false

-- one of its parts is
abbrev pub reads_constant : Bool → Formula → Bool
reads_constant bit (formula.Not a) = is_constant bit a
reads_constant bit (formula.And a b) = is_constant bit a || is_constant bit b
reads_constant bit (formula.Or a b) = is_constant bit a || is_constant bit b
reads_constant bit (formula.Xor a b) = is_constant bit a || is_constant bit b
reads_constant bit (formula.Mux c t e) = is_constant bit c || (is_constant bit t || is_constant bit e)
reads_constant bit f = false
