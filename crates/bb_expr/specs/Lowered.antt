-- What a list of steps means. A step is a constant, a bit of a net, or an operator on the bits of earlier steps.
use Rattle.std.specs.Prelude.{◌≡◌, ◌<◌, ℕ, zero, suc, ◌+◌, Bool, true, false, if◌then◌else◌, List, [], map, length, All, IfSome, Some, None, slice_get, slice_index_or}
use Rattle.std.specs.List.{filter_map, enumerate_from}
use Rattle.std.specs.List.Sorted.{IsPermutation}
use Rattle.std.specs.Option.{option_map_or}
use Rattle.bb_ast.specs.Syntax.{Expression}
use Rattle.bb_names.specs.declared.net.NetInfo.{NetInfo}
use Rattle.bb_names.specs.Ranges.{range_width}
use Rattle.bb_names.specs.Widths.{Ranges}
use Rattle.bb_expr.specs.declared.step.BitStep.{BitStep}
use Rattle.bb_expr.specs.declared.step.BitStep.TheVariants as steps
use Rattle.bb_expr.specs.Values.{Bits, value}
use Rattle.bb_expr.specs.Terms.{Term, Const, Net, Not, And, Or, Xor, Mux, term_bit}
use Rattle.bb_expr.specs.Cells.{made}

abbrev pub name_at : List NetInfo → ℕ → List ℕ
name_at nets k = option_map_or (λ net. net.name) (slice_get nets k) []

-- what a step is made of, where term gives that of each earlier step
abbrev pub step_term : List NetInfo → BitStep → (ℕ → Term) → Term
step_term nets (steps.Const b) term = Const b
step_term nets (steps.Net k i) term = Net (name_at nets k) i
step_term nets (steps.Not a) term = Not (term a)
step_term nets (steps.And a b) term = And (term a) (term b)
step_term nets (steps.Or a b) term = Or (term a) (term b)
step_term nets (steps.Xor a b) term = Xor (term a) (term b)
step_term nets (steps.Mux c t e) term = Mux (term c) (term t) (term e)

-- the same, going from operand to operand at most n times
unfoldable pub term_within : List NetInfo → List BitStep → ℕ → ℕ → Term
term_within nets all zero place = Const false
term_within nets all (suc n) place = step_term nets (slice_index_or all place (steps.Const false)) (term_within nets all n)

-- operands are earlier, so place + 1 steps suffice
abbrev pub term_at : List NetInfo → List BitStep → ℕ → Term
term_at nets all place = term_within nets all (place + 1) place

-- it reads steps before this place alone, or a bit that a net has
abbrev pub ReadsEarlier : List NetInfo → ℕ → BitStep → Type 0
ReadsEarlier nets place (steps.Const b) = Unit {0}
ReadsEarlier nets place (steps.Net k i) = (k < length nets) × IfSome (slice_get nets k) (λ net. i < range_width net.range)
ReadsEarlier nets place (steps.Not a) = a < place
ReadsEarlier nets place (steps.And a b) = (a < place) × (b < place)
ReadsEarlier nets place (steps.Or a b) = (a < place) × (b < place)
ReadsEarlier nets place (steps.Xor a b) = (a < place) × (b < place)
ReadsEarlier nets place (steps.Mux c t e) = (c < place) × (t < place) × (e < place)

abbrev pub is_operator : BitStep → Bool
is_operator (steps.Const b) = false
is_operator (steps.Net k i) = false
is_operator step = true

-- what the operators among the steps are made of
abbrev pub operators : List NetInfo → List BitStep → List Term
operators nets all = filter_map (λ x. if is_operator x.1 then Some (term_at nets all x.0) else None) (enumerate_from 0 all)

-- steps and bits are the expression at that width: its bits are made as they should be, and the operators among the
-- steps are its cells, one for one. The last carry of a sum is a cell that nothing reads, and which of several equal
-- cells a step reads is left open.
pub record IsLowered (nets : List NetInfo) (ranges : Ranges) (e : Expression) (w : ℕ) (all : List BitStep) (bits : List ℕ) : Type 0 where
  pub earlier : All (λ x. ReadsEarlier nets x.0 x.1) (enumerate_from 0 all)
  pub places : All (λ k. k < length all) bits
  pub width : length bits ≡ w
  pub terms : map (term_at nets all) bits ≡ (made ranges e w).bits
  pub cells : IsPermutation (made ranges e w).cells (operators nets all)

-- the bits have the value of the expression, whatever the bits of the nets are
abbrev pub HasValue : List NetInfo → Ranges → Expression → ℕ → List BitStep → List ℕ → Type 0
HasValue nets ranges e w all bits = (env : Bits) → map (λ k. term_bit env (term_at nets all k)) bits ≡ value ranges env e w
