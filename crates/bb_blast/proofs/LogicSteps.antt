-- What is kept of the steps of an expression gives their cells and places, wherever it is put.
use Rattle.std.proofs.Common.{◌≡◌, ℕ, zero, suc, ◌+◌, ◌<◌, List, [], ◌∷◌, ◌++◌, map, length, All, Option, Some, None, false, refl, sym, ap, ◌∙◌, subst, arith, length-append, append_assoc}
use Rattle.std.specs.List.{fold}
use Rattle.std.specs.Option.{option_map}
use Rattle.std.proofs.lemmas.List.{length-map, map-append, get_or_append_left, get_or_push}
use Rattle.std.proofs.lemmas.List.Elements.{All-nil, All-cons, All-head, All-tail}
use Rattle.bb_bits.specs.Bits.{low_bits}
use Rattle.bb_expr.specs.declared.step.BitStep.{BitStep}
use Rattle.bb_expr.specs.declared.step.BitStep.TheVariants as steps
use Rattle.bb_expr.specs.declared.step.Lowered.{Lowered}
use Rattle.bb_net.specs.declared.loose.LooseCell.{LooseCell}
use Rattle.bb_blast.specs.declared.logic.Operand.{Operand}
use Rattle.bb_blast.specs.declared.logic.Operand.TheVariants as operand
use Rattle.bb_blast.specs.declared.logic.Operator.{Operator}
use Rattle.bb_blast.specs.declared.logic.Logic.{Logic}
use Rattle.bb_implements.specs.Places.{step_cell}
use Rattle.bb_lemmas.proofs.LowBits.{low-map}
use Rattle.bb_lemmas.proofs.Maps.{map-twice}
use Rattle.bb_blast.specs.Inside.Counting.{capped, after}
use Rattle.bb_blast.specs.Inside.Logic.{Kept, kept_of, with_step, result_of, operand_in, operator_of, with_operator, operand_place, operator_cell, with_logic, logic_places, IsOperandBelow, IsOperatorBelow, IsLogicAmong, IsLogicOf}
use Rattle.bb_blast.proofs.CappedNumbers.{capped_second, after_first}

-- later steps change no result
pub results_kept : (all : List BitStep) (k : Kept) (j : ℕ) → j < length k.results → operand_in (fold with_step k all).results j ≡ operand_in k.results j
results_kept [] k j fits = refl
results_kept (step ∷ all) k j fits =
    let own = result_of (capped (length k.operators)) step in
    results_kept all (with_step k step) j (omega (arith, fits, length-append k.results (own ∷ []))) ∙ get_or_append_left k.results (own ∷ []) (operand.Const false) j fits

pub result_here : (all : List BitStep) (k : Kept) (step : BitStep) → operand_in (fold with_step k (step ∷ all)).results (length k.results) ≡ result_of (capped (length k.operators)) step
result_here all k step =
    let own = result_of (capped (length k.operators)) step in
    results_kept all (with_step k step) (length k.results) (omega (arith, length-append k.results (own ∷ []))) ∙ get_or_push k.results own (operand.Const false) (length k.results) refl

abbrev pub with_cell : List LooseCell → Option LooseCell → List LooseCell
with_cell cells None = cells
with_cell cells (Some c) = cells ++ c ∷ []

-- where what is kept is put after these cells
module _ (start bits : ℕ) (starts : List ℕ) (cells : List LooseCell) where
  abbrev pub own_place : Operand → ℕ
  own_place = operand_place bits starts (after start (length cells))

  abbrev pub cell_of : Operator → LooseCell
  cell_of = operator_cell own_place

  -- the cells with those of an expression after them, and the places of its steps and bits
  abbrev pub with_steps : Lowered → List LooseCell
  with_steps l = cells ++ map cell_of (kept_of l.steps.items).operators

  abbrev pub step_place : Lowered → ℕ → ℕ
  step_place l j = own_place (operand_in (kept_of l.steps.items).results j)

  abbrev pub bit_places : Lowered → List ℕ
  bit_places l = map (step_place l) l.bits.items

  pub cells_same : (count : ℕ) (l : Lowered) (g : Logic) → IsLogicOf count l g → with_logic start bits starts cells g ≡ with_steps l
  cells_same count l g is = ap (λ o. cells ++ map cell_of o) is.operators

  pub places_same : (count : ℕ) (l : Lowered) (g : Logic) → IsLogicOf count l g → logic_places start bits starts cells g ≡ low_bits count (bit_places l)
  places_same count l g is =
      ap (map own_place) is.bits ∙ map-twice (operand_in (kept_of l.steps.items).results) own_place (low_bits count l.bits.items) ∙ low-map (step_place l) count l.bits.items

  pub as_cell : (results : List Operand) (step : BitStep) → step_cell (λ a. own_place (operand_in results a)) step ≡ option_map cell_of (operator_of (operand_in results) step)
  as_cell results (steps.Const b) = refl
  as_cell results (steps.Net n i) = refl
  as_cell results (steps.Not a) = refl
  as_cell results (steps.And a b) = refl
  as_cell results (steps.Or a b) = refl
  as_cell results (steps.Xor a b) = refl
  as_cell results (steps.Mux c t e) = refl

  pub put_cell : (operators : List Operator) (o : Option Operator) → with_cell (cells ++ map cell_of operators) (option_map cell_of o) ≡ cells ++ map cell_of (with_operator operators o)
  put_cell operators None = refl
  put_cell operators (Some o) = append_assoc cells (map cell_of operators) (cell_of o ∷ []) ∙ ap (λ l. cells ++ l) (sym (map-append cell_of operators (o ∷ [])))

  -- an operator follows those before it
  pub operator_next : (operators : List Operator) (at : ℕ → Operand) (step : BitStep) (c : LooseCell) → option_map cell_of (operator_of at step) ≡ Some c
      → own_place (result_of (capped (length operators)) step) ≡ after start (length (cells ++ map cell_of operators))
  operator_next operators at step c is = by step is
    where
      next : after (after start (length cells)) (capped (length operators)) ≡ after start (length (cells ++ map cell_of operators))
      next =
          let one : start + length (cells ++ map cell_of operators) ≡ (start + length cells) + length operators =
          omega (arith, length-append cells (map cell_of operators), length-map operators cell_of) in
          let two : (start + length cells) + capped (length operators) ≡ start + (length cells + capped (length operators)) = omega arith in
          sym (ap capped one ∙ sym (capped_second (start + length cells) (length operators)) ∙ ap capped two ∙ sym (after_first start (length cells) (capped (length operators))))

      by : (step : BitStep) → option_map cell_of (operator_of at step) ≡ Some c → own_place (result_of (capped (length operators)) step) ≡ after start (length (cells ++ map cell_of operators))
      by (steps.Const b) e = absurd (grind (arith, e))
      by (steps.Net n i) e = absurd (grind (arith, e))
      by (steps.Not a) e = next
      by (steps.And a b) e = next
      by (steps.Or a b) e = next
      by (steps.Xor a b) e = next
      by (steps.Mux a t f) e = next

-- a step reads one of so many nets
abbrev pub IsNetBelow : ℕ → BitStep → Type 0
IsNetBelow n (steps.Net k i) = k < n
IsNetBelow n step = Unit {0}

module _ (n : ℕ) where
  -- nets of what a step reads and gives
  operand_below : (results : List Operand) → All (IsOperandBelow n) results → (k : ℕ) → IsOperandBelow n (operand_in results k)
  operand_below [] all k = tt
  operand_below (r ∷ results) all zero = All-head (IsOperandBelow n) r results all
  operand_below (r ∷ results) all (suc k) = operand_below results (All-tail (IsOperandBelow n) r results all) k

  result_below : (next : ℕ) (step : BitStep) → IsNetBelow n step → IsOperandBelow n (result_of next step)
  result_below next (steps.Const b) below = tt
  result_below next (steps.Net k i) below = below
  result_below next (steps.Not a) below = tt
  result_below next (steps.And a b) below = tt
  result_below next (steps.Or a b) below = tt
  result_below next (steps.Xor a b) below = tt
  result_below next (steps.Mux c t e) below = tt

  all_pushed : {A : Type 0} (P : A → Type 0) (xs : List A) (x : A) → All P xs → P x → All P (xs ++ x ∷ [])
  all_pushed P [] x all here = All-cons P x [] here (All-nil P)
  all_pushed P (y ∷ ys) x all here = All-cons P y (ys ++ x ∷ []) (All-head P y ys all) (all_pushed P ys x (All-tail P y ys all) here)

  operators_grow : (operators : List Operator) (at : ℕ → Operand) (step : BitStep) → All (IsOperatorBelow n) operators → ((k : ℕ) → IsOperandBelow n (at k))
      → All (IsOperatorBelow n) (with_operator operators (operator_of at step))
  operators_grow operators at (steps.Const b) all below = all
  operators_grow operators at (steps.Net k i) all below = all
  operators_grow operators at (steps.Not a) all below = all_pushed (IsOperatorBelow n) operators _ all (below a)
  operators_grow operators at (steps.And a b) all below = all_pushed (IsOperatorBelow n) operators _ all (below a, below b)
  operators_grow operators at (steps.Or a b) all below = all_pushed (IsOperatorBelow n) operators _ all (below a, below b)
  operators_grow operators at (steps.Xor a b) all below = all_pushed (IsOperatorBelow n) operators _ all (below a, below b)
  operators_grow operators at (steps.Mux c t e) all below = all_pushed (IsOperatorBelow n) operators _ all (below c, (below t, below e))

  pub record AreKeptBelow (k : Kept) : Type 0 where
    pub operators : All (IsOperatorBelow n) k.operators
    pub results : All (IsOperandBelow n) k.results

  steps_below : (all : List BitStep) (k : Kept) → All (IsNetBelow n) all → AreKeptBelow k → AreKeptBelow (fold with_step k all)
  steps_below [] k nets below = below
  steps_below (step ∷ all) k nets below = steps_below all (with_step k step) (All-tail (IsNetBelow n) step all nets) (record {
    operators = operators_grow k.operators (operand_in k.results) step below.operators (operand_below k.results below.results);
    results = all_pushed (IsOperandBelow n) k.results (result_of (capped (length k.operators)) step) below.results (result_below (capped (length k.operators)) step (All-head (IsNetBelow n) step all nets));
  })

  operands_below : (results : List Operand) → All (IsOperandBelow n) results → (places : List ℕ) → All (IsOperandBelow n) (map (operand_in results) places)
  operands_below results all [] = All-nil (IsOperandBelow n)
  operands_below results all (k ∷ places) = All-cons (IsOperandBelow n) (operand_in results k) (map (operand_in results) places) (operand_below results all k) (operands_below results all places)

  pub logic_below : (count : ℕ) (l : Lowered) (g : Logic) → IsLogicOf count l g → All (IsNetBelow n) l.steps.items → IsLogicAmong n g
  logic_below count l g is nets =
      let below = steps_below l.steps.items (record { operators = []; results = [] }) nets (record { operators = All-nil (IsOperatorBelow n); results = All-nil (IsOperandBelow n) }) in
      record {
        operators = subst (All (IsOperatorBelow n)) (sym is.operators) below.operators;
        bits = subst (All (IsOperandBelow n)) (sym is.bits) (operands_below (kept_of l.steps.items).results below.results (low_bits count l.bits.items));
      }
