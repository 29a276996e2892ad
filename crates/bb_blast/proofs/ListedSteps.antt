-- Cells put after others, with the places of a list that implement them: the steps of expressions.
use Rattle.std.proofs.Common.{◌≡◌, ℕ, suc, ◌+◌, ◌<◌, Bool, List, [], ◌∷◌, ◌++◌, map, flat_map, take, length, All, Contains, refl, sym, ap, ap₂, ◌∙◌, subst, arith, length-append, append_assoc, append-nil}
use Rattle.std.specs.List.{cons_option, filter_map, fold, enumerate_from, range_with_len}
use Rattle.std.specs.Option.{option_map}
use Rattle.std.specs.Prelude.{slice_get, slice_index, Option, None, Some}
use Rattle.std.proofs.lemmas.List.{length-map, map-append, get_or_append_left, get_or_push}
use Rattle.std.proofs.lemmas.List.Elements.{All-nil, All-cons, All-contains}
use Rattle.bb_names.specs.Nets.{nets_of}
use Rattle.bb_expr.specs.declared.step.BitStep.{BitStep}
use Rattle.bb_expr.specs.declared.step.BitStep.TheVariants as steps
use Rattle.bb_expr.specs.declared.step.Lowered.{Lowered}
use Rattle.bb_expr.specs.Lowered.{ReadsEarlier}
use Rattle.bb_net.specs.declared.loose.LooseCell.{LooseCell}
use Rattle.bb_net.specs.declared.loose.LooseCell.TheVariants as cell
use Rattle.bb_design.specs.Hierarchy.{Scope}
use Rattle.bb_blast.specs.Inside.Counting.{capped, after}
use Rattle.bb_blast.specs.Inside.Listing.{Terminals}
use Rattle.bb_blast.specs.Inside.Logic.{Kept, constant_place, net_bit_place, operand_in, operand_place, operator_of, result_of, with_step}
use Rattle.bb_blast.proofs.LogicSteps.{as_cell, cell_of, operator_next, own_place, put_cell, result_here, results_kept, step_place, with_cell, with_steps}
use Rattle.bb_implements.specs.Places.{Constant, Step, Numbering, Lowering, Steps, step_cell, IsStepAt, net_place, step_cells, terminal_place}
use Rattle.bb_lemmas.proofs.Members.{contains_here, contains_there}
use Rattle.bb_blast.proofs.PlacesInRow.{Entry, AreInRow, both_rows, no_row, one_row, cells_in}
use Rattle.bb_blast.proofs.WholeParts.{step_terminal}

module _ (lowering : Lowering) (number : Numbering) (k : ℕ) (s : Scope) (start bits : ℕ) (starts : List ℕ) (constants : (b : Bool) → number (Constant b) ≡ constant_place b)
    (nets : (n i : ℕ) → ReadsEarlier (nets_of s.source) 0 (steps.Net n i) → number (net_place s n i) ≡ net_bit_place bits starts n i) where
  -- a step as a cell, where those before it have their numbers
  same_cell : (at to : ℕ → ℕ) (place : ℕ) → ((a : ℕ) → a < place → at a ≡ to a) → (step : BitStep) → ReadsEarlier (nets_of s.source) place step → step_cell at step ≡ step_cell to step
  same_cell at to place same (steps.Const b) reads = refl
  same_cell at to place same (steps.Net n i) reads = refl
  same_cell at to place same (steps.Not a) reads = ap (λ x. Some (cell.Not x)) (same a reads)
  same_cell at to place same (steps.And a b) reads = ap₂ (λ x y. Some (cell.And x y)) (same a reads.0) (same b reads.1)
  same_cell at to place same (steps.Or a b) reads = ap₂ (λ x y. Some (cell.Or x y)) (same a reads.0) (same b reads.1)
  same_cell at to place same (steps.Xor a b) reads = ap₂ (λ x y. Some (cell.Xor x y)) (same a reads.0) (same b reads.1)
  same_cell at to place same (steps.Mux c t e) reads =
      ap (λ x. Some (cell.Mux x (at t) (at e))) (same c reads.0) ∙ ap₂ (λ x y. Some (cell.Mux (to c) x y)) (same t reads.1) (same e reads.2)

  -- a step that is no operator is where it has to
  occurs_at : (step : BitStep) (place first next own : ℕ) → ReadsEarlier (nets_of s.source) place step → own ≡ operand_place bits starts first (result_of next step) → IsStepAt number s step own
  occurs_at (steps.Const b) place first next own reads is = is ∙ sym (constants b)
  occurs_at (steps.Net n i) place first next own reads is = is ∙ sym (nets n i reads)
  occurs_at (steps.Not a) place first next own reads is = tt
  occurs_at (steps.And a b) place first next own reads is = tt
  occurs_at (steps.Or a b) place first next own reads is = tt
  occurs_at (steps.Xor a b) place first next own reads is = tt
  occurs_at (steps.Mux c t e) place first next own reads is = tt

  abbrev pub OccursWell : ℕ → ℕ × BitStep → Type 0
  OccursWell x y = IsStepAt number s y.1 (number (Step k x y.0))

  abbrev entry : ℕ → ℕ × BitStep → Option Entry
  entry x y = option_map (λ c. (Step k x y.0, c)) (step_cell (λ a. number (Step k x a)) y.1)

  abbrev operators : ℕ → ℕ → List BitStep → List Entry
  operators x i all = filter_map (entry x) (enumerate_from i all)

  -- the steps of an expression from a number on lead from cells to others
  pub record StepsFit (x i : ℕ) (before afterwards : List LooseCell) (all : List BitStep) : Type 0 where
    pub cells : afterwards ≡ before ++ cells_in (operators x i all)
    pub row : AreInRow number (start + length before) (operators x i all)
    pub steps : All (OccursWell x) (enumerate_from i all)

  -- one more step before them
  one_step : (x i : ℕ) (step : BitStep) (all : List BitStep) (before afterwards : List LooseCell) (o : Option LooseCell) → step_cell (λ a. number (Step k x a)) step ≡ o
      → ((c : LooseCell) → o ≡ Some c → number (Step k x i) ≡ after start (length before)) → OccursWell x (i, step) → StepsFit x (i + 1) (with_cell before o) afterwards all → StepsFit x i before afterwards (step ∷ all)
  one_step x i step all before afterwards None is next well rest =
      let same : operators x i (step ∷ all) ≡ operators x (i + 1) all = ap (λ (o : Option LooseCell). cons_option (option_map {U = Entry} (λ c. (Step k x i, c)) o) (operators x (i + 1) all)) is in
      record {
        cells = rest.cells ∙ ap (λ l. before ++ cells_in l) (sym same);
        row = subst (AreInRow number (start + length before)) (sym same) rest.row;
        steps = All-cons (OccursWell x) (i, step) (enumerate_from (i + 1) all) well rest.steps;
      }
  one_step x i step all before afterwards (Some c) is next well rest =
      let others = operators x (i + 1) all in
      let own : Entry = (Step k x i, c) in
      let same : operators x i (step ∷ all) ≡ own ∷ others = ap (λ (o : Option LooseCell). cons_option (option_map {U = Entry} (λ c. (Step k x i, c)) o) others) is in
      let long : length (before ++ c ∷ []) ≡ length before + 1 = length-append before (c ∷ []) in
      record {
        cells = rest.cells ∙ append_assoc before (c ∷ []) (cells_in others) ∙ ap (λ l. before ++ cells_in l) (sym same);
        row = subst (AreInRow number (start + length before)) (sym same)
            (both_rows number (start + length before) (own ∷ []) others (one_row number (start + length before) own (next c refl)) (subst (λ n. AreInRow number n others) (omega (arith, long)) rest.row));
        steps = All-cons (OccursWell x) (i, step) (enumerate_from (i + 1) all) well rest.steps;
      }

  module _ (x : ℕ) (cells : List LooseCell) where
    abbrev afterwards : Kept → List LooseCell
    afterwards kept = cells ++ map (cell_of start bits starts cells) kept.operators

    steps_fit : (i : ℕ) (all : List BitStep) (kept : Kept) → length kept.results ≡ i → ((j : ℕ) → number (Step k x j) ≡ own_place start bits starts cells (operand_in (fold with_step kept all).results j))
        → ((y : ℕ × BitStep) → Contains (enumerate_from i all) y → ReadsEarlier (nets_of s.source) y.0 y.1) → StepsFit x i (afterwards kept) (afterwards (fold with_step kept all)) all
    steps_fit i [] kept long occurs reads = record { cells = sym (append-nil (afterwards kept)); row = no_row number (start + length (afterwards kept)); steps = All-nil (OccursWell x) }
    steps_fit i (step ∷ all) kept long occurs reads =
        one_step x i step all (afterwards kept) (afterwards (fold with_step kept (step ∷ all))) (option_map (cell_of start bits starts cells) (operator_of (operand_in kept.results) step)) here
        (λ c is. own ∙ operator_next start bits starts cells kept.operators (operand_in kept.results) step c is)
        (occurs_at step i (after start (length cells)) (capped (length kept.operators)) (number (Step k x i)) (reads (i, step) (contains_here (i, step) (enumerate_from (i + 1) all))) own)
        (subst (λ b. StepsFit x (i + 1) b (afterwards (fold with_step kept (step ∷ all))) all) (sym (put_cell start bits starts cells kept.operators (operator_of (operand_in kept.results) step)))
        (steps_fit (i + 1) all (with_step kept step) (length-append kept.results (_ ∷ []) ∙ ap (λ m. m + 1) long) occurs (λ y has. reads y (contains_there (i, step) (enumerate_from (i + 1) all) y has))))
      where
        own : number (Step k x i) ≡ own_place start bits starts cells (result_of (capped (length kept.operators)) step)
        own = occurs i ∙ ap (λ j. own_place start bits starts cells (operand_in (fold with_step kept (step ∷ all)).results j)) (sym long) ∙ ap (own_place start bits starts cells) (result_here all kept step)

        here : step_cell (λ a. number (Step k x a)) step ≡ option_map (cell_of start bits starts cells) (operator_of (operand_in kept.results) step)
        here = same_cell (λ a. number (Step k x a)) (λ a. own_place start bits starts cells (operand_in kept.results a)) i
            (λ a fits. occurs a ∙ ap (own_place start bits starts cells) (results_kept (step ∷ all) kept a (omega (arith, fits, long)))) step (reads (i, step) (contains_here (i, step) (enumerate_from (i + 1) all)))
            ∙ as_cell start bits starts cells kept.results step

  -- an expression that is lowered so has these numbers where it follows these cells
  pub record IsLoweredAt (x : ℕ) (cells : List LooseCell) (l : Lowered) : Type 0 where
    pub is : lowering k x ≡ record { all = l.steps.items; bits = l.bits.items }
    pub occurs : (j : ℕ) → number (Step k x j) ≡ step_place start bits starts cells l j
    pub earlier : All (λ y. ReadsEarlier (nets_of s.source) y.0 y.1) (enumerate_from 0 l.steps.items)

  pub expression_fits : (x : ℕ) (cells : List LooseCell) (l : Lowered) → IsLoweredAt x cells l → StepsFit x 0 cells (with_steps start bits starts cells l) (lowering k x).all
  expression_fits x cells l low =
      subst (λ (z : Steps). StepsFit x 0 cells (with_steps start bits starts cells l) z.all) (sym low.is)
      (subst (λ before. StepsFit x 0 before (with_steps start bits starts cells l) l.steps.items) (append-nil cells) (steps_fit x cells 0 l.steps.items (record { operators = []; results = [] }) refl low.occurs (λ y has. All-contains (λ (y : ℕ × BitStep). ReadsEarlier (nets_of s.source) y.0 y.1) (enumerate_from 0 l.steps.items) y low.earlier has)))

  -- the inputs of a gate from one on
  abbrev pub terminal_at : ℕ → ℕ
  terminal_at x = number (terminal_place lowering k x)

  abbrev pub steps_from : ℕ → ℕ → List Entry
  steps_from x n = flat_map (step_cells lowering number k) (range_with_len x n)

  abbrev pub AllOccurWell : ℕ → Type 0
  AllOccurWell x = All (OccursWell x) (enumerate_from 0 (lowering k x).all)

  pub record TerminalsFit (t afterwards : Terminals) (x n : ℕ) : Type 0 where
    pub cells : afterwards.cells ≡ t.cells ++ cells_in (steps_from x n)
    pub places : afterwards.places ≡ t.places ++ map terminal_at (range_with_len x n)
    pub row : AreInRow number (start + length t.cells) (steps_from x n)
    pub steps : All AllOccurWell (range_with_len x n)

  pub terminals_fit : (ls : List Lowered) (x : ℕ) (t : Terminals) → ((i : ℕ) (l : Lowered) → slice_get ls i ≡ Some l → IsLoweredAt (x + i) (fold (step_terminal start bits starts) t (take i ls)).cells l)
      → TerminalsFit t (fold (step_terminal start bits starts) t ls) x (length ls)
  terminals_fit [] x t low = record { cells = sym (append-nil t.cells); places = sym (append-nil t.places); row = no_row number (start + length t.cells); steps = All-nil AllOccurWell }
  terminals_fit (l ∷ ls) x t low =
      build (terminals_fit ls (x + 1) (step_terminal start bits starts t l)
      (λ i m e. subst (λ y. IsLoweredAt y (fold (step_terminal start bits starts) (step_terminal start bits starts t l) (take i ls)).cells m) (omega arith) (low (suc i) m e)))
    where
      lowest : IsLoweredAt x t.cells l
      lowest = subst (λ y. IsLoweredAt y t.cells l) (omega arith) (low 0 l refl)

      here : StepsFit x 0 t.cells (with_steps start bits starts t.cells l) (lowering k x).all
      here = expression_fits x t.cells l lowest

      long : start + length (with_steps start bits starts t.cells l) ≡ start + length t.cells + length (step_cells lowering number k x)
      long = omega (arith, ap length here.cells ∙ length-append t.cells (cells_in (step_cells lowering number k x)) ∙ ap (λ n. length t.cells + n) (length-map {B = LooseCell} (step_cells lowering number k x) (λ (e : Entry). e.1)))

      place : terminal_at x ≡ step_place start bits starts t.cells l (slice_index l.bits.items 0)
      place = lowest.occurs (slice_index (lowering k x).bits 0) ∙ ap (λ (z : Steps). step_place start bits starts t.cells l (slice_index z.bits 0)) lowest.is

      build : TerminalsFit (step_terminal start bits starts t l) (fold (step_terminal start bits starts) (step_terminal start bits starts t l) ls) (x + 1) (length ls)
          → TerminalsFit t (fold (step_terminal start bits starts) (step_terminal start bits starts t l) ls) x (suc (length ls))
      build rest = record {
        cells = rest.cells ∙ ap (λ c. c ++ cells_in (steps_from (x + 1) (length ls))) here.cells ∙ append_assoc t.cells (cells_in (step_cells lowering number k x)) (cells_in (steps_from (x + 1) (length ls)))
            ∙ ap (λ c. t.cells ++ c) (sym (map-append (λ (e : Entry). e.1) (step_cells lowering number k x) (steps_from (x + 1) (length ls))));
        places = rest.places ∙ append_assoc t.places (_ ∷ []) (map terminal_at (range_with_len (x + 1) (length ls)))
            ∙ ap (λ p. t.places ++ p ∷ map terminal_at (range_with_len (x + 1) (length ls))) (sym place);
        row = both_rows number (start + length t.cells) (step_cells lowering number k x) (steps_from (x + 1) (length ls)) here.row
            (subst (λ n. AreInRow number n (steps_from (x + 1) (length ls))) long rest.row);
        steps = All-cons AllOccurWell x (range_with_len (x + 1) (length ls)) here.steps rest.steps;
      }
