-- A netlist with gates after its cells, and with other outputs, is a netlist.
use Rattle.std.proofs.Common.{◌≡◌, ℕ, zero, suc, ◌+◌, ◌^◌, ◌<◌, ◌≤◌, ◌⊎◌, inl, inr, false, List, [], ◌∷◌, ◌++◌, length, All, sym, ◌∙◌, subst, arith, length-append}
use Rattle.std.specs.Prelude.{Contains}
use Rattle.std.proofs.lemmas.List.{get_or_append_left, take-append-le}
use Rattle.std.proofs.lemmas.List.Elements.{All-cons, All-contains, All-nil, All-weaker}
use Rattle.bb_lemmas.proofs.Orders.{less_or_not}
use Rattle.bb_net.specs.declared.cell.Cell.{Cell}
use Rattle.bb_net.specs.declared.cell.Cell.TheVariants.{Const, Input, Not, And, Or, Xor, Mux, BoxOut}
use Rattle.bb_net.specs.Netlists.{Netlist, Pins, IsNetlist, IsPinAt, ReadsInSteps, ReadsBefore, box_at, cell_at, reads_of}
use Rattle.bb_care.proofs.ConstrainedCells.{prefix_long}

-- more cells after those of a netlist, and other outputs
abbrev pub grown : Netlist → List Cell → List ℕ → Netlist
grown net more outs = record net { cells = net.cells ++ more; outs = outs }

-- a gate that reads cells before a place
abbrev pub IsGate : Netlist → ℕ → Cell → Type 0
IsGate net place c = ReadsBefore net.inputs net.boxes place c × ((b p : ℕ) → c ≡ BoxOut b p → ⊥)

-- the cells after those of a netlist are gates
abbrev pub AreGates : Netlist → List Cell → Type 0
AreGates net more = (k : ℕ) → length net.cells ≤ k → k < length (net.cells ++ more) → IsGate net k (cell_at (net.cells ++ more) k)

-- what a cell reads precedes it
reads_before : (inputs : ℕ) (boxes : List Pins) (place : ℕ) (c : Cell) → ReadsBefore inputs boxes place c → All (λ k. k < place) (reads_of boxes c)
reads_before inputs boxes place (Const v) h = All-nil (λ k. k < place)
reads_before inputs boxes place (Input v) h = All-nil (λ k. k < place)
reads_before inputs boxes place (Not a) h = All-cons (λ k. k < place) a [] h (All-nil (λ k. k < place))
reads_before inputs boxes place (And a b) h = All-cons (λ k. k < place) a (b ∷ []) h.0 (All-cons (λ k. k < place) b [] h.1 (All-nil (λ k. k < place)))
reads_before inputs boxes place (Or a b) h = All-cons (λ k. k < place) a (b ∷ []) h.0 (All-cons (λ k. k < place) b [] h.1 (All-nil (λ k. k < place)))
reads_before inputs boxes place (Xor a b) h = All-cons (λ k. k < place) a (b ∷ []) h.0 (All-cons (λ k. k < place) b [] h.1 (All-nil (λ k. k < place)))
reads_before inputs boxes place (Mux c t e) h = All-cons (λ k. k < place) c (t ∷ e ∷ []) h.0 (All-cons (λ k. k < place) t (e ∷ []) h.1 (All-cons (λ k. k < place) e [] h.2 (All-nil (λ k. k < place))))
reads_before inputs boxes place (BoxOut b p) h = h

module _ (net : Netlist) (kept : IsNetlist net) (more : List Cell) where
  -- its own cells stay
  pub old_cell : (k : ℕ) → k < length net.cells → cell_at (net.cells ++ more) k ≡ cell_at net.cells k
  old_cell k lt = get_or_append_left net.cells more (Const false) k lt

  -- what led from one of its own cells still leads so, and nothing else does
  leads_as_before : (n from to : ℕ) → from < length net.cells → ReadsInSteps n (net.cells ++ more) net.boxes from to → ReadsInSteps n net.cells net.boxes from to × (to < length net.cells)
  leads_as_before zero from to there e = (e, omega (arith, e, there))
  leads_as_before (suc n) from to there step =
      let has = subst (λ c. Contains (reads_of net.boxes c) step.0) (old_cell from there) step.1 in
      let below = All-contains (λ k. k < from) (reads_of net.boxes (cell_at net.cells from)) step.0 (reads_before net.inputs net.boxes from (cell_at net.cells from) (kept.ordered from there)) has in
      let rest = leads_as_before n step.0 to (omega (arith, below, there)) step.2 in
      ((step.0, has, rest.0), rest.1)

  pub grown_is_netlist : AreGates net more → (outs : List ℕ) → All (λ out. out < length (net.cells ++ more)) outs → length (net.cells ++ more) < 2 ^ 32 → IsNetlist (grown net more outs)
  grown_is_netlist gates outs there room = record {
    prefix = take-append-le (net.inputs + 2) net.cells more (prefix_long net kept) ∙ kept.prefix;
    ordered = λ k lt. ordered k lt (less_or_not k (length net.cells));
    listed = λ k b p lt is. listed k b p lt is (less_or_not k (length net.cells));
    driven = λ b p k pin. let old = kept.driven b p k pin in (longer k old.0, old_cell k old.0 ∙ old.1);
    boxes_ordered = λ b c p pin k le has leads is.
        let low = All-contains (λ j. j < length net.cells) (box_at net.boxes b).ins pin (kept.pins_there b) has in
        let old = leads_as_before leads.0 pin k low leads.1 in
        kept.boxes_ordered b c p pin k le has (leads.0, old.0) (sym (old_cell k old.1) ∙ is);
    pins_there = λ b. All-weaker (λ j. j < length net.cells) (λ j. j < length (net.cells ++ more)) longer (box_at net.boxes b).ins (kept.pins_there b);
    outs_there = there;
    cells_fit = room;
    boxes_fit = kept.boxes_fit;
  }
    where
      longer : (k : ℕ) → k < length net.cells → k < length (net.cells ++ more)
      longer k lt = omega (arith, lt, length-append net.cells more)

      ordered : (k : ℕ) → k < length (net.cells ++ more) → (k < length net.cells) ⊎ (length net.cells ≤ k) → ReadsBefore net.inputs net.boxes k (cell_at (net.cells ++ more) k)
      ordered k lt (inl below) = subst (ReadsBefore net.inputs net.boxes k) (sym (old_cell k below)) (kept.ordered k below)
      ordered k lt (inr past) = (gates k past lt).0

      listed : (k b p : ℕ) → k < length (net.cells ++ more) → cell_at (net.cells ++ more) k ≡ BoxOut b p → (k < length net.cells) ⊎ (length net.cells ≤ k) → IsPinAt net.boxes b p k
      listed k b p lt is (inl below) = kept.listed k b p below (sym (old_cell k below) ∙ is)
      listed k b p lt is (inr past) = absurd ((gates k past lt).1 b p is)
