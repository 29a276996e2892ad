-- Where the cells of an unrolled specification are.
use Rattle.std.proofs.Common.{◌≡◌, ℕ, zero, suc, ◌+◌, ◌-◌, ◌*◌, ◌<◌, ◌≤◌, false, List, [], ◌∷◌, ◌++◌, length, map, take, Some, refl, sym, ap, ap₂, ◌∙◌, arith, length-append}
use Rattle.std.specs.Prelude.{slice_get}
use Rattle.std.specs.List.{flat_map, range_with_len}
use Rattle.std.proofs.lemmas.List.{get_or_append_left, get_or-append-add, get_or-map, get_or-drop, length-drop, length-map, take_at}
use Rattle.std.proofs.lemmas.List.FromFn.{length-map-range_with_len}
use Rattle.bb_lemmas.proofs.Places.{some_same}
use Rattle.bb_subst.specs.Embeddings.{renumbered}
use Rattle.bb_net.specs.declared.cell.Cell.{Cell}
use Rattle.bb_net.specs.declared.cell.Cell.TheVariants.{Const, Input, Not, And, Or, Xor, Mux, BoxOut}
use Rattle.bb_net.specs.declared.flat.Reg.{Reg}
use Rattle.bb_net.specs.Flats.{FlatNet}
use Rattle.bb_net.specs.Netlists.{cell_at, first_cells}
use Rattle.bb_unroll.specs.declared.places.Frame.{Frame}
use Rattle.bb_unroll.specs.declared.places.Frame.TheVariants.{Present, Next}
use Rattle.bb_unroll.specs.Inside.Building.{gate_in, gates_begin}
use Rattle.bb_unroll.specs.Unrolled.{edge_cells, fall_input, first_edge, first_gate, first_state, gates, next_cell, ports, present_place, rise_input, state_cell, state_cells, unrolled_cells, unrolled_inputs}

-- pairs of cells, one after another

pairs_long : (g h : ℕ → Cell) (a n : ℕ) → length (flat_map (λ i. g i ∷ h i ∷ []) (range_with_len a n)) ≡ 2 * n
pairs_long g h a zero = refl
pairs_long g h a (suc n) = omega (arith, pairs_long g h (a + 1) n)

pair_first : (g h : ℕ → Cell) (a n i k : ℕ) → i < n → k ≡ 2 * i → cell_at (flat_map (λ i. g i ∷ h i ∷ []) (range_with_len a n)) k ≡ g (a + i)
pair_first g h a zero i k lt is = absurd (omega (arith, lt))
pair_first g h a (suc n) zero k lt is =
    let none : k ≡ 0 = omega (arith, is) in
    ap (cell_at (flat_map (λ i. g i ∷ h i ∷ []) (range_with_len a (suc n)))) none ∙ ap g (omega arith)
pair_first g h a (suc n) (suc i) k lt is =
    let more : k ≡ suc (suc (2 * i)) = omega (arith, is) in
    ap (cell_at (flat_map (λ i. g i ∷ h i ∷ []) (range_with_len a (suc n)))) more ∙ pair_first g h (a + 1) n i (2 * i) (omega (arith, lt)) refl ∙ ap g (omega arith)

pair_second : (g h : ℕ → Cell) (a n i k : ℕ) → i < n → k ≡ 2 * i + 1 → cell_at (flat_map (λ i. g i ∷ h i ∷ []) (range_with_len a n)) k ≡ h (a + i)
pair_second g h a zero i k lt is = absurd (omega (arith, lt))
pair_second g h a (suc n) zero k lt is =
    let one : k ≡ 1 = omega (arith, is) in
    ap (cell_at (flat_map (λ i. g i ∷ h i ∷ []) (range_with_len a (suc n)))) one ∙ ap h (omega arith)
pair_second g h a (suc n) (suc i) k lt is =
    let more : k ≡ suc (suc (2 * i + 1)) = omega (arith, is) in
    ap (cell_at (flat_map (λ i. g i ∷ h i ∷ []) (range_with_len a (suc n)))) more ∙ pair_second g h (a + 1) n i (2 * i + 1) (omega (arith, lt)) refl ∙ ap h (omega arith)

-- the cells of the states

states_long : (f : FlatNet) (j : ℕ) (regs : List Reg) → length (state_cells f j regs) ≡ length regs
states_long f j [] = refl
states_long f j (r ∷ rest) = ap suc (states_long f (suc j) rest)

state_here : (f : FlatNet) (j i : ℕ) (regs : List Reg) (r : Reg) → slice_get regs i ≡ Some r → cell_at (state_cells f j regs) i ≡ state_cell f (j + i) r
state_here f j i [] r at = cc
state_here f j zero (s ∷ rest) r at = ap₂ (state_cell f) (omega arith) (some_same s r at)
state_here f j (suc i) (s ∷ rest) r at = state_here f (suc j) i rest r at ∙ ap (λ n. state_cell f n r) (omega arith)

-- past a list of known length
after : (xs ys : List Cell) (n j k : ℕ) → length xs ≡ n → k ≡ n + j → cell_at (xs ++ ys) k ≡ cell_at ys j
after xs ys n j k long is = ap (cell_at (xs ++ ys)) (is ∙ ap (λ m. m + j) (sym long)) ∙ get_or-append-add xs ys j (Const false)

module _ (f : FlatNet) where
  abbrev inputs : List Cell
  inputs = first_cells (unrolled_inputs f)

  abbrev present : List Cell
  present = map (renumbered (present_place f)) (gates f)

  abbrev edges : List Cell
  edges = flat_map (edge_cells f) (range_with_len 0 (ports f))

  abbrev states : List Cell
  states = state_cells f 0 f.regs

  abbrev next : List Cell
  next = map (next_cell f) (gates f)

  parts : unrolled_cells f ≡ inputs ++ (present ++ (edges ++ (states ++ next)))
  parts = refl

  inputs_long : length inputs ≡ unrolled_inputs f + 2
  inputs_long = omega (arith, length-map-range_with_len Input 0 (unrolled_inputs f))

  present_long : length present ≡ length (gates f)
  present_long = length-map (gates f) (renumbered (present_place f))

  edges_long : length edges ≡ 2 * ports f
  edges_long = pairs_long (λ i. Not (rise_input f i + 2)) (λ i. And (fall_input f i + 2) (first_edge f + 2 * i)) 0 (ports f)

  next_long : length next ≡ length (gates f)
  next_long = length-map (gates f) (next_cell f)

  pub cells_long : length (unrolled_cells f) ≡ first_state f + length f.regs + length (gates f)
  cells_long =
      ap length parts
      ∙ omega (arith, length-append inputs (present ++ (edges ++ (states ++ next))), length-append present (edges ++ (states ++ next)), length-append edges (states ++ next), length-append states next, inputs_long, present_long, edges_long, states_long f 0 f.regs, next_long)

  pub input_at : (k : ℕ) → k < unrolled_inputs f + 2 → cell_at (unrolled_cells f) k ≡ cell_at (first_cells (unrolled_inputs f)) k
  input_at k lt = ap (λ l. cell_at l k) parts ∙ get_or_append_left inputs (present ++ (edges ++ (states ++ next))) (Const false) k (omega (arith, lt, inputs_long))

  pub inputs_taken : take (unrolled_inputs f + 2) (unrolled_cells f) ≡ first_cells (unrolled_inputs f)
  inputs_taken = ap (take (unrolled_inputs f + 2)) parts ∙ take_at inputs (present ++ (edges ++ (states ++ next))) (unrolled_inputs f + 2) inputs_long

  present_at : (j : ℕ) → j < length (gates f) → cell_at (unrolled_cells f) (unrolled_inputs f + 2 + j) ≡ renumbered (present_place f) (cell_at (gates f) j)
  present_at j lt =
      ap (λ l. cell_at l (unrolled_inputs f + 2 + j)) parts ∙ after inputs (present ++ (edges ++ (states ++ next))) (unrolled_inputs f + 2) j (unrolled_inputs f + 2 + j) inputs_long refl
      ∙ get_or_append_left present (edges ++ (states ++ next)) (Const false) j (omega (arith, lt, present_long)) ∙ get_or-map (renumbered (present_place f)) (gates f) j (Const false) (Const false) lt

  after_present : (j : ℕ) → cell_at (unrolled_cells f) (first_edge f + j) ≡ cell_at (edges ++ (states ++ next)) j
  after_present j =
      ap (λ l. cell_at l (first_edge f + j)) parts ∙ after inputs (present ++ (edges ++ (states ++ next))) (unrolled_inputs f + 2) (length (gates f) + j) (first_edge f + j) inputs_long (omega arith)
      ∙ after present (edges ++ (states ++ next)) (length (gates f)) j (length (gates f) + j) present_long refl

  edge_at : (j : ℕ) → j < 2 * ports f → cell_at (unrolled_cells f) (first_edge f + j) ≡ cell_at edges j
  edge_at j lt = after_present j ∙ get_or_append_left edges (states ++ next) (Const false) j (omega (arith, lt, edges_long))

  pub not_rises_at : (i : ℕ) → i < ports f → cell_at (unrolled_cells f) (first_edge f + 2 * i) ≡ Not (rise_input f i + 2)
  not_rises_at i lt =
      edge_at (2 * i) (omega (arith, lt))
      ∙ pair_first (λ i. Not (rise_input f i + 2)) (λ i. And (fall_input f i + 2) (first_edge f + 2 * i)) 0 (ports f) i (2 * i) lt refl ∙ ap (λ i. Not (rise_input f i + 2)) (omega arith)

  pub falls_at : (i : ℕ) → i < ports f → cell_at (unrolled_cells f) (first_edge f + (2 * i + 1)) ≡ And (fall_input f i + 2) (first_edge f + 2 * i)
  falls_at i lt =
      edge_at (2 * i + 1) (omega (arith, lt))
      ∙ pair_second (λ i. Not (rise_input f i + 2)) (λ i. And (fall_input f i + 2) (first_edge f + 2 * i)) 0 (ports f) i (2 * i + 1) lt refl
      ∙ ap (λ i. And (fall_input f i + 2) (first_edge f + 2 * i)) (omega arith)

  after_edges : (j : ℕ) → cell_at (unrolled_cells f) (first_state f + j) ≡ cell_at (states ++ next) j
  after_edges j =
      ap (cell_at (unrolled_cells f)) (omega arith) ∙ after_present (2 * ports f + j) ∙ after edges (states ++ next) (2 * ports f) j (2 * ports f + j) edges_long refl

  pub state_at : (j : ℕ) (r : Reg) → slice_get f.regs j ≡ Some r → j < length f.regs → cell_at (unrolled_cells f) (first_state f + j) ≡ state_cell f j r
  state_at j r at lt =
      after_edges j ∙ get_or_append_left states next (Const false) j (omega (arith, lt, states_long f 0 f.regs)) ∙ state_here f 0 j f.regs r at ∙ ap (λ n. state_cell f n r) (omega arith)

  next_at : (j : ℕ) → j < length (gates f) → cell_at (unrolled_cells f) (first_state f + length f.regs + j) ≡ next_cell f (cell_at (gates f) j)
  next_at j lt =
      ap (cell_at (unrolled_cells f)) (omega arith) ∙ after_edges (length f.regs + j) ∙ after states next (length f.regs) j (length f.regs + j) (states_long f 0 f.regs) refl
      ∙ get_or-map (next_cell f) (gates f) j (Const false) (Const false) lt

  -- the gates of a frame

  pub gates_long : length (gates f) ≡ length f.net.cells - first_gate f
  gates_long = length-drop (first_gate f) f.net.cells

  gate_is : (k : ℕ) → first_gate f ≤ k → cell_at (gates f) (k - first_gate f) ≡ cell_at f.net.cells k
  gate_is k past = get_or-drop (first_gate f) f.net.cells (k - first_gate f) (Const false) ∙ ap (cell_at f.net.cells) (omega (arith, past))

  present_gate : (c : Cell) → renumbered (present_place f) c ≡ gate_in f Present c
  present_gate (Const b) = refl
  present_gate (Input i) = refl
  present_gate (Not a) = refl
  present_gate (And a b) = refl
  present_gate (Or a b) = refl
  present_gate (Xor a b) = refl
  present_gate (Mux c t e) = refl
  present_gate (BoxOut b p) = refl

  next_gate : (c : Cell) → next_cell f c ≡ gate_in f Next c
  next_gate (Const b) = refl
  next_gate (Input i) = refl
  next_gate (Not a) = refl
  next_gate (And a b) = refl
  next_gate (Or a b) = refl
  next_gate (Xor a b) = refl
  next_gate (Mux c t e) = refl
  next_gate (BoxOut b p) = refl

  pub gate_at : (frame : Frame) (k : ℕ) → first_gate f ≤ k → k < length f.net.cells → cell_at (unrolled_cells f) (gates_begin f frame + (k - first_gate f)) ≡ gate_in f frame (cell_at f.net.cells k)
  gate_at Present k past lt = present_at (k - first_gate f) (omega (arith, past, lt, gates_long)) ∙ present_gate (cell_at (gates f) (k - first_gate f)) ∙ ap (gate_in f Present) (gate_is k past)
  gate_at Next k past lt = next_at (k - first_gate f) (omega (arith, past, lt, gates_long)) ∙ next_gate (cell_at (gates f) (k - first_gate f)) ∙ ap (gate_in f Next) (gate_is k past)
