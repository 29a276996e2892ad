-- In an unrolled specification each cell is a gate that reads earlier cells.
use Rattle.std.proofs.Common.{◌≡◌, ℕ, zero, suc, ◌+◌, ◌-◌, ◌*◌, ◌<◌, ◌≤◌, ◌⊎◌, Bool, true, false, if◌then◌else◌, List, [], length, Option, Some, None, refl, sym, subst, arith, inl, inr}
use Rattle.std.specs.Prelude.{slice_get, slice_index, IfSome, IsSome}
use Rattle.std.proofs.lemmas.Bool.{cases_lt}
use Rattle.std.proofs.lemmas.List.Elements.{All-contains, All-get_or}
use Rattle.std.proofs.lemmas.List.FromFn.{get_or-map-range_with_len}
use Rattle.bb_lemmas.proofs.Places.{some_at, there_at}
use Rattle.bb_net.specs.declared.cell.Cell.{Cell}
use Rattle.bb_net.specs.declared.cell.Cell.TheVariants.{Const, Input, Not, And, Or, Xor, Mux, BoxOut}
use Rattle.bb_net.specs.declared.flat.Reg.{Reg}
use Rattle.bb_net.specs.Flats.{FlatNet}
use Rattle.bb_net.specs.Netlists.{Pins, IsOrdered, IsPinAt, ReadsBefore, cell_at, first_cells}
use Rattle.bb_unroll.specs.declared.places.Frame.{Frame}
use Rattle.bb_unroll.specs.declared.places.Frame.TheVariants.{Present, Next}
use Rattle.bb_unroll.specs.Inside.Building.{gate_in, gates_begin}
use Rattle.bb_unroll.specs.Events.{CanBeUnrolled}
use Rattle.bb_unroll.specs.Unrolled.{clock_of, falls_place, first_edge, first_gate, first_state, ports, rise_input, stores_place, unrolled, unrolled_cells, unrolled_inputs}
use Rattle.bb_unroll.proofs.UnrolledCells.{cells_long, falls_at, gate_at, gates_long, input_at, not_rises_at, state_at}
use Rattle.bb_unroll.proofs.UnrolledPlaces.{inputs_fit, place_before, present_there}

-- no output pin of a box, and it reads earlier cells
abbrev pub IsGateAt : ℕ → ℕ → Cell → Type 0
IsGateAt inputs place (BoxOut b p) = ⊥
IsGateAt inputs place cell = ReadsBefore inputs [] place cell

first_is_gate : (n k : ℕ) → k < n + 2 → IsGateAt n k (cell_at (first_cells n) k)
first_is_gate n zero lt = tt
first_is_gate n (suc zero) lt = tt
first_is_gate n (suc (suc j)) lt =
    let is : cell_at (first_cells n) (suc (suc j)) ≡ Input j = get_or-map-range_with_len Input 0 n j j (Const false) (omega (arith, lt)) (omega arith) in
    subst (IsGateAt n (suc (suc j))) (sym is) (omega (arith, lt))

halves : (m : ℕ) → (i : ℕ) × ((m ≡ 2 * i) ⊎ (m ≡ 2 * i + 1))
halves zero = (0, inl refl)
halves (suc m) = by (halves m)
  where
    by : (i : ℕ) × ((m ≡ 2 * i) ⊎ (m ≡ 2 * i + 1)) → (i : ℕ) × ((suc m ≡ 2 * i) ⊎ (suc m ≡ 2 * i + 1))
    by (i, inl e) = (i, inr (omega (arith, e)))
    by (i, inr e) = (i + 1, inl (omega (arith, e)))

clock_low : (n : ℕ) (clock : Option ℕ) → IsSome clock → IfSome clock (λ k. k < n) → clock_of clock < n
clock_low n None some low = cc some
clock_low n (Some k) some low = low

module _ (f : FlatNet) (can : CanBeUnrolled f) where
  -- without boxes no cell is an output pin
  pub no_pin : (k b p : ℕ) → k < length f.net.cells → cell_at f.net.cells k ≡ BoxOut b p → ⊥
  no_pin k b p lt is =
      let listed : IsPinAt [] b p k = subst (λ (boxes : List Pins). IsPinAt boxes b p k) can.no_box (can.is_flat.net.listed k b p lt is) in
      omega (arith, listed.0)

  -- a register's clock is a port, and its next state a cell
  pub clock_there : (r : Reg) (j : ℕ) → slice_get f.regs j ≡ Some r → clock_of r.clock < ports f
  clock_there r j at =
      let has = there_at f.regs j r at in
      clock_low (ports f) r.clock (All-contains (λ r. IsSome r.clock) f.regs r can.clocked has) (All-contains (λ r. IfSome r.clock (λ k. k < length f.ins)) f.regs r can.is_flat.clocks has)

  pub data_there : (j : ℕ) → j < length f.regs → slice_index f.net.outs (length f.outs + j) < length f.net.cells
  data_there j lt = All-get_or (λ k. k < length f.net.cells) f.net.outs (length f.outs + j) 0 (omega (arith, lt, can.is_flat.named.outputs)) can.is_flat.net.outs_there

  stores_low : (falling : Bool) (i : ℕ) → i < ports f → (if falling then falls_place f i else rise_input f i + 2) < first_state f
  stores_low true i lt = omega (arith, lt)
  stores_low false i lt = omega (arith, lt)

  pub stores_there : (r : Reg) (j : ℕ) → slice_get f.regs j ≡ Some r → stores_place f r < first_state f
  stores_there r j at = stores_low r.falling (clock_of r.clock) (clock_there r j at)

  frame_gate : (frame : Frame) (k : ℕ) (c : Cell) → first_gate f ≤ k → ReadsBefore f.net.inputs f.net.boxes k c → ((b p : ℕ) → c ≡ BoxOut b p → ⊥) → IsGateAt (unrolled_inputs f) (gates_begin f frame + (k - first_gate f)) (gate_in f frame c)
  frame_gate frame k (Const v) past reads none = tt
  frame_gate Present k (Input i) past reads none = omega (arith, reads)
  frame_gate Next k (Input i) past reads none =
      let before = place_before f can.is_flat Next (i + 2) k (omega (arith, past, reads)) past in
      (before, before)
  frame_gate frame k (Not x) past reads none = place_before f can.is_flat frame x k reads past
  frame_gate frame k (And x y) past reads none = (place_before f can.is_flat frame x k reads.0 past, place_before f can.is_flat frame y k reads.1 past)
  frame_gate frame k (Or x y) past reads none = (place_before f can.is_flat frame x k reads.0 past, place_before f can.is_flat frame y k reads.1 past)
  frame_gate frame k (Xor x y) past reads none = (place_before f can.is_flat frame x k reads.0 past, place_before f can.is_flat frame y k reads.1 past)
  frame_gate frame k (Mux x y z) past reads none =
      (place_before f can.is_flat frame x k reads.0 past, place_before f can.is_flat frame y k reads.1 past, place_before f can.is_flat frame z k reads.2 past)
  frame_gate frame k (BoxOut b p) past reads none = absurd (none b p refl)

  -- the cells of the parts

  gate_of : (frame : Frame) (j : ℕ) → first_gate f + j < length f.net.cells → IsGateAt (unrolled_inputs f) (gates_begin f frame + j) (cell_at (unrolled_cells f) (gates_begin f frame + j))
  gate_of frame j lt =
      let k = first_gate f + j in
      let here : k - first_gate f ≡ j = omega arith in
      subst (λ n. IsGateAt (unrolled_inputs f) (gates_begin f frame + n) (cell_at (unrolled_cells f) (gates_begin f frame + n))) here
      (subst (IsGateAt (unrolled_inputs f) (gates_begin f frame + (k - first_gate f))) (sym (gate_at f frame k (omega arith) lt))
      (frame_gate frame k (cell_at f.net.cells k) (omega arith) (can.is_flat.net.ordered k lt) (λ b p. no_pin k b p lt)))

  edge_of : (j : ℕ) → j < 2 * ports f → IsGateAt (unrolled_inputs f) (first_edge f + j) (cell_at (unrolled_cells f) (first_edge f + j))
  edge_of j lt = by (halves j)
    where
      by : (i : ℕ) × ((j ≡ 2 * i) ⊎ (j ≡ 2 * i + 1)) → IsGateAt (unrolled_inputs f) (first_edge f + j) (cell_at (unrolled_cells f) (first_edge f + j))
      by (i, inl e) =
          subst (λ n. IsGateAt (unrolled_inputs f) (first_edge f + n) (cell_at (unrolled_cells f) (first_edge f + n))) (sym e)
          (subst (IsGateAt (unrolled_inputs f) (first_edge f + 2 * i)) (sym (not_rises_at f i (omega (arith, lt, e)))) (omega (arith, lt, e)))
      by (i, inr e) =
          subst (λ n. IsGateAt (unrolled_inputs f) (first_edge f + n) (cell_at (unrolled_cells f) (first_edge f + n))) (sym e)
          (subst (IsGateAt (unrolled_inputs f) (first_edge f + (2 * i + 1))) (sym (falls_at f i (omega (arith, lt, e)))) (omega (arith, lt, e), omega arith))

  state_of : (j : ℕ) → j < length f.regs → IsGateAt (unrolled_inputs f) (first_state f + j) (cell_at (unrolled_cells f) (first_state f + j))
  state_of j lt =
      let r = some_at f.regs j lt in
      let stores = stores_there r.0 j r.1 in
      let after = present_there f can.is_flat (slice_index f.net.outs (length f.outs + j)) (data_there j lt) in
      subst (IsGateAt (unrolled_inputs f) (first_state f + j)) (sym (state_at f j r.0 r.1 lt))
      (omega (arith, stores), omega (arith, after), omega (arith, lt, can.is_flat.named.inputs))

  -- so each of them is one
  pub each_gate : (place : ℕ) → place < length (unrolled_cells f) → IsGateAt (unrolled_inputs f) place (cell_at (unrolled_cells f) place)
  each_gate place lt = by (cases_lt place (unrolled_inputs f + 2)) (cases_lt place (first_edge f)) (cases_lt place (first_state f)) (cases_lt place (gates_begin f Next))
    where
      at : (first j : ℕ) → place ≡ first + j → IsGateAt (unrolled_inputs f) (first + j) (cell_at (unrolled_cells f) (first + j)) → IsGateAt (unrolled_inputs f) place (cell_at (unrolled_cells f) place)
      at first j is gate = subst (λ n. IsGateAt (unrolled_inputs f) n (cell_at (unrolled_cells f) n)) (sym is) gate

      by : (place < unrolled_inputs f + 2) ⊎ (unrolled_inputs f + 2 ≤ place) → (place < first_edge f) ⊎ (first_edge f ≤ place) → (place < first_state f) ⊎ (first_state f ≤ place)
          → (place < gates_begin f Next) ⊎ (gates_begin f Next ≤ place) → IsGateAt (unrolled_inputs f) place (cell_at (unrolled_cells f) place)
      by (inl low) edge state next = subst (IsGateAt (unrolled_inputs f) place) (sym (input_at f place low)) (first_is_gate (unrolled_inputs f) place low)
      by (inr a) (inl low) state next =
          at (unrolled_inputs f + 2) (place - (unrolled_inputs f + 2)) (omega (arith, a)) (gate_of Present (place - (unrolled_inputs f + 2)) (omega (arith, a, low, gates_long f, inputs_fit f can.is_flat)))
      by (inr a) (inr b) (inl low) next = at (first_edge f) (place - first_edge f) (omega (arith, b)) (edge_of (place - first_edge f) (omega (arith, b, low)))
      by (inr a) (inr b) (inr c) (inl low) = at (first_state f) (place - first_state f) (omega (arith, c)) (state_of (place - first_state f) (omega (arith, c, low)))
      by (inr a) (inr b) (inr c) (inr d) =
          at (gates_begin f Next) (place - gates_begin f Next) (omega (arith, d)) (gate_of Next (place - gates_begin f Next) (omega (arith, d, lt, cells_long f, gates_long f, inputs_fit f can.is_flat)))

  gate_reads : (inputs place : ℕ) (c : Cell) → IsGateAt inputs place c → ReadsBefore inputs [] place c
  gate_reads inputs place (Const b) reads = reads
  gate_reads inputs place (Input i) reads = reads
  gate_reads inputs place (Not a) reads = reads
  gate_reads inputs place (And a b) reads = reads
  gate_reads inputs place (Or a b) reads = reads
  gate_reads inputs place (Xor a b) reads = reads
  gate_reads inputs place (Mux c t e) reads = reads
  gate_reads inputs place (BoxOut b p) reads = absurd reads

  pub unrolled_ordered : IsOrdered (unrolled f)
  unrolled_ordered place lt = gate_reads (unrolled_inputs f) place (cell_at (unrolled_cells f) place) (each_gate place lt)
