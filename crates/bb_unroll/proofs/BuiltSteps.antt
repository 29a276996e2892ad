-- An unrolled specification is built cell by cell.
use Rattle.std.proofs.Common.{get_or, Some, ◌≡◌, ℕ, ◌+◌, ◌-◌, ◌*◌, ◌^◌, ◌<◌, ◌≤◌, false, List, [], ◌∷◌, ◌++◌, length, refl, sym, ap, ap₂, ◌∙◌, subst, arith}
use Rattle.std.specs.Prelude.{slice_get, slice_index}
use Rattle.std.proofs.lemmas.List.{length-take-le, take_all, take_more}
use Rattle.bb_lemmas.proofs.Places.{got, some_at}
use Rattle.bb_net.specs.declared.cell.Cell.{Cell}
use Rattle.bb_net.specs.declared.cell.Cell.TheVariants.{Const, Input, Not, And, Or, Xor, Mux, BoxOut}
use Rattle.bb_net.specs.declared.flat.Reg.{Reg}
use Rattle.bb_net.specs.Flats.{FlatNet}
use Rattle.bb_net.specs.Netlists.{Netlist, MayBeAppended, cell_at, first_cells, with_cell}
use Rattle.bb_unroll.specs.declared.places.Frame.{Frame}
use Rattle.bb_unroll.specs.declared.places.Frame.TheVariants.{Present, Next}
use Rattle.bb_unroll.specs.Inside.Building.{gate_in, gates_begin, unrolled_before}
use Rattle.bb_unroll.specs.Events.{CanBeUnrolled}
use Rattle.bb_unroll.specs.Unrolled.{fall_input, first_edge, first_gate, first_state, gates, ports, present_place, rise_input, stores_place, unrolled, unrolled_cells, unrolled_inputs}
use Rattle.bb_unroll.proofs.UnrolledCells.{cells_long, falls_at, gate_at, gates_long, inputs_taken, not_rises_at, state_at}
use Rattle.bb_unroll.proofs.UnrolledOrder.{IsGateAt, each_gate}

-- a gate may follow, and adds nothing but itself

abbrev one_more : Netlist → Cell → Netlist
one_more net c = record net { cells = net.cells ++ c ∷ [] }

pub gate_follows : (net : Netlist) (c : Cell) → net.boxes ≡ [] → IsGateAt net.inputs (length net.cells) c → MayBeAppended net c
gate_follows net (Const b) none reads = tt
gate_follows net (Input i) none reads = reads
gate_follows net (Not a) none reads = reads
gate_follows net (And a b) none reads = reads
gate_follows net (Or a b) none reads = reads
gate_follows net (Xor a b) none reads = reads
gate_follows net (Mux c t e) none reads = reads
gate_follows net (BoxOut b p) none reads = absurd reads

pub gate_adds : (net : Netlist) (place : ℕ) (c : Cell) → IsGateAt net.inputs place c → with_cell net c ≡ one_more net c
gate_adds net place (Const b) reads = refl
gate_adds net place (Input i) reads = refl
gate_adds net place (Not a) reads = refl
gate_adds net place (And a b) reads = refl
gate_adds net place (Or a b) reads = refl
gate_adds net place (Xor a b) reads = refl
gate_adds net place (Mux c t e) reads = refl
gate_adds net place (BoxOut b p) reads = absurd reads

module _ (f : FlatNet) (can : CanBeUnrolled f) where
  -- places have 32 bits, with room for the cells of a violation
  pub cells_few : unrolled_inputs f ≤ 2048 → length (unrolled_cells f) ≤ 4004098
  cells_few small = omega (arith, small, cells_long f, gates_long f, can.is_flat.small.cells, can.is_flat.named.inputs)

  module _ (n : ℕ) (now : Netlist) (is : now ≡ unrolled_before f n) where
    pub long_before : n ≤ length (unrolled_cells f) → length now.cells ≡ n
    long_before le = ap (λ (net : Netlist). length net.cells) is ∙ length-take-le n (unrolled_cells f) le

    pub cell_room : unrolled_inputs f ≤ 2048 → n ≤ length (unrolled_cells f) → length now.cells + 1 < 2 ^ 32
    cell_room small le = omega (arith, long_before le, le, cells_few small)

    module _ (lt : n < length (unrolled_cells f)) (d : Cell) (same : d ≡ cell_at (unrolled_cells f) n) where
      gate : IsGateAt now.inputs n d
      gate =
          subst (λ inputs. IsGateAt inputs n d) (sym (ap (λ (net : Netlist). net.inputs) is))
          (subst (IsGateAt (unrolled_inputs f) n) (sym same) (each_gate f can n lt))

      -- the next cell may be added
      pub cell_follows : MayBeAppended now d
      cell_follows = gate_follows now d (ap (λ (net : Netlist). net.boxes) is) (subst (λ k. IsGateAt now.inputs k d) (sym (long_before (omega (arith, lt)))) gate)

      -- and then it is there
      pub cell_added : (new : Netlist) (m : ℕ) → new ≡ with_cell now d → m ≡ n + 1 → new ≡ unrolled_before f m
      cell_added new m added next =
          added ∙ gate_adds now n d gate ∙ ap₂ one_more is same
          ∙ ap (λ (cells : List Cell). record (unrolled f) { cells = cells }) (sym (take_more (unrolled_cells f) n (Const false) lt)) ∙ ap (unrolled_before f) (sym next)

  -- a gate of a frame

  abbrev gate_place : Frame → ℕ → ℕ
  gate_place frame k = gates_begin f frame + (k - first_gate f)

  gates_within : (frame : Frame) → gates_begin f frame + length (gates f) ≤ length (unrolled_cells f)
  gates_within Present = omega (arith, cells_long f)
  gates_within Next = omega (arith, cells_long f)

  pub gate_there : (frame : Frame) (k : ℕ) → first_gate f ≤ k → k < length f.net.cells → gate_place frame k < length (unrolled_cells f)
  gate_there frame k past lt = omega (arith, past, lt, gates_within frame, gates_long f)

  module _ (frame : Frame) (k : ℕ) (past : first_gate f ≤ k) (lt : k < length f.net.cells) (now : Netlist) (is : now ≡ unrolled_before f (gate_place frame k)) (cells : List Cell) (same : cells ≡ f.net.cells) (d : Cell) (made : d ≡ gate_in f frame (cell_at cells k)) where
    this_gate : d ≡ cell_at (unrolled_cells f) (gate_place frame k)
    this_gate = made ∙ ap (λ l. gate_in f frame (cell_at l k)) same ∙ sym (gate_at f frame k past lt)

    pub gate_may_follow : MayBeAppended now d
    gate_may_follow = cell_follows (gate_place frame k) now is (gate_there frame k past lt) d this_gate

    pub gate_added : (new : Netlist) → new ≡ with_cell now d → new ≡ unrolled_before f (gates_begin f frame + (k + 1 - first_gate f))
    gate_added new added = cell_added (gate_place frame k) now is (gate_there frame k past lt) d this_gate new (gates_begin f frame + (k + 1 - first_gate f)) added (omega (arith, past))

  -- the cells of an edge
  module _ (i : ℕ) (lt : i < ports f) (now : Netlist) (is : now ≡ unrolled_before f (first_edge f + 2 * i)) (rise : ℕ) (rises : rise ≡ rise_input f i + 2) where
    not_there : first_edge f + 2 * i < length (unrolled_cells f)
    not_there = omega (arith, lt, cells_long f)

    falls_there : first_edge f + (2 * i + 1) < length (unrolled_cells f)
    falls_there = omega (arith, lt, cells_long f)

    this_not : Not rise ≡ cell_at (unrolled_cells f) (first_edge f + 2 * i)
    this_not = ap Not rises ∙ sym (not_rises_at f i lt)

    pub not_may_follow : MayBeAppended now (Not rise)
    not_may_follow = cell_follows (first_edge f + 2 * i) now is not_there (Not rise) this_not

    module _ (mid : Netlist) (added : mid ≡ with_cell now (Not rise)) (fall last : ℕ) (falls : fall ≡ fall_input f i + 2) (at : last ≡ length now.cells) where
      middle : mid ≡ unrolled_before f (first_edge f + (2 * i + 1))
      middle = cell_added (first_edge f + 2 * i) now is not_there (Not rise) this_not mid (first_edge f + (2 * i + 1)) added (omega arith)

      this_falls : And fall last ≡ cell_at (unrolled_cells f) (first_edge f + (2 * i + 1))
      this_falls = ap₂ And falls (at ∙ long_before (first_edge f + 2 * i) now is (omega (arith, not_there))) ∙ sym (falls_at f i lt)

      pub falls_may_follow : MayBeAppended mid (And fall last)
      falls_may_follow = cell_follows (first_edge f + (2 * i + 1)) mid middle falls_there (And fall last) this_falls

      pub edge_added : (new : Netlist) → new ≡ with_cell mid (And fall last) → new ≡ unrolled_before f (first_edge f + 2 * (i + 1))
      edge_added new more = cell_added (first_edge f + (2 * i + 1)) mid middle falls_there (And fall last) this_falls new (first_edge f + 2 * (i + 1)) more (omega arith)

  -- the cell of a state
  module _ (j : ℕ) (lt : j < length f.regs) (now : Netlist) (is : now ≡ unrolled_before f (first_state f + j)) (regs : List Reg) (same : regs ≡ f.regs) (r : Reg) (read : r ≡ get_or regs j r)
      (stores next place : ℕ) (c : stores ≡ stores_place f r) (t : next ≡ present_place f (slice_index f.net.outs (length f.outs + j))) (e : place ≡ ports f + j + 2) where
    state_there : first_state f + j < length (unrolled_cells f)
    state_there = omega (arith, lt, cells_long f)

    this_reg : slice_get f.regs j ≡ Some r
    this_reg =
        let at = some_at f.regs j lt in
        at.1 ∙ ap Some (sym (got f.regs j at.0 r at.1).1 ∙ ap (λ l. get_or l j r) (sym same) ∙ sym read)

    this_state : Mux stores next place ≡ cell_at (unrolled_cells f) (first_state f + j)
    this_state = ap (λ s. Mux s next place) c ∙ ap₂ (Mux (stores_place f r)) t e ∙ sym (state_at f j r this_reg lt)

    pub state_may_follow : MayBeAppended now (Mux stores next place)
    state_may_follow = cell_follows (first_state f + j) now is state_there (Mux stores next place) this_state

    pub state_added : (new : Netlist) → new ≡ with_cell now (Mux stores next place) → new ≡ unrolled_before f (first_state f + (j + 1))
    state_added new added = cell_added (first_state f + j) now is state_there (Mux stores next place) this_state new (first_state f + (j + 1)) added (omega arith)

  -- none but the inputs
  pub inputs_before : (now : Netlist) (inputs : ℕ) → now ≡ record { inputs = inputs; cells = first_cells inputs; boxes = []; outs = [] } → inputs ≡ unrolled_inputs f → now ≡ unrolled_before f (unrolled_inputs f + 2)
  inputs_before now inputs is same =
      is ∙ ap (λ (n : ℕ). record { inputs = n; cells = first_cells n; boxes = []; outs = [] }) same
      ∙ ap (λ (cells : List Cell). record (unrolled f) { cells = cells }) (sym (inputs_taken f))

  -- all of them
  pub whole_before : (now : Netlist) (n : ℕ) → now ≡ unrolled_before f n → length (unrolled_cells f) ≤ n → now ≡ unrolled f
  whole_before now n is all = is ∙ ap (λ (cells : List Cell). record (unrolled f) { cells = cells }) (take_all n (unrolled_cells f) all)
