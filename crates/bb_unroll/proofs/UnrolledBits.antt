-- Both frames of an unrolled specification have the bits of the specification.
use Rattle.std.proofs.Common.{◌≡◌, ℕ, zero, suc, ◌+◌, ◌-◌, ◌*◌, ◌<◌, ◌≤◌, ◌⊎◌, Bool, true, false, not, ◌&&◌, ◌||◌, if◌then◌else◌, List, [], ◌∷◌, length, map, Some, None, refl, sym, ap, ap₂, ◌∙◌, arith, inl, inr}
use Rattle.std.specs.Prelude.{All, slice_get, slice_index}
use Rattle.std.specs.List.{range_with_len}
use Rattle.std.proofs.lemmas.Bool.{cases_lt}
use Rattle.std.proofs.lemmas.List.{get_or_append_left, get_or-append-add, get_or-take}
use Rattle.std.proofs.lemmas.List.Elements.{All-head, All-tail}
use Rattle.std.proofs.lemmas.List.FromFn.{get_or-map-range_with_len, length-map-range_with_len}
use Rattle.bb_lemmas.proofs.Places.{some_at, some_same}
use Rattle.bb_net.specs.declared.cell.Cell.{Cell}
use Rattle.bb_net.specs.declared.cell.Cell.TheVariants.{Const, Input, Not, And, Or, Xor, Mux, BoxOut}
use Rattle.bb_net.specs.declared.flat.Reg.{Reg}
use Rattle.bb_net.specs.Flats.{FlatNet}
use Rattle.bb_net.specs.Netlists.{Netlist, Pins, IsOrdered, ReadsBefore, box_at, cell_at, first_cells}
use Rattle.bb_net.specs.Values.{IsValue, bit_of, flat, free_bit, gate, value_of, xor}
use Rattle.bb_unroll.specs.declared.places.Frame.{Frame}
use Rattle.bb_unroll.specs.declared.places.Frame.TheVariants.{Present, Next}
use Rattle.bb_unroll.specs.Inside.Building.{gate_in, gates_begin, input_in, place_in}
use Rattle.bb_unroll.specs.Events.{CanBeUnrolled, UnrolledHaveBits, edge_at, inputs_after, is_edge, states_after, stores}
use Rattle.bb_unroll.specs.Unrolled.{clock_of, fall_input, falls_place, first_edge, first_gate, first_state, next_input, next_place, ports, present_place, rise_input, state_cell, stores_place, unrolled, unrolled_cells, unrolled_inputs}
use Rattle.bb_unroll.proofs.UnrolledCells.{cells_long, falls_at, gate_at, input_at, not_rises_at, state_at}
use Rattle.bb_unroll.proofs.UnrolledOrder.{clock_there, data_there, no_pin, unrolled_ordered}
use Rattle.bb_unroll.proofs.UnrolledPlaces.{next_constant, next_port, next_state, place_is, place_there, present_low}

-- the laws of bb_net on values

abbrev pub ValuesExist : Type 0
ValuesExist = (net : Netlist) (x : List Bool) (box : ℕ → ℕ → List Bool → Bool) → IsOrdered net → IsValue net x box (value_of net x box)

abbrev pub ValuesAreOne : Type 0
ValuesAreOne = (net : Netlist) (x : List Bool) (box : ℕ → ℕ → List Bool → Bool) (bits : List Bool) → IsOrdered net → IsValue net x box bits → bits ≡ value_of net x box

-- bits that each cell gives of those that it reads are the value

map_below : (f g : ℕ → Bool) (m : ℕ) → ((k : ℕ) → k < m → f k ≡ g k) → (xs : List ℕ) → All (λ k. k < m) xs → map f xs ≡ map g xs
map_below f g m same [] all = refl
map_below f g m same (x ∷ xs) all = ap₂ ◌∷◌ (same x (All-head (λ k. k < m) x xs all)) (map_below f g m same xs (All-tail (λ k. k < m) x xs all))

gate_same : (inputs : ℕ) (boxes : List Pins) (x : List Bool) (box : ℕ → ℕ → List Bool → Bool) (v w : ℕ → Bool) (place : ℕ) → ((k : ℕ) → k < place → v k ≡ w k) → (c : Cell) → ReadsBefore inputs boxes place c → gate boxes x box v c ≡ gate boxes x box w c
gate_same inputs boxes x box v w place same (Const b) reads = refl
gate_same inputs boxes x box v w place same (Input i) reads = refl
gate_same inputs boxes x box v w place same (Not a) reads = ap not (same a reads)
gate_same inputs boxes x box v w place same (And a b) reads = ap₂ ◌&&◌ (same a reads.0) (same b reads.1)
gate_same inputs boxes x box v w place same (Or a b) reads = ap₂ ◌||◌ (same a reads.0) (same b reads.1)
gate_same inputs boxes x box v w place same (Xor a b) reads = ap₂ xor (same a reads.0) (same b reads.1)
gate_same inputs boxes x box v w place same (Mux c t e) reads =
    ap₂ (λ (y z : Bool). if v c then y else z) (same t reads.1) (same e reads.2) ∙ ap (λ (y : Bool). if y then w t else w e) (same c reads.0)
gate_same inputs boxes x box v w place same (BoxOut b p) reads = ap (box b p) (map_below v w place same (box_at boxes b).ins reads)

pub solved_bits : ValuesAreOne → (net : Netlist) → IsOrdered net → (x : List Bool) (box : ℕ → ℕ → List Bool → Bool) (v : ℕ → Bool) → ((k : ℕ) → k < length net.cells → v k ≡ gate net.boxes x box v (cell_at net.cells k))
    → (k : ℕ) → k < length net.cells → v k ≡ bit_of (value_of net x box) k
solved_bits once net ordered x box v solves k lt = sym (own k lt) ∙ ap (λ l. bit_of l k) (once net x box bits ordered is)
  where
    bits : List Bool
    bits = map v (range_with_len 0 (length net.cells))

    own : (k : ℕ) → k < length net.cells → bit_of bits k ≡ v k
    own k h = get_or-map-range_with_len v 0 (length net.cells) k k false h (omega arith)

    is : IsValue net x box bits
    is = record {
      whole = length-map-range_with_len v 0 (length net.cells);
      each = λ k h. own k h ∙ solves k h ∙ gate_same net.inputs net.boxes x box v (bit_of bits) k (λ j low. sym (own j (omega (arith, low, h)))) (cell_at net.cells k) (ordered k h);
    }

and_self : (b : Bool) → (b && b) ≡ b
and_self true = refl
and_self false = refl

-- a falling register stores where its clock falls and does not rise, a rising one where it rises

falls_where : (rise fall : Bool) → (fall && not rise) ≡ is_edge (if rise then Some false else (if fall then Some true else None)) true
falls_where true true = refl
falls_where true false = refl
falls_where false true = refl
falls_where false false = refl

rises_where : (rise fall : Bool) → rise ≡ is_edge (if rise then Some false else (if fall then Some true else None)) false
rises_where true fall = refl
rises_where false true = refl
rises_where false false = refl

state_bit : (f : FlatNet) (x : List Bool) (j i : ℕ) (regs : List Reg) (r : Reg) → slice_get regs i ≡ Some r
    → bit_of (states_after f x j regs) i ≡ (if stores f x r then bit_of (flat f.net x []) (slice_index f.net.outs (length f.outs + (j + i))) else bit_of x (ports f + (j + i)))
state_bit f x j i [] r at = cc
state_bit f x j zero (s ∷ rest) r at =
    ap₂ (λ (q : Reg) (n : ℕ). if stores f x q then bit_of (flat f.net x []) (slice_index f.net.outs (length f.outs + n)) else bit_of x (ports f + n)) (some_same s r at) (omega arith)
state_bit f x j (suc i) (s ∷ rest) r at =
    state_bit f x (suc j) i rest r at
    ∙ ap (λ (n : ℕ). if stores f x r then bit_of (flat f.net x []) (slice_index f.net.outs (length f.outs + n)) else bit_of x (ports f + n)) (omega arith)

module _ (exist : ValuesExist) (once : ValuesAreOne) (f : FlatNet) (can : CanBeUnrolled f) (x : List Bool) where
  abbrev v : ℕ → Bool
  v = bit_of (flat (unrolled f) x [])

  here : (place : ℕ) (c : Cell) → place < length (unrolled_cells f) → cell_at (unrolled_cells f) place ≡ c → v place ≡ gate [] x (free_bit [] []) v c
  here place c lt is = (exist (unrolled f) x (free_bit [] []) (unrolled_ordered f can)).each place lt ∙ ap (gate [] x (free_bit [] []) v) is

  zero_bit : v 0 ≡ false
  zero_bit = here 0 (Const false) (omega (arith, cells_long f)) (input_at f 0 (omega arith))

  one_bit : v 1 ≡ true
  one_bit = here 1 (Const true) (omega (arith, cells_long f)) (input_at f 1 (omega arith))

  input_cell : (n i : ℕ) → i < n → cell_at (first_cells n) (i + 2) ≡ Input i
  input_cell n i lt = ap (cell_at (first_cells n)) {y = suc (suc i)} (omega arith) ∙ get_or-map-range_with_len Input 0 n i i (Const false) lt (omega arith)

  input_bit : (i : ℕ) → i < unrolled_inputs f → v (i + 2) ≡ bit_of x i
  input_bit i lt = here (i + 2) (Input i) (omega (arith, lt, cells_long f)) (input_at f (i + 2) (omega (arith, lt)) ∙ input_cell (unrolled_inputs f) i lt)

  -- a frame has the bits of the specification at its own inputs
  module _ (frame : Frame) (y : List Bool) (inputs : (i : ℕ) → i < f.net.inputs → v (place_in f frame (i + 2)) ≡ bit_of y i) where
    abbrev w : ℕ → Bool
    w k = v (place_in f frame k)

    input_gate : (frame : Frame) (i : ℕ) → i < f.net.inputs → v (place_in f frame (i + 2)) ≡ bit_of y i → gate [] x (free_bit [] []) v (input_in f frame i) ≡ bit_of y i
    input_gate Present i lt is = sym (input_bit i (omega (arith, lt))) ∙ ap v (sym (present_low f (i + 2) (omega (arith, lt)))) ∙ is
    input_gate Next i lt is = and_self (v (next_place f (i + 2))) ∙ is

    moved_gate : (k : ℕ) (c : Cell) → ReadsBefore f.net.inputs f.net.boxes k c → ((b p : ℕ) → c ≡ BoxOut b p → ⊥) → gate [] x (free_bit [] []) v (gate_in f frame c) ≡ gate f.net.boxes y (free_bit f.net.boxes []) w c
    moved_gate k (Const b) reads none = refl
    moved_gate k (Input i) reads none = input_gate frame i reads (inputs i reads)
    moved_gate k (Not a) reads none = refl
    moved_gate k (And a b) reads none = refl
    moved_gate k (Or a b) reads none = refl
    moved_gate k (Xor a b) reads none = refl
    moved_gate k (Mux c t e) reads none = refl
    moved_gate k (BoxOut b p) reads none = absurd (none b p refl)

    constant_place : (frame : Frame) (k : ℕ) → k < 2 → place_in f frame k ≡ k
    constant_place Present k lt = present_low f k (omega (arith, lt))
    constant_place Next k lt = next_constant f k lt

    first_bit : (k : ℕ) → k < first_gate f → w k ≡ gate f.net.boxes y (free_bit f.net.boxes []) w (cell_at (first_cells f.net.inputs) k)
    first_bit zero lt = ap v (constant_place frame 0 (omega arith)) ∙ zero_bit
    first_bit (suc zero) lt = ap v (constant_place frame 1 (omega arith)) ∙ one_bit
    first_bit (suc (suc i)) lt =
        let low : i < f.net.inputs = omega (arith, lt) in
        let two : suc (suc i) ≡ i + 2 = omega arith in
        ap w two ∙ inputs i low ∙ ap (gate f.net.boxes y (free_bit f.net.boxes []) w) (sym (ap (cell_at (first_cells f.net.inputs)) two ∙ input_cell f.net.inputs i low))

    solves : (k : ℕ) → k < length f.net.cells → w k ≡ gate f.net.boxes y (free_bit f.net.boxes []) w (cell_at f.net.cells k)
    solves k lt = by (cases_lt k (first_gate f))
      where
        by : (k < first_gate f) ⊎ (first_gate f ≤ k) → w k ≡ gate f.net.boxes y (free_bit f.net.boxes []) w (cell_at f.net.cells k)
        by (inl low) =
            first_bit k low
            ∙ ap (gate f.net.boxes y (free_bit f.net.boxes []) w) (sym (ap (λ l. cell_at l k) can.is_flat.net.prefix) ∙ get_or-take (first_gate f) f.net.cells k (Const false) low)
        by (inr past) =
            ap v (place_is f can.is_flat frame k past)
            ∙ here (gates_begin f frame + (k - first_gate f)) (gate_in f frame (cell_at f.net.cells k)) (within frame) (gate_at f frame k past lt)
            ∙ moved_gate k (cell_at f.net.cells k) (can.is_flat.net.ordered k lt) (λ b p. no_pin f can k b p lt)
          where
            within : (frame : Frame) → gates_begin f frame + (k - first_gate f) < length (unrolled_cells f)
            within Present = omega (arith, place_there f can.is_flat Present k lt, place_is f can.is_flat Present k past, cells_long f)
            within Next = omega (arith, place_there f can.is_flat Next k lt, place_is f can.is_flat Next k past, cells_long f)

    frame_bits : (k : ℕ) → k < length f.net.cells → v (place_in f frame k) ≡ bit_of (flat f.net y []) k
    frame_bits k lt = solved_bits once f.net can.is_flat.net.ordered y (free_bit f.net.boxes []) w solves k lt

  pub present_bits : (k : ℕ) → k < length f.net.cells → v (present_place f k) ≡ bit_of (flat f.net x []) k
  present_bits = frame_bits Present x (λ i lt. ap v (present_low f (i + 2) (omega (arith, lt))) ∙ input_bit i (omega (arith, lt)))

  -- a register stores at its edge

  rise_bit : (i : ℕ) → i < ports f → v (rise_input f i + 2) ≡ bit_of x (rise_input f i)
  rise_bit i lt = input_bit (rise_input f i) (omega (arith, lt))

  falls_bit : (i : ℕ) → i < ports f → v (falls_place f i) ≡ (bit_of x (fall_input f i) && not (bit_of x (rise_input f i)))
  falls_bit i lt =
      here (falls_place f i) (And (fall_input f i + 2) (first_edge f + 2 * i)) (omega (arith, lt, cells_long f)) (falls_at f i lt)
      ∙ ap₂ ◌&&◌ (input_bit (fall_input f i) (omega (arith, lt)))
      (here (first_edge f + 2 * i) (Not (rise_input f i + 2)) (omega (arith, lt, cells_long f)) (not_rises_at f i lt) ∙ ap not (rise_bit i lt))

  edge_bit : (falling : Bool) (i : ℕ) → i < ports f → v (if falling then falls_place f i else rise_input f i + 2) ≡ is_edge (edge_at f x i) falling
  edge_bit true i lt = falls_bit i lt ∙ falls_where (bit_of x (rise_input f i)) (bit_of x (fall_input f i))
  edge_bit false i lt = rise_bit i lt ∙ rises_where (bit_of x (rise_input f i)) (bit_of x (fall_input f i))

  -- and then takes its next state

  after_state : (j : ℕ) → j < length f.regs → v (first_state f + j) ≡ bit_of (states_after f x 0 f.regs) j
  after_state j lt =
      let r = some_at f.regs j lt in
      here (first_state f + j) (state_cell f j r.0) (omega (arith, lt, cells_long f)) (state_at f j r.0 r.1 lt)
      ∙ ap₂ (λ (b c : Bool). if v (stores_place f r.0) then b else c) (present_bits (slice_index f.net.outs (length f.outs + j)) (data_there f can j lt))
      (input_bit (ports f + j) (omega (arith, lt, can.is_flat.named.inputs)))
      ∙ ap (λ (b : Bool). if b then bit_of (flat f.net x []) (slice_index f.net.outs (length f.outs + j)) else bit_of x (ports f + j)) (edge_bit r.0.falling (clock_of r.0.clock) (clock_there f can r.0 j r.1))
      ∙ ap (λ (n : ℕ). if stores f x r.0 then bit_of (flat f.net x []) (slice_index f.net.outs (length f.outs + n)) else bit_of x (ports f + n)) (omega arith)
      ∙ sym (state_bit f x 0 j f.regs r.0 r.1)

  -- the inputs of the second frame

  abbrev new_ports : List Bool
  new_ports = map (λ i. bit_of x (next_input f i)) (range_with_len 0 (ports f))

  new_ports_long : length new_ports ≡ ports f
  new_ports_long = length-map-range_with_len (λ i. bit_of x (next_input f i)) 0 (ports f)

  after_bit : (i : ℕ) → i < f.net.inputs → v (next_place f (i + 2)) ≡ bit_of (inputs_after f x) i
  after_bit i lt = by (cases_lt i (ports f))
    where
      by : (i < ports f) ⊎ (ports f ≤ i) → v (next_place f (i + 2)) ≡ bit_of (inputs_after f x) i
      by (inl port) =
          ap v (next_port f (i + 2) (omega arith) (omega (arith, port)) ∙ omega arith) ∙ input_bit (next_input f i) (omega (arith, port))
          ∙ sym (get_or_append_left new_ports (states_after f x 0 f.regs) false i (omega (arith, port, new_ports_long)) ∙ get_or-map-range_with_len (λ i. bit_of x (next_input f i)) 0 (ports f) i i false port (omega arith))
      by (inr past) =
          let j = i - ports f in
          ap v (next_state f (i + 2) (omega (arith, past)) (omega (arith, lt)) ∙ omega (arith, past)) ∙ after_state j (omega (arith, lt, past, can.is_flat.named.inputs))
          ∙ sym (ap (bit_of (inputs_after f x)) (omega (arith, past, new_ports_long)) ∙ get_or-append-add new_ports (states_after f x 0 f.regs) j false)

  pub next_bits : (k : ℕ) → k < length f.net.cells → v (next_place f k) ≡ bit_of (flat f.net (inputs_after f x) []) k
  next_bits = frame_bits Next (inputs_after f x) after_bit

pub unrolled_have_bits : ValuesExist → ValuesAreOne → UnrolledHaveBits
unrolled_have_bits exist once f can x k lt = (present_bits exist once f can x k lt, next_bits exist once f can x k lt)
