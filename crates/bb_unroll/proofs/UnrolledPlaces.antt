-- Where cells of a specification stand in its unrolling, frame by frame.
use Rattle.std.proofs.Common.{◌≡◌, ℕ, ◌+◌, ◌-◌, ◌<◌, ◌≤◌, ◌⊎◌, if◌then◌else◌, nat_lt, length, ap, ◌∙◌, arith, inl, inr}
use Rattle.std.specs.List.{range_with_len}
use Rattle.std.proofs.lemmas.List.{length-map, length-take}
use Rattle.std.proofs.lemmas.Bool.{cases_lt, cond-false, cond-true, le-ltb, lt-ltb}
use Rattle.bb_lemmas.proofs.Ranges.{length-range}
use Rattle.bb_net.specs.declared.cell.Cell.TheVariants.{Input}
use Rattle.bb_net.specs.Flats.{FlatNet, IsFlat}
use Rattle.bb_net.specs.Netlists.{first_cells}
use Rattle.bb_unroll.specs.declared.places.Frame.{Frame}
use Rattle.bb_unroll.specs.declared.places.Frame.TheVariants.{Present, Next}
use Rattle.bb_unroll.specs.Inside.Building.{gates_begin, place_in}
use Rattle.bb_unroll.specs.Unrolled.{first_edge, first_gate, first_state, gates, next_place, ports, present_place, unrolled_cells, unrolled_inputs}
use Rattle.bb_unroll.proofs.UnrolledCells.{cells_long, gates_long}

module _ (f : FlatNet) where
  pub present_low : (k : ℕ) → k < first_gate f → present_place f k ≡ k
  present_low k lt = cond-true (nat_lt k (first_gate f)) k (unrolled_inputs f + 2 + (k - first_gate f)) (lt-ltb k (first_gate f) lt)

  pub present_high : (k : ℕ) → first_gate f ≤ k → present_place f k ≡ unrolled_inputs f + 2 + (k - first_gate f)
  present_high k past = cond-false (nat_lt k (first_gate f)) k (unrolled_inputs f + 2 + (k - first_gate f)) (le-ltb k (first_gate f) past)

  abbrev from_state : ℕ → ℕ
  from_state k = if nat_lt k (first_gate f) then first_state f + (k - (ports f + 2)) else first_state f + length f.regs + (k - first_gate f)

  abbrev from_port : ℕ → ℕ
  from_port k = if nat_lt k (ports f + 2) then f.net.inputs + k else from_state k

  pub next_constant : (k : ℕ) → k < 2 → next_place f k ≡ k
  next_constant k lt = cond-true (nat_lt k 2) k (from_port k) (lt-ltb k 2 lt)

  pub next_port : (k : ℕ) → 2 ≤ k → k < ports f + 2 → next_place f k ≡ f.net.inputs + k
  next_port k past lt = cond-false (nat_lt k 2) k (from_port k) (le-ltb k 2 past) ∙ cond-true (nat_lt k (ports f + 2)) (f.net.inputs + k) (from_state k) (lt-ltb k (ports f + 2) lt)

  past_ports : (k : ℕ) → ports f + 2 ≤ k → next_place f k ≡ from_state k
  past_ports k past = cond-false (nat_lt k 2) k (from_port k) (le-ltb k 2 (omega (arith, past))) ∙ cond-false (nat_lt k (ports f + 2)) (f.net.inputs + k) (from_state k) (le-ltb k (ports f + 2) past)

  pub next_state : (k : ℕ) → ports f + 2 ≤ k → k < first_gate f → next_place f k ≡ first_state f + (k - (ports f + 2))
  next_state k past lt =
      past_ports k past ∙ cond-true (nat_lt k (first_gate f)) (first_state f + (k - (ports f + 2))) (first_state f + length f.regs + (k - first_gate f)) (lt-ltb k (first_gate f) lt)

  pub next_high : (k : ℕ) → ports f + 2 ≤ k → first_gate f ≤ k → next_place f k ≡ first_state f + length f.regs + (k - first_gate f)
  next_high k past gate =
      past_ports k past ∙ cond-false (nat_lt k (first_gate f)) (first_state f + (k - (ports f + 2))) (first_state f + length f.regs + (k - first_gate f)) (le-ltb k (first_gate f) gate)

module _ (f : FlatNet) (flat : IsFlat f) where
  -- it has its constants and inputs, and these are ports and registers
  pub inputs_fit : first_gate f ≤ length f.net.cells
  inputs_fit =
      let many : length (first_cells f.net.inputs) ≡ f.net.inputs + 2 = omega (arith, length-map (range_with_len 0 f.net.inputs) Input, length-range 0 f.net.inputs) in
      omega (arith, ap length flat.net.prefix, many, length-take (f.net.inputs + 2) f.net.cells)

  pub ports_first : ports f + 2 ≤ first_gate f
  ports_first = omega (arith, flat.named.inputs)

  -- a gate
  pub place_is : (frame : Frame) (k : ℕ) → first_gate f ≤ k → place_in f frame k ≡ gates_begin f frame + (k - first_gate f)
  place_is Present k past = present_high f k past
  place_is Next k past = next_high f k (omega (arith, past, ports_first)) past

  -- what is earlier in the specification is earlier in a frame
  pub place_before : (frame : Frame) (a k : ℕ) → a < k → first_gate f ≤ k → place_in f frame a < gates_begin f frame + (k - first_gate f)
  place_before Present a k lt past = by (cases_lt a (first_gate f))
    where
      by : (a < first_gate f) ⊎ (first_gate f ≤ a) → present_place f a < unrolled_inputs f + 2 + (k - first_gate f)
      by (inl low) = omega (arith, low, present_low f a low)
      by (inr high) = omega (arith, lt, high, present_high f a high)
  place_before Next a k lt past = by (cases_lt a 2) (cases_lt a (ports f + 2)) (cases_lt a (first_gate f))
    where
      by : (a < 2) ⊎ (2 ≤ a) → (a < ports f + 2) ⊎ (ports f + 2 ≤ a) → (a < first_gate f) ⊎ (first_gate f ≤ a) → next_place f a < first_state f + length f.regs + (k - first_gate f)
      by (inl constant) ports gate = omega (arith, constant, next_constant f a constant)
      by (inr past) (inl port) gate = omega (arith, port, next_port f a past port)
      by (inr past) (inr later) (inl state) = omega (arith, state, later, flat.named.inputs, next_state f a later state)
      by (inr past) (inr later) (inr high) = omega (arith, lt, high, next_high f a later high)

  -- so it is before the end
  pub place_there : (frame : Frame) (k : ℕ) → k < length f.net.cells → place_in f frame k < gates_begin f frame + length (gates f)
  place_there frame k lt =
      let before = place_before frame k (length f.net.cells) lt inputs_fit in
      omega (arith, before, gates_long f)

  pub next_there : (k : ℕ) → k < length f.net.cells → next_place f k < length (unrolled_cells f)
  next_there k lt = omega (arith, place_there Next k lt, cells_long f)

  pub present_there : (k : ℕ) → k < length f.net.cells → present_place f k < first_edge f
  present_there k lt = place_there Present k lt
