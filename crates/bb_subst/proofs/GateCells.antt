-- Cells without boxes, gate by gate: with one gate more they stay so, and such cells are a netlist's.
use Rattle.std.proofs.Common.{◌≡◌, ℕ, zero, suc, ◌+◌, ◌^◌, ◌<◌, ◌≤◌, ◌⊎◌, inl, inr, false, List, [], ◌∷◌, ◌++◌, length, take, All, refl, sym, ap, ◌∙◌, subst, arith, length-append}
use Rattle.std.specs.List.{range_with_len}
use Rattle.std.proofs.lemmas.List.{get_or_append_left, get_or_push, length-map, length-take, take-append-le, take_all}
use Rattle.std.proofs.lemmas.List.Elements.{All-nil}
use Rattle.std.proofs.lemmas.List.FromFn.{get_or-map-range_with_len}
use Rattle.bb_lemmas.proofs.Orders.{less_or_not}
use Rattle.bb_lemmas.proofs.Ranges.{length-range}
use Rattle.bb_net.specs.declared.cell.Cell.{Cell}
use Rattle.bb_net.specs.declared.cell.Cell.TheVariants.{Const, Input, Not, And, Or, Xor, Mux, BoxOut}
use Rattle.bb_net.specs.Netlists.{Netlist, cell_at, first_cells, ReadsBefore, IsNetlist}

-- a gate that reads cells before a place
abbrev pub IsGateAt : ℕ → ℕ → Cell → Type 0
IsGateAt inputs place (BoxOut b p) = ⊥
IsGateAt inputs place cell = ReadsBefore inputs [] place cell

-- the cells begin with the constants and the inputs, and all are such gates
pub record IsPlain (net : Netlist) : Type 0 where
  pub prefix : take (net.inputs + 2) net.cells ≡ first_cells net.inputs
  pub gates : (place : ℕ) → place < length net.cells → IsGateAt net.inputs place (cell_at net.cells place)

abbrev pub one_more : Netlist → Cell → Netlist
one_more net c = record net { cells = net.cells ++ c ∷ [] }

first_many : (inputs : ℕ) → length (first_cells inputs) ≡ inputs + 2
first_many inputs = omega (arith, length-map (range_with_len 0 inputs) Input, length-range 0 inputs)

pub plain_more : (net : Netlist) (c : Cell) → IsPlain net → IsGateAt net.inputs (length net.cells) c → IsPlain (one_more net c)
plain_more net c plain gate = record {
  prefix = take-append-le (net.inputs + 2) net.cells (c ∷ []) long ∙ plain.prefix;
  gates = λ place lt. by place (less_or_not place (length net.cells)) lt;
}
  where
    long : net.inputs + 2 ≤ length net.cells
    long = omega (arith, ap length plain.prefix, first_many net.inputs, length-take (net.inputs + 2) net.cells)

    by : (place : ℕ) → (place < length net.cells) ⊎ (length net.cells ≤ place) → place < length (net.cells ++ c ∷ []) → IsGateAt net.inputs place (cell_at (net.cells ++ c ∷ []) place)
    by place (inl below) lt = subst (IsGateAt net.inputs place) (sym (get_or_append_left net.cells (c ∷ []) (Const false) place below)) (plain.gates place below)
    by place (inr past) lt =
        let last : length net.cells ≡ place = omega (arith, past, lt, length-append net.cells (c ∷ [])) in
        subst (λ n. IsGateAt net.inputs n (cell_at (net.cells ++ c ∷ []) n)) last
        (subst (IsGateAt net.inputs (length net.cells)) (sym (get_or_push net.cells c (Const false) (length net.cells) refl)) gate)

first_gates : (inputs k : ℕ) → k < inputs + 2 → IsGateAt inputs k (cell_at (first_cells inputs) k)
first_gates inputs zero lt = tt
first_gates inputs (suc zero) lt = tt
first_gates inputs (suc (suc j)) lt =
    let own : j < inputs = omega (arith, lt) in
    subst (IsGateAt inputs (suc (suc j))) (sym (get_or-map-range_with_len Input 0 inputs j j (Const false) own (omega arith))) own

-- the constants and the inputs alone
pub plain_first : (inputs : ℕ) → IsPlain (record { inputs = inputs; cells = first_cells inputs; boxes = []; outs = [] })
plain_first inputs = record {
  prefix = take_all (inputs + 2) (first_cells inputs) (omega (arith, first_many inputs));
  gates = λ place lt. first_gates inputs place (omega (arith, lt, first_many inputs));
}

gate_reads : (inputs place : ℕ) (c : Cell) → IsGateAt inputs place c → ReadsBefore inputs [] place c
gate_reads inputs place (Const b) reads = reads
gate_reads inputs place (Input i) reads = reads
gate_reads inputs place (Not a) reads = reads
gate_reads inputs place (And a b) reads = reads
gate_reads inputs place (Or a b) reads = reads
gate_reads inputs place (Xor a b) reads = reads
gate_reads inputs place (Mux c t e) reads = reads
gate_reads inputs place (BoxOut b p) reads = absurd reads

pub plain_is_netlist : (inputs : ℕ) (cells : List Cell) (outs : List ℕ) → IsPlain (record { inputs = inputs; cells = cells; boxes = []; outs = [] }) → All (λ place. place < length cells) outs → length cells < 2 ^ 32
    → IsNetlist (record { inputs = inputs; cells = cells; boxes = []; outs = outs })
plain_is_netlist inputs cells outs plain there fit = record {
  prefix = plain.prefix;
  ordered = λ place lt. gate_reads inputs place (cell_at cells place) (plain.gates place lt);
  listed = λ place b p lt is. absurd (subst (IsGateAt inputs place) is (plain.gates place lt));
  driven = λ b p place pin. absurd (omega (arith, pin.0));
  boxes_ordered = λ b c pin q place le has leads is. omega (arith, has.1);
  pins_there = λ b. All-nil (λ pin. pin < length cells);
  outs_there = there;
  cells_fit = fit;
  boxes_fit = omega arith;
}
