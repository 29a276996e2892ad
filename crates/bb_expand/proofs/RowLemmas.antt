-- Literals of a row, and bits of tables before a box.
use Rattle.std.proofs.Common.{◌≡◌, ℕ, ◌+◌, ◌*◌, ◌<◌, ◌≤◌, ◌^◌, zero, suc, Bool, false, not, List, [], ◌∷◌, ◌++◌, length, take, get_or, map, append_assoc, refl, sym, ap, ap₂, ◌∙◌, arith, add-one}
use Rattle.std.proofs.lemmas.List.Sums.{sum_by_more, sum_by_more_le}
use Rattle.std.proofs.lemmas.Nat.{mul-le}
use Rattle.std.proofs.lemmas.List.{get_or_read}
use Rattle.std.specs.Prelude.{slice_index}
use Rattle.std.specs.List.{flat_map, range_with_len}
use Rattle.bb_bits.specs.Numbers.{bits_of}
use Rattle.bb_cnf.specs.declared.clauses.Lit.{Lit}
use Rattle.bb_net.specs.declared.cell.Cell.{Cell}
use Rattle.bb_net.specs.declared.cell.Cell.TheVariants.{BoxOut}
use Rattle.bb_net.specs.Completions.{table_bits}
use Rattle.bb_net.specs.Kinds.{representatives}
use Rattle.bb_net.specs.Netlists.{Netlist, Pins, box_at, cell_at}
use Rattle.bb_net.specs.Values.{bit_of, flat}
use Rattle.bb_expand.specs.Expansions.{having, differing, row_clauses, cell_clauses, vector_clauses}

differing_suc : (var : ℕ → ℕ) (pins : List ℕ) (row : List Bool) (i : ℕ) → i < length pins → length row ≡ length pins
    → differing var (take (suc i) pins) (take (suc i) row) ≡ differing var (take i pins) (take i row) ++ having (var (get_or pins i 0)) (not (get_or row i false)) ∷ []
differing_suc var [] row i h e = absurd (omega (arith, h))
differing_suc var (pin ∷ pins) [] i h e = absurd (omega (arith, e))
differing_suc var (pin ∷ pins) (bit ∷ row) zero h e = refl
differing_suc var (pin ∷ pins) (bit ∷ row) (suc i) h e = ap (λ t. having (var pin) (not bit) ∷ t) (differing_suc var pins row i (omega (arith, h)) (omega (arith, e)))

pub differing_more : (var : ℕ → ℕ) (pins : List ℕ) (row : List Bool) (i : ℕ) → i < length pins → length row ≡ length pins
    → differing var (take (i + 1) pins) (take (i + 1) row) ≡ differing var (take i pins) (take i row) ++ having (var (get_or pins i 0)) (not (get_or row i false)) ∷ []
differing_more var pins row i h e = rw (add-one i) (differing_suc var pins row i h e)

-- the bits of a box follow those of the boxes before it, within all
pub bits_fit : (boxes : List Pins) (i : ℕ) (d : Pins) → i < length boxes → table_bits (take i boxes) + length (get_or boxes i d).outs * 2 ^ length (get_or boxes i d).ins ≤ table_bits boxes
bits_fit boxes i d h = sum_by_more_le (λ pins. length pins.outs * 2 ^ length pins.ins) boxes i d h

pub bits_more : (boxes : List Pins) (i : ℕ) (d : Pins) → i < length boxes → table_bits (take (i + 1) boxes) ≡ table_bits (take i boxes) + length (get_or boxes i d).outs * 2 ^ length (get_or boxes i d).ins
bits_more boxes i d h = sum_by_more (λ pins. length pins.outs * 2 ^ length pins.ins) boxes i d h

-- the variables of a row are within the box's bits
pub row_fits : (start row rows outs pin most : ℕ) → start + outs * rows ≤ most → row < rows → pin < outs → start + row * outs + pin < most
row_fits start row rows outs pin most small below there =
    let p : (row + 1) * outs ≤ rows * outs = mul-le (row + 1) outs rows outs (omega arith) (omega arith) in
    omega (arith, p, small, there)

-- a box that was read is that of its number
pub box_read : (boxes : List Pins) (b : ℕ) (pins : Pins) → b < length boxes → pins ≡ get_or boxes b pins → pins ≡ box_at boxes b
box_read boxes b pins there is = get_or_read boxes b pins there is (record { ins = []; outs = [] })

-- the bits of the table of a box's kind are few where those of all kinds are
pub pin_small : (representatives : List Pins) (kind start most : ℕ) (pins : Pins) → kind < length representatives → length (box_at representatives kind).ins ≡ length pins.ins → length (box_at representatives kind).outs ≡ length pins.outs
    → start ≡ table_bits (take kind representatives) → table_bits representatives ≤ most → start + length pins.outs * 2 ^ length pins.ins ≤ most
pin_small representatives kind start most pins there ins outs at small =
    let p = bits_fit representatives kind (record { ins = []; outs = [] }) there in
    let q = ap₂ (λ m n. m * 2 ^ n) outs ins in
    omega (arith, p, q, at, small)

-- the clauses of an output pin are those of its cell
pub pin_clauses : (kinds : List ℕ) (boxes : List Pins) (x : List Bool) (var : ℕ → ℕ) (y : ℕ) (cell : Cell) (b p start : ℕ) (pins : Pins) → cell ≡ BoxOut b p → pins ≡ box_at boxes b
    → start ≡ table_bits (take (slice_index kinds b) (representatives kinds boxes)) → length (box_at (representatives kinds boxes) (slice_index kinds b)).outs ≡ length (box_at boxes b).outs
    → flat_map (λ row. row_clauses var pins.ins y (bits_of (length pins.ins) row) (start + row * length pins.outs + p + 1)) (range_with_len 0 (2 ^ length pins.ins)) ≡ cell_clauses kinds boxes x var y cell
pin_clauses kinds boxes x var y cell b p start pins is same at outs =
    rw (is, same, at)
    (ap (λ n. flat_map (λ row. row_clauses var (box_at boxes b).ins y (bits_of (length (box_at boxes b).ins) row) (table_bits (take (slice_index kinds b) (representatives kinds boxes)) + row * n + p + 1)) (range_with_len 0 (2 ^ length (box_at boxes b).ins))) (sym outs))

-- the clauses of a vector are those of the cells and of the outputs
pub vector_pushed : (spec imp : Netlist) (kinds : List ℕ) (v base : ℕ) (x bits : List Bool) (outs wanted : List ℕ) (old mid new : List (List Lit)) → base ≡ table_bits (representatives kinds imp.boxes) + v * length imp.cells → outs ≡ imp.outs → wanted ≡ spec.outs → bits ≡ flat spec x []
    → mid ≡ old ++ flat_map (λ place. cell_clauses kinds imp.boxes x (λ k. base + k + 1) (base + place + 1) (cell_at imp.cells place)) (range_with_len 0 (length imp.cells))
    → new ≡ mid ++ map (λ j. having (base + get_or outs j 0 + 1) (bit_of bits (get_or wanted j 0)) ∷ []) (range_with_len 0 (length outs))
    → new ≡ old ++ vector_clauses spec imp kinds v x
vector_pushed spec imp kinds v base x bits outs wanted old mid new at outs_are wanted_are bits_are cells outputs =
    outputs
    ∙ ap (λ t. t ++ map (λ j. having (base + get_or outs j 0 + 1) (bit_of bits (get_or wanted j 0)) ∷ []) (range_with_len 0 (length outs))) cells
    ∙ append_assoc old _ _
    ∙ rw (at, outs_are, wanted_are, bits_are) refl
