-- Tables, and with them the bits of the cells at each vector, are a model of an expansion.
use Rattle.std.proofs.Common.{◌≡◌, ℕ, ◌+◌, ◌*◌, ◌<◌, ◌^◌, Bool, false, List, [], ◌∷◌, ◌++◌, length, map, take, get_or, All, sym, ap, ap₂, ◌∙◌, arith}
use Rattle.std.specs.Prelude.{slice_index}
use Rattle.std.specs.List.{flat_map}
use Rattle.std.proofs.lemmas.List.{length-append, length-take-le, take_all, get_or_append_left, get_or-append-add}
use Rattle.std.proofs.lemmas.List.Concat.{get_or-flat_map}
use Rattle.std.proofs.lemmas.List.Elements.{All-append, All-get_or}
use Rattle.std.proofs.lemmas.List.Folds.{length-flat_map-take}
use Rattle.std.proofs.lemmas.List.FromFn.{length-map-range_with_len}
use Rattle.bb_bits.specs.Numbers.{number_of}
use Rattle.bb_bits.specs.Tables.{TableBits, table_bit}
use Rattle.bb_net.specs.declared.cell.Cell.TheVariants.{BoxOut}
use Rattle.bb_net.specs.Equivalence.{AllRight, wanted_bit}
use Rattle.bb_net.specs.Completions.{table_bits}
use Rattle.bb_net.specs.Kinds.{FitKinds, representatives, per_box}
use Rattle.bb_net.specs.Netlists.{Netlist, Pins, IsNetlist, cell_at, box_at}
use Rattle.bb_net.specs.Values.{bit_of, tabled_bit, flat_with, FitBoxes, table_at, bit_at}
use Rattle.bb_cnf.specs.Truth.{IsTrueClause, Satisfies, assignment_of, IsModel}
use Rattle.bb_expand.specs.Expansions.{having, cell_variable, table_variable, cell_clauses, cells_clauses, output_clauses, vector_clauses, expansion}
use Rattle.bb_expand.specs.Laws.{assigned_bit}
use Rattle.bb_expand.proofs.BoxesThere.{cell_has_box}
use Rattle.bb_expand.specs.Inside.LawsBelow.{Numbering, Sharing, ValueExists}
use Rattle.bb_expand.proofs.CellLaw.{cell_law}
use Rattle.bb_expand.proofs.FromModel.{row_below}
use Rattle.bb_expand.proofs.GateSame.{gate_same}
use Rattle.bb_expand.proofs.Pieces.{pieces_hold, all_hold, length-pieces}
use Rattle.bb_expand.proofs.RowLemmas.{row_fits}
use Rattle.bb_expand.proofs.SharedBoxes.{kind_shown, pin_shown, row_shown}
use Rattle.bb_expand.proofs.TableBits.{assigned, length-rows}
use Rattle.bb_expand.proofs.Tested.{unit_reports}

module _ (numbering : Numbering) (exists : ValueExists) (sharing : Sharing) (spec imp : Netlist) (kinds : List ℕ) (kept : IsNetlist imp) (fits : FitKinds kinds imp.boxes) (vectors : List (List Bool))
    (tables : List TableBits) (fit : FitBoxes tables (representatives kinds imp.boxes)) (right : All (λ y. AllRight spec imp y (flat_with imp y (per_box kinds tables))) vectors) where
  -- the boxes that are shown, and the tables of all
  abbrev boxes : List Pins
  boxes = representatives kinds imp.boxes

  abbrev all : List TableBits
  all = per_box kinds tables

  abbrev rows : List Bool
  rows = flat_map (λ (t : TableBits). t.rows) tables

  abbrev cells_at : List Bool → List Bool
  cells_at y = flat_with imp y all

  abbrev pub bits : List Bool
  bits = rows ++ flat_map cells_at vectors

  abbrev assigns : ℕ → Bool
  assigns = assignment_of bits

  length-rows_all : length rows ≡ table_bits boxes
  length-rows_all =
      let tables_all = take_all (length boxes) tables (omega (arith, fit.count)) in
      let boxes_all = take_all (length boxes) boxes (omega arith) in
      ap (λ ts. length (flat_map (λ (t : TableBits). t.rows) ts)) (sym tables_all) ∙ length-rows tables boxes fit (length boxes) (omega arith) ∙ ap table_bits boxes_all

  length-cells_at : (y : List Bool) → length (cells_at y) ≡ length imp.cells
  length-cells_at y = length-map-range_with_len (bit_at imp.cells imp.boxes y (tabled_bit all)) 0 (length imp.cells)

  pub length-bits : length bits ≡ table_bits boxes + length vectors * length imp.cells
  length-bits = length-append rows (flat_map cells_at vectors) ∙ ap₂ (λ m n. m + n) length-rows_all (length-pieces cells_at (length imp.cells) length-cells_at vectors)

  table_is : (b row p : ℕ) → b < length boxes → row < 2 ^ length (box_at boxes b).ins → p < length (box_at boxes b).outs
      → assigns (table_variable boxes b row p) ≡ table_bit (table_at tables b) row p
  table_is b row p h below there =
      let none : TableBits = record { inputs = 0; outputs = 0; rows = [] } in
      let table : TableBits = table_at tables b in
      let outs : table.outputs ≡ length (box_at boxes b).outs = fit.outputs b h in
      let ins : 2 ^ table.inputs ≡ 2 ^ length (box_at boxes b).ins = ap (λ k. 2 ^ k) (fit.inputs b h) in
      let listed : b < length tables = omega (arith, h, fit.count) in
      let inner = row_fits 0 row (2 ^ table.inputs) table.outputs p (table.outputs * 2 ^ table.inputs) (omega arith) (omega (arith, below, ins)) (omega (arith, there, outs)) in
      let inside : row * table.outputs + p < length table.rows = omega (arith, inner, fit.whole b h) in
      let before = length-rows tables boxes fit b (omega (arith, h)) in
      let within = length-flat_map-take (λ (t : TableBits). t.rows) tables b none listed in
      let start : ℕ = length (flat_map (λ (t : TableBits). t.rows) (take b tables)) in
      let place : table_variable boxes b row p ≡ start + (row * table.outputs + p) + 1 = omega (arith, before, ap (λ n. row * n) outs) in
      sym (assigned bits (start + (row * table.outputs + p)) (table_variable boxes b row p) place)
      ∙ get_or_append_left rows (flat_map cells_at vectors) false (start + (row * table.outputs + p)) (omega (arith, within, inside))
      ∙ get_or-flat_map (λ (t : TableBits). t.rows) tables b (row * table.outputs + p) none false listed inside

  module _ (v : ℕ) (there : v < length vectors) where
    abbrev x : List Bool
    x = get_or vectors v []

    abbrev var : ℕ → ℕ
    var = cell_variable imp kinds v

    cell_is : (q : ℕ) → q < length imp.cells → assigns (var q) ≡ bit_of (cells_at x) q
    cell_is q h =
        let pieces = length-pieces cells_at (length imp.cells) length-cells_at (take v vectors) in
        let taken = length-take-le v vectors (omega (arith, there)) in
        let before : length (flat_map cells_at (take v vectors)) ≡ v * length imp.cells = pieces ∙ ap (λ n. n * length imp.cells) taken in
        sym (assigned bits (length rows + (length (flat_map cells_at (take v vectors)) + q)) (var q) (omega (arith, before, length-rows_all)))
        ∙ get_or-append-add rows (flat_map cells_at vectors) (length (flat_map cells_at (take v vectors)) + q) false
        ∙ get_or-flat_map cells_at vectors v q [] false there (omega (arith, h, length-cells_at x))

    box_same : (place b p : ℕ) → place < length imp.cells → cell_at imp.cells place ≡ BoxOut b p
        → tabled_bit all b p (map (λ k. assigns (var k)) (box_at imp.boxes b).ins) ≡ assigned_bit kinds imp.boxes assigns b p (map (λ k. assigns (var k)) (box_at imp.boxes b).ins)
    box_same place b p h is =
        let has = (kept.listed place b p h is).0 in
        let there : b < length imp.boxes = cell_has_box imp kept place b p h is in
        let row : ℕ = number_of (map (λ k. assigns (var k)) (box_at imp.boxes b).ins) in
        ap (λ t. table_bit t row p) (sharing.at kinds tables b (omega (arith, there, fits.count)))
        ∙ sym (table_is (slice_index kinds b) row p (kind_shown sharing kinds imp.boxes fits b there)
        (row_shown sharing kinds imp.boxes fits b row there (row_below numbering (λ k. assigns (var k)) (box_at imp.boxes b).ins)) (pin_shown sharing kinds imp.boxes fits b p has))

    cell_true : (place : ℕ) → place < length imp.cells → Satisfies assigns (cell_clauses kinds imp.boxes x var (var place) (cell_at imp.cells place))
    cell_true place h =
        (cell_law numbering kinds imp.boxes x var (var place) (cell_at imp.cells place) assigns).1 (
        cell_is place h
        ∙ (exists imp x (tabled_bit all) kept.ordered).each place h
        ∙ gate_same imp.inputs imp.boxes x (tabled_bit all) (assigned_bit kinds imp.boxes assigns) (bit_of (cells_at x)) (λ k. assigns (var k)) place (cell_at imp.cells place) (kept.ordered place h)
        (λ k below. sym (cell_is k (omega (arith, below, h)))) (λ b p is. box_same place b p h is))

    out_true : (j : ℕ) → j < length imp.outs → IsTrueClause assigns (having (var (get_or imp.outs j 0)) (wanted_bit spec x j) ∷ [])
    out_true j h =
        let placed = All-get_or (λ k. k < length imp.cells) imp.outs j 0 h kept.outs_there in
        (unit_reports assigns (var (get_or imp.outs j 0)) (wanted_bit spec x j)).1 (cell_is (get_or imp.outs j 0) placed ∙ right v [] there j h)

    vector_true : Satisfies assigns (vector_clauses spec imp kinds v x)
    vector_true = All-append (IsTrueClause assigns) (cells_clauses imp kinds v x) (output_clauses spec imp kinds v x)
        (pieces_hold (IsTrueClause assigns) (λ q. cell_clauses kinds imp.boxes x var (var q) (cell_at imp.cells q)) (length imp.cells) cell_true)
        (all_hold (IsTrueClause assigns) (λ j. having (var (get_or imp.outs j 0)) (wanted_bit spec x j) ∷ []) (length imp.outs) out_true)

  pub bits_model : IsModel bits (expansion spec imp kinds vectors)
  bits_model = (length-bits, pieces_hold (IsTrueClause assigns) (λ v. vector_clauses spec imp kinds v (get_or vectors v [])) (length vectors) vector_true)
