-- A model of an expansion has tables in its first bits, and with these its other bits are the bits of the cells.
use Rattle.std.proofs.Common.{◌≡◌, ℕ, ◌<◌, ◌^◌, Bool, false, List, [], ◌∷◌, length, map, get_or, All, sym, ap, subst, ◌∙◌, arith}
use Rattle.std.specs.Prelude.{slice_index}
use Rattle.std.specs.List.{range_with_len}
use Rattle.std.proofs.lemmas.List.{length-map}
use Rattle.std.proofs.lemmas.List.Elements.{All-from_get_or, All-get_or}
use Rattle.std.proofs.lemmas.List.FromFn.{length-map-range_with_len, get_or-map-range_with_len}
use Rattle.bb_bits.specs.Numbers.{number_of}
use Rattle.bb_bits.specs.Tables.{TableBits, table_bit}
use Rattle.bb_net.specs.declared.cell.Cell.TheVariants.{BoxOut}
use Rattle.bb_net.specs.Equivalence.{AllRight, wanted_bit}
use Rattle.bb_net.specs.Kinds.{FitKinds, representatives, per_box}
use Rattle.bb_net.specs.Netlists.{Netlist, IsNetlist, cell_at, box_at}
use Rattle.bb_net.specs.Values.{bit_of, IsValue, tabled_bit, flat_with, FitBoxes}
use Rattle.bb_cnf.specs.Truth.{IsTrueClause, Satisfies, assignment_of, IsModel}
use Rattle.bb_expand.specs.Expansions.{having, cell_variable, cell_clauses, cells_clauses, output_clauses, vector_clauses, expansion}
use Rattle.bb_expand.specs.Laws.{assigned_bit}
use Rattle.bb_expand.specs.Inside.ReadTables.{tables_in}
use Rattle.bb_expand.proofs.BoxesThere.{cell_has_box}
use Rattle.bb_expand.specs.Inside.LawsBelow.{Numbering, Sharing, ValueIsUnique}
use Rattle.bb_expand.proofs.CellLaw.{cell_law}
use Rattle.bb_expand.proofs.GateSame.{gate_same}
use Rattle.bb_expand.proofs.Pieces.{all_left, all_right, piece_holds, each_holds}
use Rattle.bb_expand.proofs.SharedBoxes.{kind_shown, pin_shown, row_shown}
use Rattle.bb_expand.proofs.TableBits.{read_fit, read_bit}
use Rattle.bb_expand.proofs.Tested.{unit_reports}

-- the number of bits of input pins is that of a row
pub row_below : Numbering → (value : ℕ → Bool) (pins : List ℕ) → number_of (map value pins) < 2 ^ length pins
row_below numbering value pins = subst (λ n. number_of (map value pins) < 2 ^ n) (length-map pins value) (numbering.below (map value pins))

module _ (numbering : Numbering) (unique : ValueIsUnique) (sharing : Sharing) (spec imp : Netlist) (kinds : List ℕ) (kept : IsNetlist imp) (fits : FitKinds kinds imp.boxes) (vectors : List (List Bool)) (bits : List Bool)
    (model : IsModel bits (expansion spec imp kinds vectors)) where
  abbrev assigns : ℕ → Bool
  assigns = assignment_of bits

  abbrev tables : List TableBits
  tables = tables_in (representatives kinds imp.boxes) bits

  -- the tables of all boxes
  abbrev all : List TableBits
  all = per_box kinds tables

  pub model_fits : FitBoxes tables (representatives kinds imp.boxes)
  model_fits = read_fit (representatives kinds imp.boxes) bits (omega (arith, model.0))

  module _ (v : ℕ) (there : v < length vectors) where
    abbrev x : List Bool
    x = get_or vectors v []

    abbrev var : ℕ → ℕ
    var = cell_variable imp kinds v

    -- the bits of the cells at this vector
    abbrev cell_bits : List Bool
    cell_bits = map (λ q. assigns (var q)) (range_with_len 0 (length imp.cells))

    here : Satisfies assigns (vector_clauses spec imp kinds v x)
    here = piece_holds (IsTrueClause assigns) (λ k. vector_clauses spec imp kinds k (get_or vectors k [])) (length vectors) model.1 v there

    bit_is : (q : ℕ) → q < length imp.cells → bit_of cell_bits q ≡ assigns (var q)
    bit_is q h = get_or-map-range_with_len (λ k. assigns (var k)) 0 (length imp.cells) q q false h (omega arith)

    cell_true : (place : ℕ) → place < length imp.cells → Satisfies assigns (cell_clauses kinds imp.boxes x var (var place) (cell_at imp.cells place))
    cell_true place h = piece_holds (IsTrueClause assigns) (λ q. cell_clauses kinds imp.boxes x var (var q) (cell_at imp.cells q)) (length imp.cells)
        (all_left (IsTrueClause assigns) (cells_clauses imp kinds v x) (output_clauses spec imp kinds v x) here) place h

    box_same : (place b p : ℕ) → place < length imp.cells → cell_at imp.cells place ≡ BoxOut b p
        → assigned_bit kinds imp.boxes assigns b p (map (bit_of cell_bits) (box_at imp.boxes b).ins) ≡ tabled_bit all b p (map (bit_of cell_bits) (box_at imp.boxes b).ins)
    box_same place b p h is =
        let has = (kept.listed place b p h is).0 in
        let there : b < length imp.boxes = cell_has_box imp kept place b p h is in
        let row : ℕ = number_of (map (bit_of cell_bits) (box_at imp.boxes b).ins) in
        sym (ap (λ t. table_bit t row p) (sharing.at kinds tables b (omega (arith, there, fits.count)))
        ∙ read_bit (representatives kinds imp.boxes) bits (slice_index kinds b) row p (kind_shown sharing kinds imp.boxes fits b there)
        (row_shown sharing kinds imp.boxes fits b row there (row_below numbering (bit_of cell_bits) (box_at imp.boxes b).ins)) (pin_shown sharing kinds imp.boxes fits b p has))

    is_value : IsValue imp x (tabled_bit all) cell_bits
    is_value = record {
      whole = length-map-range_with_len (λ q. assigns (var q)) 0 (length imp.cells);
      each = λ place h.
          bit_is place h
          ∙ (cell_law numbering kinds imp.boxes x var (var place) (cell_at imp.cells place) assigns).0 (cell_true place h)
          ∙ gate_same imp.inputs imp.boxes x (assigned_bit kinds imp.boxes assigns) (tabled_bit all) (λ k. assigns (var k)) (bit_of cell_bits) place (cell_at imp.cells place) (kept.ordered place h)
          (λ k below. sym (bit_is k (omega (arith, below, h)))) (λ b p is. box_same place b p h is);
    }

    right : AllRight spec imp x (flat_with imp x all)
    right j h =
        let out : ℕ = get_or imp.outs j 0 in
        let placed : out < length imp.cells = All-get_or (λ k. k < length imp.cells) imp.outs j 0 h kept.outs_there in
        let unit = each_holds (IsTrueClause assigns) (λ i. having (var (get_or imp.outs i 0)) (wanted_bit spec x i) ∷ []) (length imp.outs)
        (all_right (IsTrueClause assigns) (cells_clauses imp kinds v x) (output_clauses spec imp kinds v x) here) j h in
        ap (λ value. bit_of value out) (sym (unique imp x (tabled_bit all) cell_bits kept.ordered is_value))
        ∙ bit_is out placed
        ∙ (unit_reports assigns (var out) (wanted_bit spec x j)).0 unit

  pub model_right : All (λ y. AllRight spec imp y (flat_with imp y all)) vectors
  model_right = All-from_get_or (λ y. AllRight spec imp y (flat_with imp y all)) vectors [] right
