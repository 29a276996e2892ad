-- A vector at which two netlists differ, and with it the bits of the cells and of the outputs' differences, are a model of the clauses
-- at a free vector.
use Rattle.std.proofs.Common.{◌≡◌, ℕ, ◌+◌, ◌<◌, Bool, true, false, List, [], ◌∷◌, ◌++◌, length, map, get_or, refl, sym, ap₂, ◌∙◌, arith}
use Rattle.std.specs.List.{range_with_len}
use Rattle.std.proofs.lemmas.List.{length-append, get_or_append_left, get_or-append-add}
use Rattle.std.proofs.lemmas.List.Elements.{All-nil, All-cons, All-append, All-get_or}
use Rattle.std.proofs.lemmas.List.FromFn.{length-map-range_with_len, get_or-map-range_with_len}
use Rattle.bb_net.specs.declared.cell.Cell.TheVariants.{Xor}
use Rattle.bb_net.specs.Netlists.{Netlist, IsNetlist}
use Rattle.bb_net.specs.Values.{bit_of, bit_at, free_bit, flat, xor}
use Rattle.bb_cnf.specs.Clauses.{positive}
use Rattle.bb_cnf.specs.Truth.{IsTrueClause, Satisfies, assignment_of, IsModel}
use Rattle.bb_miter.specs.Inside.Equivalence.{AreComparable, DiffersAt}
use Rattle.bb_expand.specs.Expansions.{cell_clauses}
use Rattle.bb_expand.specs.Laws.{CellClausesSayGate}
use Rattle.bb_expand.specs.Inside.FreeClauses.{cells_after, output_variable, wanted_variable, difference_variable, difference_clauses, some_difference, free_clauses}
use Rattle.bb_expand.specs.Inside.LawsBelow.{ValueExists, ValueIsUnique}
use Rattle.bb_expand.proofs.FreeCells.{cells_true}
use Rattle.bb_expand.proofs.FreeModels.{difference_reports}
use Rattle.bb_expand.proofs.Pieces.{pieces_hold}
use Rattle.bb_expand.proofs.TableBits.{assigned}

differs_xor : (a b : Bool) → (a ≡ b → ⊥) → xor a b ≡ true
differs_xor true true ne = absurd (ne refl)
differs_xor true false ne = refl
differs_xor false true ne = refl
differs_xor false false ne = absurd (ne refl)

module _ (law : CellClausesSayGate) (exists : ValueExists) (unique : ValueIsUnique) (spec imp : Netlist) (spec_kept : IsNetlist spec) (imp_kept : IsNetlist imp) (both : AreComparable spec imp)
    (x : List Bool) (differs : DiffersAt spec imp x) where
  abbrev own : List Bool
  own = flat imp x []

  abbrev other : List Bool
  other = flat spec x []

  abbrev difference : ℕ → Bool
  difference j = xor (bit_of own (get_or imp.outs j 0)) (bit_of other (get_or spec.outs j 0))

  abbrev differences : List Bool
  differences = map difference (range_with_len 0 (length imp.outs))

  abbrev pub bits : List Bool
  bits = x ++ (own ++ (other ++ differences))

  abbrev v : ℕ → Bool
  v = assignment_of bits

  abbrev wanted : ℕ
  wanted = imp.inputs + length imp.cells

  length-own : length own ≡ length imp.cells
  length-own = length-map-range_with_len (bit_at imp.cells imp.boxes x (free_bit imp.boxes [])) 0 (length imp.cells)

  length-other : length other ≡ length spec.cells
  length-other = length-map-range_with_len (bit_at spec.cells spec.boxes x (free_bit spec.boxes [])) 0 (length spec.cells)

  length-bits : length bits ≡ (free_clauses spec imp).vars
  length-bits =
      let last = length-map-range_with_len difference 0 (length imp.outs) in
      omega (arith, differs.0, length-own, length-other, last, length-append x (own ++ (other ++ differences)), length-append own (other ++ differences), length-append other differences)

  input_bits : (i : ℕ) → i < imp.inputs → bit_of x i ≡ v (i + 1)
  input_bits i h = sym (get_or_append_left x (own ++ (other ++ differences)) false i (omega (arith, h, differs.0))) ∙ assigned bits i (i + 1) refl

  -- the bit at a place after the vector
  after : (k n : ℕ) → n ≡ imp.inputs + k + 1 → v n ≡ bit_of (own ++ (other ++ differences)) k
  after k n e = sym (assigned bits (length x + k) n (omega (arith, e, differs.0))) ∙ get_or-append-add x (own ++ (other ++ differences)) k false

  imp_bits : (q : ℕ) → q < length imp.cells → v (imp.inputs + q + 1) ≡ bit_of own q
  imp_bits q h = after q (imp.inputs + q + 1) refl ∙ get_or_append_left own (other ++ differences) false q (omega (arith, h, length-own))

  spec_bits : (q : ℕ) → q < length spec.cells → v (wanted + q + 1) ≡ bit_of other q
  spec_bits q h =
      after (length own + q) (wanted + q + 1) (omega (arith, length-own))
      ∙ get_or-append-add own (other ++ differences) q false
      ∙ get_or_append_left other differences false q (omega (arith, h, length-other))

  difference_bits : (j : ℕ) → j < length imp.outs → v (difference_variable spec imp j) ≡ difference j
  difference_bits j h =
      after (length own + (length other + j)) (difference_variable spec imp j) (omega (arith, length-own, length-other))
      ∙ get_or-append-add own (other ++ differences) (length other + j) false
      ∙ get_or-append-add other differences j false
      ∙ get_or-map-range_with_len difference 0 (length imp.outs) j j false h (omega arith)

  difference_true : (j : ℕ) → j < length imp.outs → Satisfies v (cell_clauses [] [] [] (λ k. k) (difference_variable spec imp j) (Xor (output_variable imp j) (wanted_variable spec imp j)))
  difference_true j h =
      let out = imp_bits (get_or imp.outs j 0) (All-get_or (λ k. k < length imp.cells) imp.outs j 0 h imp_kept.outs_there) in
      let want = spec_bits (get_or spec.outs j 0) (All-get_or (λ k. k < length spec.cells) spec.outs j 0 (omega (arith, h, both.outputs)) spec_kept.outs_there) in
      (difference_reports law v (difference_variable spec imp j) (output_variable imp j) (wanted_variable spec imp j)).1 (difference_bits j h ∙ sym (ap₂ xor out want))

  some_true : IsTrueClause v (some_difference spec imp)
  some_true =
      let j : ℕ = differs.1.0 in
      let h : j < length imp.outs = differs.1.1 in
      let count = length-map-range_with_len (λ k. positive (difference_variable spec imp k)) 0 (length imp.outs) in (
        j,
        positive (difference_variable spec imp j),
        omega (arith, count, h),
        get_or-map-range_with_len (λ k. positive (difference_variable spec imp k)) 0 (length imp.outs) j j (positive (difference_variable spec imp j)) h (omega arith),
        difference_bits j h ∙ differs_xor (bit_of own (get_or imp.outs j 0)) (bit_of other (get_or spec.outs j 0)) differs.1.2,
      )

  pub bits_are_model : IsModel bits (free_clauses spec imp)
  bits_are_model =
      let cells = All-append (IsTrueClause v) (cells_after imp.inputs imp.cells) (cells_after wanted spec.cells)
      (cells_true law exists unique imp imp_kept both.imp_boxes imp.inputs v x input_bits imp_bits)
      (cells_true law exists unique spec spec_kept both.spec_boxes wanted v x (λ i h. input_bits i (omega (arith, h, both.inputs))) spec_bits) in
      let prefix = All-append (IsTrueClause v) (cells_after imp.inputs imp.cells ++ cells_after wanted spec.cells) (difference_clauses spec imp) cells
      (pieces_hold (IsTrueClause v) (λ k. cell_clauses [] [] [] (λ i. i) (difference_variable spec imp k) (Xor (output_variable imp k) (wanted_variable spec imp k))) (length imp.outs) difference_true) in (
        length-bits,
        All-append (IsTrueClause v) (cells_after imp.inputs imp.cells ++ cells_after wanted spec.cells ++ difference_clauses spec imp) (some_difference spec imp ∷ []) prefix
            (All-cons (IsTrueClause v) (some_difference spec imp) [] some_true (All-nil (IsTrueClause v))),
      )
