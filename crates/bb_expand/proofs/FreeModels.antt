-- The first bits of a model of the clauses at a free vector are a vector at which the two netlists differ.
use Rattle.std.proofs.Common.{◌≡◌, ℕ, ◌+◌, ◌<◌, Bool, true, false, List, [], ◌∷◌, ◌++◌, length, take, get_or, refl, sym, ap, ◌∙◌, arith, true≢false}
use Rattle.std.proofs.lemmas.List.{get_or-take, length-take-le}
use Rattle.std.proofs.lemmas.List.Elements.{All-get_or, All-head}
use Rattle.std.proofs.lemmas.List.FromFn.{length-map-range_with_len, get_or-map-range_with_len}
use Rattle.bb_net.specs.declared.cell.Cell.TheVariants.{Xor}
use Rattle.bb_net.specs.Netlists.{Netlist, IsNetlist}
use Rattle.bb_net.specs.Values.{bit_of, flat, xor}
use Rattle.bb_cnf.specs.declared.clauses.Lit.{Lit}
use Rattle.bb_cnf.specs.Clauses.{positive}
use Rattle.bb_cnf.specs.Truth.{literal_bit, IsTrueClause, Satisfies, assignment_of, IsModel}
use Rattle.bb_miter.specs.Inside.Equivalence.{AreComparable, DiffersAt}
use Rattle.bb_expand.specs.Expansions.{cell_clauses}
use Rattle.bb_expand.specs.Laws.{CellClausesSayGate}
use Rattle.bb_expand.specs.Inside.FreeClauses.{cells_after, output_variable, wanted_variable, difference_variable, difference_clauses, some_difference, free_clauses}
use Rattle.bb_expand.specs.Inside.LawsBelow.{ValueExists, ValueIsUnique}
use Rattle.bb_expand.proofs.FreeCells.{value_bits}
use Rattle.bb_expand.proofs.Pieces.{all_left, all_right, piece_holds}
use Rattle.bb_expand.proofs.TableBits.{assigned}

xor_differs : (a b : Bool) → xor a b ≡ true → a ≡ b → ⊥
xor_differs true true e same = true≢false (sym e)
xor_differs true false e same = true≢false same
xor_differs false true e same = true≢false (sym same)
xor_differs false false e same = true≢false (sym e)

-- the variable of a difference is the exclusive or
pub difference_reports : CellClausesSayGate → (v : ℕ → Bool) (d a b : ℕ) → (Satisfies v (cell_clauses [] [] [] (λ k. k) d (Xor a b)) → v d ≡ xor (v a) (v b)) × (v d ≡ xor (v a) (v b) → Satisfies v (cell_clauses [] [] [] (λ k. k) d (Xor a b)))
difference_reports law v d a b = let reports = law [] [] [] (λ k. k) d (Xor a b) v in (reports.0, reports.1)

module _ (law : CellClausesSayGate) (exists : ValueExists) (unique : ValueIsUnique) (spec imp : Netlist) (spec_kept : IsNetlist spec) (imp_kept : IsNetlist imp) (both : AreComparable spec imp)
    (bits : List Bool) (model : IsModel bits (free_clauses spec imp)) where
  abbrev v : ℕ → Bool
  v = assignment_of bits

  abbrev x : List Bool
  x = take imp.inputs bits

  input_bits : (i : ℕ) → i < imp.inputs → bit_of x i ≡ v (i + 1)
  input_bits i h = get_or-take imp.inputs bits i false h ∙ assigned bits i (i + 1) refl

  abbrev wanted : ℕ
  wanted = imp.inputs + length imp.cells

  abbrev cells : List (List Lit)
  cells = cells_after imp.inputs imp.cells ++ cells_after wanted spec.cells

  prefix : Satisfies v (cells ++ difference_clauses spec imp)
  prefix = all_left (IsTrueClause v) (cells ++ difference_clauses spec imp) (some_difference spec imp ∷ []) model.1

  cells_hold : Satisfies v cells
  cells_hold = all_left (IsTrueClause v) cells (difference_clauses spec imp) prefix

  imp_bits : (q : ℕ) → q < length imp.cells → bit_of (flat imp x []) q ≡ v (imp.inputs + q + 1)
  imp_bits = value_bits law exists unique imp imp_kept both.imp_boxes imp.inputs v x input_bits
      (all_left (IsTrueClause v) (cells_after imp.inputs imp.cells) (cells_after wanted spec.cells) cells_hold)

  spec_bits : (q : ℕ) → q < length spec.cells → bit_of (flat spec x []) q ≡ v (wanted + q + 1)
  spec_bits = value_bits law exists unique spec spec_kept both.spec_boxes wanted v x (λ i h. input_bits i (omega (arith, h, both.inputs)))
      (all_right (IsTrueClause v) (cells_after imp.inputs imp.cells) (cells_after wanted spec.cells) cells_hold)

  -- an output whose difference is true
  some : (j : ℕ) × (j < length imp.outs) × (v (difference_variable spec imp j) ≡ true)
  some =
      let any = All-head (IsTrueClause v) (some_difference spec imp) [] (all_right (IsTrueClause v) (cells ++ difference_clauses spec imp) (some_difference spec imp ∷ []) model.1) in
      let below : any.0 < length imp.outs = (let e = length-map-range_with_len (λ j. positive (difference_variable spec imp j)) 0 (length imp.outs) in omega (arith, e, any.2)) in
      let is = get_or-map-range_with_len (λ j. positive (difference_variable spec imp j)) 0 (length imp.outs) any.0 any.0 any.1 below (omega arith) in
      (any.0, below, ap (literal_bit v) (sym is ∙ any.3) ∙ any.4)

  pub first_bits_differ : DiffersAt spec imp x
  first_bits_differ =
      let j : ℕ = some.0 in
      let out = All-get_or (λ k. k < length imp.cells) imp.outs j 0 some.1 imp_kept.outs_there in
      let want = All-get_or (λ k. k < length spec.cells) spec.outs j 0 (omega (arith, some.1, both.outputs)) spec_kept.outs_there in
      let piece = piece_holds (IsTrueClause v) (λ k. cell_clauses [] [] [] (λ i. i) (difference_variable spec imp k) (Xor (output_variable imp k) (wanted_variable spec imp k))) (length imp.outs)
      (all_right (IsTrueClause v) cells (difference_clauses spec imp) prefix) j some.1 in
      let differ = sym ((difference_reports law v (difference_variable spec imp j) (output_variable imp j) (wanted_variable spec imp j)).0 piece) ∙ some.2 in (
        length-take-le imp.inputs bits (omega (arith, model.0)),
        (j, some.1, λ e. xor_differs (v (output_variable imp j)) (v (wanted_variable spec imp j)) differ (sym (imp_bits (get_or imp.outs j 0) out) ∙ e ∙ spec_bits (get_or spec.outs j 0) want)),
      )
