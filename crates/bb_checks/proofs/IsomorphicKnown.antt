-- The functions of the check where boxes are unknown: those of one pair are among those of another that is alike.
use Rattle.std.proofs.Common.{◌≡◌, ℕ, ◌<◌, Bool, List, [], ◌∷◌, length, map, refl, sym, ap, ap₂, ◌∙◌, subst, arith}
use Rattle.std.specs.Prelude.{slice_index}
use Rattle.std.specs.List.{flat_map}
use Rattle.bb_bits.specs.Truth.{Truth, complement_of_table}
use Rattle.bb_net.specs.declared.cell.Cell.{Cell}
use Rattle.bb_net.specs.declared.cell.Cell.TheVariants as cell
use Rattle.bb_net.specs.Netlists.{Netlist, Pins, IsNetlist, ReadsBefore, cell_at}
use Rattle.bb_net.specs.Ternary.{tern, tern_of}
use Rattle.bb_sym.specs.Functions.{spec_bit, is_one, is_zero, known_one, known_zero, sum_tables, cell_tables, high, low, wanted, mismatches, known_tables, symbolic_functions}
use Rattle.bb_sym.specs.Plain.{tables, variables, cell_numbers, output_numbers}
use Rattle.bb_iso.specs.Laws.Isomorphism.{AreIsomorphic}
use Rattle.bb_iso.specs.Laws.Formulas.{Formula, Const, Input, Not, And, Or, Xor, Mux, BoxOut, cell_formula, formula_at}
use Rattle.bb_iso.specs.Laws.{FormulasAreOfCells, IsomorphicNetsHaveCells, IsomorphicCellsAreKnownTheSame}
use Rattle.bb_checks.specs.Inside.IsomorphismLaws.{FunctionsFixTables}
use Rattle.bb_checks.proofs.IsomorphicConditions.{AreKnownIsomorphic}
use Rattle.bb_checks.proofs.IsomorphicFunctions.{ShareAll}
use Rattle.bb_checks.proofs.IsomorphicTables.{AreAmong, among_append, among_each, among_tables, table_same}

-- a place with a formula
abbrev IsPlaceOf : ℕ → (ℕ → Formula) → ℕ → Formula → Type 0
IsPlaceOf count at k f = (k < count) × (at k ≡ f)

-- tables of a cell with a formula, whose operands are at some places with theirs
abbrev AreTablesOf : ℕ → (ℕ → Formula) → ℕ → (ℕ → Truth) → (ℕ → Truth) → Formula → List Truth → Type 0
AreTablesOf count at n hi lo (Const b) ts = ts ≡ cell_tables n hi lo (cell.Const b)
AreTablesOf count at n hi lo (Input i) ts = ts ≡ cell_tables n hi lo (cell.Input i)
AreTablesOf count at n hi lo (Not f) ts = (k : ℕ) × IsPlaceOf count at k f × (ts ≡ cell_tables n hi lo (cell.Not k))
AreTablesOf count at n hi lo (And f g) ts = (k l : ℕ) × IsPlaceOf count at k f × IsPlaceOf count at l g × (ts ≡ cell_tables n hi lo (cell.And k l))
AreTablesOf count at n hi lo (Or f g) ts = (k l : ℕ) × IsPlaceOf count at k f × IsPlaceOf count at l g × (ts ≡ cell_tables n hi lo (cell.Or k l))
AreTablesOf count at n hi lo (Xor f g) ts = (k l : ℕ) × IsPlaceOf count at k f × IsPlaceOf count at l g × (ts ≡ cell_tables n hi lo (cell.Xor k l))
AreTablesOf count at n hi lo (Mux f g h) ts = (k l m : ℕ) × IsPlaceOf count at k f × IsPlaceOf count at l g × IsPlaceOf count at m h × (ts ≡ cell_tables n hi lo (cell.Mux k l m))
AreTablesOf count at n hi lo (BoxOut b p) ts = ts ≡ cell_tables n hi lo (cell.BoxOut b p)

tables_of_cell : (count : ℕ) (at : ℕ → Formula) (n : ℕ) (hi lo : ℕ → Truth) (inputs : ℕ) (boxes : List Pins) (place : ℕ) → place < count → (c : Cell) → ReadsBefore inputs boxes place c
    → AreTablesOf count at n hi lo (cell_formula at c) (cell_tables n hi lo c)
tables_of_cell count at n hi lo inputs boxes place l (cell.Const b) reads = refl
tables_of_cell count at n hi lo inputs boxes place l (cell.Input i) reads = refl
tables_of_cell count at n hi lo inputs boxes place l (cell.Not a) reads = (a, (omega (arith, l, reads), refl), refl)
tables_of_cell count at n hi lo inputs boxes place l (cell.And a b) reads = (a, b, (omega (arith, l, reads.0), refl), (omega (arith, l, reads.1), refl), refl)
tables_of_cell count at n hi lo inputs boxes place l (cell.Or a b) reads = (a, b, (omega (arith, l, reads.0), refl), (omega (arith, l, reads.1), refl), refl)
tables_of_cell count at n hi lo inputs boxes place l (cell.Xor a b) reads = (a, b, (omega (arith, l, reads.0), refl), (omega (arith, l, reads.1), refl), refl)
tables_of_cell count at n hi lo inputs boxes place l (cell.Mux c t e) reads =
    (c, t, e, (omega (arith, l, reads.0), refl), (omega (arith, l, reads.1), refl), (omega (arith, l, reads.2), refl), refl)
tables_of_cell count at n hi lo inputs boxes place l (cell.BoxOut b p) reads = refl

-- where places with one formula have the same tables, so have cells with one
module _ (count other_count : ℕ) (at other_at : ℕ → Formula) (n : ℕ) (hi lo other_hi other_lo : ℕ → Truth)
    (same : (k m : ℕ) → k < count → m < other_count → at k ≡ other_at m → (hi k ≡ other_hi m) × (lo k ≡ other_lo m)) where
  tables_alike : (inputs : ℕ) (boxes : List Pins) (place : ℕ) → place < other_count → (d : Cell) → ReadsBefore inputs boxes place d
      → (ts : List Truth) → AreTablesOf count at n hi lo (cell_formula other_at d) ts → ts ≡ cell_tables n other_hi other_lo d
  tables_alike inputs boxes place l (cell.Const b) reads ts h = h
  tables_alike inputs boxes place l (cell.Input i) reads ts h = h
  tables_alike inputs boxes place l (cell.Not a) reads ts (k, p, e) =
      let one = same k a p.0 (omega (arith, l, reads)) p.1 in
      cc (e, one.0, one.1)
  tables_alike inputs boxes place l (cell.And a b) reads ts (k, m, p, q, e) =
      let one = same k a p.0 (omega (arith, l, reads.0)) p.1 in
      let two = same m b q.0 (omega (arith, l, reads.1)) q.1 in
      cc (e, one.0, one.1, two.0, two.1)
  tables_alike inputs boxes place l (cell.Or a b) reads ts (k, m, p, q, e) =
      let one = same k a p.0 (omega (arith, l, reads.0)) p.1 in
      let two = same m b q.0 (omega (arith, l, reads.1)) q.1 in
      cc (e, one.0, one.1, two.0, two.1)
  tables_alike inputs boxes place l (cell.Xor a b) reads ts (k, m, p, q, e) =
      let one = same k a p.0 (omega (arith, l, reads.0)) p.1 in
      let two = same m b q.0 (omega (arith, l, reads.1)) q.1 in
      cc (e, one.0, one.1, two.0, two.1)
  tables_alike inputs boxes place l (cell.Mux c t f) reads ts (k, m, i, p, q, r, e) =
      let one = same k c p.0 (omega (arith, l, reads.0)) p.1 in
      let two = same m t q.0 (omega (arith, l, reads.1)) q.1 in
      let three = same i f r.0 (omega (arith, l, reads.2)) r.1 in
      cc (e, one.0, one.1, two.0, two.1, three.0, three.1)
  tables_alike inputs boxes place l (cell.BoxOut b p) reads ts h = h

-- what an output is known to be wrong at, by its tables
mismatches_by : Truth → Truth → Truth → List Truth
mismatches_by want hi lo = complement_of_table want ∷ sum_tables hi (complement_of_table want) lo want

-- the laws on which this rests
pub record KnownLaws : Type 0 where
  pub formulas : FormulasAreOfCells
  pub cells : IsomorphicNetsHaveCells
  pub known : IsomorphicCellsAreKnownTheSame
  pub fix : FunctionsFixTables

module _ (fix : FunctionsFixTables) (a b : Netlist) (inputs : a.inputs ≡ b.inputs) where
  high_isomorphic : (k m : ℕ) → ((x : List Bool) → tern_of (tern a x) k ≡ tern_of (tern b x) m) → high a k ≡ high b m
  high_isomorphic k m same = table_same fix a.inputs b.inputs inputs (known_one a k) (known_one b m) (λ x. ap is_one (same x))

  low_isomorphic : (k m : ℕ) → ((x : List Bool) → tern_of (tern a x) k ≡ tern_of (tern b x) m) → low a k ≡ low b m
  low_isomorphic k m same = table_same fix a.inputs b.inputs inputs (known_zero a k) (known_zero b m) (λ x. ap is_zero (same x))

-- cells with one formula have the same tables
known_tables_isomorphic : KnownLaws → (a b : Netlist) → IsNetlist a → IsNetlist b → AreIsomorphic a b → (k m : ℕ) → k < length a.cells → m < length b.cells
    → formula_at a.cells k ≡ formula_at b.cells m → known_tables a k ≡ known_tables b m
known_tables_isomorphic laws a b one other alike k m here there same =
    let made = tables_of_cell (length a.cells) (formula_at a.cells) a.inputs (high a) (low a) a.inputs a.boxes k here (cell_at a.cells k) (one.ordered k here) in
    let formulas = sym (laws.formulas a one k here) ∙ same ∙ laws.formulas b other m there in
    let moved = subst (λ f. AreTablesOf (length a.cells) (formula_at a.cells) a.inputs (high a) (low a) f (known_tables a k)) formulas made in
    let tables = tables_alike (length a.cells) (length b.cells) (formula_at a.cells) (formula_at b.cells) a.inputs (high a) (low a) (high b) (low b)
    (λ i j p q e.
    let value = λ (x : List Bool). laws.known a b one other alike x i j p q e in
    (high_isomorphic laws.fix a b alike.inputs i j value, low_isomorphic laws.fix a b alike.inputs i j value))
    b.inputs b.boxes m there (cell_at b.cells m) (other.ordered m there) (known_tables a k) moved in
    tables ∙ ap (λ (n : ℕ). cell_tables n (high b) (low b) (cell_at b.cells m)) alike.inputs

module _ (laws : KnownLaws) (spec imp other_spec other_imp : Netlist) (share : ShareAll spec imp other_spec other_imp) where
  wanted_table_isomorphic : (j : ℕ) → j < length imp.outs → wanted spec imp j ≡ wanted other_spec other_imp j
  wanted_table_isomorphic j l = table_same laws.fix imp.inputs other_imp.inputs share.imp.inputs (spec_bit spec (slice_index spec.outs j)) (spec_bit other_spec (slice_index other_spec.outs j))
      (λ x. share.spec.out_bits x [] j (omega (arith, l, share.outputs)))

  mismatches_isomorphic : AreKnownIsomorphic imp other_imp → (j : ℕ) → j < length imp.outs → mismatches spec imp j ≡ mismatches other_spec other_imp j
  unfolding mismatches_by
  mismatches_isomorphic known j l =
      let k = slice_index imp.outs j in
      let m = slice_index other_imp.outs j in
      ap₂ (λ (hi lo : Truth). mismatches_by (wanted spec imp j) hi lo)
      (high_isomorphic laws.fix imp other_imp share.imp.inputs k m (λ x. known x j l)) (low_isomorphic laws.fix imp other_imp share.imp.inputs k m (λ x. known x j l))
      ∙ ap (λ (want : Truth). mismatches_by want (high other_imp m) (low other_imp m)) (wanted_table_isomorphic j l)

  pub symbolic_among : IsNetlist imp → IsNetlist other_imp → AreIsomorphic imp other_imp → AreKnownIsomorphic imp other_imp → AreAmong (symbolic_functions spec imp) (symbolic_functions other_spec other_imp)
  symbolic_among one other alike known =
      among_append (variables imp.inputs) (variables other_imp.inputs) _ _
      (subst (λ n. AreAmong (variables imp.inputs) (variables n)) share.imp.inputs (λ t has. has))
      (among_append (tables imp.inputs (map (spec_bit spec) (cell_numbers spec))) (tables other_imp.inputs (map (spec_bit other_spec) (cell_numbers other_spec))) _ _
      (subst (λ n. AreAmong (tables imp.inputs (map (spec_bit spec) (cell_numbers spec))) (tables n (map (spec_bit other_spec) (cell_numbers other_spec)))) share.imp.inputs
      (among_tables laws.fix imp.inputs (spec_bit spec) (spec_bit other_spec) (length spec.cells) (length other_spec.cells)
      (λ k l. let found = share.spec.cells k l in (found.0, found.1, λ x. found.2 x []))))
      (among_append (flat_map (known_tables imp) (cell_numbers imp)) (flat_map (known_tables other_imp) (cell_numbers other_imp)) (flat_map (mismatches spec imp) (output_numbers imp)) (flat_map (mismatches other_spec other_imp) (output_numbers other_imp))
      (among_each (known_tables imp) (known_tables other_imp) (length imp.cells) (length other_imp.cells)
      (λ k l. let found = laws.cells imp other_imp one other alike k l in (found.0, found.1, known_tables_isomorphic laws imp other_imp one other alike k found.0 l found.1 found.2)))
      (among_each (mismatches spec imp) (mismatches other_spec other_imp) (length imp.outs) (length other_imp.outs)
      (λ j l. (j, omega (arith, l, share.imp.outputs), mismatches_isomorphic known j l)))))
