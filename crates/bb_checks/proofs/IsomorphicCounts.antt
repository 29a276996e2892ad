-- An expansion has as many clauses for nets that are alike: a cell's clauses go by its formula.
use Rattle.std.proofs.Common.{◌≡◌, ℕ, zero, suc, ◌+◌, ◌-◌, ◌*◌, ◌^◌, ◌<◌, ◌≤◌, true, false, List, [], ◌∷◌, length, map, drop, refl, sym, ap, ap₂, ◌∙◌, arith, length-take}
use Rattle.std.specs.Prelude.{sum_by}
use Rattle.std.specs.List.{range_with_len}
use Rattle.std.proofs.lemmas.List.{length-map, take_all}
use Rattle.std.proofs.lemmas.List.FromFn.{length-range_with_len}
use Rattle.std.proofs.lemmas.List.Sorted.{sum_by-IsPermutation}
use Rattle.std.proofs.lemmas.List.Sums.{sum_by-cons, sum_by-drop_more, sum_by-take-drop}
use Rattle.bb_net.specs.declared.cell.Cell.{Cell}
use Rattle.bb_net.specs.declared.cell.Cell.TheVariants as cell
use Rattle.bb_net.specs.Netlists.{Netlist, Pins, IsNetlist, box_at, cell_at, first_cells}
use Rattle.bb_expand.specs.ClauseCounts.{cell_clause_count, clause_total, clauses_per_vector}
use Rattle.bb_iso.specs.Laws.Isomorphism.{AreIsomorphic}
use Rattle.bb_iso.specs.Laws.Formulas.{Formula, Const, Input, Not, And, Or, Xor, Mux, BoxOut, cell_formula, cell_formulas, formula_at}
use Rattle.bb_iso.specs.Laws.{FormulasAreOfCells}
use Rattle.bb_checks.proofs.IsomorphicBoxes.{AreAsMany, pins_at_isomorphic}

-- the clauses of a cell with this formula
formula_clauses : List Pins → Formula → ℕ
formula_clauses boxes (Const b) = 1
formula_clauses boxes (Input i) = 1
formula_clauses boxes (Not f) = 2
formula_clauses boxes (And f g) = 3
formula_clauses boxes (Or f g) = 3
formula_clauses boxes (Xor f g) = 4
formula_clauses boxes (Mux f g h) = 4
formula_clauses boxes (BoxOut b p) = 2 * 2 ^ length (box_at boxes b).ins

by_formula : (boxes : List Pins) (at : ℕ → Formula) (c : Cell) → cell_clause_count boxes c ≡ formula_clauses boxes (cell_formula at c)
unfolding formula_clauses
by_formula boxes at (cell.Const b) = refl
by_formula boxes at (cell.Input i) = refl
by_formula boxes at (cell.Not a) = refl
by_formula boxes at (cell.And a b) = refl
by_formula boxes at (cell.Or a b) = refl
by_formula boxes at (cell.Xor a b) = refl
by_formula boxes at (cell.Mux c t e) = refl
by_formula boxes at (cell.BoxOut b p) = refl

-- that of alike boxes
same_clauses : (ps qs : List Pins) → AreAsMany ps qs → (f : Formula) → formula_clauses ps f ≡ formula_clauses qs f
unfolding formula_clauses
same_clauses ps qs h (Const b) = refl
same_clauses ps qs h (Input i) = refl
same_clauses ps qs h (Not f) = refl
same_clauses ps qs h (And f g) = refl
same_clauses ps qs h (Or f g) = refl
same_clauses ps qs h (Xor f g) = refl
same_clauses ps qs h (Mux c f g) = refl
same_clauses ps qs h (BoxOut b p) = ap (λ (n : ℕ). 2 * 2 ^ n) (pins_at_isomorphic ps qs h b).0

sums_same : {X : Type 0} (f g : X → ℕ) → ((x : X) → f x ≡ g x) → (xs : List X) → sum_by f xs ≡ sum_by g xs
sums_same f g same [] = refl
sums_same f g same (x ∷ xs) = sum_by-cons f x xs ∙ ap₂ (λ (n m : ℕ). n + m) (same x) (sums_same f g same xs) ∙ sym (sum_by-cons g x xs)

-- where a cell counts as its formula does, the cells from a place on count as their formulas
sum_after : (count : Cell → ℕ) (weight : Formula → ℕ) (at : ℕ → Formula) (cells : List Cell) → ((k : ℕ) → k < length cells → count (cell_at cells k) ≡ weight (at k))
    → (m n : ℕ) → n + m ≡ length cells → sum_by count (drop n cells) ≡ sum_by weight (map at (range_with_len n m))
sum_after count weight at cells same zero n e =
    let whole = sum_by-take-drop count cells n in
    let all = ap (sum_by count) (take_all n cells (omega (arith, e))) in
    let none : sum_by count (drop n cells) ≡ 0 = omega (arith, whole, all) in
    none
sum_after count weight at cells same (suc m) n e =
    let here : n < length cells = omega (arith, e) in
    sum_by-drop_more count cells n (cell.Const false) here
    ∙ ap₂ (λ (i j : ℕ). i + j) (same n here) (sum_after count weight at cells same m (n + 1) (omega (arith, e)))
    ∙ sym (sum_by-cons weight (at n) (map at (range_with_len (n + 1) m)))

inputs_same : (ps qs : List Pins) (ns : List ℕ) → sum_by (cell_clause_count ps) (map cell.Input ns) ≡ sum_by (cell_clause_count qs) (map cell.Input ns)
inputs_same ps qs [] = refl
inputs_same ps qs (n ∷ ns) =
    sum_by-cons (cell_clause_count ps) (cell.Input n) (map cell.Input ns)
    ∙ ap (λ (k : ℕ). 1 + k) (inputs_same ps qs ns)
    ∙ sym (sum_by-cons (cell_clause_count qs) (cell.Input n) (map cell.Input ns))

-- the constants and the inputs
prefix_same : (ps qs : List Pins) (inputs : ℕ) → sum_by (cell_clause_count ps) (first_cells inputs) ≡ sum_by (cell_clause_count qs) (first_cells inputs)
prefix_same ps qs inputs =
    let ns = map cell.Input (range_with_len 0 inputs) in
    let one = sum_by-cons (cell_clause_count ps) (cell.Const false) (cell.Const true ∷ ns) in
    let two = sum_by-cons (cell_clause_count ps) (cell.Const true) ns in
    let other = sum_by-cons (cell_clause_count qs) (cell.Const false) (cell.Const true ∷ ns) in
    let another = sum_by-cons (cell_clause_count qs) (cell.Const true) ns in
    one ∙ ap (λ (k : ℕ). 1 + k) (two ∙ ap (λ (k : ℕ). 1 + k) (inputs_same ps qs (range_with_len 0 inputs)) ∙ sym another) ∙ sym other

prefix_there : (net : Netlist) → IsNetlist net → net.inputs + 2 ≤ length net.cells
prefix_there net is =
    let taken = length-take (net.inputs + 2) net.cells in
    let long = ap length is.prefix in
    let inputs = length-map (range_with_len 0 net.inputs) cell.Input in
    let range = length-range_with_len 0 net.inputs in
    omega (arith, taken, long, inputs, range)

-- the cells of a net: the front, and the rest by their formulas
cells_count : FormulasAreOfCells → (net : Netlist) → IsNetlist net
    → sum_by (cell_clause_count net.boxes) net.cells ≡ sum_by (cell_clause_count net.boxes) (first_cells net.inputs) + sum_by (formula_clauses net.boxes) (cell_formulas net)
cells_count formulas net is =
    let n = net.inputs + 2 in
    let whole = sum_by-take-drop (cell_clause_count net.boxes) net.cells n in
    let prefix = ap (sum_by (cell_clause_count net.boxes)) is.prefix in
    let after = sum_after (cell_clause_count net.boxes) (formula_clauses net.boxes) (formula_at net.cells) net.cells
    (λ k l. by_formula net.boxes (formula_at net.cells) (cell_at net.cells k) ∙ ap (formula_clauses net.boxes) (sym (formulas net is k l)))
    (length net.cells - n) n (omega (arith, prefix_there net is)) in
    omega (arith, whole, prefix, after)

-- the clauses of a vector
pub per_vector_isomorphic : FormulasAreOfCells → (a b : Netlist) → IsNetlist a → IsNetlist b → AreIsomorphic a b → AreAsMany a.boxes b.boxes → length a.outs ≡ length b.outs → clauses_per_vector a ≡ clauses_per_vector b
per_vector_isomorphic formulas a b one other alike boxes outs =
    ap₂ (λ (n m : ℕ). n + m)
    (cells_count formulas a one
    ∙ ap₂ (λ (n m : ℕ). n + m)
    (ap (λ (n : ℕ). sum_by (cell_clause_count a.boxes) (first_cells n)) alike.inputs ∙ prefix_same a.boxes b.boxes b.inputs)
    (sums_same (formula_clauses a.boxes) (formula_clauses b.boxes) (same_clauses a.boxes b.boxes boxes) (cell_formulas a)
    ∙ sym (sum_by-IsPermutation (formula_clauses b.boxes) (cell_formulas a) (cell_formulas b) alike.cells))
    ∙ sym (cells_count formulas b other))
    outs

-- those of all vectors
pub clause_totals_isomorphic : (a b : Netlist) → a.inputs ≡ b.inputs → clauses_per_vector a ≡ clauses_per_vector b → clause_total a ≡ clause_total b
clause_totals_isomorphic a b inputs clauses = ap₂ (λ (n m : ℕ). 2 ^ n * m) inputs clauses
