-- The variables of an expansion are in its range.
use Rattle.std.proofs.Common.{◌≡◌, ℕ, ◌+◌, ◌*◌, ◌^◌, ◌<◌, ◌≤◌, Bool, not, List, [], ◌∷◌, ◌++◌, length, get_or, take, All, refl, arith}
use Rattle.std.specs.Prelude.{slice_index}
use Rattle.std.proofs.lemmas.List.Elements.{All-nil, All-cons, All-head, All-tail, All-append, All-get_or}
use Rattle.std.proofs.lemmas.Nat.{mul-le}
use Rattle.bb_bits.specs.Numbers.{bits_of}
use Rattle.bb_net.specs.declared.cell.Cell.{Cell}
use Rattle.bb_net.specs.declared.cell.Cell.TheVariants.{Const, Input, Not, And, Or, Xor, Mux, BoxOut}
use Rattle.bb_net.specs.Completions.{table_bits}
use Rattle.bb_net.specs.Kinds.{FitKinds, representatives}
use Rattle.bb_net.specs.Netlists.{Netlist, Pins, IsNetlist, ReadsBefore, cell_at, box_at}
use Rattle.bb_net.specs.Equivalence.{wanted_bit}
use Rattle.bb_cnf.specs.declared.clauses.Lit.{Lit}
use Rattle.bb_cnf.specs.Clauses.{HasVariablesWithin, positive, negated}
use Rattle.bb_expand.specs.Expansions.{having, differing, row_clauses, cell_clauses, cell_variable, cells_clauses, output_clauses, vector_clauses, table_variable}
use Rattle.bb_expand.specs.Inside.LawsBelow.{Sharing}
use Rattle.bb_expand.specs.Laws.{VariablesAreWithin}
use Rattle.bb_expand.proofs.BoxesThere.{box_there}
use Rattle.bb_expand.proofs.Pieces.{pieces_hold, all_hold}
use Rattle.bb_expand.proofs.RowLemmas.{bits_fit, row_fits}
use Rattle.bb_expand.proofs.SharedBoxes.{pin_shown, row_shown}

-- a variable in range, and a clause of such
abbrev Ranges : ℕ → ℕ → Type 0
Ranges vars x = (1 ≤ x) × (x ≤ vars)

abbrev IsIn : ℕ → List Lit → Type 0
IsIn vars lits = All (λ l. (1 ≤ l.var) × (l.var ≤ vars)) lits

-- the same literal by literal and clause by clause
abbrev EachIn : ℕ → List Lit → Type 0
EachIn vars [] = Unit {0}
EachIn vars (l ∷ lits) = Ranges vars l.var × EachIn vars lits

abbrev ClausesIn : ℕ → List (List Lit) → Type 0
ClausesIn vars [] = Unit {0}
ClausesIn vars (c ∷ clauses) = EachIn vars c × ClausesIn vars clauses

lits_in : (vars : ℕ) (lits : List Lit) → EachIn vars lits → IsIn vars lits
lits_in vars [] h = All-nil (λ l. (1 ≤ l.var) × (l.var ≤ vars))
lits_in vars (l ∷ lits) h = All-cons (λ m. (1 ≤ m.var) × (m.var ≤ vars)) l lits h.0 (lits_in vars lits h.1)

pub clauses_in : (vars : ℕ) (clauses : List (List Lit)) → ClausesIn vars clauses → HasVariablesWithin vars clauses
clauses_in vars [] h = All-nil (IsIn vars)
clauses_in vars (c ∷ clauses) h = All-cons (IsIn vars) c clauses (lits_in vars c h.0) (clauses_in vars clauses h.1)

module _ (vars : ℕ) (var : ℕ → ℕ) where
  differing_in : (pins : List ℕ) (row : List Bool) → All (λ p. Ranges vars (var p)) pins → IsIn vars (differing var pins row)
  differing_in [] row h = lits_in vars [] tt
  differing_in (p ∷ pins) [] h = lits_in vars [] tt
  differing_in (p ∷ pins) (b ∷ row) h =
      All-cons (λ m. (1 ≤ m.var) × (m.var ≤ vars)) (having (var p) (not b)) (differing var pins row) (All-head (λ q. Ranges vars (var q)) p pins h) (differing_in pins row (All-tail (λ q. Ranges vars (var q)) p pins h))

  row_clause_in : (lits : List Lit) (l m : Lit) → IsIn vars lits → Ranges vars l.var → Ranges vars m.var → IsIn vars (lits ++ l ∷ m ∷ [])
  row_clause_in lits l m h hl hm = All-append (λ n. (1 ≤ n.var) × (n.var ≤ vars)) lits (l ∷ m ∷ []) h (lits_in vars (l ∷ m ∷ []) (hl, (hm, tt)))

  row_in : (pins : List ℕ) (y t : ℕ) (row : List Bool) → All (λ p. Ranges vars (var p)) pins → Ranges vars y → Ranges vars t → HasVariablesWithin vars (row_clauses var pins y row t)
  row_in pins y t row h hy ht =
      let prefix = differing_in pins row h in
      All-cons (IsIn vars) (differing var pins row ++ negated y ∷ positive t ∷ []) ((differing var pins row ++ positive y ∷ negated t ∷ []) ∷ [])
      (row_clause_in (differing var pins row) (negated y) (positive t) prefix hy ht)
      (All-cons (IsIn vars) (differing var pins row ++ positive y ∷ negated t ∷ []) [] (row_clause_in (differing var pins row) (positive y) (negated t) prefix hy ht) (All-nil (IsIn vars)))

  pub cell_in : (inputs place y : ℕ) (kinds : List ℕ) (boxes : List Pins) (x : List Bool) (cell : Cell) → ReadsBefore inputs boxes place cell → ((k : ℕ) → k < place → Ranges vars (var k)) → Ranges vars y
      → ((b p row : ℕ) → cell ≡ BoxOut b p → row < 2 ^ length (box_at boxes b).ins → Ranges vars (table_variable (representatives kinds boxes) (slice_index kinds b) row p)) → HasVariablesWithin vars (cell_clauses kinds boxes x var y cell)
  cell_in inputs place y kinds boxes x (Const b) reads h hy ht = clauses_in vars (cell_clauses kinds boxes x var y (Const b)) ((hy, tt), tt)
  cell_in inputs place y kinds boxes x (Input i) reads h hy ht = clauses_in vars (cell_clauses kinds boxes x var y (Input i)) ((hy, tt), tt)
  cell_in inputs place y kinds boxes x (Not a) reads h hy ht = let ha = h a reads in clauses_in vars (cell_clauses kinds boxes x var y (Not a)) ((hy, (ha, tt)), ((hy, (ha, tt)), tt))
  cell_in inputs place y kinds boxes x (And a b) reads h hy ht = let ha = h a reads.0 in let hb = h b reads.1 in clauses_in vars (cell_clauses kinds boxes x var y (And a b)) ((hy, (ha, tt)), ((hy, (hb, tt)), ((hy, (ha, (hb, tt))), tt)))
  cell_in inputs place y kinds boxes x (Or a b) reads h hy ht = let ha = h a reads.0 in let hb = h b reads.1 in clauses_in vars (cell_clauses kinds boxes x var y (Or a b)) ((hy, (ha, tt)), ((hy, (hb, tt)), ((hy, (ha, (hb, tt))), tt)))
  cell_in inputs place y kinds boxes x (Xor a b) reads h hy ht =
      let ha = h a reads.0 in
      let hb = h b reads.1 in
      clauses_in vars (cell_clauses kinds boxes x var y (Xor a b)) ((hy, (ha, (hb, tt))), ((hy, (ha, (hb, tt))), ((hy, (ha, (hb, tt))), ((hy, (ha, (hb, tt))), tt))))
  cell_in inputs place y kinds boxes x (Mux c t e) reads h hy ht =
      let hc = h c reads.0 in
      let i = h t reads.1 in
      let j = h e reads.2 in
      clauses_in vars (cell_clauses kinds boxes x var y (Mux c t e)) ((hc, (i, (hy, tt))), ((hc, (i, (hy, tt))), ((hc, (j, (hy, tt))), ((hc, (j, (hy, tt))), tt))))
  cell_in inputs place y kinds boxes x (BoxOut b p) reads h hy ht =
      pieces_hold (IsIn vars) (λ row. row_clauses var (box_at boxes b).ins y (bits_of (length (box_at boxes b).ins) row) (table_variable (representatives kinds boxes) (slice_index kinds b) row p)) (2 ^ length (box_at boxes b).ins)
      (λ row below. row_in (box_at boxes b).ins y (table_variable (representatives kinds boxes) (slice_index kinds b) row p) (bits_of (length (box_at boxes b).ins) row) (λ k d there. h _ (reads k d there)) hy (ht b p row refl below))

-- a table's variable is one of the first
table_in_range : (boxes : List Pins) (b p row vars : ℕ) → p < length (box_at boxes b).outs → row < 2 ^ length (box_at boxes b).ins → table_bits boxes ≤ vars → Ranges vars (table_variable boxes b row p)
table_in_range boxes b p row vars there below enough =
    let fits = bits_fit boxes b (record { ins = []; outs = [] }) (box_there boxes b p there) in
    let inside = row_fits (table_bits (take b boxes)) row (2 ^ length (box_at boxes b).ins) (length (box_at boxes b).outs) p (table_bits boxes) fits below there in
    (omega arith, omega (arith, inside, enough))

module _ (sharing : Sharing) (spec imp : Netlist) (kinds : List ℕ) (kept : IsNetlist imp) (fits : FitKinds kinds imp.boxes) (vectors : List (List Bool)) where
  abbrev vars : ℕ
  vars = table_bits (representatives kinds imp.boxes) + length vectors * length imp.cells

  var_in : (v k : ℕ) → v < length vectors → k < length imp.cells → Ranges vars (cell_variable imp kinds v k)
  var_in v k there h =
      let p : (v + 1) * length imp.cells ≤ length vectors * length imp.cells = mul-le (v + 1) (length imp.cells) (length vectors) (length imp.cells) (omega (arith, there)) (omega arith) in
      (omega arith, omega (arith, p, h))

  vector_in : (v : ℕ) → v < length vectors → (x : List Bool) → HasVariablesWithin vars (vector_clauses spec imp kinds v x)
  vector_in v there x = All-append (IsIn vars) (cells_clauses imp kinds v x) (output_clauses spec imp kinds v x)
      (pieces_hold (IsIn vars) (λ q. cell_clauses kinds imp.boxes x (cell_variable imp kinds v) (cell_variable imp kinds v q) (cell_at imp.cells q)) (length imp.cells)
      (λ q h. cell_in vars (cell_variable imp kinds v) imp.inputs q (cell_variable imp kinds v q) kinds imp.boxes x (cell_at imp.cells q) (kept.ordered q h)
      (λ k below. var_in v k there (omega (arith, below, h))) (var_in v q there h)
      (λ b p row is below.
      let has = (kept.listed q b p h is).0 in
      table_in_range (representatives kinds imp.boxes) (slice_index kinds b) p row vars (pin_shown sharing kinds imp.boxes fits b p has) (row_shown sharing kinds imp.boxes fits b row (box_there imp.boxes b p has) below) (omega arith))))
      (all_hold (IsIn vars) (λ j. having (cell_variable imp kinds v (get_or imp.outs j 0)) (wanted_bit spec x j) ∷ []) (length imp.outs)
      (λ j h. lits_in vars (having (cell_variable imp kinds v (get_or imp.outs j 0)) (wanted_bit spec x j) ∷ []) (var_in v (get_or imp.outs j 0) there (All-get_or (λ k. k < length imp.cells) imp.outs j 0 h kept.outs_there), tt)))

pub variables_are_within : Sharing → VariablesAreWithin
variables_are_within sharing spec imp kinds kept fits vectors =
    pieces_hold (IsIn (vars sharing spec imp kinds kept fits vectors)) (λ v. vector_clauses spec imp kinds v (get_or vectors v [])) (length vectors) (λ v there. vector_in sharing spec imp kinds kept fits vectors v there (get_or vectors v []))
