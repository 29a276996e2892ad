-- What a reader expects of expansions: their clauses are about tables, and are as many as counted.
use Rattle.std.specs.Prelude.{◌≡◌, ◌↔◌, ◌⊎◌, ℕ, ◌<◌, ◌≤◌, ◌*◌, ◌^◌, Bool, List, [], length, slice_index, All, Contains}
use Rattle.std.specs.List.{slice_index_or}
use Rattle.bb_bits.specs.Numbers.{number_of}
use Rattle.bb_bits.specs.Tables.{TableBits}
use Rattle.bb_net.specs.declared.cell.Cell.{Cell}
use Rattle.bb_net.specs.Equivalence.{AllRight}
use Rattle.bb_net.specs.Kinds.{FitKinds, representatives, per_box, NoSharedTablesMakeEquivalent, SomeSharedTablesMakeEquivalent}
use Rattle.bb_net.specs.Netlists.{Netlist, Pins, IsNetlist}
use Rattle.bb_net.specs.Values.{gate, flat_with, FitBoxes}
use Rattle.bb_cnf.specs.Chains.{IsRefutation}
use Rattle.bb_cnf.specs.Clauses.{Formula, HasVariablesWithin}
use Rattle.bb_cnf.specs.declared.refutation.Step.{Step}
use Rattle.bb_cnf.specs.Truth.{HaveNoModel, Satisfies}
use Rattle.bb_subst.specs.Distinguishing.{AreDistinguishing, FailAt}
use Rattle.bb_cdcl.specs.Inside.Outcomes.{HasModel}
use Rattle.bb_expand.specs.ClauseCounts.{clauses_per_vector}
use Rattle.bb_expand.specs.declared.expanded.Expanded.{Expanded}
use Rattle.bb_expand.specs.Expanded.{IsError, IsExpanded}
use Rattle.bb_expand.specs.GivenUp.{NeedsMoreClauses}
use Rattle.bb_expand.specs.Expansions.{table_variable, cell_clauses, expansion, all_vectors}

-- what the boxes give by the bits of the table variables of their sharing classes
abbrev pub assigned_bit : List ℕ → List Pins → (ℕ → Bool) → ℕ → ℕ → List Bool → Bool
assigned_bit kinds boxes v b p ins = v (table_variable (representatives kinds boxes) (slice_index kinds b) (number_of ins) p)

-- a cell's clauses are true exactly where its variable has the gate's bit of the variables that it reads
abbrev pub CellClausesSayGate : Type 0
CellClausesSayGate = (kinds : List ℕ) (boxes : List Pins) (x : List Bool) (var : ℕ → ℕ) (y : ℕ) (cell : Cell) (v : ℕ → Bool)
    → Satisfies v (cell_clauses kinds boxes x var y cell) ↔ (v y ≡ gate boxes x (assigned_bit kinds boxes v) (λ place. v (var place)) cell)

-- some tables, one for each sharing class, give every output the wanted bit at each of these vectors
abbrev pub SomeTablesSuit : Netlist → Netlist → List ℕ → List (List Bool) → Type 0
SomeTablesSuit spec imp kinds vectors = (tables : List TableBits) × FitBoxes tables (representatives kinds imp.boxes) × All (λ x. AllRight spec imp x (flat_with imp x (per_box kinds tables))) vectors

-- an expansion has a model exactly where some tables suit its vectors
abbrev pub ModelsAreTables : Type 0
ModelsAreTables = (spec imp : Netlist) (kinds : List ℕ) → IsNetlist imp → FitKinds kinds imp.boxes → (vectors : List (List Bool)) → HasModel (expansion spec imp kinds vectors) ↔ SomeTablesSuit spec imp kinds vectors

-- over all vectors, exactly where some tables agree
abbrev pub AllVectorsDecide : Type 0
AllVectorsDecide = (spec imp : Netlist) (kinds : List ℕ) → IsNetlist imp → FitKinds kinds imp.boxes → HasModel (expansion spec imp kinds (all_vectors imp.inputs)) ↔ SomeSharedTablesMakeEquivalent spec imp kinds

-- each vector adds the same number of clauses
abbrev pub ClausesAreCounted : Type 0
ClausesAreCounted = (spec imp : Netlist) (kinds : List ℕ) (vectors : List (List Bool)) → length (expansion spec imp kinds vectors).clauses ≡ length vectors * clauses_per_vector imp

-- the variables of an expansion are in its range
abbrev pub VariablesAreWithin : Type 0
VariablesAreWithin = (spec imp : Netlist) (kinds : List ℕ) → IsNetlist imp → FitKinds kinds imp.boxes → (vectors : List (List Bool)) → HasVariablesWithin (expansion spec imp kinds vectors).vars (expansion spec imp kinds vectors).clauses

-- the vector at a place of the list of all vectors spells the place
abbrev pub VectorsRise : Type 0
VectorsRise = (n k : ℕ) → k < 2 ^ n → number_of (slice_index_or (all_vectors n) k []) ≡ k

-- and each vector is in the list
abbrev pub VectorsAreAll : Type 0
VectorsAreAll = (x : List Bool) → Contains (all_vectors (length x)) x

-- where no tables agree, one for each sharing class, the expansion over all vectors has a refutation
abbrev pub ExpansionsAreRefuted : Type 0
ExpansionsAreRefuted = (spec imp : Netlist) (kinds : List ℕ) → IsNetlist imp → FitKinds kinds imp.boxes → NoSharedTablesMakeEquivalent spec imp kinds → (steps : List Step) × IsRefutation (expansion spec imp kinds (all_vectors imp.inputs)).clauses steps

-- where the expansion over some vectors is refuted, all tables, one for each sharing class, are wrong at one of them
abbrev pub RefutationsShowVectors : Type 0
RefutationsShowVectors = (spec imp : Netlist) (kinds : List ℕ) (budget : ℕ) (vectors : List (List Bool)) (cnf : Formula) (steps : List Step)
    → IsNetlist imp → FitKinds kinds imp.boxes → IsError spec imp kinds budget vectors cnf steps
    → (tables : List TableBits) → FitBoxes tables (representatives kinds imp.boxes)
    → (x : List Bool) × Contains vectors x × FailAt spec imp (per_box kinds tables) x

-- an expansion over required samples, within the budget and without a model, has a refutation whose steps a list in
-- memory may hold: one of many variables may have no shorter one than a list may be long
abbrev pub HaveShortRefutations : Netlist → Netlist → List ℕ → ℕ → Type 0
HaveShortRefutations spec imp kinds budget = (vectors : List (List Bool)) → AreDistinguishing spec imp kinds vectors → length (expansion spec imp kinds vectors).clauses ≤ budget
    → HaveNoModel (expansion spec imp kinds vectors).clauses → (steps : List Step) × (length steps < 2 ^ 63) × IsRefutation (expansion spec imp kinds vectors).clauses steps

-- a pair has an answer, or the check may give up, where refutations that it needs are short enough
abbrev pub AnswersExist : Type 0
AnswersExist = (spec imp : Netlist) (kinds : List ℕ) (budget : ℕ) → IsNetlist imp → FitKinds kinds imp.boxes → budget < 2 ^ 63 → HaveShortRefutations spec imp kinds budget
    → ((answer : Expanded) × IsExpanded spec imp kinds budget answer) ⊎ NeedsMoreClauses spec imp kinds budget
