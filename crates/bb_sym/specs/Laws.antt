-- What a reader expects of the tables of functions, of what a sequence of calls leaves in a store, and of points as
-- numbers.
use Rattle.std.specs.Prelude.{◌≡◌, ◌<◌, ◌≤◌, ◌↔◌, ◌⊎◌, ℕ, ◌+◌, ◌*◌, ◌^◌, Bool, true, false, List, [], ◌∷◌, ◌++◌, length, map, take, drop, replicate, All, Contains, slice_index}
use Rattle.bb_bits.specs.Numbers.{number_of}
use Rattle.bb_bits.specs.Truth.{Truth, IsTruthTable, truth_at, constant, variable, combined, IsBeadOfAny}
use Rattle.bb_bits.specs.TruthSets.{HasMoreThan}
use Rattle.bb_net.specs.Netlists.{Netlist, IsNetlist}
use Rattle.bb_net.specs.Values.{bit_of}
use Rattle.bb_uniq.specs.declared.store.Ref.{Ref}
use Rattle.bb_uniq.specs.Inside.Nodes.{NodeStore, IsStore}
use Rattle.bb_uniq.specs.Inside.Meaning.{Keeps, Adds, IsTooMany}
use Rattle.bb_sym.specs.Inside.Made.{Makes, AreTooMany, AreRefs, Represents, RepresentAll, HaveCells, ref_at}
use Rattle.bb_sym.specs.Functions.{specification_functions, high, low, known_tables}
use Rattle.bb_sym.specs.Plain.{Function, Reading, table, one_of, plain_functions_at}

-- functions and their tables
pub record FunctionLaws : Type 0 where
  -- a table has the value of its function at each point, and functions that agree at each have one table
  pub size : (n : ℕ) (f : Function) → IsTruthTable n (table n f)
  pub at_point : (n : ℕ) (f : Function) (p : List Bool) → length p ≡ n → truth_at (table n f) p ≡ f p
  pub same : (n : ℕ) (f g : Function) → ((p : List Bool) → length p ≡ n → f p ≡ g p) → table n f ≡ table n g
  pub combined_tables : (n : ℕ) (op : Bool → Bool → Bool → Bool) (f g h : Function) → combined op (table n f) (table n g) (table n h) ≡ table n (λ p. op (f p) (g p) (h p))
  pub constant_table : (n : ℕ) (b : Bool) → constant n b ≡ table n (λ p. b)
  pub variable_table : (n v : ℕ) → v < n → variable n v ≡ table n (λ p. bit_of p v)
  -- one of the first functions is 1 exactly where there is such a one
  pub one_true : (f : ℕ → Function) (count : ℕ) (p : List Bool) → (one_of f count p ≡ true) ↔ ((j : ℕ) × (j < count) × (f j p ≡ true))
  pub one_false : (f : ℕ → Function) (count : ℕ) (p : List Bool) → (one_of f count p ≡ false) ↔ ((j : ℕ) → j < count → f j p ≡ false)

-- what is made for each cell where boxes are unknown has both its tables: where its value is known to be 1, and where
-- to be 0
pub record KnownTableLaws : Type 0 where
  pub high_listed : (imp : Netlist) → IsNetlist imp → (place : ℕ) → place < length imp.cells → Contains (known_tables imp place) (high imp place)
  pub low_listed : (imp : Netlist) → IsNetlist imp → (place : ℕ) → place < length imp.cells → Contains (known_tables imp place) (low imp place)

-- the functions of a check have more beads than a number where already the cells of the specification have
abbrev pub HoldsSpecification : (Netlist → Netlist → List Truth) → Type 0
HoldsSpecification functions = (spec imp : Netlist) (k : ℕ) → HasMoreThan (IsBeadOfAny (specification_functions spec imp)) k → HasMoreThan (IsBeadOfAny (functions spec imp)) k

-- in a point of `vars` variables the inputs are adjacent bits after the first `before` ones, in their order
pub record ReadsInputs (vars before inputs : ℕ) (r : Reading) : Type 0 where
  pub within : before + inputs ≤ vars
  pub read : (p : List Bool) → length p ≡ vars → r.inputs p ≡ take inputs (drop before p)

-- where points are read so, the variables and the cells of both nets have them
abbrev pub CellsHoldSpecification : Type 0
CellsHoldSpecification = (spec imp : Netlist) (k vars before : ℕ) (r : Reading) → ReadsInputs vars before imp.inputs r
    → HasMoreThan (IsBeadOfAny (specification_functions spec imp)) k → HasMoreThan (IsBeadOfAny (plain_functions_at vars r spec imp)) k

-- a sequence of calls, by the tables that they made
pub record MakingLaws : Type 0 where
  pub none : (s : NodeStore) → Makes s s []
  pub one : (old new : NodeStore) (t : Truth) (r : ℕ) → Adds old new t r → Makes old new (t ∷ [])
  pub then : (a b c : NodeStore) (ts us : List Truth) → Makes a b ts → Makes b c us → Makes a c (ts ++ us)
  -- only the beads count
  pub both : (ts us : List Truth) (b : Truth) → IsBeadOfAny (ts ++ us) b ↔ (IsBeadOfAny ts b ⊎ IsBeadOfAny us b)
  pub same : (a b : NodeStore) (ts us : List Truth) → ((t : Truth) → IsBeadOfAny ts t ↔ IsBeadOfAny us t) → Makes a b ts → Makes a b us
  -- where the beads are too many, they are too many with further ones, and after those before were made
  pub refused_one : (s : NodeStore) (t : Truth) → IsTooMany s t → AreTooMany s (t ∷ [])
  pub refused_then : (a b : NodeStore) (ts us : List Truth) → Makes a b ts → AreTooMany b us → AreTooMany a (ts ++ us)
  pub refused_more : (s : NodeStore) (ts us : List Truth) → ((t : Truth) → IsBeadOfAny ts t → IsBeadOfAny us t) → AreTooMany s ts → AreTooMany s us
  -- from a store of no node on, what is held are the beads of the tables, and they fit the limit
  pub start_refused : (s : NodeStore) (ts : List Truth) → s.nodes ≡ [] → AreTooMany s ts → HasMoreThan (IsBeadOfAny ts) s.limit
  pub start_fits : (s now : NodeStore) (ts : List Truth) → s.nodes ≡ [] → IsStore now → Makes s now ts → HasMoreThan (IsBeadOfAny ts) s.limit → ⊥
  -- Refs keep their meaning; some may be picked at places
  pub occurs_still : (a b : NodeStore) (t : Truth) (r : Ref) → Keeps a b → Represents a t r → Represents b t r
  pub all_still : (a b : NodeStore) (t : ℕ → Truth) (refs : List Ref) → Keeps a b → RepresentAll a t refs → RepresentAll b t refs
  pub cells_still : (a b : NodeStore) (r : Reading) (spec imp : Netlist) (of_spec of_imp : List Ref) → Keeps a b → HaveCells a r spec imp of_spec of_imp → HaveCells b r spec imp of_spec of_imp
  pub picked_refs : (s : NodeStore) (refs : List Ref) (places : List ℕ) → AreRefs s refs → All (λ place. place < length refs) places → AreRefs s (map (ref_at refs) places)
  pub picked_occur : (s : NodeStore) (t : ℕ → Truth) (refs : List Ref) (places : List ℕ) → RepresentAll s t refs → All (λ place. place < length refs) places
      → RepresentAll s (λ j. t (slice_index places j)) (map (ref_at refs) places)

-- the numbers that points spell
pub record PointLaws : Type 0 where
  pub append : (x w : List Bool) → number_of (x ++ w) ≡ number_of x * 2 ^ length w + number_of w
  pub zeros : (k : ℕ) → number_of (replicate k false) ≡ 0
  -- with zeros after the greater one, the first bits of the smaller one spell no more
  pub first_bits : (x w y : List Bool) (k : ℕ) → length w ≡ k → number_of (x ++ w) ≤ number_of (y ++ replicate k false) → number_of x ≤ number_of y
