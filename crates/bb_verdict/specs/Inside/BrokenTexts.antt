-- The report of an event that breaks an invariant, by the bits of the unrolled netlist, as the code makes it.
use Rattle.std.specs.Prelude.{ℕ, suc, Bool, true, false, if◌then◌else◌, List, [], ◌∷◌, ◌++◌, codes, drop, length, take, zip}
use Rattle.std.specs.Prelude.{Option, None, Some}
use Rattle.std.specs.List.{flat_map}
use Rattle.bb_checks.specs.Reports.{printed_input}
use Rattle.bb_net.specs.Flats.{FlatNet}
use Rattle.bb_unroll.specs.Events.{edge_at}
use Rattle.bb_verdict.specs.InvariantAnswers.{edge_text}

-- the edge by whether it rises and whether it falls
abbrev pub edge_of : Bool → Bool → Option Bool
edge_of rises falls = if rises then Some false else (if falls then Some true else None)

-- the edges of the inputs from one of a number on
abbrev pub edges_text : FlatNet → List Bool → ℕ → List (List ℕ) → List ℕ
edges_text f x i [] = []
edges_text f x i (n ∷ rest) = edge_text n (edge_at f x i) ++ edges_text f x (suc i) rest

abbrev pub broken_bytes : FlatNet → List (List ℕ) → List Bool → List ℕ
broken_bytes f names x =
    codes "invariant broken\ninput" ++ (flat_map printed_input (zip names (take f.net.inputs x)) ++ (
    codes "\nedges" ++ (edges_text f x 0 f.ins ++ (
    codes "\nthen" ++ (flat_map printed_input (zip f.ins (take (length f.ins) (drop f.net.inputs x)))
    ++ codes "\nverdict open\n")))))
