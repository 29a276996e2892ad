-- Distinguishing (forced) vectors, by which tables are refuted one after another: at each of them some tables are wrong
-- that agree at all before it.
use Rattle.std.specs.Prelude.{◌≡◌, ℕ, Bool, List, ◌∷◌, ◌++◌, All}
use Rattle.bb_bits.specs.Tables.{TableBits}
use Rattle.bb_net.specs.Equivalence.{AllRight, IsVector, SomeWrong}
use Rattle.bb_net.specs.Kinds.{representatives, per_box}
use Rattle.bb_net.specs.Netlists.{Netlist}
use Rattle.bb_net.specs.Values.{FitBoxes, flat_with}

-- with the tables in the boxes every output is right at the vector
abbrev pub AreEquivalentAt : Netlist → Netlist → List TableBits → List Bool → Type 0
AreEquivalentAt spec imp tables x = AllRight spec imp x (flat_with imp x tables)

-- some output is wrong
abbrev pub FailAt : Netlist → Netlist → List TableBits → List Bool → Type 0
FailAt spec imp tables x = SomeWrong spec imp x (flat_with imp x tables)

-- the tables are one for each sharing class
pub record AreDistinguishing (spec imp : Netlist) (kinds : List ℕ) (vectors : List (List Bool)) : Type 0 where
  pub whole : All (IsVector imp) vectors
  pub each : (before after : List (List Bool)) (x : List Bool) → vectors ≡ before ++ x ∷ after
      → (tables : List TableBits) × FitBoxes tables (representatives kinds imp.boxes) × All (AreEquivalentAt spec imp (per_box kinds tables)) before × FailAt spec imp (per_box kinds tables) x
