-- What a check reports: the least vector at which something is wrong, vectors being ordered as the numbers that they
-- spell, the first input the most significant; and where it reports an output, the first for which there is one.
use Rattle.std.specs.Prelude.{◌≡◌, ◌≤◌, ◌<◌, ◌⊎◌, ℕ, Bool, List, None, Some}
use Rattle.bb_bits.specs.Numbers.{number_of}
use Rattle.bb_net.specs.Netlists.{Netlist}
use Rattle.bb_net.specs.Equivalence.{IsVector, AreBoxOutputs, IsOutput, IsRight}
use Rattle.bb_net.specs.Values.{flat}
use Rattle.bb_net.specs.Conditions.{IsKnownWrong, MayBeRight, MayBeRightEverywhere, IsAlwaysWrong, EachSometimesRight, AlwaysSomeWrongAt, AllRightTogether}
use Rattle.bb_sym.specs.declared.found.Found.{Found}

-- x is the least vector of which P holds
pub record IsLeastVector (imp : Netlist) (P : List Bool → Type 0) (x : List Bool) : Type 0 where
  pub vector : IsVector imp x
  pub holds : P x
  pub least : (y : List Bool) → IsVector imp y → P y → number_of x ≤ number_of y

-- j is the first output of which there is a vector with P, and x the least one; N is what holds of the others
pub record IsFirstFound (imp : Netlist) (P N : List Bool → ℕ → Type 0) (x : List Bool) (j : ℕ) : Type 0 where
  pub there : IsOutput imp j
  pub at : IsLeastVector imp (λ y. P y j) x
  pub earlier : (i : ℕ) → i < j → (y : List Bool) → IsVector imp y → N y i

-- at the vector x the output j is right for some outputs of the boxes
abbrev pub IsSometimesRight : Netlist → Netlist → List Bool → ℕ → Type 0
IsSometimesRight spec imp x j = (z : List Bool) × AreBoxOutputs imp z × IsRight spec imp x (flat imp x z) j

-- what a check reports: the first output, and the least vector for it
abbrev pub FindsOutput : Netlist → (List Bool → ℕ → Type 0) → (List Bool → ℕ → Type 0) → Found → Type 0
FindsOutput imp P N found = (j : ℕ) × (found.output ≡ Some j) × IsFirstFound imp P N found.input.items j

-- or only the least vector, with no output
abbrev pub FindsVector : Netlist → (List Bool → Type 0) → Found → Type 0
FindsVector imp P found = (found.output ≡ None) × IsLeastVector imp P found.input.items

-- each check finds a mistake of its kind, or there is none anywhere
pub record FindingsExist (spec imp : Netlist) : Type 0 where
  pub known : ((found : Found) × FindsOutput imp (IsKnownWrong spec imp) (MayBeRight spec imp) found) ⊎ MayBeRightEverywhere spec imp
  pub always : ((found : Found) × FindsOutput imp (IsAlwaysWrong spec imp) (IsSometimesRight spec imp) found) ⊎ EachSometimesRight spec imp
  pub all : ((found : Found) × FindsVector imp (AlwaysSomeWrongAt spec imp) found) ⊎ AllRightTogether spec imp
