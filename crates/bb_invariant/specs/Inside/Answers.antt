-- What an answer says of two netlists without boxes: whether they are equivalent. When it is undecided is a parameter.
use Rattle.std.specs.Prelude.{ℕ, [], Bool, List, Contains}
use Rattle.bb_bits.specs.Truth.{IsBeadOfAny}
use Rattle.bb_bits.specs.TruthSets.{HasMoreThan}
use Rattle.bb_expand.specs.GivenUp.{NeedsMoreClauses}
use Rattle.bb_miter.specs.Inside.Equivalence.{AreEquivalent, DiffersAt}
use Rattle.bb_net.specs.Equivalence.{SomeWrong}
use Rattle.bb_net.specs.Netlists.{Netlist}
use Rattle.bb_net.specs.Values.{flat}
use Rattle.bb_sym.specs.Functions.{output_functions}
use Rattle.bb_invariant.specs.declared.deciding.Invariance.{Invariance}
use Rattle.bb_invariant.specs.declared.deciding.Invariance.TheVariants as answers

abbrev pub IsAnswer : Netlist → Netlist → Type 0 → Invariance → Type 0
IsAnswer spec imp undecided answers.Kept = AreEquivalent spec imp
IsAnswer spec imp undecided (answers.Broken x) = DiffersAt spec imp x.items
IsAnswer spec imp undecided answers.Open = undecided

-- by diagrams and by clauses they are too large
abbrev pub AreTooLarge : Netlist → Netlist → ℕ → ℕ → Type 0
AreTooLarge spec imp nodes clauses = HasMoreThan (IsBeadOfAny (output_functions spec imp)) nodes × NeedsMoreClauses spec imp [] clauses

-- at one of the vectors some output differs
abbrev pub SomeDiffer : Netlist → Netlist → List (List Bool) → Type 0
SomeDiffer spec imp vectors = (x : List Bool) × Contains vectors x × SomeWrong spec imp x (flat imp x [])
