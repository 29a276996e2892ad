-- The conditions under which an implementation with boxes cannot be completed so that it agrees with its specification,
-- from the strongest to the weakest. Each says less about the boxes than the one before it: their outputs are unknown;
-- they may have any bits, at one output or at all; they depend on the box's inputs alone; they are those of tables.
-- Beside each condition is what holds where it does not, so a check that finds nothing says something positive too.
-- That no tables agree ranges over tables of any size, with exactly the bits that their pins ask for; a bound on bits
-- belongs to tables that are written down.
use Rattle.std.specs.Prelude.{◌≡◌, ◌≢◌, ℕ, ◌<◌, Bool, List, [], ◌∷◌, ◌++◌, length, map, Contains, Some, IfSome, slice_index}
use Rattle.std.specs.List.{flat_map}
use Rattle.bb_bits.specs.Tables.{TableBits}
use Rattle.bb_net.specs.Netlists.{Netlist, Pins}
use Rattle.bb_net.specs.Values.{bit_of, flat, FitBoxes}
use Rattle.bb_net.specs.Ternary.{tern, tern_of}
use Rattle.bb_net.specs.Equivalence.{wanted_bit, IsVector, AreBoxOutputs, IsOutput, IsRight, IsWrong, AllRight, SomeWrong, TablesMakeEquivalent}

-- the output is known although the boxes are unknown, and is wrong
abbrev pub IsKnownWrong : Netlist → Netlist → List Bool → ℕ → Type 0
IsKnownWrong spec imp x j = (bit : Bool) × (tern_of (tern imp x) (slice_index imp.outs j) ≡ Some bit) × (wanted_bit spec x j ≢ bit)

-- it is unknown, or known and right
abbrev pub MayBeRight : Netlist → Netlist → List Bool → ℕ → Type 0
MayBeRight spec imp x j = IfSome (tern_of (tern imp x) (slice_index imp.outs j)) (λ bit. wanted_bit spec x j ≡ bit)

-- at some of the patterns some output is known and wrong
abbrev pub KnownWrongAmong : Netlist → Netlist → List (List Bool) → Type 0
KnownWrongAmong spec imp patterns = (x : List Bool) × Contains patterns x × (j : ℕ) × IsOutput imp j × IsKnownWrong spec imp x j

abbrev pub MayBeRightAmong : Netlist → Netlist → List (List Bool) → Type 0
MayBeRightAmong spec imp patterns = (x : List Bool) → Contains patterns x → (j : ℕ) → IsOutput imp j → MayBeRight spec imp x j

-- x is the first pattern at which some output is known and wrong, and j is the first such output there
pub record IsFirstHit (spec imp : Netlist) (patterns : List (List Bool)) (x : List Bool) (j : ℕ) : Type 0 where
  pub before : List (List Bool)
  pub after : List (List Bool)
  pub occurs : patterns ≡ before ++ x ∷ after
  pub earlier : MayBeRightAmong spec imp before
  pub there : IsOutput imp j
  pub wrong : IsKnownWrong spec imp x j
  pub first : (i : ℕ) → i < j → MayBeRight spec imp x i

-- at some vector some output is known and wrong
abbrev pub KnownWrongSomewhere : Netlist → Netlist → Type 0
KnownWrongSomewhere spec imp = (x : List Bool) × IsVector imp x × (j : ℕ) × IsOutput imp j × IsKnownWrong spec imp x j

abbrev pub MayBeRightEverywhere : Netlist → Netlist → Type 0
MayBeRightEverywhere spec imp = (x : List Bool) → IsVector imp x → (j : ℕ) → IsOutput imp j → MayBeRight spec imp x j

-- at the vector x the output j is wrong whatever the boxes' outputs are
abbrev pub IsAlwaysWrong : Netlist → Netlist → List Bool → ℕ → Type 0
IsAlwaysWrong spec imp x j = (z : List Bool) → AreBoxOutputs imp z → IsWrong spec imp x (flat imp x z) j

-- at some vector one output is always wrong
abbrev pub OneAlwaysWrong : Netlist → Netlist → Type 0
OneAlwaysWrong spec imp = (x : List Bool) × IsVector imp x × (j : ℕ) × IsOutput imp j × IsAlwaysWrong spec imp x j

-- at each vector each output is right for some outputs of the boxes
abbrev pub EachSometimesRight : Netlist → Netlist → Type 0
EachSometimesRight spec imp = (x : List Bool) → IsVector imp x → (j : ℕ) → IsOutput imp j → (z : List Bool) × AreBoxOutputs imp z × IsRight spec imp x (flat imp x z) j

-- at the vector x some output is wrong whatever the boxes' outputs are, which need not be the same one for all of them
abbrev pub AlwaysSomeWrongAt : Netlist → Netlist → List Bool → Type 0
AlwaysSomeWrongAt spec imp x = (z : List Bool) → AreBoxOutputs imp z → SomeWrong spec imp x (flat imp x z)

-- there is such a vector
abbrev pub SomeAlwaysWrong : Netlist → Netlist → Type 0
SomeAlwaysWrong spec imp = (x : List Bool) × IsVector imp x × AlwaysSomeWrongAt spec imp x

-- at each vector all outputs are right together for some outputs of the boxes
abbrev pub AllRightTogether : Netlist → Netlist → Type 0
AllRightTogether spec imp = (x : List Bool) → IsVector imp x → (z : List Bool) × AreBoxOutputs imp z × AllRight spec imp x (flat imp x z)

-- bits at the input pins and at the output pins of a box
pub record PinBits : Type 0 where
  pub ins : List Bool
  pub outs : List Bool

-- the bits at the output pins, box after box
abbrev pub all_outs : List PinBits → List Bool
all_outs chosen = flat_map (λ bits. bits.outs) chosen

-- where the cells have these bits, the bits at the input pins of each box
abbrev pub all_ins : List Pins → List Bool → List (List Bool)
all_ins boxes bits = map (λ pins. map (bit_of bits) pins.ins) boxes

-- with the chosen bits at all pins, every output is right at every vector that leads to the chosen inputs of the boxes
abbrev pub ChoicesSuit : Netlist → Netlist → List PinBits → Type 0
ChoicesSuit spec imp chosen = (x : List Bool) → IsVector imp x → all_ins imp.boxes (flat imp x (all_outs chosen)) ≡ map (λ bits. bits.ins) chosen
    → AllRight spec imp x (flat imp x (all_outs chosen))

-- for each list of input bits of the next box there is a list of output bits with which the same holds of the boxes
-- after it, and in the end the chosen bits suit
abbrev pub InputsHaveOutputs : (List PinBits → Type 0) → List Pins → List PinBits → Type 0
InputsHaveOutputs suit [] chosen = suit chosen
InputsHaveOutputs suit (box ∷ boxes) chosen = (ins : List Bool) → length ins ≡ length box.ins
    → (outs : List Bool) × (length outs ≡ length box.outs) × InputsHaveOutputs suit boxes (chosen ++ record { ins = ins; outs = outs } ∷ [])

-- box by box there are outputs for the inputs
abbrev pub SomeChoicesSuit : Netlist → Netlist → Type 0
SomeChoicesSuit spec imp = InputsHaveOutputs (ChoicesSuit spec imp) imp.boxes []

abbrev pub NoChoicesSuit : Netlist → Netlist → Type 0
NoChoicesSuit spec imp = SomeChoicesSuit spec imp → ⊥

-- no tables agree
abbrev pub NoTablesMakeEquivalent : Netlist → Netlist → Type 0
NoTablesMakeEquivalent spec imp = (tables : List TableBits) → FitBoxes tables imp.boxes → TablesMakeEquivalent spec imp tables → ⊥

-- some tables agree
abbrev pub SomeTablesMakeEquivalent : Netlist → Netlist → Type 0
SomeTablesMakeEquivalent spec imp = (tables : List TableBits) × FitBoxes tables imp.boxes × TablesMakeEquivalent spec imp tables
