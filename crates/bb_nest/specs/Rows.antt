-- The rows of the tables of nested boxes. The bits at the input pins of a box determine the bits at all pins of the
-- boxes before it: each of these has the bit at the first input pin that is the same. Given these bits the row is the
-- least list of output bits with which the boxes after it can still be filled one after another, as a number with the
-- first output pin most significant. Input bits that no choices suit may come at no vector; their row is all 0.
use Rattle.std.specs.Prelude.{◌≡◌, ◌≤◌, ◌<◌, ℕ, ◌+◌, Bool, false, List, [], ◌∷◌, ◌++◌, length, take, drop, replicate, slice_index}
use Rattle.std.specs.List.{AllZip}
use Rattle.bb_bits.specs.Numbers.{number_of}
use Rattle.bb_bits.specs.Tables.{TableBits, row_of}
use Rattle.bb_net.specs.Completions.{AreCompletion}
use Rattle.bb_net.specs.Conditions.{PinBits, ChoicesSuit, InputsHaveOutputs}
use Rattle.bb_net.specs.Netlists.{Netlist, Pins, box_at}
use Rattle.bb_net.specs.Values.{bit_of, table_at}
use Rattle.bb_nest.specs.Nested.{AreSame}

-- input pin p is the first at which a box sees a cell
pub record IsSeenFirst (net : Netlist) (box : Pins) (cell p : ℕ) : Type 0 where
  pub there : p < length box.ins
  pub same : AreSame net (slice_index box.ins p) cell
  pub first : (q : ℕ) → q < p → AreSame net (slice_index box.ins q) cell → ⊥

-- with the bits ins at its input pins a box sees this bit at a cell
abbrev pub SeesBit : Netlist → Pins → List Bool → ℕ → Bool → Type 0
SeesBit net box ins cell bit = (p : ℕ) × IsSeenFirst net box cell p × (bit ≡ bit_of ins p)

-- these bits at the pins of another box
pub record SeesBits (net : Netlist) (box : Pins) (given : List Bool) (other : Pins) (bits : PinBits) : Type 0 where
  pub ins : AllZip (SeesBit net box given) other.ins bits.ins
  pub outs : AllZip (SeesBit net box given) other.outs bits.outs

-- box b sees these bits at the pins of the boxes before it
abbrev pub SeesEarlier : Netlist → ℕ → List Bool → List PinBits → Type 0
SeesEarlier net b ins earlier = AllZip (SeesBits net (box_at net.boxes b) ins) (take b net.boxes) earlier

-- bits for the output pins of box b
abbrev pub AreOutputsOf : Netlist → ℕ → List Bool → Type 0
AreOutputsOf net b outs = length outs ≡ length (box_at net.boxes b).outs

-- with these outputs of box b the boxes after it can be filled one after another
abbrev pub Suffice : Netlist → Netlist → ℕ → List PinBits → List Bool → List Bool → Type 0
Suffice spec imp b earlier ins outs = InputsHaveOutputs (ChoicesSuit spec imp) (drop (b + 1) imp.boxes) (earlier ++ record { ins = ins; outs = outs } ∷ [])

-- the outputs of box b at ins, where the pins before it have these bits
pub data IsRow (spec imp : Netlist) (b : ℕ) (earlier : List PinBits) (ins outs : List Bool) : Type 0 where
  IsLeast : AreOutputsOf imp b outs → Suffice spec imp b earlier ins outs
      → ((others : List Bool) → AreOutputsOf imp b others → Suffice spec imp b earlier ins others → number_of outs ≤ number_of others)
      → IsRow spec imp b earlier ins outs
  AreZeros : ((others : List Bool) → AreOutputsOf imp b others → Suffice spec imp b earlier ins others → ⊥)
      → outs ≡ replicate (length (box_at imp.boxes b).outs) false
      → IsRow spec imp b earlier ins outs

-- the row of box b at ins
pub record IsNestedRow (spec imp : Netlist) (b : ℕ) (ins outs : List Bool) : Type 0 where
  pub earlier : List PinBits
  pub seen : SeesEarlier imp b ins earlier
  pub row : IsRow spec imp b earlier ins outs

-- tables with these rows, with which every output is right at every vector
pub record AreNestedTables (spec imp : Netlist) (tables : List TableBits) : Type 0 where
  pub completion : AreCompletion spec imp tables
  pub rows : (b : ℕ) → b < length imp.boxes → (ins : List Bool) → length ins ≡ length (box_at imp.boxes b).ins → IsNestedRow spec imp b ins (row_of (table_at tables b) (number_of ins))
