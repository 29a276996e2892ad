-- Laws that link the list of cells of a design, and a flat netlist that implements it, with the worlds of the design.
use Rattle.std.specs.Prelude.{◌≡◌, ℕ, ◌≤◌, Bool, List, [], ◌++◌, map, length, slice_index_or, ◌+◌, true, false, ◌∷◌, take}
use Rattle.std.specs.List.{range_with_len}
use Rattle.bb_bits.specs.Contents.{Contents, output_bit}
use Rattle.bb_net.specs.Loose.{LooseList, IsLoose, IsLooseValue}
use Rattle.bb_net.specs.Values.{bit_of, value_of}
use Rattle.bb_net.specs.Flats.{FlatNet, ArePrintable, IsFlat}
use Rattle.bb_design.specs.Hierarchy.{Design}
use Rattle.bb_design.specs.NetBits.{net_order, top_inputs}
use Rattle.bb_implements.specs.Places.{NetBit, Numbering, Lowering, IsLowering, placed_cells, IsListOf}
use Rattle.bb_design.specs.Registers.{registers}
use Rattle.bb_design.specs.Sizes.{cells_in}
use Rattle.bb_implements.specs.Implements.{box_number, Implements}
use Rattle.bb_design.specs.Texts.{path_text, bit_text}
use Rattle.bb_design.specs.Worlds.{World, Vector, HasVector, IsWorld, FitDesign, outputs_in}
use Rattle.bb_net.specs.CutPoints.{TopInput, State}
use Rattle.bb_net.specs.declared.loose.LooseCell.TheVariants.{Const, Input}
use Rattle.bb_design.specs.Inside.Allowed.{IsBounded, IsAllowed}

-- the list of cells of a design may be given to `order`: its places are there, and the pins of boxes are cells
abbrev pub ListsAreLoose : Type 0
ListsAreLoose = (d : Design) (lowering : Lowering) (l : LooseList) → IsBounded d → IsLowering d lowering → IsListOf d lowering l → IsLoose l

-- the bits of a vector, in the order of the inputs of a flat netlist
abbrev pub vector_bits : Design → Vector → List Bool
vector_bits d x = map (λ b. x (TopInput (bit_text d b))) (top_inputs d) ++ map (λ r. x (State (bit_text d r.bit))) (registers d)

-- what the boxes give, by their numbers in elaboration order, where they have these contents
abbrev pub given_by_contents : Design → Contents → ℕ → ℕ → List Bool → Bool
given_by_contents d contents b p ins = output_bit (contents (path_text (box_number d b).path)) ins p

-- each bit of a net has the bit at its place in the list
abbrev pub world_at : Numbering → List Bool → World
world_at number bits path n k = bit_of bits (number (NetBit (record { path = path; net = n; place = k })))

-- bits that meet the equations of the list of cells make a world of the vector
abbrev pub ListsGiveWorlds : Type 0
ListsGiveWorlds = (d : Design) (lowering : Lowering) (l : LooseList) → IsAllowed d → IsLowering d lowering → (list : IsListOf d lowering l)
    → (contents : Contents) (x : Vector) (bits : List Bool) → FitDesign d contents → IsLooseValue l (vector_bits d x) (given_by_contents d contents) bits
    → IsWorld d contents (world_at list.number bits) × HasVector d x (world_at list.number bits)

-- the path of a box of a flat netlist
abbrev pub path_of : FlatNet → ℕ → List ℕ
path_of f b = (slice_index_or f.boxes b (record { path = []; «module» = []; ins = []; outs = [] })).path

-- what the boxes of a flat netlist give, where each has the contents of its path; so no law about worlds needs the
-- order of the boxes
abbrev pub given_by_paths : FlatNet → Contents → ℕ → ℕ → List Bool → Bool
given_by_paths f contents b p ins = output_bit (contents (path_of f b)) ins p

-- each vector and all contents have a world; and in every world of the vector the cut outputs have the bits that a
-- netlist gives which implements the design
abbrev pub ImplementingNetsGiveOutputs : Type 0
ImplementingNetsGiveOutputs = (d : Design) (f : FlatNet) → IsAllowed d → Implements d f → (contents : Contents) (x : Vector) → FitDesign d contents
    → ((w : World) × IsWorld d contents w × HasVector d x w)
    × ((w : World) → IsWorld d contents w → HasVector d x w → map (λ o. o.1) (outputs_in d w) ≡ map (bit_of (value_of f.net (vector_bits d x) (given_by_paths f contents))) f.net.outs)

-- so two netlists that implement one design have the same bits at their outputs
abbrev pub ImplementingNetsAreEquivalent : Type 0
ImplementingNetsAreEquivalent = (d : Design) (f g : FlatNet) → IsAllowed d → Implements d f → Implements d g → (contents : Contents) (x : Vector) → FitDesign d contents
    → map (bit_of (value_of f.net (vector_bits d x) (given_by_paths f contents))) f.net.outs ≡ map (bit_of (value_of g.net (vector_bits d x) (given_by_paths g contents))) g.net.outs

-- a netlist that implements a design has no more cells than the design
abbrev pub NetsAreNoLarger : Type 0
NetsAreNoLarger = (d : Design) (f : FlatNet) → IsBounded d → Implements d f → length f.net.cells ≤ cells_in d

-- the list of cells of a design has no more places than the design has cells and bits of nets, however it is numbered
abbrev pub PlacesAreFew : Type 0
PlacesAreFew = (d : Design) (lowering : Lowering) (number : Numbering) → IsBounded d → IsLowering d lowering
    → length (placed_cells d lowering number) ≤ cells_in d + length (net_order d)

-- one that implements a sound design is a flat netlist, where its texts are printable
abbrev pub ImplementingNetsAreFlat : Type 0
ImplementingNetsAreFlat = (d : Design) (f : FlatNet) → IsAllowed d → Implements d f → ArePrintable f → IsFlat f

-- the list of cells of a design begins with the constants and the inputs, as a list of cells has to
abbrev pub ListsBegin : Type 0
ListsBegin = (d : Design) (lowering : Lowering) (l : LooseList) → IsListOf d lowering l → take (l.inputs + 2) l.cells ≡ Const false ∷ Const true ∷ map Input (range_with_len 0 l.inputs)

-- each design of a well-formed text without faults that is neither too deep nor too large has a list of cells
abbrev pub ListsExist : Type 0
ListsExist = (d : Design) → IsBounded d → (lowering : Lowering) × IsLowering d lowering × ((l : LooseList) × IsListOf d lowering l)

-- the texts of a netlist that implements such a design are printable
abbrev pub ImplementingNetsArePrintable : Type 0
ImplementingNetsArePrintable = (d : Design) (f : FlatNet) → IsBounded d → Implements d f → ArePrintable f

-- and each sound design has a netlist that implements it
abbrev pub ImplementingNetsExist : Type 0
ImplementingNetsExist = (d : Design) → IsAllowed d → (f : FlatNet) × Implements d f
