-- Laws of invariants.
use Rattle.std.specs.Prelude.{◌≡◌, ℕ, ◌+◌, Bool, true, List, drop, length, map, take, Option, None, Some, slice_get}
use Rattle.bb_bits.specs.Contents.{Contents}
use Rattle.bb_design.specs.Hierarchy.{Design}
use Rattle.bb_design.specs.Inside.Allowed.{IsAllowed}
use Rattle.bb_design.specs.Refusals.{input_texts}
use Rattle.bb_design.specs.Worlds.{World, IsWorld, HasVector, outputs_in}
use Rattle.bb_equiv.specs.DesignEquivalence.{IsRequired}
use Rattle.bb_equiv.specs.Invariants.{HoldsIn, IsBitIn, IsBrokenBy, IsInvariant, RunTheSameFrom}
use Rattle.bb_equiv.specs.Mistakes.{inputs_of}
use Rattle.bb_equiv.specs.Runs.{Event, RunTheSame, States, seen_at}
use Rattle.bb_implements.specs.Implements.{Implements}
use Rattle.bb_net.specs.Flats.{FlatNet}
use Rattle.bb_net.specs.Values.{bit_of}
use Rattle.bb_net.specs.declared.flat.Reg.{Reg}
use Rattle.bb_unroll.specs.Events.{CanBeUnrolled, IsBrokenAt, IsKept, IsOutputCell, edge_at}
use Rattle.bb_unroll.specs.Unrolled.{next_input}

-- designs that run the same for as long as an invariant is 1 do so for ever from all states in which it is 1
abbrev pub InvariantsHoldInRuns : Type 0
InvariantsHoldInRuns = (name : List ℕ) (spec imp : Design) (contents : Contents) → IsInvariant None spec name
    → RunTheSame (Some name) spec imp contents → RunTheSameFrom name spec imp contents

-- where one is 1 at one vector with these states, it is 1 with them whatever the inputs are
abbrev pub OneVectorIsEnough : Type 0
OneVectorIsEnough = (care : Option (List ℕ)) (name : List ℕ) (d : Design) (contents : Contents) (states : States)
    (event : Event) (w : World) → IsInvariant care d name → IsWorld d contents w → HasVector d (seen_at states event) w
    → IsRequired care (outputs_in d w) → IsBitIn d w name true → HoldsIn d contents states name

-- and an event that breaks one shows that it is none
abbrev pub InvariantsAreNotBroken : Type 0
InvariantsAreNotBroken = (care : Option (List ℕ)) (name : List ℕ) (d : Design) (contents : Contents) (states : States)
    (event next : Event) → IsAllowed d → IsInvariant care d name → IsBrokenBy care d name contents states event next → ⊥

-- the cell of a care output, if one is requested
abbrev pub IsCareCell : FlatNet → Option (List ℕ) → Option ℕ → Type 0
IsCareCell f None None = Unit {0}
IsCareCell f None (Some k) = ⊥
IsCareCell f (Some name) None = ⊥
IsCareCell f (Some name) (Some k) = IsOutputCell f name k

-- a netlist that implements a design and can be unrolled, with the cells of an invariant and of a care output
pub record ImplementsInvariant (care : Option (List ℕ)) (name : List ℕ) (d : Design) (f : FlatNet) (k : ℕ)
    (c : Option ℕ) : Type 0 where
  pub allowed : IsAllowed d
  pub implements : Implements d f
  pub can : CanBeUnrolled f
  pub cell : IsOutputCell f name k
  pub care_cell : IsCareCell f care c

-- what its unrolling keeps is an invariant of the design
abbrev pub KeptAreInvariants : Type 0
KeptAreInvariants = (care : Option (List ℕ)) (name : List ℕ) (d : Design) (f : FlatNet) (k : ℕ) (c : Option ℕ)
    → ImplementsInvariant care name d f k c → IsKept f k c → IsInvariant care d name

-- an event with the bits of an unrolling: the inputs and states, the edges, and the inputs of the next one
pub record AreBitsOf (f : FlatNet) (x : List Bool) (states : States) (event next : Event) : Type 0 where
  pub inputs : (i : ℕ) (n : List ℕ) → slice_get f.ins i ≡ Some n → event.inputs n ≡ bit_of x i
  pub present : (j : ℕ) (r : Reg) → slice_get f.regs j ≡ Some r → states r.text ≡ bit_of x (length f.ins + j)
  pub edges : (i : ℕ) (n : List ℕ) → slice_get f.ins i ≡ Some n → event.edges n ≡ edge_at f x i
  pub inputs_after : (i : ℕ) (n : List ℕ) → slice_get f.ins i ≡ Some n → next.inputs n ≡ bit_of x (next_input f i)

-- so the bits are listed as reports list them
pub record AreListedIn (d : Design) (f : FlatNet) (x : List Bool) (states : States) (event next : Event) : Type 0 where
  pub ins : f.ins ≡ input_texts d
  pub present : take f.net.inputs x ≡ map (seen_at states event) (inputs_of d)
  pub edges : (i : ℕ) (n : List ℕ) → slice_get f.ins i ≡ Some n → event.edges n ≡ edge_at f x i
  pub inputs_after : take (length f.ins) (drop f.net.inputs x) ≡ map next.inputs (input_texts d)

-- and what breaks it there is an event of the design that breaks it
abbrev pub BrokenAreBroken : Type 0
BrokenAreBroken = (care : Option (List ℕ)) (name : List ℕ) (d : Design) (f : FlatNet) (k : ℕ)
    (c : Option ℕ) (x : List Bool)
    → ImplementsInvariant care name d f k c → IsBrokenAt f k c x → (states : States) × (event next : Event)
    × AreListedIn d f x states event next × ((contents : Contents) → IsBrokenBy care d name contents states event next)
