-- By this file `module_templates`, `list_cells` and laws of modules promise to crates above; no clause of `elaborate` rests
-- on it.
-- A module template. A bit is given by its number among the bits of a scope of the module, which are the same for each
-- scope.
use Rattle.std.specs.Prelude.{◌≡◌, ℕ, ◌<◌, List, [], ◌∷◌, length, take, sum_by, Some, slice_get}
use Rattle.std.specs.List.{AllZip, flat_map}
use Rattle.bb_ast.specs.Syntax.{Expression, PlainModule}
use Rattle.bb_names.specs.declared.net.NetInfo.{NetInfo}
use Rattle.bb_names.specs.Declarations.{range_of}
use Rattle.bb_names.specs.Nets.{nets_of}
use Rattle.bb_names.specs.Ranges.{range_width}
use Rattle.bb_names.specs.Sites.{Pin, module_named}
use Rattle.bb_expr.specs.declared.step.Lowered.{Lowered}
use Rattle.bb_expr.specs.Lowered.{IsLowered}
use Rattle.bb_blast.specs.declared.logic.Logic.{Logic}
use Rattle.bb_blast.specs.declared.template.Part.{Part}
use Rattle.bb_blast.specs.declared.template.Part.TheVariants as part
use Rattle.bb_blast.specs.declared.template.ModuleTemplate.{ModuleTemplate}
use Rattle.bb_design.specs.Hierarchy.{Path, Scope, Instance, instances_of}
use Rattle.bb_design.specs.NetBits.{Bit, scope_bits, bits_named, pin_bits, input_bits, output_bits, written_bits}
use Rattle.bb_design.specs.Contexts.{width_of, context_width}
use Rattle.bb_design.specs.Constructs.{Construct, Assignment, GateInstance, Register, SupplyNet, InputConnection, OutputConnection, body_constructs}
use Rattle.bb_bits.specs.Inside.Places.{AreAt}
use Rattle.bb_blast.specs.Inside.Logic.{IsLogicOf}

-- numbers of bits of a module, the same in each scope of it
abbrev pub AreBitsIn : PlainModule → List ℕ → (Scope → List Bit) → Type 0
AreBitsIn m numbers bits = (path : Path) → AreAt (scope_bits (record { path = path; source = m })) numbers (bits (record { path = path; source = m }))

-- an expression of a module, taken at the width that the context asks for in a scope, as steps
abbrev pub IsMadeIn : PlainModule → Lowered → Expression → (Scope → ℕ) → Type 0
IsMadeIn m l e width = IsLowered (nets_of m) (range_of m) e (width (record { path = []; source = m })) l.steps.items l.bits.items

-- what is kept of its operators, and of this many of its low bits
abbrev pub IsKeptIn : PlainModule → Logic → Expression → (Scope → ℕ) → ℕ → Type 0
IsKeptIn m g e width count = (l : Lowered) × IsMadeIn m l e width × IsLogicOf count l g

-- what is kept of its operators at its own width, and of all its bits
abbrev pub IsWholeIn : PlainModule → Logic → Expression → Type 0
IsWholeIn m g e = IsKeptIn m g e (λ s. width_of s e) (width_of (record { path = []; source = m }) e)

-- the numbers of the bits of a port of the instance with this number in a module
pub record IsPinIn (text : List PlainModule) (m : PlainModule) (instance : ℕ) (numbers : List ℕ) (name : List ℕ) (pin : Pin) : Type 0 where
  pub called : Instance
  pub target : PlainModule
  pub there : slice_get (instances_of m) instance ≡ Some called
  pub named : called.name ≡ name
  pub meant : module_named text called.target ≡ Some target
  pub bits : (path : Path) → AreAt (scope_bits (record { path = path; source = target })) numbers (pin_bits path pin)

-- a part implements a construct of a module
abbrev pub IsPartOf : List PlainModule → PlainModule → Part → Construct → Type 0
IsPartOf text m (part.Assignment left right) (Assignment l r) = AreBitsIn m left.items (λ s. written_bits s l) × IsKeptIn m right r (λ s. context_width s l r) (length left.items)
IsPartOf text m (part.Gate gate outs ins) (GateInstance g os is) = (gate ≡ g) × AreBitsIn m outs.items (λ s. flat_map (written_bits s) os)
    × AllZip (IsWholeIn m) ins.items is
IsPartOf text m (part.Register left right clock falling) (Register r) = AreBitsIn m left.items (λ s. written_bits s r.left)
    × IsKeptIn m right r.right (λ s. context_width s r.left r.right) (length left.items) × AreBitsIn m (clock ∷ []) (λ s. written_bits s r.clock) × (falling ≡ r.falling)
IsPartOf text m (part.Supply high bits) (SupplyNet h n) = (high ≡ h) × AreBitsIn m bits.items (λ s. bits_named s n)
IsPartOf text m (part.Input instance pin value) (InputConnection i port e) = IsPinIn text m instance pin.items i port × IsWholeIn m value e
IsPartOf text m (part.Output instance pin left) (OutputConnection i port e) = IsPinIn text m instance pin.items i port × AreBitsIn m left.items (λ s. written_bits s e)
IsPartOf text m p c = ⊥

-- the number of the first bit of a net
abbrev pub net_start : List NetInfo → ℕ → ℕ
net_start nets k = sum_by (λ net. range_width net.range) (take k nets)

pub record IsModuleTemplate (text : List PlainModule) (m : PlainModule) (o : ModuleTemplate) : Type 0 where
  pub starts : (k : ℕ) → k < length (nets_of m) → slice_get o.starts.items k ≡ Some (net_start (nets_of m) k)
  pub bits : o.bits ≡ sum_by (λ net. range_width net.range) (nets_of m)
  pub inputs : AreBitsIn m o.inputs.items input_bits
  pub outputs : AreBitsIn m o.outputs.items output_bits
  pub parts : AllZip (IsPartOf text m) o.parts.items (flat_map (λ item. body_constructs text item.body) m.items)
