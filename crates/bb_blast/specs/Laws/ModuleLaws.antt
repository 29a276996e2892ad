-- Laws of checked modules by their places, of the numbers of their bits, and of what they store to.
use Rattle.std.specs.Prelude.{◌≡◌, ℕ, ◌+◌, ◌<◌, ◌≤◌, List, flat_map, length, map, Contains, Some, slice_get}
use Rattle.bb_ast.specs.Inside.Formed.{IsFormed}
use Rattle.bb_ast.specs.Syntax.{Expression, PlainBody, Always, PlainItem, PlainModule}
use Rattle.bb_names.specs.declared.net.NetInfo.{NetInfo}
use Rattle.bb_names.specs.Inside.Checked.{ModuleFacts, HasNets, IsChecked, syntax}
use Rattle.bb_names.specs.Ranges.{range_width}
use Rattle.bb_design.specs.Hierarchy.{Path, Scope}
use Rattle.bb_design.specs.NetBits.{bits_of_net, written_bits}
use Rattle.bb_blast.specs.Inside.ModuleTemplates.{net_start}
use Rattle.bb_blast.specs.Inside.BitBlasting.{module_in}

-- a bit of a net comes after the bits of the nets before it
abbrev pub NetBitsAreAtStarts : Type 0
NetBitsAreAtStarts = (path : Path) (nets : List NetInfo) (k : ℕ) (net : NetInfo) (place : ℕ) → slice_get nets k ≡ Some net → place < range_width net.range
    → slice_get (flat_map (bits_of_net path) nets) (net_start nets k + place) ≡ Some (record { path = path; net = net.name; place = place })

-- the module at a place of a checked text, whose nets are those of the text
pub record IsModuleAt (checked : List ModuleFacts) (k : ℕ) (f : ModuleFacts) : Type 0 where
  pub is : module_in checked k ≡ syntax f
  pub nets : IsChecked checked → HasNets f

abbrev pub ModulesAreAtPlaces : Type 0
ModulesAreAtPlaces = (checked : List ModuleFacts) (k : ℕ) (f : ModuleFacts) → slice_get checked k ≡ Some f → IsModuleAt checked k f

-- and the module of the text at that place
abbrev pub TextModulesAreAtPlaces : Type 0
TextModulesAreAtPlaces = (checked : List ModuleFacts) (k : ℕ) (m : PlainModule) → slice_get (map syntax checked) k ≡ Some m → (k < length checked) × (module_in checked k ≡ m)

-- the left side of a register has a bit
abbrev pub HasBits : Expression → Type 0
HasBits e = (s : Scope) → 1 ≤ length (written_bits s e)

abbrev pub LeftHasBits : PlainBody → Type 0
LeftHasBits (Always r) = HasBits r.left
LeftHasBits body = Unit {0}

abbrev pub LeftSidesHaveBits : Type 0
LeftSidesHaveBits = (m : PlainModule) → IsFormed m → (item : PlainItem) → Contains m.items item → LeftHasBits item.body

-- these laws as one record, which a lemma takes as one argument
pub record ModuleLaws : Type 0 where
  pub net_bit_at : NetBitsAreAtStarts
  pub modules : ModulesAreAtPlaces
  pub checked : TextModulesAreAtPlaces
  pub left_sides : LeftSidesHaveBits
