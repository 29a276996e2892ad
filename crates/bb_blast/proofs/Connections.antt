-- What is connected to a port of an instance, as a part of a module.
use Rattle.std.proofs.Common.{◌≡◌, ℕ, List, [], ◌∷◌, map, Some, None, refl, sym, ap, subst, if◌then◌else◌, Vec, Global}
use Rattle.std.specs.Prelude.{option_map, slice_get}
use Rattle.std.specs.List.{AllZip}
use Rattle.std.specs.Option.{option_and_then}
use Rattle.bb_ast.specs.declared.module.Dir.{Dir}
use Rattle.bb_ast.specs.declared.module.Dir.TheVariants as dirs
use Rattle.bb_ast.specs.Syntax.{Expression, PlainHead, PlainModule}
use Rattle.bb_names.specs.Inside.Checked.{ModuleFacts, syntax}
use Rattle.bb_names.specs.Declarations.{range_of, port_direction}
use Rattle.bb_names.specs.Faults.{is_input}
use Rattle.bb_names.specs.Ranges.{range_width}
use Rattle.bb_names.specs.Sites.{Pin, pin_named, pin_at}
use Rattle.bb_blast.specs.declared.logic.Logic.{Logic}
use Rattle.bb_blast.specs.declared.template.Part.{Part}
use Rattle.bb_blast.specs.declared.template.Part.TheVariants as part
use Rattle.bb_design.specs.Constructs.{InputConnection, OutputConnection, connection}
use Rattle.bb_design.specs.Hierarchy.{Instance}
use Rattle.bb_design.specs.NetBits.{bits_named, written_bits}
use Rattle.bb_blast.specs.Inside.ModuleTemplates.{AreBitsIn, IsPinIn, IsWholeIn}
use Rattle.bb_blast.specs.Inside.BitBlasting.{module_in, IsCallAt, IsPartAt}

-- the port of that name and direction, as an instance sees it
abbrev pub pin_of : PlainModule → List ℕ → Dir → Pin
pin_of m port dir = record { name = port; dir = dir; width = range_width (range_of m port) }

pub pin-is : (m : PlainModule) (port : List ℕ) (dir : Dir) → port_direction m port ≡ Some dir → pin_named m port ≡ Some (pin_of m port dir)
pin-is m port dir is = ap (option_map (pin_of m port)) is

-- the part of a connection implements it
pub occurs_for : (checked : List ModuleFacts) (k : ℕ) (m : PlainModule) (i port : List ℕ) (dir : Dir) (e : Expression) (p : Part) → port_direction m port ≡ Some dir
    → IsPartAt checked k p (if is_input dir then InputConnection i (pin_of m port dir) e else OutputConnection i (pin_of m port dir) e) → AllZip (IsPartAt checked k) (p ∷ []) (connection i (pin_named m port) (Some e))
occurs_for checked k m i port dir e p is occurs = subst (λ q. AllZip (IsPartAt checked k) (p ∷ []) (connection i q (Some e))) (sym (pin-is m port dir is)) (occurs, tt)

-- the bits of the port
pub pin_in : (checked : List ModuleFacts) (k instance target : ℕ) (called : Instance) → IsCallAt checked k instance target called → (port : List ℕ) (dir : Dir) (numbers : List ℕ) → AreBitsIn (module_in checked target) numbers (λ s. bits_named s port)
    → IsPinIn (map syntax checked) (module_in checked k) instance numbers called.name (pin_of (module_in checked target) port dir)
pin_in checked k instance target called is port dir numbers are = record { called = called; target = module_in checked target; there = is.there; named = refl; meant = is.meant; bits = λ path. are path }

module _ (checked : List ModuleFacts) (k instance target : ℕ) (called : Instance) (is : IsCallAt checked k instance target called) (port : List ℕ) (e : Expression) (pin : Vec ℕ Global) (bits : AreBitsIn (module_in checked target) pin.items (λ s. bits_named s port)) where
  pub input_part : (value : Logic) → port_direction (module_in checked target) port ≡ Some dirs.Input → IsWholeIn (module_in checked k) value e
      → AllZip (IsPartAt checked k) (part.Input instance pin value ∷ []) (connection called.name (pin_named (module_in checked target) port) (Some e))
  input_part value direction made = occurs_for checked k (module_in checked target) called.name port dirs.Input e (part.Input instance pin value) direction (pin_in checked k instance target called is port dirs.Input pin.items bits, made)

  pub output_part : (left : Vec ℕ Global) → port_direction (module_in checked target) port ≡ Some dirs.Output → AreBitsIn (module_in checked k) left.items (λ s. written_bits s e)
      → AllZip (IsPartAt checked k) (part.Output instance pin left ∷ []) (connection called.name (pin_named (module_in checked target) port) (Some e))
  output_part left direction written = occurs_for checked k (module_in checked target) called.name port dirs.Output e (part.Output instance pin left) direction (pin_in checked k instance target called is port dirs.Output pin.items bits, written)

-- the port at a place of the header
pub pin-at : (m : PlainModule) (k : ℕ) (head : PlainHead) → slice_get m.heads k ≡ Some head → pin_at m k ≡ pin_named m head.name
pin-at m k head is = ap (option_and_then (λ (h : PlainHead). pin_named m h.name)) is

pub pin-past : (m : PlainModule) (k : ℕ) → slice_get m.heads k ≡ None → pin_at m k ≡ None
pin-past m k is = ap (option_and_then (λ (h : PlainHead). pin_named m h.name)) is
