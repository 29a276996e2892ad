-- A source without faults: its modules, each with its nets in net order, the place of each net by its name, and whether
-- the module is a black box.
use Rattle.std.specs.Prelude.{◌≡◌, ◌≤◌, ℕ, Bool, List, map, All}
use Rattle.std.specs.List.{AllByRecursion}
use Rattle.bb_ast.specs.declared.module.Module.{Module}
use Rattle.bb_ast.specs.Inside.Formed.{IsFormed}
use Rattle.bb_ast.specs.Inside.Sizes.{source_size}
use Rattle.bb_ast.specs.Syntax.{PlainModule}
use Rattle.bb_ast.specs.Inside.Views.{module_view}
use Rattle.bb_names.specs.declared.checked.CheckedModule.{CheckedModule}
use Rattle.bb_names.specs.declared.net.NetInfo.{NetInfo}
use Rattle.bb_names.specs.Nets.{nets_of, is_empty}
use Rattle.bb_bits.specs.Names.{placed}
use Rattle.bb_names.specs.Faults.{IsSound}

pub record ModuleFacts : Type 0 where
  pub source : Module
  pub nets : List NetInfo
  pub index : List (List ℕ × ℕ)
  pub empty : Bool

abbrev pub module_facts : CheckedModule → ModuleFacts
module_facts c = record { source = c.module; nets = c.nets.items; index = c.index.entries; empty = c.empty }

abbrev pub syntax : ModuleFacts → PlainModule
syntax c = module_view c.source

-- the modules are well formed, and no larger than the longest text that is read
pub record AreFormedAndSmall (modules : List PlainModule) : Type 0 where
  pub formed : AllByRecursion IsFormed modules
  pub small : source_size modules ≤ 33554432

pub record HasNets (c : ModuleFacts) : Type 0 where
  pub nets : c.nets ≡ nets_of (syntax c)
  pub index : c.index ≡ placed 0 (map (λ net. net.name) c.nets)
  pub empty : c.empty ≡ is_empty (syntax c)

pub record IsChecked (modules : List ModuleFacts) : Type 0 where
  pub read : AreFormedAndSmall (map syntax modules)
  pub sound : IsSound (map syntax modules)
  pub each : All HasNets modules
