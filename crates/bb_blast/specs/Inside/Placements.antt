-- By this file `module_templates` and `list_cells` promise to crates above; no clause of `elaborate` rests on it.
-- The scopes and the bits of a design by numbers: scopes in elaboration order, bits in net order.
use Rattle.std.specs.Prelude.{◌≡◌, ℕ, ◌<◌, List, [], ◌∷◌, length, take, Option, Some, None, slice_get}
use Rattle.std.specs.List.{AllZip, flat_map}
use Rattle.bb_ast.specs.Syntax.{PlainModule}
use Rattle.bb_names.specs.Sites.{module_named}
use Rattle.bb_blast.specs.declared.template.ModuleTemplate.{ModuleTemplate}
use Rattle.bb_blast.specs.declared.placed.Instance as placed
use Rattle.bb_blast.specs.declared.placed.Placed.{Placed}
use Rattle.bb_blast.specs.declared.stored.Stored.{Stored}
use Rattle.bb_design.specs.Hierarchy.{Design, Scope, Instance, path_to, instances_of, scopes, is_box}
use Rattle.bb_design.specs.NetBits.{Bit, net_order, scope_bits, written_bits}
use Rattle.bb_design.specs.Registers.{RegisterBit, registers}
use Rattle.bb_blast.specs.Inside.ModuleTemplates.{IsModuleTemplate}

-- the scope with a number
abbrev pub IsScopeAt : Design → ℕ → Scope → Type 0
IsScopeAt d k s = slice_get (scopes d) k ≡ Some s

-- the top is no instance; another scope is one in a scope with a lower number
abbrev pub IsInstanceAt : Design → ℕ → Scope → Option placed.Instance → Type 0
IsInstanceAt d k s None = (k ≡ 0) × (s.path ≡ [])
IsInstanceAt d k s (Some i) = (i.scope < k) × (q : Scope) × IsScopeAt d i.scope q × (s.path ≡ path_to q.path i.name)

-- the scope of an instance that is in a scope has this number
abbrev pub IsChildAt : Design → Scope → ℕ → Instance → Type 0
IsChildAt d s k i = (m : PlainModule) × (module_named d.text i.target ≡ Some m) × IsScopeAt d k (record { path = path_to s.path i.name; source = m })

pub record IsPlacedAt (d : Design) (k : ℕ) (s : Scope) (p : Placed) : Type 0 where
  pub source : slice_get d.text p.module ≡ Some s.source
  pub instance : IsInstanceAt d k s p.instance
  pub boxed : p.boxed ≡ is_box s
  pub first : p.first ≡ length (flat_map scope_bits (take k (scopes d)))
  pub children : AllZip (IsChildAt d s) p.children.items (instances_of s.source)

-- the scopes of a design
pub record ArePlaced (d : Design) (all : List Placed) : Type 0 where
  pub count : length all ≡ length (scopes d)
  pub each : (k : ℕ) (s : Scope) (p : Placed) → IsScopeAt d k s → slice_get all k ≡ Some p → IsPlacedAt d k s p

-- the module of each scope has its template, which is at the place of the module
abbrev pub AreTemplated : Design → List Placed → List ModuleTemplate → Type 0
AreTemplated d all templates = (k : ℕ) (s : Scope) (p : Placed) → IsScopeAt d k s → slice_get all k ≡ Some p
    → (o : ModuleTemplate) × (slice_get templates p.module ≡ Some o) × IsModuleTemplate d.text s.source o

-- a register bit by numbers
pub record IsStoredAt (d : Design) (x : Stored) (r : RegisterBit) : Type 0 where
  pub bit : slice_get (net_order d) x.bit ≡ Some r.bit
  pub clock : (b : Bit) × (written_bits r.scope r.item.clock ≡ b ∷ []) × (slice_get (net_order d) x.clock ≡ Some b)
  pub falling : x.falling ≡ r.item.falling

-- the register bits of a design, in net order
abbrev pub AreStored : Design → List Stored → Type 0
AreStored d all = AllZip (IsStoredAt d) all (registers d)
