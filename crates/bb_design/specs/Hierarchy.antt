-- The hierarchy of a design (IEEE 1364-2005, 12.1 and 12.5, in a profile). A design is a text with one of its modules
-- on top. Each instance in a module is a copy of the module that it names; a path is the list of the names of instances
-- that lead to a copy, from the top downwards. A scope is such a copy, the top itself among them. A black box is an
-- instance of an empty module.
use Rattle.std.specs.Prelude.{ℕ, zero, suc, Bool, true, false, not, ◌&&◌, List, [], ◌∷◌, ◌++◌, map, Option, Some, None, option_map}
use Rattle.std.specs.List.{find, filter, filter_map, flat_map, list_any}
use Rattle.std.specs.Option.{option_and_then}
use Rattle.bb_bits.specs.Names.{same_name}
use Rattle.bb_ast.specs.Syntax.{PlainConns, PlainBody, Calls, PlainModule}
use Rattle.bb_names.specs.Nets.{is_empty}
use Rattle.bb_names.specs.Sites.{module_named}

-- an instance of a module: its name, the name of its module, and what is connected to its ports
pub record Instance : Type 0 where
  pub name : List ℕ
  pub target : List ℕ
  pub conns : PlainConns

abbrev pub instance_of : List ℕ → List ℕ × PlainConns → Instance
instance_of target x = record { name = x.0; target = target; conns = x.1 }

abbrev pub instances_in : PlainBody → List Instance
instances_in (Calls target calls) = map (instance_of target) calls
instances_in body = []

-- the instances in a module, in text order
abbrev pub instances_of : PlainModule → List Instance
instances_of m = flat_map (λ item. instances_in item.body) m.items

pub record Design : Type 0 where
  pub text : List PlainModule
  pub top : PlainModule

-- whether some module of the text instantiates the module of this name
abbrev pub is_instantiated : List PlainModule → List ℕ → Bool
is_instantiated text n = list_any (λ m. list_any (λ i. same_name i.target n) (instances_of m)) text

-- the modules that none instantiates, in text order
abbrev pub roots : List PlainModule → List PlainModule
roots text = filter (λ m. not (is_instantiated text m.name)) text

-- the one element of a list that has one
abbrev pub the_only : {A : Type 0} → List A → Option A
the_only [] = None
the_only (x ∷ []) = Some x
the_only (x ∷ y ∷ rest) = None

-- the top: the module of the given name, else the only one that none instantiates
abbrev pub top_of : List PlainModule → Option (List ℕ) → Option PlainModule
top_of text (Some n) = module_named text n
top_of text None = the_only (roots text)

-- the names of instances from the top downwards
abbrev pub Path : Type 0
Path = List (List ℕ)

-- the module of which the instance of this name in a module is a copy
abbrev pub module_of : List PlainModule → PlainModule → List ℕ → Option PlainModule
module_of text m n = option_and_then (λ i. module_named text i.target) (find (λ i. same_name i.name n) (instances_of m))

-- the module to which a path leads from a module
abbrev pub module_under : List PlainModule → PlainModule → Path → Option PlainModule
module_under text m [] = Some m
module_under text m (n ∷ path) = option_and_then (λ t. module_under text t path) (module_of text m n)

-- the module to which a path leads from the top
abbrev pub module_at : Design → Path → Option PlainModule
module_at d path = module_under d.text d.top path

-- a copy of a module, at the end of a path
pub record Scope : Type 0 where
  pub path : Path
  pub source : PlainModule

abbrev pub root : Design → Scope
root d = record { path = []; source = d.top }

-- the path of an instance in the scope at a path
abbrev pub path_to : Path → List ℕ → Path
path_to path n = path ++ n ∷ []

-- the scopes of the instances in a scope, in text order
abbrev pub children : List PlainModule → Scope → List Scope
children text s = filter_map (λ i. option_map (λ m. record { path = path_to s.path i.name; source = m }) (module_named text i.target)) (instances_of s.source)

-- the scopes below a scope, down to this many levels: each instance in text order, followed by those below it
unfoldable pub below : ℕ → List PlainModule → Scope → List Scope
below zero text s = []
below (suc n) text s = flat_map (λ c. c ∷ below n text c) (children text s)

-- no instance may be as many levels below the top: the top has the depth 1, what is one level below it has the depth 2,
-- and 64 is the greatest depth
abbrev pub too_low : ℕ
too_low = 64

-- all instances of a design, in elaboration order; in one that is too deep, those down to the first level that is too
-- deep
abbrev pub instances : Design → List Scope
instances d = below too_low d.text (root d)

-- all scopes in elaboration order: the top, and then the instances
abbrev pub scopes : Design → List Scope
scopes d = root d ∷ instances d

abbrev pub is_top : Path → Bool
is_top [] = true
is_top (n ∷ path) = false

-- the top is never a box
abbrev pub is_box : Scope → Bool
is_box s = not (is_top s.path) && is_empty s.source

-- the boxes in elaboration order
abbrev pub boxes : Design → List Scope
boxes d = filter is_box (scopes d)

-- which module instantiates which, by their names
abbrev pub instantiations : List PlainModule → List (List ℕ × List ℕ)
instantiations text = flat_map (λ m. map (λ i. (m.name, i.target)) (instances_of m)) text
