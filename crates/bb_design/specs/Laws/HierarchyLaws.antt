-- Laws of the modules of a text without faults, and of paths.
use Rattle.std.specs.Prelude.{◌≡◌, ◌≢◌, ◌↔◌, ℕ, List, map, All, AllPairs, Contains, Some, slice_get, [], ◌∷◌, ◌++◌, codes}
use Rattle.bb_ast.specs.Syntax.{PlainModule}
use Rattle.bb_names.specs.Faults.{IsSound}
use Rattle.bb_design.specs.Inside.Callees.{callees, calls, child, callee_place, source_of}
use Rattle.bb_bits.specs.Closures.{Leads}
use Rattle.bb_design.specs.Hierarchy.{instantiations, Instance, Path, Scope, children, instances_of, path_to}
use Rattle.std.specs.List.{slice_index_or}
use Rattle.bb_names.specs.Sites.{module_named}
use Rattle.bb_design.specs.Texts.{path_text}

-- its modules have different names
abbrev pub SoundTextsHaveModulesApart : Type 0
SoundTextsHaveModulesApart = (text : List PlainModule) → IsSound text → AllPairs ◌≢◌ (map (λ m. m.name) text)

-- what is instantiated is a module of the text
abbrev pub SoundTextsHaveTargets : Type 0
SoundTextsHaveTargets = (text : List PlainModule) → IsSound text → All (λ x. Contains (map (λ m. m.name) text) x.1) (instantiations text)

-- in a text without faults a module instantiates the module at a place where that is among its callees
abbrev pub CalleesAreInstantiated : Type 0
CalleesAreInstantiated = (text : List PlainModule) (m n : PlainModule) (k : ℕ) → IsSound text → Contains text m → slice_get text k ≡ Some n
    → Contains (callees text m) k ↔ Contains (instantiations text) (m.name, n.name)

-- in a text without faults walks from module to module may be followed by places
abbrev pub WalksAreByPlaces : Type 0
WalksAreByPlaces = (text : List PlainModule) (m n : PlainModule) (j k : ℕ) → IsSound text → slice_get text j ≡ Some m → slice_get text k ≡ Some n
    → Leads (calls text) j k ↔ Leads (instantiations text) m.name n.name

-- each instance in a module of a text without faults has its module, which is at the place of the callee, and its scope
pub record HasItsInstances (text : List PlainModule) (m : PlainModule) : Type 0 where
  pub occurs : (i : Instance) → Contains (instances_of m) i → slice_get text (callee_place text i) ≡ Some (source_of text m i)
  pub meant : (i : Instance) → Contains (instances_of m) i → module_named text i.target ≡ Some (source_of text m i)
  pub called : (k : ℕ) → slice_get text k ≡ Some m → slice_index_or (map (callees text) text) k [] ≡ map (callee_place text) (instances_of m)
  pub children : (s : Scope) → s.source ≡ m → children text s ≡ map (child text s) (instances_of s.source)

abbrev pub SoundTextsHaveInstances : Type 0
SoundTextsHaveInstances = (text : List PlainModule) → IsSound text → (m : PlainModule) → Contains text m → HasItsInstances text m

-- a path with one more name
abbrev pub PathTextsGrow : Type 0
PathTextsGrow = (a : List ℕ) (p : Path) (n : List ℕ) → (path_text (a ∷ p) ++ codes ".") ++ n ≡ path_text (a ∷ path_to p n)
