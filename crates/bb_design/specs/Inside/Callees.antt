-- The hierarchy by places: each module of a text by its place in it.
use Rattle.std.specs.Prelude.{ℕ, List, map, Option}
use Rattle.std.specs.List.{enumerate_from, filter_map, flat_map}
use Rattle.std.specs.Map.{lookup}
use Rattle.bb_bits.specs.Names.{same_name, placed}
use Rattle.bb_ast.specs.Syntax.{PlainModule}
use Rattle.bb_design.specs.Hierarchy.{instances_of, Instance, Scope, path_to}
use Rattle.std.specs.Option.{unwrap_or}
use Rattle.bb_names.specs.Sites.{module_named}

-- the place of the first module of this name
abbrev pub place_named : List PlainModule → List ℕ → Option ℕ
place_named text n = lookup (same_name n) (placed 0 (map (λ m. m.name) text))

-- the places of the modules of which the instances in a module are copies, one for each instance, in text order
abbrev pub callees : List PlainModule → PlainModule → List ℕ
callees text m = filter_map (λ i. place_named text i.target) (instances_of m)

-- which module instantiates which, by their places
abbrev pub calls : List PlainModule → List (ℕ × ℕ)
calls text = flat_map (λ x. map (λ k. (x.0, k)) (callees text x.1)) (enumerate_from 0 text)

-- the lists of callees of all modules, in text order
abbrev pub called : List PlainModule → List (List ℕ)
called text = map (callees text) text

-- the place of the module of which an instance is a copy, and 0 where there is none
abbrev pub callee_place : List PlainModule → Instance → ℕ
callee_place text i = unwrap_or (place_named text i.target) 0

-- that module, and the module that contains the instance where there is none
abbrev pub source_of : List PlainModule → PlainModule → Instance → PlainModule
source_of text m i = unwrap_or (module_named text i.target) m

-- the scope of an instance in a scope
abbrev pub child : List PlainModule → Scope → Instance → Scope
child text s i = record { path = path_to s.path i.name; source = source_of text s.source i }
