-- The scopes of a design with modules in place of boxes are its scopes, each a copy of what comes in the place of its
-- module.
use Rattle.std.proofs.Common.{◌≡◌, ℕ, zero, suc, List, [], ◌∷◌, ◌++◌, map, option_map, Contains, Option, Some, None, refl, sym, ap, ap₂, ◌∙◌, subst}
use Rattle.std.proofs.lemmas.List.{map-append}
use Rattle.std.specs.List.{cons_option, filter_map, flat_map}
use Rattle.bb_ast.specs.Syntax.{PlainModule}
use Rattle.bb_names.specs.Sites.{module_named}
use Rattle.bb_lemmas.proofs.Members.{contains_here, contains_there, from_filter_map, from_find, mapped_there}
use Rattle.bb_design.specs.Hierarchy.{Design, Instance, Path, Scope, below, children, instances_of, path_to, root, scopes, too_low}
use Rattle.bb_replace.specs.Laws.Replacement.{AllMayReplace, scope_of, replaced, replaced_design}
use Rattle.bb_replace.proofs.ReplacedModules.{named, same_instances}

-- the scope with what comes in the place of its module
abbrev pub changed : List PlainModule → Scope → Scope
changed modules s = scope_of s.path (replaced modules s.source)

filter_mapped : {A B C : Type 0} (f : A → Option B) (g : B → C) (h : A → Option C) → ((x : A) → h x ≡ option_map g (f x)) → (xs : List A) → filter_map h xs ≡ map g (filter_map f xs)
filter_mapped f g h same [] = refl
filter_mapped {B = B} {C = C} f g h same (x ∷ xs) = ap₂ cons_option (same x) (filter_mapped f g h same xs) ∙ by (f x)
  where
    by : (o : Option B) → cons_option (option_map g o) (map g (filter_map f xs)) ≡ map g (cons_option o (filter_map f xs))
    by None = refl
    by (Some y) = refl

-- lists one after another, of changed elements
flat_changed : {A B C D : Type 0} (f : A → List B) (g : B → D) (h : A → C) (k : C → List D) (xs : List A) → ((x : A) → Contains xs x → k (h x) ≡ map g (f x)) → flat_map k (map h xs) ≡ map g (flat_map f xs)
flat_changed f g h k [] same = refl
flat_changed f g h k (x ∷ xs) same = ap₂ (λ a b. a ++ b) (same x (contains_here x xs)) (flat_changed f g h k xs (λ y has. same y (contains_there x xs y has))) ∙ sym (map-append g (f x) (flat_map f xs))

placed : (p : Path) (modules : List PlainModule) (o : Option PlainModule) → option_map (scope_of p) (option_map (replaced modules) o) ≡ option_map (changed modules) (option_map (scope_of p) o)
placed p modules None = refl
placed p modules (Some m) = refl

children_same : (modules text : List PlainModule) → AllMayReplace modules text → (s : Scope) → Contains text s.source → children (map (replaced modules) text) (changed modules s) ≡ map (changed modules) (children text s)
children_same modules text may s there =
    ap (filter_map (λ i. option_map (scope_of (path_to s.path i.name)) (module_named (map (replaced modules) text) i.target))) (same_instances modules text may s.source there)
    ∙ filter_mapped (λ i. option_map (scope_of (path_to s.path i.name)) (module_named text i.target)) (changed modules) (λ i. option_map (scope_of (path_to s.path i.name)) (module_named (map (replaced modules) text) i.target)) each (instances_of s.source)
  where
    each : (i : Instance) → option_map (scope_of (path_to s.path i.name)) (module_named (map (replaced modules) text) i.target) ≡ option_map (changed modules) (option_map (scope_of (path_to s.path i.name)) (module_named text i.target))
    each i = ap (option_map (scope_of (path_to s.path i.name))) (named modules text i.target) ∙ placed (path_to s.path i.name) modules (module_named text i.target)

child_there : (text : List PlainModule) (s c : Scope) → Contains (children text s) c → Contains text c.source
child_there text s c has =
    let i = from_filter_map (λ (i : Instance). option_map (scope_of (path_to s.path i.name)) (module_named text i.target)) (instances_of s.source) c has in
    let m = mapped_there (scope_of (path_to s.path i.0.name)) (module_named text i.0.target) c i.2 in
    subst (Contains text) (ap (λ (z : Scope). z.source) m.2) (from_find _ text m.0 m.1).0

pub below_same : (n : ℕ) (modules text : List PlainModule) → AllMayReplace modules text → (s : Scope) → Contains text s.source → below n (map (replaced modules) text) (changed modules s) ≡ map (changed modules) (below n text s)
unfolding below
below_same zero modules text may s there = refl
below_same (suc n) modules text may s there =
    ap (flat_map (λ c. c ∷ below n (map (replaced modules) text) c)) (children_same modules text may s there)
    ∙ flat_changed (λ c. c ∷ below n text c) (changed modules) (changed modules) (λ c. c ∷ below n (map (replaced modules) text) c) (children text s) (λ c has. ap (λ l. changed modules c ∷ l) (below_same n modules text may c (child_there text s c has)))

pub scopes_same : (modules : List PlainModule) (d : Design) → AllMayReplace modules d.text → Contains d.text d.top → scopes (replaced_design modules d) ≡ map (changed modules) (scopes d)
scopes_same modules d may top = ap (λ l. changed modules (root d) ∷ l) (below_same too_low modules d.text may (root d) top)
