-- Paths lead to the modules that come in the place of those to which they led: the empty ones have no instances, nor have
-- those that replace them.
use Rattle.std.proofs.Common.{◌≡◌, ℕ, Bool, true, false, List, [], ◌∷◌, ◌++◌, map, find, option_map, All, Contains, Option, Some, None, refl, sym, ap, ap₂, ◌∙◌, subst, arith}
use Rattle.std.specs.List.{flat_map, list_all}
use Rattle.std.specs.Option.{option_and_then}
use Rattle.std.proofs.lemmas.List.Elements.{All-contains}
use lib.Pointwise.{bytes_decides}
use Rattle.bb_bits.specs.Names.{same_name}
use Rattle.bb_ast.specs.Syntax.{PlainBody, Ports, Nets, Regs, Supply, Assign, Gates, Calls, Always, PlainItem, PlainModule}
use Rattle.bb_names.specs.Nets.{is_empty, is_of_empty}
use Rattle.bb_names.specs.Sites.{module_named}
use Rattle.bb_lemmas.proofs.Members.{all_from, contains_here, contains_there, from_find}
use Rattle.bb_design.specs.Hierarchy.{Instance, Path, instances_in, instances_of, module_of, module_under}
use Rattle.bb_replace.specs.Laws.Replacement.{AllMayReplace, IsCombinational, replaced}

-- what the second of two look-ups needs
pub both_there : {A B : Type 0} (o : Option A) (f : A → Option B) (y : B) → option_and_then f o ≡ Some y → (x : A) × (o ≡ Some x) × (f x ≡ Some y)
both_there None f y e = grind (arith, e)
both_there (Some x) f y e = (x, refl, e)

-- a look-up in a list whose elements are changed, but not in what the test asks
pub find_mapped : {A B : Type 0} (f : A → B) (test : A → Bool) (more : B → Bool) → ((x : A) → more (f x) ≡ test x) → (xs : List A) → find more (map f xs) ≡ option_map f (find test xs)
find_mapped f test more same [] = refl
find_mapped f test more same (x ∷ xs) = by (test x) refl (find_mapped f test more same xs)
  where
    by : (b : Bool) → test x ≡ b → find more (map f xs) ≡ option_map f (find test xs) → find more (map f (x ∷ xs)) ≡ option_map f (find test (x ∷ xs))
    by true e rest = grind (arith, e, same x)
    by false e rest = grind (arith, e, same x, rest)

-- what may come in the place of a module
pub data Place (modules : List PlainModule) (m : PlainModule) : Type 0 where
  Stays : replaced modules m ≡ m → Place modules m
  Goes : (n : PlainModule) → is_empty m ≡ true → module_named modules m.name ≡ Some n → replaced modules m ≡ n → Place modules m

pub place_for : (modules : List PlainModule) (m : PlainModule) → Place modules m
place_for modules m = by (is_empty m) (module_named modules m.name) refl refl
  where
    by : (b : Bool) (o : Option PlainModule) → is_empty m ≡ b → module_named modules m.name ≡ o → Place modules m
    by false o e f = Stays (grind (arith, e))
    by true None e f = Stays (grind (arith, e, f))
    by true (Some n) e f = Goes n e f (grind (arith, e, f))

pub same_named : (modules : List PlainModule) (m : PlainModule) → (replaced modules m).name ≡ m.name
same_named modules m = by (place_for modules m)
  where
    by : Place modules m → (replaced modules m).name ≡ m.name
    by (Stays e) = ap (λ (z : PlainModule). z.name) e
    by (Goes n e f g) = ap (λ (z : PlainModule). z.name) g ∙ (bytes_decides n.name m.name).0 (from_find (λ z. same_name z.name m.name) modules n f).1

pub named : (modules text : List PlainModule) (n : List ℕ) → module_named (map (replaced modules) text) n ≡ option_map (replaced modules) (module_named text n)
named modules text n = find_mapped (replaced modules) (λ m. same_name m.name n) (λ m. same_name m.name n) (λ m. ap (λ z. same_name z n) (same_named modules m)) text

-- an empty module has no instances
none_in : (m : PlainModule) (body : PlainBody) → is_of_empty m body ≡ true → instances_in body ≡ []
none_in m (Ports port names) e = refl
none_in m (Nets range nets) e = refl
none_in m (Regs range names) e = refl
none_in m (Supply high range names) e = refl
none_in m (Assign all) e = refl
none_in m (Gates gate all) e = refl
none_in m (Calls target all) e = grind (arith, e)
none_in m (Always a) e = refl

none_in_items : (m : PlainModule) (items : List PlainItem) → list_all (λ item. is_of_empty m item.body) items ≡ true → flat_map (λ item. instances_in item.body) items ≡ []
none_in_items m [] e = refl
none_in_items m (i ∷ items) e = by (is_of_empty m i.body) (list_all (λ item. is_of_empty m item.body) items) refl refl (none_in_items m items)
  where
    by : (b c : Bool) → is_of_empty m i.body ≡ b → list_all (λ item. is_of_empty m item.body) items ≡ c → (list_all (λ item. is_of_empty m item.body) items ≡ true → flat_map (λ item. instances_in item.body) items ≡ []) → flat_map (λ item. instances_in item.body) (i ∷ items) ≡ []
    by true true f g rest = grind (arith, none_in m i.body f, rest g)
    by true false f g rest = grind (arith, e, f, g)
    by false c f g rest = grind (arith, e, f, g)

pub empty_has_none : (m : PlainModule) → is_empty m ≡ true → instances_of m ≡ []
empty_has_none m e = none_in_items m m.items e

-- nor has a combinational one

free_in : (body : PlainBody) → IsCombinational body → instances_in body ≡ []
free_in (Ports port names) e = refl
free_in (Nets range nets) e = refl
free_in (Regs range names) e = refl
free_in (Supply high range names) e = refl
free_in (Assign all) e = refl
free_in (Gates gate all) e = refl
free_in (Calls target all) e = absurd e
free_in (Always a) e = refl

pub combinational_has_none : (items : List PlainItem) → All (λ item. IsCombinational item.body) items → flat_map (λ item. instances_in item.body) items ≡ []
combinational_has_none [] all = refl
combinational_has_none (i ∷ items) all = ap₂ (λ a b. a ++ b) (free_in i.body (All-contains (λ (item : PlainItem). IsCombinational item.body) (i ∷ items) i all (contains_here i items))) (combinational_has_none items (all_from (λ (item : PlainItem). IsCombinational item.body) items (λ x has. All-contains (λ (item : PlainItem). IsCombinational item.body) (i ∷ items) x all (contains_there i items x has))))

-- so what replaces a module has its instances
pub same_instances : (modules text : List PlainModule) → AllMayReplace modules text → (m : PlainModule) → Contains text m → instances_of (replaced modules m) ≡ instances_of m
same_instances modules text may m there = by (place_for modules m)
  where
    by : Place modules m → instances_of (replaced modules m) ≡ instances_of m
    by (Stays e) = ap instances_of e
    by (Goes n e f g) = ap instances_of g ∙ combinational_has_none n.items (may m n there e f).combinational ∙ sym (empty_has_none m e)

same_target : (modules text : List PlainModule) (o : Option Instance) → option_and_then (λ i. module_named (map (replaced modules) text) i.target) o ≡ option_map (replaced modules) (option_and_then (λ i. module_named text i.target) o)
same_target modules text None = refl
same_target modules text (Some i) = named modules text i.target

pub module_of_same : (modules text : List PlainModule) → AllMayReplace modules text → (m : PlainModule) → Contains text m → (n : List ℕ) → module_of (map (replaced modules) text) (replaced modules m) n ≡ option_map (replaced modules) (module_of text m n)
module_of_same modules text may m there n =
    ap (λ l. option_and_then (λ i. module_named (map (replaced modules) text) i.target) (find (λ i. same_name i.name n) l)) (same_instances modules text may m there)
    ∙ same_target modules text (find (λ i. same_name i.name n) (instances_of m))

-- the module of an instance is in the text
pub target_there : (text : List PlainModule) (m : PlainModule) (n : List ℕ) (t : PlainModule) → module_of text m n ≡ Some t → Contains text t
target_there text m n t e = by (find (λ i. same_name i.name n) (instances_of m)) e
  where
    by : (o : Option Instance) → option_and_then (λ i. module_named text i.target) o ≡ Some t → Contains text t
    by None e = grind (arith, e)
    by (Some i) e = (from_find (λ z. same_name z.name i.target) text t e).0

pub module_under_same : (modules text : List PlainModule) → AllMayReplace modules text → (m : PlainModule) → Contains text m → (path : Path) → module_under (map (replaced modules) text) (replaced modules m) path ≡ option_map (replaced modules) (module_under text m path)
module_under_same modules text may m there [] = refl
module_under_same modules text may m there (n ∷ path) =
    ap (option_and_then (λ t. module_under (map (replaced modules) text) t path)) (module_of_same modules text may m there n)
    ∙ by (λ t has. module_under_same modules text may t has path) (module_of text m n) refl
  where
    by : ((t : PlainModule) → Contains text t → module_under (map (replaced modules) text) (replaced modules t) path ≡ option_map (replaced modules) (module_under text t path)) → (o : Option PlainModule) → module_of text m n ≡ o
        → option_and_then (λ t. module_under (map (replaced modules) text) t path) (option_map (replaced modules) o) ≡ option_map (replaced modules) (option_and_then (λ t. module_under text t path) o)
    by more None e = refl
    by more (Some t) e = more t (target_there text m n t e)

-- where a path leads, there is a module of the text
pub under_there : (text : List PlainModule) (m : PlainModule) → Contains text m → (path : Path) (t : PlainModule) → module_under text m path ≡ Some t → Contains text t
under_there text m there [] t e = subst (Contains text) (grind (arith, e)) there
under_there text m there (n ∷ path) t e =
    let z = both_there (module_of text m n) (λ u. module_under text u path) t e in
    under_there text z.0 (target_there text m n z.0 z.1) path t z.2
