-- Paths lead to scopes, and each scope is the end of a path.
use Rattle.std.proofs.Common.{◌≡◌, ◌≢◌, ◌⊎◌, ℕ, zero, suc, ◌+◌, ◌<◌, List, [], ◌∷◌, ◌++◌, map, length, get_or, find, option_map, All, AllPairs, Contains, Option, Some, None, refl, sym, ap, ◌∙◌, subst, inl, inr, arith, append_assoc, length-append}
use Rattle.std.specs.Option.{option_and_then}
use Rattle.std.proofs.lemmas.List.{get_or-map, length-map, get_or_default}
use Rattle.std.proofs.lemmas.List.Elements.{All-contains}
use lib.Pointwise.{bytes_decides}
use Rattle.bb_bits.specs.Names.{same_name}
use Rattle.bb_ast.specs.Syntax.{PlainModule}
use Rattle.bb_names.specs.Sites.{module_named}
use Rattle.bb_design.specs.Hierarchy.{Instance, Path, Scope, instances_of, module_of, module_under, module_at, root, path_to, children, below, too_low, instances, scopes}
use Rattle.bb_design.specs.Refusals.{IsShallow}
use Rattle.bb_design.specs.Laws.{HasNamesApart, PathsLeadToScopes}
use Rattle.bb_lemmas.proofs.Members.{from_flat, into_flat, contains_here, contains_there, contains_cases, none_in_nil, from_find, from_filter_map, find_there, mapped_there, into_filter}
use Rattle.bb_lemmas.proofs.Orders.{less_or_same}

abbrev scope : Path → PlainModule → Scope
scope path m = record { path = path; source = m }

-- what the second of two look-ups needs
pub both_there : {A B : Type 0} (o : Option A) (f : A → Option B) (y : B) → option_and_then f o ≡ Some y → (x : A) × (o ≡ Some x) × (f x ≡ Some y)
both_there None f y e = grind (arith, e)
both_there (Some x) f y e = (x, refl, e)

-- an instance of its name leads to its scope
named_child : (text : List PlainModule) (s : Scope) (n : List ℕ) (t : PlainModule) → module_of text s.source n ≡ Some t → Contains (children text s) (scope (path_to s.path n) t)
named_child text s n t e =
    let i = both_there (find (λ i. same_name i.name n) (instances_of s.source)) (λ i. module_named text i.target) t e in
    let f = from_find (λ i. same_name i.name n) (instances_of s.source) i.0 i.1 in
    let name : i.0.name ≡ n = (bytes_decides i.0.name n).0 f.1 in
    let gives : option_map (λ m. scope (path_to s.path i.0.name) m) (module_named text i.0.target) ≡ Some (scope (path_to s.path n) t) = ap (option_map (λ m. scope (path_to s.path i.0.name) m)) i.2 ∙ ap (λ k. Some (scope (path_to s.path k) t)) name in
    into_filter (λ i. option_map (λ m. scope (path_to s.path i.name) m) (module_named text i.target)) (instances_of s.source) i.0 (scope (path_to s.path n) t) f.0 gives

after : (path : Path) (n : List ℕ) (p : Path) → path_to path n ++ p ≡ path ++ n ∷ p
after path n p = append_assoc path (n ∷ []) p

-- the end of a path is below
ends_below : (n : ℕ) (text : List PlainModule) (s : Scope) (k : List ℕ) (p : Path) (m : PlainModule) → length p < n → module_under text s.source (k ∷ p) ≡ Some m → Contains (below n text s) (scope (s.path ++ k ∷ p) m)
unfolding below
ends_below zero text s k p m fits e = absurd (omega (arith, fits))
ends_below (suc n) text s k [] m fits e =
    let t = both_there (module_of text s.source k) (λ t. module_under text t []) m e in
    let last : t.0 ≡ m = grind (arith, t.2) in
    subst (λ z. Contains (below (suc n) text s) (scope (path_to s.path k) z)) last
    (into_flat (λ c. c ∷ below n text c) (children text s) (scope (path_to s.path k) t.0) (scope (path_to s.path k) t.0) (named_child text s k t.0 t.1) (contains_here (scope (path_to s.path k) t.0) (below n text (scope (path_to s.path k) t.0))))
ends_below (suc n) text s k (j ∷ p) m fits e =
    let t = both_there (module_of text s.source k) (λ t. module_under text t (j ∷ p)) m e in
    let c = scope (path_to s.path k) t.0 in
    subst (λ z. Contains (below (suc n) text s) (scope z m)) (after s.path k (j ∷ p))
    (into_flat (λ c. c ∷ below n text c) (children text s) c (scope (c.path ++ j ∷ p) m) (named_child text s k t.0 t.1) (contains_there c (below n text c) _ (ends_below n text c j p m (omega (arith, fits)) t.2)))

-- a long path passes a scope at each level
passes : (n : ℕ) (text : List PlainModule) (s : Scope) (p : Path) (m : PlainModule) → n < length p → module_under text s.source p ≡ Some m → (c : Scope) × Contains (below (suc n) text s) c × (length c.path ≡ length s.path + suc n)
unfolding below
passes n text s [] m long e = absurd (omega (arith, long))
passes zero text s (k ∷ p) m long e =
    let t = both_there (module_of text s.source k) (λ t. module_under text t p) m e in
    let c = scope (path_to s.path k) t.0 in
    (c, into_flat (λ c. c ∷ below zero text c) (children text s) c c (named_child text s k t.0 t.1) (contains_here c (below zero text c)), length-append s.path (k ∷ []))
passes (suc n) text s (k ∷ p) m long e =
    let t = both_there (module_of text s.source k) (λ t. module_under text t p) m e in
    let c = scope (path_to s.path k) t.0 in
    let r = passes n text c p m (omega (arith, long)) t.2 in
    (r.0, into_flat (λ c. c ∷ below (suc n) text c) (children text s) c r.0 (named_child text s k t.0 t.1) (contains_there c (below (suc n) text c) r.0 r.1), omega (arith, r.2, length-append s.path (k ∷ [])))

-- of instances with different names each is found by its name
found_by_name : (xs : List Instance) → AllPairs ◌≢◌ (map (λ i. i.name) xs) → (i : Instance) → Contains xs i → find (λ j. same_name j.name i.name) xs ≡ Some i
found_by_name xs apart i has =
    let f = find_there (λ (j : Instance). same_name j.name i.name) xs i has ((bytes_decides i.name i.name).1 refl) in
    f.1 ∙ ap Some (once f.0 f.3 ((bytes_decides f.0.name i.name).0 f.2))
  where
    at : (u : Instance) (c : Contains xs u) → get_or (map (λ (j : Instance). j.name) xs) c.0 i.name ≡ u.name
    at u c = get_or-map (λ (j : Instance). j.name) xs c.0 u i.name c.1 ∙ ap (λ (j : Instance). j.name) c.2

    long : length (map (λ (j : Instance). j.name) xs) ≡ length xs
    long = length-map xs _

    once : (u : Instance) → Contains xs u → u.name ≡ i.name → u ≡ i
    once u c e = by (less_or_same c.0 has.0)
      where
        by : (c.0 < has.0) ⊎ ((has.0 < c.0) ⊎ (c.0 ≡ has.0)) → u ≡ i
        by (inl h) = absurd (apart c.0 has.0 i.name h (omega (arith, has.1, long)) (at u c ∙ e ∙ sym (at i has)))
        by (inr (inl h)) = absurd (apart has.0 c.0 i.name h (omega (arith, c.1, long)) (at i has ∙ sym e ∙ sym (at u c)))
        by (inr (inr h)) = sym c.2 ∙ ap (λ n. get_or xs n u) h ∙ get_or_default xs has.0 u i has.1 ∙ has.2

-- a child is what its instance leads to
child_named : (text : List PlainModule) (s : Scope) (c : Scope) → HasNamesApart s.source → Contains (children text s) c → (n : List ℕ) × (c.path ≡ path_to s.path n) × (module_of text s.source n ≡ Some c.source) × Contains text c.source
child_named text s c apart has =
    let i = from_filter_map (λ i. option_map (λ m. scope (path_to s.path i.name) m) (module_named text i.target)) (instances_of s.source) c has in
    let m = mapped_there (λ m. scope (path_to s.path i.0.name) m) (module_named text i.0.target) c i.2 in
    let source : m.0 ≡ c.source = ap (λ (z : Scope). z.source) m.2 in
    let found : module_of text s.source i.0.name ≡ Some m.0 = ap (option_and_then (λ j. module_named text j.target)) (found_by_name (instances_of s.source) apart i.0 i.1) ∙ m.1 in
    (i.0.name, sym (ap (λ (z : Scope). z.path) m.2), found ∙ ap Some source, subst (Contains text) source (from_find (λ x. same_name x.name i.0.target) text m.0 m.1).0)

-- what is below is the end of a path
below_reached : (n : ℕ) (text : List PlainModule) → All HasNamesApart text → (s : Scope) → Contains text s.source → (c : Scope) → Contains (below n text s) c → (p : Path) × (c.path ≡ s.path ++ p) × (module_under text s.source p ≡ Some c.source)
unfolding below
below_reached zero text apart s there c has = absurd (none_in_nil c has)
below_reached (suc n) text apart s there c has =
    let k = from_flat (λ c. c ∷ below n text c) (children text s) c has in
    let i = child_named text s k.0 (All-contains HasNamesApart text s.source apart there) k.1 in
    by k.0 i.0 i.1 i.2 (contains_cases k.0 (below n text k.0) c k.2) (below_reached n text apart k.0 i.3 c)
  where
    by : (k : Scope) (i : List ℕ) → k.path ≡ path_to s.path i → module_of text s.source i ≡ Some k.source → (k ≡ c) ⊎ Contains (below n text k) c
        → (Contains (below n text k) c → (p : Path) × (c.path ≡ k.path ++ p) × (module_under text k.source p ≡ Some c.source)) → (p : Path) × (c.path ≡ s.path ++ p) × (module_under text s.source p ≡ Some c.source)
    by k i at leads (inl same) rest = (i ∷ [], sym (ap (λ (z : Scope). z.path) same) ∙ at, ap (option_and_then (λ t. module_under text t [])) leads ∙ ap (λ (z : Scope). Some z.source) same)
    by k i at leads (inr more) rest = let r = rest more in (i ∷ r.0, r.1 ∙ ap (λ z. z ++ r.0) at ∙ after s.path i r.0, ap (option_and_then (λ t. module_under text t r.0)) leads ∙ r.2)

pub paths_lead_to_scopes : PathsLeadToScopes
paths_lead_to_scopes d top apart = record {
  reached = λ s has. reached s (contains_cases (root d) (instances d) s has);
  listed = listed;
}
  where
    reached : (s : Scope) → (root d ≡ s) ⊎ Contains (instances d) s → module_at d s.path ≡ Some s.source
    reached s (inl same) = subst (λ z. module_at d z.path ≡ Some z.source) same refl
    reached s (inr has) = let r = below_reached too_low d.text apart (root d) top s has in ap (module_at d) r.1 ∙ r.2

    listed : IsShallow d → (path : Path) (m : PlainModule) → module_at d path ≡ Some m → Contains (scopes d) (scope path m)
    listed shallow [] m e = let same : d.top ≡ m = grind (arith, e) in subst (λ z. Contains (scopes d) (scope [] z)) same (contains_here (root d) (instances d))
    listed shallow (k ∷ p) m e = by (less_or_same (length p) too_low)
      where
        deep : 63 < length (k ∷ p) → ⊥
        deep long =
            let r = passes 63 d.text (root d) (k ∷ p) m long e in
            let low = All-contains (λ s. length s.path < too_low) (instances d) r.0 shallow r.1 in
            omega (arith, low, r.2)

        by : (length p < too_low) ⊎ ((too_low < length p) ⊎ (length p ≡ too_low)) → Contains (scopes d) (scope (k ∷ p) m)
        by (inl h) = contains_there (root d) (instances d) (scope (k ∷ p) m) (ends_below too_low d.text (root d) k p m h e)
        by (inr (inl h)) = absurd (deep (omega (arith, h)))
        by (inr (inr h)) = absurd (deep (omega (arith, h)))
