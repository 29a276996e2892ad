-- The places of modules in a text without faults implement their names.
use Rattle.std.proofs.Common.{◌≡◌, ◌≢◌, ◌<◌, ◌+◌, ◌⊎◌, ℕ, Some, List, map, length, get_or, AllPairs, Contains, sym, ap, ◌∙◌, subst, inl, inr, arith}
use Rattle.std.specs.Prelude.{slice_get}
use Rattle.std.proofs.lemmas.List.{get_or_default, get_or-map, length-map}
use Rattle.bb_ast.specs.Syntax.{PlainModule}
use Rattle.bb_design.specs.Inside.Callees.{place_named, callees}
use Rattle.bb_design.specs.Hierarchy.{Instance, instances_of, instantiations}
use Rattle.bb_design.specs.Laws.HierarchyLaws.{CalleesAreInstantiated}
use Rattle.bb_lemmas.proofs.Members.{from_flat, from_map, contains-map, into_flat, from_filter, into_filter}
use Rattle.bb_lemmas.proofs.Orders.{less_or_same}
use Rattle.bb_design.proofs.SoundModules.{sound_texts_have_modules_apart}
use Rattle.bb_lemmas.proofs.Names.{place-holds, holds-place}
use Rattle.bb_lemmas.proofs.Places.{got-map}

-- modules of one name are one module
one_named : (text : List PlainModule) (a b : PlainModule) → AllPairs ◌≢◌ (map (λ m. m.name) text) → Contains text a → Contains text b → a.name ≡ b.name → a ≡ b
one_named text a b apart x y e = by (less_or_same x.0 y.0)
  where
    name-at : (c : PlainModule) (z : Contains text c) → get_or (map (λ (m : PlainModule). m.name) text) z.0 a.name ≡ c.name
    name-at c z = get_or-map (λ (m : PlainModule). m.name) text z.0 c a.name z.1 ∙ ap (λ (m : PlainModule). m.name) z.2

    within : (c : PlainModule) (z : Contains text c) → z.0 < length (map (λ (m : PlainModule). m.name) text)
    within c z = omega (arith, z.1, length-map text (λ (m : PlainModule). m.name))

    by : (x.0 < y.0) ⊎ ((y.0 < x.0) ⊎ (x.0 ≡ y.0)) → a ≡ b
    by (inl lt) = absurd (apart x.0 y.0 a.name lt (within b y) (name-at a x ∙ e ∙ sym (name-at b y)))
    by (inr (inl lt)) = absurd (apart y.0 x.0 a.name lt (within a x) (name-at b y ∙ sym e ∙ sym (name-at a x)))
    by (inr (inr same)) = sym x.2 ∙ get_or_default text x.0 a b x.1 ∙ ap (λ k. get_or text k b) same ∙ y.2

pub callees_are_instantiated : CalleesAreInstantiated
callees_are_instantiated text m n k sound has at = (to, from)
  where
    apart : AllPairs ◌≢◌ (map (λ x. x.name) text)
    apart = sound_texts_have_modules_apart text sound

    zero-plus : (d : ℕ) → 0 + d ≡ d
    zero-plus d = omega arith

    to : Contains (callees text m) k → Contains (instantiations text) (m.name, n.name)
    to c =
        let i = from_filter (λ (i : Instance). place_named text i.target) (instances_of m) k c in
        let p = place-holds (map (λ (x : PlainModule). x.name) text) 0 i.0.target k i.2 in
        let same : Some i.0.target ≡ Some n.name = sym p.2 ∙ ap (slice_get (map (λ (x : PlainModule). x.name) text)) (sym (zero-plus p.0) ∙ sym p.1) ∙ got-map (λ (x : PlainModule). x.name) text k n at in
        let target : i.0.target ≡ n.name = grind (arith, same) in
        into_flat (λ x. map (λ (j : Instance). (x.name, j.target)) (instances_of x)) text m (m.name, n.name) has
        (subst (λ t. Contains {X = List ℕ × List ℕ} (map (λ (j : Instance). (m.name, j.target)) (instances_of m)) (m.name, t)) target (contains-map (λ (j : Instance). (m.name, j.target)) (instances_of m) i.0 i.1))

    from : Contains (instantiations text) (m.name, n.name) → Contains (callees text m) k
    from c =
        let x = from_flat (λ y. map (λ (j : Instance). (y.name, j.target)) (instances_of y)) text (m.name, n.name) c in
        let i = from_map (λ (j : Instance). (x.0.name, j.target)) (instances_of x.0) (m.name, n.name) x.2 in
        let same = one_named text x.0 m apart x.1 has (ap (λ z. z.0) i.2) in
        let here = subst (λ y. Contains (instances_of y) i.0) same i.1 in
        into_filter (λ (j : Instance). place_named text j.target) (instances_of m) i.0 k here
        (ap (place_named text) (ap (λ z. z.1) i.2) ∙ holds-place (map (λ (y : PlainModule). y.name) text) 0 n.name k apart (got-map (λ (y : PlainModule). y.name) text k n at) ∙ ap Some (zero-plus k))
