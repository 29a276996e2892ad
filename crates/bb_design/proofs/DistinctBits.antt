-- All bits of a design are different ones: scopes have different paths, and the nets of a scope different names.
use Rattle.std.proofs.Common.{◌≡◌, ◌≢◌, ◌⊎◌, ◌+◌, ◌≤◌, ◌++◌, ℕ, zero, suc, List, [], ◌∷◌, map, length, get_or, AllPairs, Contains, refl, sym, ap, ◌∙◌, subst, inl, inr, arith, append_assoc, append-nil, length-append, ap₂}
use Rattle.std.specs.Prelude.{option_map}
use Rattle.std.specs.List.{flat_map, range_with_len}
use Rattle.std.proofs.lemmas.List.{map-append}
use Rattle.std.proofs.lemmas.List.Elements.{All-contains, Contains-append_cases}
use Rattle.std.proofs.lemmas.Simd.{map-map}
use Rattle.bb_ast.specs.Syntax.{PlainModule}
use Rattle.bb_names.specs.declared.net.NetInfo.{NetInfo}
use Rattle.bb_names.specs.Faults.{IsSound}
use Rattle.bb_names.specs.Nets.{nets_of}
use Rattle.bb_names.specs.Ranges.{range_width}
use Rattle.bb_names.specs.Sites.{module_named}
use Rattle.bb_expr.specs.Laws.FitLaws.{NetNamesDiffer}
use Rattle.bb_design.specs.Hierarchy.{Design, Instance, Path, Scope, root, path_to, instances_of, children, below, scopes}
use Rattle.bb_design.specs.NetBits.{Bit, bits_of_net, scope_bits, net_order}
use Rattle.bb_design.specs.Laws.{HasNamesApart}
use Rattle.bb_design.proofs.CalledInstances.{children_are}
use Rattle.bb_design.specs.Inside.Callees.{child}
use Rattle.bb_lemmas.proofs.Members.{from_flat, from_map, mapped_there, contains_here, contains_there, contains_cases, none_in_nil, from_find, from_filter_map, contains-map}
use Rattle.bb_design.proofs.SoundNames.{sound_texts_have_names_apart}
use Rattle.bb_bits.specs.Closures.{IsDistinct}

distinct_from : {A : Type 0} (xs : List A) → AllPairs ◌≢◌ xs → IsDistinct xs
distinct_from [] apart = tt
distinct_from (x ∷ xs) apart = (λ has. apart 0 (suc has.0) x (omega arith) (omega (arith, has.1)) (sym has.2), distinct_from xs (λ i j e less within. apart (suc i) (suc j) e (omega (arith, less)) (omega (arith, within))))

distinct_append : {A : Type 0} (xs ys : List A) → IsDistinct xs → IsDistinct ys → ((z : A) → Contains xs z → Contains ys z → ⊥) → IsDistinct (xs ++ ys)
distinct_append [] ys first second apart = second
distinct_append (x ∷ xs) ys first second apart = (λ has. by (Contains-append_cases xs ys x has), distinct_append xs ys first.1 second (λ z has. apart z (contains_there x xs z has)))
  where
    by : Contains xs x ⊎ Contains ys x → ⊥
    by (inl h) = first.0 h
    by (inr h) = apart x (contains_here x xs) h

distinct_map : {A B : Type 0} (f : A → B) → ((x y : A) → f x ≡ f y → x ≡ y) → (xs : List A) → IsDistinct xs → IsDistinct (map f xs)
distinct_map f one [] distinct = tt
distinct_map f one (x ∷ xs) distinct = (λ has. let y = from_map f xs (f x) has in distinct.0 (subst (Contains xs) (one y.0 x y.2) y.1), distinct_map f one xs distinct.1)

-- what is made of things with different names is different where it says the name
distinct_flat : {A B K : Type 0} (f : A → List B) (key : B → K) (name : A → K) (xs : List A) → ((x : A) → Contains xs x → IsDistinct (f x)) → ((x : A) (y : B) → Contains xs x → Contains (f x) y → key y ≡ name x) → IsDistinct (map name xs) → IsDistinct (flat_map f xs)
distinct_flat f key name [] each reported distinct = tt
distinct_flat f key name (x ∷ xs) each reported distinct =
    distinct_append (f x) (flat_map f xs) (each x (contains_here x xs)) (distinct_flat f key name xs (λ z has. each z (contains_there x xs z has)) (λ z y has. reported z y (contains_there x xs z has)) distinct.1)
    (λ y here later.
    let z = from_flat f xs y later in
    distinct.0 (subst (Contains (map name xs)) (sym (reported z.0 y (contains_there x xs z.0 z.1) z.2) ∙ reported x y (contains_here x xs) here) (contains-map name xs z.0 z.1)))

range_from : (a n k : ℕ) → Contains (range_with_len a n) k → a ≤ k
range_from a zero k has = absurd (none_in_nil k has)
range_from a (suc n) k has = by (contains_cases a (range_with_len (a + 1) n) k has) (range_from (a + 1) n k)
  where
    by : (a ≡ k) ⊎ Contains (range_with_len (a + 1) n) k → (Contains (range_with_len (a + 1) n) k → a + 1 ≤ k) → a ≤ k
    by (inl e) rest = omega (arith, e)
    by (inr more) rest = let le = rest more in omega (arith, le)

distinct_range : (a n : ℕ) → IsDistinct (range_with_len a n)
distinct_range a zero = tt
distinct_range a (suc n) = (λ has. let le = range_from (a + 1) n a has in omega (arith, le), distinct_range (a + 1) n)

-- the bits of a scope
module _ (names : NetNamesDiffer) where
  distinct_net : (path : Path) (net : NetInfo) → IsDistinct (bits_of_net path net)
  distinct_net path net = distinct_map (λ k. record { path = path; net = net.name; place = k }) (λ j k e. ap (λ (b : Bit). b.place) e) (range_with_len 0 (range_width net.range)) (distinct_range 0 (range_width net.range))

  distinct_scope : (s : Scope) → IsDistinct (scope_bits s)
  distinct_scope s = distinct_flat (bits_of_net s.path) (λ b. b.net) (λ net. net.name) (nets_of s.source) (λ net has. distinct_net s.path net)
      (λ net b has at. let k = from_map (λ k. record { path = s.path; net = net.name; place = k }) (range_with_len 0 (range_width net.range)) b at in ap (λ (z : Bit). z.net) (sym k.2)) (distinct_from (map (λ net. net.name) (nets_of s.source)) (names s.source))

  scope_path : (s : Scope) (b : Bit) → Contains (scope_bits s) b → b.path ≡ s.path
  scope_path s b has =
      let net = from_flat (bits_of_net s.path) (nets_of s.source) b has in
      let k = from_map (λ k. record { path = s.path; net = net.0.name; place = k }) (range_with_len 0 (range_width net.0.range)) b net.2 in
      ap (λ (z : Bit). z.path) (sym k.2)

  -- scopes
  module _ (text : List PlainModule) (sound : IsSound text) where
    child_of : (s c : Scope) → Contains (children text s) c → (n : List ℕ) × (c.path ≡ path_to s.path n) × Contains text c.source
    child_of s c has =
        let i = from_filter_map (λ i. option_map (λ m. record { path = path_to s.path i.name; source = m }) (module_named text i.target)) (instances_of s.source) c has in
        let m = mapped_there (λ m. record { path = path_to s.path i.0.name; source = m }) (module_named text i.0.target) c i.2 in
        let source : m.0 ≡ c.source = ap (λ (z : Scope). z.source) m.2 in
        (i.0.name, sym (ap (λ (z : Scope). z.path) m.2), subst (Contains text) source (from_find _ text m.0 m.1).0)

    abbrev IsUnder : Scope → Path → Type 0
    IsUnder s p = (rest : Path) × (p ≡ s.path ++ rest)

    under : (n : ℕ) (s c : Scope) → Contains (below n text s) c → (k : Scope) × Contains (children text s) k × IsUnder k c.path
    unfolding below
    under zero s c has = absurd (none_in_nil c has)
    under (suc n) s c has =
        let k = from_flat (λ k. k ∷ below n text k) (children text s) c has in
        (k.0, k.1, by k.0 (contains_cases k.0 (below n text k.0) c k.2) (under n k.0 c))
      where
        by : (k : Scope) → (k ≡ c) ⊎ Contains (below n text k) c → (Contains (below n text k) c → (j : Scope) × Contains (children text k) j × IsUnder j c.path) → IsUnder k c.path
        by k (inl same) rest = ([], ap (λ (z : Scope). z.path) (sym same) ∙ sym (append-nil k.path))
        by k (inr more) rest =
            let r = rest more in
            let j = child_of k r.0 r.1 in
            (j.0 ∷ r.2.0, r.2.1 ∙ ap (λ p. p ++ r.2.0) j.1 ∙ append_assoc k.path (j.0 ∷ []) r.2.0)

    abbrev paths : List Scope → List Path
    paths all = map (λ (z : Scope). z.path) all

    paths_flat : (f : Scope → List Scope) (all : List Scope) → paths (flat_map f all) ≡ flat_map (λ c. paths (f c)) all
    paths_flat f [] = refl
    paths_flat f (c ∷ all) = map-append (λ (z : Scope). z.path) (f c) (flat_map f all) ∙ ap (λ l. paths (f c) ++ l) (paths_flat f all)

    name_at : (p : Path) (n : List ℕ) (rest : Path) → get_or (path_to p n ++ rest) (length p) [] ≡ n
    name_at [] n rest = refl
    name_at (m ∷ p) n rest = name_at p n rest

    longer : (n : ℕ) (s : Scope) → Contains (paths (below n text s)) s.path → ⊥
    longer n s has =
        let c = from_map (λ (z : Scope). z.path) (below n text s) s.path has in
        let k = under n s c.0 c.1 in
        let i = child_of s k.0 k.1 in
        omega (arith, ap length (sym c.2 ∙ k.2.1), length-append k.0.path k.2.0, ap length i.1, length-append s.path (i.0 ∷ []))

    distinct_below : (n : ℕ) (s : Scope) → Contains text s.source → IsDistinct (paths (s ∷ below n text s))
    unfolding below
    distinct_below zero s there = (λ has. none_in_nil s.path has, tt)
    distinct_below (suc n) s there = (
      longer (suc n) s,
      subst IsDistinct (sym (paths_flat (λ c. c ∷ below n text c) (children text s)))
          (distinct_flat (λ c. paths (c ∷ below n text c)) key (λ (c : Scope). key c.path) (children text s) (λ c has. distinct_below n c (child_of s c has).2) reported names_apart),
    )
      where
        key : Path → List ℕ
        key p = get_or p (length s.path) []

        reported : (c : Scope) (p : Path) → Contains (children text s) c → Contains (paths (c ∷ below n text c)) p → key p ≡ key c.path
        reported c p has at = by (contains_cases c.path (paths (below n text c)) p at)
          where
            i : (m : List ℕ) × (c.path ≡ path_to s.path m) × Contains text c.source
            i = child_of s c has

            at_child : key c.path ≡ i.0
            at_child = ap key i.1 ∙ ap key (sym (append-nil (path_to s.path i.0))) ∙ name_at s.path i.0 []

            by : (c.path ≡ p) ⊎ Contains (paths (below n text c)) p → key p ≡ key c.path
            by (inl same) = ap key (sym same)
            by (inr more) =
                let z = from_map (λ (z : Scope). z.path) (below n text c) p more in
                let k = under n c z.0 z.1 in
                let j = child_of c k.0 k.1 in
                ap key (sym z.2 ∙ k.2.1 ∙ ap (λ q. q ++ k.2.0) j.1 ∙ append_assoc c.path (j.0 ∷ []) k.2.0 ∙ ap (λ q. q ++ (j.0 ∷ k.2.0)) i.1) ∙ name_at s.path i.0 (j.0 ∷ k.2.0) ∙ sym at_child

        names_apart : IsDistinct (map (λ (c : Scope). key c.path) (children text s))
        names_apart =
            subst (λ l. IsDistinct (map (λ (c : Scope). key c.path) l)) (sym (children_are text sound s.source there s refl))
            (subst IsDistinct (sym (map-map (λ (c : Scope). key c.path) (child text s) (instances_of s.source) ∙ same (instances_of s.source)))
            (distinct_from (map (λ i. i.name) (instances_of s.source)) (All-contains HasNamesApart text s.source (sound_texts_have_names_apart text sound) there)))
          where
            same : (is : List Instance) → map (λ (i : Instance). key (path_to s.path i.name)) is ≡ map (λ (i : Instance). i.name) is
            same [] = refl
            same (i ∷ is) = ap₂ ◌∷◌ (ap key (sym (append-nil (path_to s.path i.name))) ∙ name_at s.path i.name []) (same is)

  pub distinct_bits : (d : Design) → IsSound d.text → Contains d.text d.top → IsDistinct (net_order d)
  distinct_bits d sound there = distinct_flat scope_bits (λ b. b.path) (λ s. s.path) (scopes d) (λ s has. distinct_scope s) (λ s b has at. scope_path s b at) (distinct_below d.text sound 64 (root d) there)
