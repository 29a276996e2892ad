-- The numbers of bits in net order, and what they are for the bits of a scope, of its nets and of its instances.
use Rattle.std.proofs.Common.{◌≡◌, ℕ, zero, suc, ◌+◌, ◌^◌, ◌<◌, ◌≤◌, ◌==◌, Bool, true, false, if◌then◌else◌, List, [], ◌∷◌, flat_map, length, take, get_or, Contains, Some, refl, sym, ap, ◌∙◌, subst, arith, true≢false}
use Rattle.std.specs.Prelude.{slice_get, slice_index, IfSome}
use Rattle.std.specs.Option.{option_map_or, option_and_then}
use Rattle.std.proofs.lemmas.Option.{slice_get_within, slice_get-get_or, get_or_from_slice_get}
use Rattle.bb_ast.specs.Syntax.{PlainModule}
use Rattle.bb_names.specs.declared.net.NetInfo.{NetInfo}
use Rattle.bb_names.specs.Nets.{net_of, nets_of}
use Rattle.bb_names.specs.Ranges.{range_width}
use Rattle.bb_names.specs.Sites.{module_named}
use Rattle.bb_expr.specs.declared.step.BitStep.TheVariants as steps
use Rattle.bb_expr.specs.Laws.FitLaws.{NetNamesDiffer}
use Rattle.bb_expr.specs.Lowered.{ReadsEarlier, name_at}
use Rattle.bb_blast.specs.declared.template.ModuleTemplate.{ModuleTemplate}
use Rattle.bb_blast.specs.declared.placed.Placed.{Placed}
use Rattle.bb_design.specs.Hierarchy.{Instance, Design, Scope, instances, instances_of, path_to, scopes}
use Rattle.bb_design.specs.NetBits.{Bit, same_bit, bits_of_net, scope_bits, net_order}
use Rattle.bb_blast.specs.Inside.Counting.{capped, after}
use Rattle.bb_blast.specs.Inside.Listing.{Site, inner_first, site_of}
use Rattle.bb_design.specs.Inside.Allowed.{IsBounded}
use Rattle.bb_design.specs.Refusals.{most_bits}
use Rattle.bb_blast.specs.Inside.ModuleTemplates.{IsModuleTemplate, net_start}
use Rattle.bb_blast.specs.Inside.Placements.{ArePlaced, IsScopeAt, IsChildAt}
use Rattle.bb_bits.specs.Closures.{IsDistinct}
use Rattle.bb_blast.proofs.CappedNumbers.{capped_small}
use Rattle.bb_blast.proofs.NetNumbers.{got_run}
use Rattle.bb_lemmas.proofs.Places.{got_flat}
use Rattle.bb_lemmas.proofs.Zips.{zip_other}
use Rattle.bb_lemmas.proofs.Members.{contains_here, contains_there}
use Rattle.bb_design.specs.Laws.DesignLaws.{DesignLaws}

-- where a bit is in a list
unfoldable pub place_among : List Bit → Bit → ℕ
place_among [] b = 0
place_among (x ∷ xs) b = if same_bit b x then 0 else suc (place_among xs b)

place_within : (xs : List Bit) (b : Bit) → place_among xs b ≤ length xs
unfolding place_among
place_within [] b = omega arith
place_within (x ∷ xs) b = by (same_bit b x) (place_within xs b)
  where
    by : (t : Bool) → place_among xs b ≤ length xs → (if t then 0 else suc (place_among xs b)) ≤ suc (length xs)
    by true le = omega arith
    by false le = omega (arith, le)

few_below : (most top n long more : ℕ) → n ≤ long → long + more ≤ most → most < top → n < top
few_below most top n long more le few small = omega (arith, le, few, small)

module _ (of_designs : DesignLaws) where
  occurring : (xs : List Bit) → IsDistinct xs → (k : ℕ) (b : Bit) → slice_get xs k ≡ Some b → place_among xs b ≡ k
  unfolding place_among
  occurring [] none k b e = absurd (grind (arith, e))
  occurring (x ∷ xs) none zero b e =
      let same : x ≡ b = grind (arith, e) in
      ap (λ (t : Bool). if t then 0 else suc (place_among xs b)) (ap (same_bit b) same ∙ ((of_designs.distinguished b b).1 refl))
  occurring (x ∷ xs) none (suc k) b e = by (same_bit b x) refl (occurring xs none.1 k b e)
    where
      there : (ys : List Bit) (j : ℕ) → slice_get ys j ≡ Some b → Contains ys b
      there [] j h = absurd (grind (arith, h))
      there (y ∷ ys) zero h = let same : y ≡ b = grind (arith, h) in subst (Contains (y ∷ ys)) same (contains_here y ys)
      there (y ∷ ys) (suc j) h = contains_there y ys b (there ys j h)

      by : (t : Bool) → same_bit b x ≡ t → place_among xs b ≡ k → (if t then 0 else suc (place_among xs b)) ≡ suc k
      by true h rest = absurd (none.0 (subst (Contains xs) ((of_designs.distinguished b x).0 h) (there xs k e)))
      by false h rest = ap suc rest

  meant : (xs : List Bit) (k : ℕ) (b c : Bit) → slice_get xs k ≡ Some b → place_among xs c ≡ k → b ≡ c
  unfolding place_among
  meant [] k b c e at = absurd (grind (arith, e))
  meant (x ∷ xs) zero b c e at = by (same_bit c x) refl at
    where
      by : (t : Bool) → same_bit c x ≡ t → (if t then 0 else suc (place_among xs c)) ≡ 0 → b ≡ c
      by true h z = let same : x ≡ b = grind (arith, e) in sym same ∙ sym ((of_designs.distinguished c x).0 h)
      by false h z = absurd (omega (arith, z))
  meant (x ∷ xs) (suc k) b c e at = by (same_bit c x) at (meant xs k b c e)
    where
      by : (t : Bool) → (if t then 0 else suc (place_among xs c)) ≡ suc k → (place_among xs c ≡ k → b ≡ c) → b ≡ c
      by true z rest = absurd (omega (arith, z))
      by false z rest = rest (omega (arith, z))

-- the number of a bit in net order
unfoldable pub bit_number : Design → Bit → ℕ
bit_number d b = place_among (net_order d) b

module _ (of_designs : DesignLaws) (names : NetNamesDiffer) (d : Design) (bounded : IsBounded d) where
  pub numbered : (k : ℕ) (b : Bit) → slice_get (net_order d) k ≡ Some b → bit_number d b ≡ k
  unfolding bit_number
  numbered k b e = occurring of_designs (net_order d) (of_designs.distinct d bounded.faultless bounded.top) k b e

  -- in a small design no number of a bit is capped
  pub number_small : (b : Bit) → capped (bit_number d b) ≡ bit_number d b
  unfolding bit_number
  number_small b = capped_small (place_among (net_order d) b) (few_below most_bits (2 ^ 32) (place_among (net_order d) b) (length (net_order d)) (length (instances d)) (place_within (net_order d) b) bounded.small.0 (omega arith))

  pub distinguished : (k : ℕ) (b c : Bit) → slice_get (net_order d) k ≡ Some b → same_bit b c ≡ (k == bit_number d c)
  unfolding bit_number
  distinguished k b c e = by (same_bit b c) (k == place_among (net_order d) c) refl refl
    where
      by : (s t : Bool) → same_bit b c ≡ s → (k == place_among (net_order d) c) ≡ t → s ≡ t
      by true true p q = refl
      by false false p q = refl
      by true false p q = let same : place_among (net_order d) c ≡ k = ap (place_among (net_order d)) (sym ((of_designs.distinguished b c).0 p)) ∙ numbered k b e in absurd (grind (arith, same, q))
      by false true p q =
          let same : place_among (net_order d) c ≡ k = grind (arith, q) in
          absurd (true≢false (sym (((of_designs.distinguished b b).1 refl)) ∙ ap (same_bit b) (meant of_designs (net_order d) k b c e same) ∙ p))

-- what the numbers of a scope say
pub record IsSiteOf (d : Design) (s : Scope) (site : Site) : Type 0 where
  pub own : (i : ℕ) (b : Bit) → slice_get (scope_bits s) i ≡ Some b → bit_number d b ≡ after site.first i
  pub nets : (n i : ℕ) → ReadsEarlier (nets_of s.source) 0 (steps.Net n i)
      → bit_number d (record { path = s.path; net = name_at (nets_of s.source) n; place = i }) ≡ site.first + slice_index site.starts n + i
  pub inner : (j : ℕ) (called : Instance) (target : PlainModule) → slice_get (instances_of s.source) j ≡ Some called → module_named d.text called.target ≡ Some target
      → (i : ℕ) (b : Bit) → slice_get (scope_bits (record { path = path_to s.path called.name; source = target })) i ≡ Some b → bit_number d b ≡ after (site.inner j) i

inner_first_is : (placed : List Placed) (p : Placed) (j c : ℕ) (q : Placed) → slice_get p.children.items j ≡ Some c → slice_get placed c ≡ Some q → inner_first placed p j ≡ q.first
inner_first_is placed p j c q child there =
    ap (λ o. option_map_or (λ (z : Placed). z.first) (option_and_then (slice_get placed) o) 0) child ∙ ap (λ o. option_map_or (λ (z : Placed). z.first) o 0) there

module _ (of_designs : DesignLaws) (names : NetNamesDiffer) (d : Design) (bounded : IsBounded d) (placed : List Placed) (are : ArePlaced d placed) where
  -- a scope begins with its first bit
  pub first_bits : (k : ℕ) (s : Scope) (p : Placed) → IsScopeAt d k s → slice_get placed k ≡ Some p → (i : ℕ) (b : Bit) → slice_get (scope_bits s) i ≡ Some b → bit_number d b ≡ p.first + i
  first_bits k s p at has i b e =
      numbered of_designs names d bounded (p.first + i) b (ap (λ n. slice_get (net_order d) (n + i)) (are.each k s p at has).first ∙ got_flat scope_bits (scopes d) k s i b at e)

  -- as 32 bits say it
  pub held_bits : (k : ℕ) (s : Scope) (p : Placed) → IsScopeAt d k s → slice_get placed k ≡ Some p → (i : ℕ) (b : Bit) → slice_get (scope_bits s) i ≡ Some b → bit_number d b ≡ after p.first i
  held_bits k s p at has i b e = sym (number_small of_designs names d bounded b) ∙ ap capped (first_bits k s p at has i b e)

  pub site_is : (k : ℕ) (s : Scope) (p : Placed) (o : ModuleTemplate) → IsScopeAt d k s → slice_get placed k ≡ Some p → IsModuleTemplate d.text s.source o → IsSiteOf d s (site_of placed p o)
  site_is k s p o at has template = record {
    own = held_bits k s p at has;
    nets = λ n i reads.
        let all = nets_of s.source in
        let net = get_or all n (net_of s.source []) in
        let got : slice_get all n ≡ Some net = slice_get-get_or all n (net_of s.source []) reads.0 in
        let fits : i < range_width net.range = subst (λ q. IfSome q (λ (x : NetInfo). i < range_width x.range)) got reads.1 in
        let name : name_at all n ≡ net.name = ap (λ q. option_map_or (λ (x : NetInfo). x.name) q []) got in
        let start : slice_index o.starts.items n ≡ net_start all n = get_or_from_slice_get o.starts.items n (net_start all n) 0 (template.starts n reads.0) in
        let bit : Bit = record { path = s.path; net = name_at all n; place = i } in
        let there : slice_get (scope_bits s) (length (flat_map (bits_of_net s.path) (take n all)) + i) ≡ Some bit =
        got_flat (bits_of_net s.path) all n net i bit got (got_run (λ j. record { path = s.path; net = net.name; place = j }) 0 (range_width net.range) i fits
        ∙ ap (λ (j : ℕ). Some (record { path = s.path; net = net.name; place = j })) (none i) ∙ ap (λ (m : List ℕ). Some (record { path = s.path; net = m; place = i })) (sym name)) in
        first_bits k s p at has _ bit there ∙ omega (arith, start, of_designs.net_bits s.path (take n all));
    inner = λ j called target there found i b e.
        let child = zip_other (IsChildAt d s) p.children.items (instances_of s.source) j called (are.each k s p at has).children there in
        let c = child.0 in
        let same : child.2.0 ≡ target = grind (arith, child.2.1, found) in
        let occurs : IsScopeAt d c (record { path = path_to s.path called.name; source = target }) = subst (λ m. IsScopeAt d c (record { path = path_to s.path called.name; source = m })) same child.2.2 in
        let q = placed_there c (record { path = path_to s.path called.name; source = target }) occurs in
        let inner : inner_first placed p j ≡ q.0.first = inner_first_is placed p j c q.0 child.1 q.1 in
        held_bits c (record { path = path_to s.path called.name; source = target }) q.0 occurs q.1 i b e ∙ ap (λ n. after n i) (sym inner);
  }
    where
      none : (i : ℕ) → 0 + i ≡ i
      none i = omega arith

      placed_there : (c : ℕ) (z : Scope) → IsScopeAt d c z → (q : Placed) × (slice_get placed c ≡ Some q)
      placed_there c z occurs = (get_or placed c p, slice_get-get_or placed c p (omega (arith, are.count, slice_get_within (scopes d) c z occurs)))
