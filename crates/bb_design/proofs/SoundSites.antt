-- Where no site is at fault, each net that is used there has its bits in the scope; and what is in a scope of a design that
-- is not too deep is a scope of it.
use Rattle.std.proofs.Common.{◌≡◌, ◌⊎◌, ℕ, zero, suc, ◌+◌, ◌<◌, ◌≤◌, true, false, not, ◌&&◌, List, [], ◌∷◌, length, Contains, Option, Some, None, refl, sym, ap, ◌∙◌, subst, inl, inr, arith, true≢false, length-append}
use Rattle.std.specs.Prelude.{nat_le, option_map}
use Rattle.std.proofs.lemmas.List.Elements.{All-contains}
use Rattle.bb_lemmas.proofs.Tests.{le_from_test}
use Rattle.bb_lemmas.proofs.Bits.{not_false, and_left, and_right, or_cases, neither_right}
use Rattle.bb_bits.specs.Names.{same_name}
use Rattle.bb_ast.specs.declared.module.Range.{Range}
use Rattle.bb_ast.specs.Syntax.{PlainModule}
use Rattle.bb_names.specs.declared.fault.NameFault.TheVariants as name_faults
use Rattle.bb_names.specs.Declarations.{range_of, is_known, is_instance}
use Rattle.bb_names.specs.Faults.{unknown, wrong_select, wrong_role}
use Rattle.bb_names.specs.Nets.{net_names}
use Rattle.bb_names.specs.Ranges.{distance, range_width, place_of, is_index, has_bits}
use Rattle.bb_names.specs.Sites.{Use, Read, Driven, Stored, Site, ModuleName, HeadName, Declared, Target, Placed, PortName, Joined, Terminal, Clock, Number, Whole, Used, module_named}
use Rattle.bb_design.specs.Hierarchy.{Design, Scope, root, children, below, too_low, instances, instances_of, path_to, scopes}
use Rattle.bb_design.specs.Refusals.{IsShallow}
use Rattle.bb_lemmas.proofs.Members.{from_flat, into_flat, mapped_there, contains_here, contains_there, contains_cases, none_in_nil, from_find, from_filter_map}
use Rattle.bb_design.proofs.KnownNets.{known_net, net_bit_there}
use Rattle.bb_design.proofs.SoundConstructs.{not_reported}
use Rattle.bb_design.specs.Laws.SoundSites.{IsSoundSite}
use Rattle.bb_design.proofs.TermNets.{HasUsed}

-- an index of a range lies between its ends
between : (r : Range) (i : ℕ) → is_index r i ≡ true → ((r.left ≤ i) × (i ≤ r.right)) ⊎ ((r.right ≤ i) × (i ≤ r.left))
between r i h = by (or_cases (nat_le r.left i && nat_le i r.right) (nat_le r.right i && nat_le i r.left) h)
  where
    by : ((nat_le r.left i && nat_le i r.right) ≡ true) ⊎ ((nat_le r.right i && nat_le i r.left) ≡ true) → ((r.left ≤ i) × (i ≤ r.right)) ⊎ ((r.right ≤ i) × (i ≤ r.left))
    by (inl up) = inl (le_from_test r.left i (and_left (nat_le r.left i) _ up), le_from_test i r.right (and_right (nat_le r.left i) _ up))
    by (inr down) = inr (le_from_test r.right i (and_left (nat_le r.right i) _ down), le_from_test i r.left (and_right (nat_le r.right i) _ down))

-- the bits from an index to another are among those of the net
pub part_fits : (r : Option Range) (i j : ℕ) → has_bits r i j ≡ true → place_of r i + (distance i j + 1) ≤ range_width r
part_fits None i j h = absurd (true≢false (sym h))
part_fits (Some r) i j h =
    let both = and_left (is_index r i && is_index r j) (nat_le (distance r.left i) (distance r.left j)) h in
    let order : distance r.left i ≤ distance r.left j = le_from_test _ _ (and_right (is_index r i && is_index r j) (nat_le (distance r.left i) (distance r.left j)) h) in
    by order (between r i (and_left (is_index r i) (is_index r j) both)) (between r j (and_right (is_index r i) (is_index r j) both))
  where
    by : distance r.left i ≤ distance r.left j → ((r.left ≤ i) × (i ≤ r.right)) ⊎ ((r.right ≤ i) × (i ≤ r.left)) → ((r.left ≤ j) × (j ≤ r.right)) ⊎ ((r.right ≤ j) × (j ≤ r.left))
        → distance r.left i + (distance i j + 1) ≤ distance r.left r.right + 1
    by order (inl a) (inl b) = omega (arith, a.0, a.1, b.0, b.1, order)
    by order (inl a) (inr b) = omega (arith, a.0, a.1, b.0, b.1, order)
    by order (inr a) (inl b) = omega (arith, a.0, a.1, b.0, b.1, order)
    by order (inr a) (inr b) = omega (arith, a.0, a.1, b.0, b.1, order)

module _ (text : List PlainModule) (s : Scope) where
  no_instance : (how : Use) (n : List ℕ) (bits : Option (ℕ × ℕ)) → wrong_role text s.source (Used how n bits) ≡ [] → is_instance s.source n ≡ false
  no_instance Read n bits h = not_reported (is_instance s.source n) n h
  no_instance Driven n bits h = neither_right _ (is_instance s.source n) (not_reported _ n h)
  no_instance Stored n bits h = neither_right _ (is_instance s.source n) (not_reported _ n h)

  pub net_used : (how : Use) (n : List ℕ) (bits : Option (ℕ × ℕ)) → IsSoundSite text s (Used how n bits) → Contains (net_names s.source) n
  net_used how n bits sound = known_net s.source n (not_false (is_known s.source n) (not_reported (not (is_known s.source n)) n (sound (name_faults.Unknown, unknown) (1, omega arith, refl))))
      (no_instance how n bits (sound (name_faults.Role, wrong_role) (4, omega arith, refl)))

  pub has_used : (z : Site) → IsSoundSite text s z → HasUsed s z
  has_used (ModuleName before n) sound = tt
  has_used (HeadName before n) sound = tt
  has_used (Declared before x) sound = tt
  has_used (Target n) sound = tt
  has_used (Placed target n count) sound = tt
  has_used (PortName target before n) sound = tt
  has_used (Joined pin e) sound = tt
  has_used (Terminal gate output e) sound = tt
  has_used (Clock e) sound = tt
  has_used Number sound = tt
  has_used (Whole e) sound = tt
  has_used (Used how n None) sound = λ k lt. net_bit_there s n k (net_used how n None sound) lt
  has_used (Used how n (Some bits)) sound =
      let fits = part_fits (range_of s.source n) bits.0 bits.1 (not_false (has_bits (range_of s.source n) bits.0 bits.1) (not_reported (not (has_bits (range_of s.source n) bits.0 bits.1)) n (sound (name_faults.Select, wrong_select) (2, omega arith, refl)))) in
      λ k lt. net_bit_there s n (place_of (range_of s.source n) bits.0 + k) (net_used how n (Some bits) sound) (omega (arith, fits, lt))

-- children, level by level
child_longer : (text : List PlainModule) (s c : Scope) → Contains (children text s) c → (length c.path ≡ length s.path + 1) × Contains text c.source
child_longer text s c has =
    let i = from_filter_map (λ i. option_map (λ m. record { path = path_to s.path i.name; source = m }) (module_named text i.target)) (instances_of s.source) c has in
    let m = mapped_there (λ m. record { path = path_to s.path i.0.name; source = m }) (module_named text i.0.target) c i.2 in
    let path : path_to s.path i.0.name ≡ c.path = ap (λ (z : Scope). z.path) m.2 in
    let source : m.0 ≡ c.source = ap (λ (z : Scope). z.source) m.2 in
    (sym (ap length path) ∙ length-append s.path (i.0.name ∷ []), subst (Contains text) source (from_find (λ x. same_name x.name i.0.target) text m.0 m.1).0)

below_child : (n : ℕ) (text : List PlainModule) (r s c : Scope) → Contains (below n text r) s → length s.path < length r.path + n → Contains (children text s) c → Contains (below n text r) c
unfolding below
below_child zero text r s c has short child = absurd (none_in_nil s has)
below_child (suc n) text r s c has short child =
    let k = from_flat (λ c. c ∷ below n text c) (children text r) s has in
    let long = child_longer text r k.0 k.1 in
    into_flat (λ c. c ∷ below n text c) (children text r) k.0 c k.1 (contains_there k.0 (below n text k.0) c (by k.0 long.0 (contains_cases k.0 (below n text k.0) s k.2)
    (λ more. below_child n text k.0 s c more (omega (arith, short, long.0)) child)))
  where
    first : (k : Scope) (n : ℕ) → length k.path ≡ length r.path + 1 → k ≡ s → length s.path < length r.path + suc n → Contains (below n text k) c
    first k zero long same lt = absurd (omega (arith, lt, long, ap (λ (z : Scope). length z.path) same))
    first k (suc n) long same lt = into_flat (λ c. c ∷ below n text c) (children text k) c c (subst (λ z. Contains (children text z) c) (sym same) child) (contains_here c (below n text c))

    by : (k : Scope) → length k.path ≡ length r.path + 1 → (k ≡ s) ⊎ Contains (below n text k) s → (Contains (below n text k) s → Contains (below n text k) c) → Contains (below n text k) c
    by k long (inl same) rest = first k n long same short
    by k long (inr more) rest = rest more

top_child : (n : ℕ) (text : List PlainModule) (r c : Scope) → Contains (children text r) c → Contains (below (suc n) text r) c
unfolding below
top_child n text r c child = into_flat (λ c. c ∷ below n text c) (children text r) c c child (contains_here c (below n text c))

pub child_there : (d : Design) (s c : Scope) → IsShallow d → Contains (scopes d) s → Contains (children d.text s) c → Contains (scopes d) c
child_there d s c shallow has child = contains_there (root d) (instances d) c (by (contains_cases (root d) (instances d) s has))
  where
    by : (root d ≡ s) ⊎ Contains (instances d) s → Contains (instances d) c
    by (inl same) = top_child 63 d.text (root d) c (subst (λ z. Contains (children d.text z) c) (sym same) child)
    by (inr more) = below_child too_low d.text (root d) s c more (All-contains (λ s. length s.path < too_low) (instances d) s shallow more) child

below_source : (n : ℕ) (text : List PlainModule) (r s : Scope) → Contains (below n text r) s → Contains text s.source
unfolding below
below_source zero text r s has = absurd (none_in_nil s has)
below_source (suc n) text r s has =
    let k = from_flat (λ c. c ∷ below n text c) (children text r) s has in
    by k.0 (child_longer text r k.0 k.1).1 (contains_cases k.0 (below n text k.0) s k.2) (below_source n text k.0 s)
  where
    by : (k : Scope) → Contains text k.source → (k ≡ s) ⊎ Contains (below n text k) s → (Contains (below n text k) s → Contains text s.source) → Contains text s.source
    by k there (inl same) rest = subst (λ (z : Scope). Contains text z.source) same there
    by k there (inr more) rest = rest more

-- the module of each scope is in the text
pub source_there : (d : Design) (s : Scope) → Contains d.text d.top → Contains (scopes d) s → Contains d.text s.source
source_there d s top has = by (contains_cases (root d) (instances d) s has)
  where
    by : (root d ≡ s) ⊎ Contains (instances d) s → Contains d.text s.source
    by (inl same) = subst (λ (z : Scope). Contains d.text z.source) same top
    by (inr more) = below_source too_low d.text (root d) s more
