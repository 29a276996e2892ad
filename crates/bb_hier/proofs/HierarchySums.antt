-- What all instances of a design add, by the places of their modules.
use Rattle.std.proofs.Common.{◌≡◌, ◌⊎◌, ℕ, zero, suc, ◌+◌, ◌≤◌, ◌<◌, List, [], ◌∷◌, map, length, Contains, Option, Some, None, refl, sym, ap, ◌∙◌, inl, inr, arith, length-append}
use Rattle.std.specs.Prelude.{sum_by, min, nat_lt, slice_get, slice_index_or}
use Rattle.std.specs.List.{flat_map}
use Rattle.std.proofs.lemmas.List.FromFn.{length-map-range_with_len}
use Rattle.std.proofs.lemmas.List.Sums.{sum_by-cons}
use Rattle.bb_ast.specs.Syntax.{PlainModule}
use Rattle.bb_names.specs.declared.net.NetInfo.{NetInfo}
use Rattle.bb_names.specs.Faults.{IsSound}
use Rattle.bb_names.specs.Nets.{nets_of}
use Rattle.bb_names.specs.Ranges.{range_width}
use Rattle.bb_design.specs.Hierarchy.{Path, Design, Scope, root, below, instances, instances_of, children}
use Rattle.bb_design.specs.NetBits.{bits_of_net, scope_bits, net_order}
use Rattle.bb_design.specs.Refusals.{design_on}
use Rattle.bb_design.specs.Sizes.{bits_and_instances}
use Rattle.bb_hier.specs.Inside.Weights.{net_width, bit_count, total_below}
use Rattle.bb_design.specs.Inside.Callees.{callee_place, child, called}
use Rattle.bb_lemmas.proofs.Places.{there_at}
use Rattle.bb_lemmas.proofs.Orders.{less_or_not}
use Rattle.bb_hier.proofs.CellSums.{sum_flat}
use Rattle.bb_hier.proofs.SizeTotals.{add_capped, total_capped}
use Rattle.bb_lemmas.proofs.Members.{contains_here, contains_there}
use Rattle.bb_design.specs.Laws.DesignLaws.{DesignLaws}

pub sum_map : {X Y : Type 0} (g : Y → ℕ) (f : X → Y) (xs : List X) → sum_by g (map f xs) ≡ sum_by (λ x. g (f x)) xs
sum_map g f [] = refl
sum_map g f (x ∷ xs) = sum_by-cons g (f x) (map f xs) ∙ ap (λ n. g (f x) + n) (sum_map g f xs) ∙ sym (sum_by-cons (λ x. g (f x)) x xs)

pub sum_same : {X : Type 0} (f g : X → ℕ) (xs : List X) → ((x : X) → Contains xs x → f x ≡ g x) → sum_by f xs ≡ sum_by g xs
sum_same f g [] same = refl
sum_same f g (x ∷ xs) same = sum_by-cons f x xs ∙ ap (λ n. n + sum_by f xs) (same x (contains_here x xs)) ∙ ap (λ n. g x + n) (sum_same f g xs (λ y has. same y (contains_there x xs y has))) ∙ sym (sum_by-cons g x xs)

pub length_flat : {X Y : Type 0} (f : X → List Y) (xs : List X) → length (flat_map f xs) ≡ sum_by (λ x. length (f x)) xs
length_flat f [] = refl
length_flat f (x ∷ xs) = length-append (f x) (flat_map f xs) ∙ ap (λ n. length (f x) + n) (length_flat f xs) ∙ sym (sum_by-cons (λ x. length (f x)) x xs)

pub sum_both : {X : Type 0} (f g : X → ℕ) (xs : List X) → sum_by f xs + sum_by g xs ≡ sum_by (λ x. f x + g x) xs
sum_both f g [] = refl
sum_both f g (x ∷ xs) = omega (arith, sum_by-cons f x xs, sum_by-cons g x xs, sum_by-cons (λ x. f x + g x) x xs, sum_both f g xs)

pub sum_ones : {X : Type 0} (xs : List X) → length xs ≡ sum_by (λ x. 1) xs
sum_ones [] = refl
sum_ones (x ∷ xs) = omega (arith, sum_ones xs, sum_by-cons (λ x. 1) x xs)

abbrev pub weight_or : (PlainModule → ℕ) → Option PlainModule → ℕ
weight_or weight None = 0
weight_or weight (Some m) = weight m

-- the weight of the module at a place, if one is there
abbrev pub weight_at : (PlainModule → ℕ) → List PlainModule → ℕ → ℕ
weight_at weight text j = weight_or weight (slice_get text j)

module _ (of_designs : DesignLaws) (text : List PlainModule) (sound : IsSound text) (weight : PlainModule → ℕ) where
  pub sum_below : (n : ℕ) (s : Scope) (k : ℕ) → slice_get text k ≡ Some s.source → sum_by (λ c. weight c.source) (below n text s) ≡ total_below (called text) (weight_at weight text) n k
  unfolding below
  sum_below zero s k at = refl
  sum_below (suc n) s k at =
      let is = instances_of s.source in
      let here = there_at text k s.source at in
      sum_flat (λ (c : Scope). weight c.source) (λ c. c ∷ below n text c) (children text s)
      ∙ ap (sum_by (λ c. sum_by (λ (c : Scope). weight c.source) (c ∷ below n text c))) ((of_designs.instances text sound s.source here).children s refl)
      ∙ sum_map (λ c. sum_by (λ (c : Scope). weight c.source) (c ∷ below n text c)) (child text s) is
      ∙ sum_same (λ i. sum_by (λ (c : Scope). weight c.source) (child text s i ∷ below n text (child text s i))) (λ i. weight_at weight text (callee_place text i) + total_below (called text) (weight_at weight text) n (callee_place text i)) is
      (λ i has. sum_by-cons (λ (c : Scope). weight c.source) (child text s i) (below n text (child text s i))
      ∙ ap (λ w. w + sum_by (λ (c : Scope). weight c.source) (below n text (child text s i))) (ap (weight_or weight) (sym ((of_designs.instances text sound s.source here).occurs i has)))
      ∙ ap (λ t. weight_at weight text (callee_place text i) + t) (sum_below n (child text s i) (callee_place text i) ((of_designs.instances text sound s.source here).occurs i has)))
      ∙ sym (sum_map (λ j. weight_at weight text j + total_below (called text) (weight_at weight text) n j) (callee_place text) is)
      ∙ ap (sum_by (λ j. weight_at weight text j + total_below (called text) (weight_at weight text) n j)) (sym ((of_designs.instances text sound s.source here).called k at))

-- bits

long_net : (path : Path) (net : NetInfo) → length (bits_of_net path net) ≡ net_width net
long_net path net = length-map-range_with_len (λ k. record { path = path; net = net.name; place = k }) 0 (range_width net.range)

pub long_nets : (path : Path) (nets : List NetInfo) → length (flat_map (bits_of_net path) nets) ≡ sum_by net_width nets
long_nets path nets = length_flat (bits_of_net path) nets ∙ sum_same (λ net. length (bits_of_net path net)) net_width nets (λ net has. long_net path net)

pub long_scope : (s : Scope) → length (scope_bits s) ≡ bit_count s.source
long_scope s = long_nets s.path (nets_of s.source)

pub bits_counted : (d : Design) → bits_and_instances d ≡ bit_count d.top + sum_by (λ s. bit_count s.source + 1) (instances d)
bits_counted d =
    let order : length (net_order d) ≡ bit_count d.top + sum_by (λ (s : Scope). bit_count s.source) (instances d) =
    length-append (scope_bits (root d)) (flat_map scope_bits (instances d)) ∙ ap (λ n. n + length (flat_map scope_bits (instances d))) (long_scope (root d))
    ∙ ap (λ n. bit_count d.top + n) (length_flat scope_bits (instances d) ∙ sum_same (λ s. length (scope_bits s)) (λ (s : Scope). bit_count s.source) (instances d) (λ s has. long_scope s)) in
    omega (arith, order, sum_ones (instances d), sum_both (λ (s : Scope). bit_count s.source) (λ s. 1) (instances d))

-- sums as far as they are reported

pub total_capped_where : (m limit : ℕ) (lists : List (List ℕ)) (b f g : ℕ → ℕ) → ((k : ℕ) → b k ≤ limit → min m (f k) ≡ min m (g k)) → (n k : ℕ) → total_below lists b n k ≤ limit
    → min m (total_below lists f n k) ≡ min m (total_below lists g n k)
total_capped_where m limit lists b f g same zero k le = refl
total_capped_where m limit lists b f g same (suc n) k le = all (slice_index_or lists k []) (λ j. total_capped_where m limit lists b f g same n j) le
  where
    all : (xs : List ℕ) → ((j : ℕ) → total_below lists b n j ≤ limit → min m (total_below lists f n j) ≡ min m (total_below lists g n j)) → sum_by (λ j. b j + total_below lists b n j) xs ≤ limit
        → min m (sum_by (λ j. f j + total_below lists f n j) xs) ≡ min m (sum_by (λ j. g j + total_below lists g n j) xs)
    all [] rest le = refl
    all (j ∷ xs) rest le =
        let s = sum_by-cons (λ j. b j + total_below lists b n j) j xs in
        add_capped m (f j + total_below lists f n j) (g j + total_below lists g n j) (sum_by (λ j. f j + total_below lists f n j) xs) (sum_by (λ j. g j + total_below lists g n j) xs) _ _
        (add_capped m (f j) (g j) (total_below lists f n j) (total_below lists g n j) _ _ (same j (omega (arith, le, s))) (rest j (omega (arith, le, s))) refl refl)
        (all xs rest (omega (arith, le, s)))
        (sum_by-cons (λ j. f j + total_below lists f n j) j xs) (sum_by-cons (λ j. g j + total_below lists g n j) j xs)

capped_there : (m : ℕ) (f weight : PlainModule → ℕ) → ((x : PlainModule) → f x ≡ min m (weight x)) → (text : List PlainModule) (j : ℕ) → min m (slice_index_or (map f text) j 0) ≡ min m (weight_at weight text j)
capped_there m f weight is [] j = refl
capped_there m f weight is (x ∷ text) zero = ap (min m) (is x) ∙ twice m (weight x)
  where
    twice : (m a : ℕ) → min m (min m a) ≡ min m a
    twice m a = omega arith
capped_there m f weight is (x ∷ text) (suc j) = capped_there m f weight is text j

pub got_map : (f : PlainModule → ℕ) (text : List PlainModule) (j : ℕ) (t : PlainModule) → slice_get text j ≡ Some t → slice_index_or (map f text) j 0 ≡ f t
got_map f [] j t e = cc
got_map f (x ∷ text) zero t e = let is : x ≡ t = grind (arith, e) in ap f is
got_map f (x ∷ text) (suc j) t e = got_map f text j t e

-- a number and its sum are past their limits together
past_limit : (m limit whole here below sum top rest : ℕ) → limit + 1 < m → here ≡ min m (top + 1) → below ≡ min m rest → sum ≡ min (here + below) m → whole ≡ top + rest → nat_lt (limit + 1) sum ≡ nat_lt limit whole
past_limit m limit whole here below sum top rest room x y is all = by (less_or_not limit whole)
  where
    by : (limit < whole) ⊎ (whole ≤ limit) → nat_lt (limit + 1) sum ≡ nat_lt limit whole
    by (inl h) = let lt : limit + 1 < sum = omega (arith, room, x, y, is, all, h) in grind (arith, lt, h)
    by (inr h) = let le : sum ≤ limit + 1 = omega (arith, room, x, y, is, all, h) in grind (arith, le, h)

module _ (of_designs : DesignLaws) (m limit : ℕ) (room : limit + 1 < m) (text : List PlainModule) (sound : IsSound text) (top : ℕ) (t : PlainModule) (at : slice_get text top ≡ Some t) (bits : List ℕ) (are : bits ≡ map (λ x. min m (bit_count x + 1)) text) where
  abbrev rest_of : ℕ
  rest_of = total_below (called text) (weight_at (λ x. bit_count x + 1) text) 64 top

  whole_is : bits_and_instances (design_on text t) ≡ bit_count t + rest_of
  whole_is = bits_counted (design_on text t) ∙ ap (λ n. bit_count t + n) (sum_below of_designs text sound (λ x. bit_count x + 1) 64 (root (design_on text t)) top at)

  bit_weight_at : (j : ℕ) → min m (slice_index_or bits j 0) ≡ min m (weight_at (λ x. bit_count x + 1) text j)
  bit_weight_at j = ap (λ l. min m (slice_index_or l j 0)) are ∙ capped_there m (λ x. min m (bit_count x + 1)) (λ x. bit_count x + 1) (λ x. refl) text j

  pub many_bits : (here below sum : ℕ) → here ≡ slice_index_or bits top 0 → below ≡ min m (total_below (called text) (λ j. slice_index_or bits j 0) 64 top) → sum ≡ min (here + below) m
      → nat_lt (limit + 1) sum ≡ nat_lt limit (bits_and_instances (design_on text t))
  many_bits here below sum x y is = past_limit m limit (bits_and_instances (design_on text t)) here below sum (bit_count t) rest_of room
      (x ∙ ap (λ l. slice_index_or l top 0) are ∙ got_map (λ x. min m (bit_count x + 1)) text top t at)
      (y ∙ total_capped m (called text) (λ j. slice_index_or bits j 0) (weight_at (λ x. bit_count x + 1) text) bit_weight_at 64 top) is whole_is
