-- Which modules are recursive is given by loops among the cells of those that the top reaches.
use Rattle.std.proofs.Common.{◌≡◌, ◌⊎◌, ℕ, ◌+◌, ◌<◌, ◌||◌, ◌==◌, zero, suc, Bool, true, false, List, [], length, get_or, All, Contains, refl, sym, ap, ◌∙◌, subst, inl, inr, arith, if◌then◌else◌, true≢false}
use Rattle.std.specs.Bool.{Decides}
use Rattle.std.specs.List.{enumerate_from}
use Rattle.std.proofs.lemmas.List.{get_or-map, length-map}
use Rattle.std.proofs.lemmas.List.Elements.{All-contains, All-from_get_or}
use Rattle.std.proofs.lemmas.List.FromFn.{get_or-enumerate_from, length-enumerate_from}
use Rattle.bb_net.specs.Loose.{LooseList, IsLoose, PlaceDependsOn, IsOnClosedWalk, IsLeastOnClosedWalk, Reaches}
use Rattle.bb_net.specs.Values.{bit_of}
use Rattle.bb_bits.specs.Closures.{Leads, One, More}
use Rattle.bb_hier.specs.Inside.Recursions.{place_steps, ArePlacesThere, IsReachedAt, IsRecursiveAt, IsFirstRecursive, module_list, kept_lists}
use Rattle.bb_lemmas.proofs.Members.{all_from, none_in_nil}
use Rattle.bb_hier.proofs.ModuleCells.{cells_long, modules_are_loose, step_from, step_to, walk_from, walk_to}
use Rattle.bb_lemmas.proofs.Walks.{more_after}

-- loops among cells are loops among modules

first_step : {A : Type 0} (steps : List (A × A)) {x y : A} → Leads steps x y → (z : A) × Contains steps (x, z)
first_step steps (One has) = (_, has)
first_step steps (More has rest) = (_, has)

pub loop_of_cells : (lists : List (List ℕ)) (place : ℕ) → IsOnClosedWalk (module_list lists) place → (j : ℕ) × (place ≡ j + 2) × (j < length lists) × Leads (place_steps lists) j j
loop_of_cells lists zero walk = absurd (none_in_nil walk.2.0 walk.2.1)
loop_of_cells lists (suc zero) walk = absurd (none_in_nil walk.2.0 walk.2.1)
loop_of_cells lists (suc (suc j)) walk =
    let at : suc (suc j) ≡ j + 2 = omega arith in
    let r = walk_from lists walk.1 j (suc (suc j)) (subst (λ p. Reaches (suc walk.1) (module_list lists) p (suc (suc j))) at walk.2) in
    let same : r.0 ≡ j = omega (arith, r.1) in
    let loop = subst (Leads (place_steps lists) j) same r.2 in
    let s = first_step (place_steps lists) loop in
    (j, at, (step_from lists j s.0 s.1).0, loop)

pub cells_of_loop : (lists : List (List ℕ)) (j : ℕ) → Leads (place_steps lists) j j → IsOnClosedWalk (module_list lists) (j + 2)
cells_of_loop lists j loop =
    let s = first_step (place_steps lists) loop in
    let lt = (step_from lists j s.0 s.1).0 in
    let w = walk_to lists j j loop in
    (omega (arith, lt, cells_long lists), w.0, w.1)

-- the lists of what the top reaches

same_number : (k : ℕ) → (k == k) ≡ true
same_number k = grind arith

or_left : (a b : Bool) → a ≡ true → (a || b) ≡ true
or_left true b h = refl
or_left false b h = absurd (true≢false (sym h))

or_right : (a b : Bool) → b ≡ true → (a || b) ≡ true
or_right true b h = refl
or_right false b h = h

or_cases : (a b : Bool) → (a || b) ≡ true → (a ≡ true) ⊎ (b ≡ true)
or_cases true b h = inl refl
or_cases false b h = inr h

pub marked_places : (lists : List (List ℕ)) (top : ℕ) (l : LooseList) (marks items : List Bool) → l ≡ module_list lists → marks ≡ items → ((k : ℕ) → Decides (bit_of items k) (PlaceDependsOn l (top + 2) k))
    → (k : ℕ) → Decides (bit_of marks k) (PlaceDependsOn (module_list lists) (top + 2) k)
marked_places lists top l marks items is same reported k = subst (λ (x : LooseList). Decides (bit_of marks k) (PlaceDependsOn x (top + 2) k)) is (subst (λ xs. Decides (bit_of xs k) (PlaceDependsOn l (top + 2) k)) (sym same) (reported k))

module _ (lists : List (List ℕ)) (top : ℕ) (marks : List Bool) where
  is_kept : ℕ → Bool
  is_kept k = k == top || bit_of marks (k + 2)

  pub kept_at : (k : ℕ) (d : List ℕ) → k < length lists → get_or (kept_lists top marks lists) k d ≡ (if k == top || bit_of marks (k + 2) then get_or lists k [] else [])
  kept_at k d lt = get_or-map (λ (x : ℕ × List ℕ). if x.0 == top || bit_of marks (x.0 + 2) then x.1 else []) (enumerate_from 0 lists) k (0, []) d (omega (arith, lt, length-enumerate_from 0 lists))
      ∙ ap (λ (x : ℕ × List ℕ). if x.0 == top || bit_of marks (x.0 + 2) then x.1 else []) (get_or-enumerate_from 0 lists k (0, []) lt)
      ∙ ap (λ j. if j == top || bit_of marks (j + 2) then get_or lists k [] else []) (zero_plus k)
    where
      zero_plus : (k : ℕ) → 0 + k ≡ k
      zero_plus k = omega arith

  pub kept_long : length (kept_lists top marks lists) ≡ length lists
  kept_long = length-map (enumerate_from 0 lists) (λ (x : ℕ × List ℕ). if x.0 == top || bit_of marks (x.0 + 2) then x.1 else []) ∙ length-enumerate_from 0 lists

  pub kept_there : ArePlacesThere lists → ArePlacesThere (kept_lists top marks lists)
  kept_there there = record {
    there = All-from_get_or (All (λ k. k < length (kept_lists top marks lists))) (kept_lists top marks lists) [] (λ i lt. each i (omega (arith, lt, kept_long)));
    few = omega (arith, kept_long, there.few);
  }
    where
      by : (i : ℕ) → i < length lists → (b : Bool) → All (λ k. k < length (kept_lists top marks lists)) (if b then get_or lists i [] else [])
      by i lt true = all_from (λ k. k < length (kept_lists top marks lists)) _ (λ q has. let low = All-contains (λ k. k < length lists) (get_or lists i []) q (there.there i [] lt) has in omega (arith, low, kept_long))
      by i lt false = all_from (λ k. k < length (kept_lists top marks lists)) [] (λ q has. absurd (none_in_nil q has))

      each : (i : ℕ) → i < length lists → All (λ k. k < length (kept_lists top marks lists)) (get_or (kept_lists top marks lists) i [])
      each i lt = subst (All (λ k. k < length (kept_lists top marks lists))) (sym (kept_at i [] lt)) (by i lt (i == top || bit_of marks (i + 2)))

  reached_then : (j k : ℕ) → IsReachedAt lists top j → Contains (place_steps lists) (j, k) → IsReachedAt lists top k
  reached_then j k (inl e) has = inr (One (subst (λ z. Contains (place_steps lists) (z, k)) (sym e) has))
  reached_then j k (inr leads) has = inr (more_after (place_steps lists) leads has)

  module _ (marked : (k : ℕ) → Decides (bit_of marks k) (PlaceDependsOn (module_list lists) (top + 2) k)) where
    kept_where_reached : (k : ℕ) → IsReachedAt lists top k → (k == top || bit_of marks (k + 2)) ≡ true
    kept_where_reached k (inl e) = or_left (k == top) (bit_of marks (k + 2)) (subst (λ t. (k == t) ≡ true) (sym e) (same_number k))
    kept_where_reached k (inr leads) = or_right (k == top) (bit_of marks (k + 2)) ((marked (k + 2)).1 (walk_to lists top k leads))

    reached_where_kept : (k : ℕ) → (k == top || bit_of marks (k + 2)) ≡ true → IsReachedAt lists top k
    reached_where_kept k h = from (or_cases (k == top) (bit_of marks (k + 2)) h)
      where
        from : ((k == top) ≡ true) ⊎ (bit_of marks (k + 2) ≡ true) → IsReachedAt lists top k
        from (inl same) = inl (grind (arith, same))
        from (inr on) =
            let d = (marked (k + 2)).0 on in
            let r = walk_from lists d.0 top (k + 2) d.1 in
            let is : r.0 ≡ k = omega (arith, r.1) in
            inr (subst (Leads (place_steps lists) top) is r.2)

    step_of_kept : (j k : ℕ) → Contains (place_steps (kept_lists top marks lists)) (j, k) → IsReachedAt lists top j × Contains (place_steps lists) (j, k)
    step_of_kept j k has =
        let s = step_from (kept_lists top marks lists) j k has in
        let lt : j < length lists = omega (arith, s.0, kept_long) in
        by (j == top || bit_of marks (j + 2)) refl lt (subst (λ xs. Contains xs k) (kept_at j [] lt) s.1)
      where
        by : (b : Bool) → (j == top || bit_of marks (j + 2)) ≡ b → j < length lists → Contains (if b then get_or lists j [] else []) k → IsReachedAt lists top j × Contains (place_steps lists) (j, k)
        by true e lt here = (reached_where_kept j e, step_to lists j k lt here)
        by false e lt here = absurd (none_in_nil k here)

    kept_step : (j k : ℕ) → IsReachedAt lists top j → Contains (place_steps lists) (j, k) → Contains (place_steps (kept_lists top marks lists)) (j, k)
    kept_step j k reached has =
        let s = step_from lists j k has in
        step_to (kept_lists top marks lists) j k (omega (arith, s.0, kept_long))
        (subst (λ xs. Contains xs k) (sym (kept_at j [] s.0 ∙ ap (λ b. if b then get_or lists j [] else []) (kept_where_reached j reached))) s.1)

    walk_of_kept : {j k : ℕ} → Leads (place_steps (kept_lists top marks lists)) j k → Leads (place_steps lists) j k
    walk_of_kept (One has) = One (step_of_kept _ _ has).1
    walk_of_kept (More has rest) = More (step_of_kept _ _ has).1 (walk_of_kept rest)

    kept_walk : {j k : ℕ} → IsReachedAt lists top j → Leads (place_steps lists) j k → Leads (place_steps (kept_lists top marks lists)) j k
    kept_walk reached (One has) = One (kept_step _ _ reached has)
    kept_walk reached (More has rest) = More (kept_step _ _ reached has) (kept_walk (reached_then _ _ reached has) rest)

    recursive_of : (k : ℕ) → Leads (place_steps (kept_lists top marks lists)) k k → IsRecursiveAt lists top k
    recursive_of k loop = let s = first_step (place_steps (kept_lists top marks lists)) loop in ((step_of_kept k s.0 s.1).0, walk_of_kept loop)

    -- no loop among the cells, or the least one

    pub none_recursive : ((k : ℕ) → IsOnClosedWalk (module_list (kept_lists top marks lists)) k → ⊥) → (k : ℕ) → IsRecursiveAt lists top k → ⊥
    none_recursive none k h = none (k + 2) (cells_of_loop (kept_lists top marks lists) k (kept_walk h.0 h.1))

    pub first_recursive_at : (place : ℕ) → IsLeastOnClosedWalk (module_list (kept_lists top marks lists)) place → (j : ℕ) × (place ≡ j + 2) × IsFirstRecursive lists top j
    first_recursive_at place least =
        let l = loop_of_cells (kept_lists top marks lists) place least.on in (
          l.0,
          l.1,
          record {
            there = omega (arith, l.2, kept_long);
            holds = recursive_of l.0 l.3;
            first = λ j lt h. least.least (j + 2) (omega (arith, lt, l.1)) (cells_of_loop (kept_lists top marks lists) j (kept_walk h.0 h.1));
          },
        )

pub kept_loose : (lists : List (List ℕ)) (top : ℕ) (marks : List Bool) (left : List (List ℕ)) (l : LooseList) → ArePlacesThere lists → left ≡ kept_lists top marks lists → l ≡ module_list left → IsLoose l
kept_loose lists top marks left l there kept is = subst IsLoose (sym is) (modules_are_loose left (subst ArePlacesThere (sym kept) (kept_there lists top marks there)))
