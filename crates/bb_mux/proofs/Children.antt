-- A node and its children: what depends on the first variables alone, and the bead of the node.
use Rattle.std.proofs.Common.{◌≡◌, ◌≢◌, ◌<◌, ◌≤◌, ◌⊎◌, ℕ, zero, suc, ◌+◌, ◌-◌, Bool, true, false, List, length, take, drop, set, get_or, cond, eqb, refl, sym, ap, ◌∙◌, subst, inl, inr, arith}
use Rattle.std.proofs.Math.Seq.{take-set-lt}
use Rattle.std.proofs.lemmas.Bool.{cases_lt, cond-true, eq-eqb}
use Rattle.std.proofs.lemmas.List.{drop-set-lt, get_or-set_same, length-set, length-take, take-append-drop, take-set-le}
use Rattle.bb_bits.specs.Truth.{Truth, Bit, Halves, IsTruthTable, IsSubtableOf, IsBead, IsBeadOf, lifted, truth_at}
use Rattle.bb_uniq.specs.declared.store.Ref.{Ref}
use Rattle.bb_uniq.specs.declared.store.View.TheVariants as seen
use Rattle.bb_uniq.specs.Inside.Nodes.{NodeStore, IsRef, IsStore, view_of}
use Rattle.bb_uniq.specs.Inside.Meaning.{ViewMeans, truth_of}
use Rattle.bb_uniq.specs.Inside.Cofactors.{AreCofactors, hi_seen, lo_seen, top_of, variable_seen}
use Rattle.bb_quant.specs.Inside.LeastPoints.{BeginsAs}
use Rattle.bb_mux.specs.Inside.Functions.{DependsOnFirst}
use Rattle.bb_mux.proofs.Given.{Given}

-- a table has one number of variables
pub one_size : (m n : ℕ) (t : Truth) → IsTruthTable m t → IsTruthTable n t → m ≡ n
one_size zero zero t h k = refl
one_size zero (suc n) (Bit x) h k = absurd k
one_size zero (suc n) (Halves a b) h k = absurd h
one_size (suc m) zero (Bit x) h k = absurd h
one_size (suc m) zero (Halves a b) h k = absurd k
one_size (suc m) (suc n) (Bit x) h k = absurd h
one_size (suc m) (suc n) (Halves a b) h k = ap suc (one_size m n a h.0 k.0)

-- a subtable has no more variables
pub smaller : (m n : ℕ) (t b : Truth) → IsTruthTable m t → IsTruthTable n b → IsSubtableOf b t → n ≤ m
smaller zero n (Bit x) b size own is = omega (arith, one_size n zero (Bit x) (subst (IsTruthTable n) is own) size)
smaller zero n (Halves lo hi) b size own is = absurd size
smaller (suc m) n (Bit x) b size own is = absurd size
smaller (suc m) n (Halves lo hi) b size own (inl is) = omega (arith, one_size n (suc m) (Halves lo hi) (subst (IsTruthTable n) is own) size)
smaller (suc m) n (Halves lo hi) b size own (inr (inl is)) = omega (arith, smaller m n lo b size.0 own is)
smaller (suc m) n (Halves lo hi) b size own (inr (inr is)) = omega (arith, smaller m n hi b size.1 own is)

-- the first bits of points with one bit exchanged
begins_set : (k v : ℕ) (b : Bool) (p q : List Bool) → BeginsAs k p q → BeginsAs k (set p v b) (set q v b)
begins_set k v b p q begins = (
  length-set q v b ∙ begins.0 ∙ sym (length-set p v b),
  elim (cases_lt v k) [
    | inl inside ↦ take-set-lt k q v b inside ∙ ap (λ l. set l v b) begins.1 ∙ sym (take-set-lt k p v b inside)
    | inr after ↦ take-set-le k q v b after ∙ begins.1 ∙ sym (take-set-le k p v b after)
  ],
)

-- a node with its children, of a sound store
pub record IsNode (s : NodeStore) (r v : ℕ) (lo hi : Ref) : Type 0 where
  pub store : IsStore s
  pub ref : IsRef s r
  pub view : view_of s r ≡ seen.Node v lo hi
  pub means : ViewMeans s r (seen.Node v lo hi)

module _ (given : Given) (s : NodeStore) (r v : ℕ) (lo hi : Ref) (node : IsNode s r v lo hi) where
  abbrev m : ℕ
  m = s.vars - v - 1

  pub cofactors : AreCofactors s v m r lo.0 hi.0
  cofactors =
      let top : top_of s r ≡ v = ap (variable_seen s.vars) node.view in
      let x = given.steps.cofactors s node.store v m r (omega (arith, node.means.0)) node.ref (omega (arith, top)) in
      let own = eq-eqb v v refl in
      let first : lo_seen v r (view_of s r) ≡ lo.0 = ap (lo_seen v r) node.view ∙ cond-true (eqb v v) lo.0 r own in
      let second : hi_seen v r (view_of s r) ≡ hi.0 = ap (hi_seen v r) node.view ∙ cond-true (eqb v v) hi.0 r own in
      subst (λ q. AreCofactors s v m r q hi.0) first (subst (λ q. AreCofactors s v m r (lo_seen v r (view_of s r)) q) second x)

  pub lo_ref : IsRef s lo.0
  lo_ref = given.stores.below_is_ref s v lo.0 node.means.1

  pub hi_ref : IsRef s hi.0
  hi_ref = given.stores.below_is_ref s v hi.0 node.means.2

  tables_differ : truth_of s lo.0 ≢ truth_of s hi.0
  tables_differ e = given.stores.children_differ s node.store r v lo hi node.view (given.stores.one_ref s node.store lo.0 hi.0 lo_ref hi_ref e)

  -- a point leads to the child for its variable's value
  pub to_child : (p : List Bool) → length p ≡ s.vars → truth_at (truth_of s r) p ≡ cond (get_or p v false) (truth_at (truth_of s hi.0) p) (truth_at (truth_of s lo.0) p)
  to_child p long = ap (λ t. truth_at t p) node.means.3 ∙ given.stores.branch_at_point s v lo.0 hi.0 p node.means.0 long

  to_set : (b : Bool) (p : List Bool) → length p ≡ s.vars → truth_at (truth_of s r) (set p v b) ≡ cond b (truth_at (truth_of s hi.0) (set p v b)) (truth_at (truth_of s lo.0) (set p v b))
  to_set b p long =
      to_child (set p v b) (length-set p v b ∙ long)
      ∙ ap (λ x. cond x (truth_at (truth_of s hi.0) (set p v b)) (truth_at (truth_of s lo.0) (set p v b))) (get_or-set_same p v b false (omega (arith, long, node.means.0)))

  -- the variable of the node does not matter to the children
  rest_alone : (t : Truth) (p : List Bool) → length p ≡ s.vars → truth_at (lifted (suc v) t) p ≡ truth_at t (drop (suc v) p)
  rest_alone t p long =
      ap (truth_at (lifted (suc v) t)) (sym (take-append-drop (suc v) p))
      ∙ given.tables.lifted_at_point (suc v) t (take (suc v) p) (drop (suc v) p) (omega (arith, length-take (suc v) p, long, node.means.0))

  skips : (b : Bool) (t u : Truth) (p : List Bool) → u ≡ lifted (suc v) t → length p ≡ s.vars → truth_at u (set p v b) ≡ truth_at u p
  skips b t u p is long =
      ap (λ w. truth_at w (set p v b)) is
      ∙ rest_alone t (set p v b) (length-set p v b ∙ long)
      ∙ ap (truth_at t) (drop-set-lt (suc v) p v b (omega arith))
      ∙ sym (rest_alone t p long)
      ∙ ap (λ w. truth_at w p) (sym is)

  at_zero : (p : List Bool) → length p ≡ s.vars → truth_at (truth_of s lo.0) p ≡ truth_at (truth_of s r) (set p v false)
  at_zero p long = sym (skips false cofactors.first (truth_of s lo.0) p cofactors.lo_table long) ∙ sym (to_set false p long)

  at_one : (p : List Bool) → length p ≡ s.vars → truth_at (truth_of s hi.0) p ≡ truth_at (truth_of s r) (set p v true)
  at_one p long = sym (skips true cofactors.second (truth_of s hi.0) p cofactors.hi_table long) ∙ sym (to_set true p long)

  module _ (k : ℕ) (depends : DependsOnFirst s.vars k (truth_of s r)) where
    -- what depends on the first variables alone begins with one of these
    pub within : v < k
    within = elim (cases_lt v k) [
      | inl inside ↦ inside
      | inr after ↦ absurd (tables_differ (given.tables.points_fix_table s.vars (truth_of s lo.0) (truth_of s hi.0) (given.stores.table_size s lo.0) (given.stores.table_size s hi.0) (λ p long.
          at_zero p long
          ∙ depends (set p v false) (set p v true) (length-set p v false ∙ long) (length-set p v true ∙ sym (length-set p v false), take-set-le k p v true after ∙ sym (take-set-le k p v false after))
          ∙ sym (at_one p long))))
    ]

    pub lo_depends : DependsOnFirst s.vars k (truth_of s lo.0)
    lo_depends p q long begins =
        at_zero p long ∙ depends (set p v false) (set q v false) (length-set p v false ∙ long) (begins_set k v false p q begins) ∙ sym (at_zero q (begins.0 ∙ long))

    pub hi_depends : DependsOnFirst s.vars k (truth_of s hi.0)
    hi_depends p q long begins =
        at_one p long ∙ depends (set p v true) (set q v true) (length-set p v true ∙ long) (begins_set k v true p q begins) ∙ sym (at_one q (begins.0 ∙ long))

  -- the bead of the node
  abbrev pub own_bead : Truth
  own_bead = Halves cofactors.first cofactors.second

  pub own_is_bead : IsBead own_bead
  own_is_bead e = tables_differ (cofactors.lo_table ∙ ap (lifted (suc v)) e ∙ sym cofactors.hi_table)

  pub own_of_node : IsBeadOf own_bead (truth_of s r)
  own_of_node = subst (IsBeadOf own_bead) (sym cofactors.whole) ((given.beads.lifted v own_bead own_bead).1 (given.beads.self own_bead own_is_bead))

  -- beads of the children are beads of the node, and its own is none of them
  of_half : (b : Truth) → IsBeadOf b cofactors.first ⊎ IsBeadOf b cofactors.second → IsBeadOf b (truth_of s r)
  of_half b has = subst (IsBeadOf b) (sym cofactors.whole) ((given.beads.lifted v b own_bead).1 ((given.beads.halves b cofactors.first cofactors.second).1 (inr has)))

  pub of_lo : (b : Truth) → IsBeadOf b (truth_of s lo.0) → IsBeadOf b (truth_of s r)
  of_lo b has = of_half b (inl ((given.beads.lifted (suc v) b cofactors.first).0 (subst (IsBeadOf b) cofactors.lo_table has)))

  pub of_hi : (b : Truth) → IsBeadOf b (truth_of s hi.0) → IsBeadOf b (truth_of s r)
  of_hi b has = of_half b (inr ((given.beads.lifted (suc v) b cofactors.second).0 (subst (IsBeadOf b) cofactors.hi_table has)))

  not_of : (t u : Truth) → IsTruthTable m t → u ≡ lifted (suc v) t → IsBeadOf own_bead u → ⊥
  not_of t u size is has =
      let inside = (given.beads.lifted (suc v) own_bead t).0 (subst (IsBeadOf own_bead) is has) in
      let l = smaller m (suc m) t own_bead size (cofactors.first_size, cofactors.second_size) inside.0 in
      omega (arith, l)

  pub not_of_lo : IsBeadOf own_bead (truth_of s lo.0) → ⊥
  not_of_lo = not_of cofactors.first (truth_of s lo.0) cofactors.first_size cofactors.lo_table

  pub not_of_hi : IsBeadOf own_bead (truth_of s hi.0) → ⊥
  not_of_hi = not_of cofactors.second (truth_of s hi.0) cofactors.second_size cofactors.hi_table

  -- another Ref with this bead is the same
  pub same_ref : (q w : ℕ) → IsRef s q → truth_of s q ≡ lifted w own_bead → q ≡ r
  same_ref q w ref is =
      let size = given.tables.lifted_size w (suc m) own_bead (cofactors.first_size, cofactors.second_size) in
      let n = one_size s.vars (w + suc m) (truth_of s q) (given.stores.table_size s q) (subst (IsTruthTable (w + suc m)) (sym is) size) in
      let level : w ≡ v = omega (arith, n, node.means.0) in
      given.stores.one_ref s node.store q r ref node.ref (is ∙ ap (λ k. lifted k own_bead) level ∙ sym cofactors.whole)
