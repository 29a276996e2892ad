-- the beads that a store holds are the tables of its nodes, one to one
use Rattle.std.proofs.Common.{◌≡◌, ◌≢◌, ◌≤◌, ◌<◌, ℕ, zero, suc, ◌+◌, ◌-◌, ◌==◌, false, List, [], ◌∷◌, map, length, Option, Some, None, refl, sym, ap, ◌∙◌, subst, inl, inr, arith, get_or}
use Rattle.std.specs.Prelude.{slice_get, Contains}
use Rattle.std.specs.List.{range_with_len}
use Rattle.std.proofs.lemmas.List.{length-map}
use Rattle.std.proofs.lemmas.List.FromFn.{get_or-map-range_with_len, length-range_with_len}
use Rattle.std.proofs.lemmas.Option.{slice_get_within}
use Rattle.bb_bits.specs.Truth.{Truth, Bit, Halves, IsTruthTable, lifted, IsBead, IsBeadOf}
use Rattle.bb_bits.specs.TruthSets.{HasSize}
use Rattle.bb_uniq.proofs.Given.{Given}
use Rattle.bb_uniq.specs.declared.store.Node.{Node}
use Rattle.bb_uniq.specs.Inside.Nodes.{NodeStore, node_at, IsStore}
use Rattle.bb_uniq.specs.Inside.Meaning.{truth_of, IsHeld}
use Rattle.bb_uniq.proofs.Tables.{IsWithin, table, table-zero, table-here, table-lifted, Shape, Here, Later, shape_of, within_from_ref, within_from_below, node_ref, canonical, IsTruthTable-table, option_cases, match_from_some}

-- b is the table of the node r over its own variable and the m that follow
pub record HeldAt (s : NodeStore) (b : Truth) : Type 0 where
  pub r : ℕ
  pub m : ℕ
  pub node : Node
  pub at : node_at s.nodes r ≡ Some node
  pub level : node.var + suc m ≡ s.vars
  pub own : table s (suc m) r ≡ b

pub no_bead : (b : Truth) (x : Truth) (r : ℕ) → IsBeadOf b x → x ≡ Bit (r == 1) → ⊥
no_bead b x r h e = let k : IsBeadOf b (Bit (r == 1)) = subst (IsBeadOf b) e h in subst IsBead k.0 k.1

pub within_own : (s : NodeStore) (r m : ℕ) (node : Node) → node_at s.nodes r ≡ Some node → node.var + suc m ≡ s.vars → IsWithin s (suc m) r
within_own s r m node at level = match_from_some (node_at s.nodes r) (r < 2) (λ node. s.vars ≤ node.var + suc m) node at (omega (arith, level))

-- the table of a node over its own variable and those that follow is a bead
own_bead : (s : NodeStore) → IsStore s → (r m : ℕ) (node : Node) → node_at s.nodes r ≡ Some node → node.var + suc m ≡ s.vars → IsBead (table s (suc m) r)
own_bead s h r m node at level =
    let below = h.below r node at in
    let lo = within_from_below s m node.var node.lo level below.0 in
    let hi = within_from_below s m node.var node.hi level below.1 in
    let differs : table s m node.lo ≢ table s m node.hi = λ e. h.reduced r node at (canonical s h m node.lo node.hi lo hi e) in
    subst IsBead (sym (table-here s m r node at level)) differs

-- a table has one number of variables
pub one_depth : (m n : ℕ) (t : Truth) → IsTruthTable m t → IsTruthTable n t → m ≡ n
one_depth zero zero t h k = refl
one_depth zero (suc n) (Bit x) h k = absurd k
one_depth zero (suc n) (Halves a b) h k = absurd h
one_depth (suc m) zero (Bit x) h k = absurd h
one_depth (suc m) zero (Halves a b) h k = absurd k
one_depth (suc m) (suc n) (Bit x) h k = absurd h
one_depth (suc m) (suc n) (Halves a b) h k = ap suc (one_depth m n a h.0 k.0)

-- the bead of the node with the index k
unfoldable own_by : NodeStore → ℕ → Option Node → Truth
own_by s k None = Bit false
own_by s k (Some node) = table s (s.vars - node.var) (suc (suc k))

unfoldable own_table : NodeStore → ℕ → Truth
own_table s k = own_by s k (slice_get s.nodes k)

own_table-is : (s : NodeStore) (k m : ℕ) (node : Node) → slice_get s.nodes k ≡ Some node → node.var + suc m ≡ s.vars → own_table s k ≡ table s (suc m) (suc (suc k))
unfolding own_table own_by
own_table-is s k m node at level =
    let rest : s.vars - node.var ≡ suc m = omega (arith, level) in
    ap (own_by s k) at ∙ ap (λ i. table s i (suc (suc k))) rest

-- a node, found by its index
record Placed (s : NodeStore) (k : ℕ) : Type 0 where
  pub m : ℕ
  pub node : Node
  pub at : slice_get s.nodes k ≡ Some node
  pub level : node.var + suc m ≡ s.vars

placed : (s : NodeStore) → IsStore s → (k : ℕ) → k < length s.nodes → Placed s k
placed s h k l =
    elim (option_cases (slice_get s.nodes k)) [
      | inl none ↦ absurd (past s.nodes k l none)
      | inr some ↦
          let inside = h.vars (suc (suc k)) some.0 some.1 in
          record { m = s.vars - some.0.var - 1; node = some.0; at = some.1; level = omega (arith, inside) }
    ]
  where
    past : (xs : List Node) (i : ℕ) → i < length xs → slice_get xs i ≡ None → ⊥
    past [] i l e = omega (arith, l)
    past (x ∷ xs) zero l e = cc
    past (x ∷ xs) (suc i) l e = past xs i (omega (arith, l)) e

-- nodes with one bead are one node
own_table_differs : (s : NodeStore) → IsStore s → (i j : ℕ) → i < length s.nodes → j < length s.nodes → own_table s i ≡ own_table s j → i ≡ j
own_table_differs s h i j l k e =
    let a = placed s h i l in
    let b = placed s h j k in
    let same : table s (suc a.m) (suc (suc i)) ≡ table s (suc b.m) (suc (suc j)) = sym (own_table-is s i a.m a.node a.at a.level) ∙ (e ∙ own_table-is s j b.m b.node b.at b.level) in
    let depth : suc b.m ≡ suc a.m =
    one_depth (suc b.m) (suc a.m) (table s (suc a.m) (suc (suc i))) (subst (IsTruthTable (suc b.m)) (sym same) (IsTruthTable-table s (suc b.m) (suc (suc j)))) (IsTruthTable-table s (suc a.m) (suc (suc i))) in
    let f : suc (suc i) ≡ suc (suc j) =
    canonical s h (suc a.m) (suc (suc i)) (suc (suc j)) (within_own s (suc (suc i)) a.m a.node a.at a.level)
    (subst (λ n. IsWithin s n (suc (suc j))) depth (within_own s (suc (suc j)) b.m b.node b.at b.level)) (same ∙ ap (λ n. table s n (suc (suc j))) depth) in
    omega (arith, f)

beads : NodeStore → List Truth
beads s = map (own_table s) (range_with_len 0 (length s.nodes))

module _ (given : Given) where
  pub held_at : (s : NodeStore) → IsStore s → (m r : ℕ) (b : Truth) → IsWithin s m r → IsBeadOf b (table s m r) → HeldAt s b
  held_at s h zero r b w bead = absurd (no_bead b (table s zero r) r bead (table-zero s r))
  held_at s h (suc m) r b w bead = by_shape (λ q. held_at s h m q b) (shape_of s h m r w)
    where
      by_shape : ((q : ℕ) → IsWithin s m q → IsBeadOf b (table s m q) → HeldAt s b) → Shape s m r → HeldAt s b
      by_shape again (Here node at var tab lo hi differs) =
          elim ((given.beads.halves b (table s m node.lo) (table s m node.hi)).0 (subst (IsBeadOf b) tab bead)) [
            | inl own ↦ record { r = r; m = m; node = node; at = at; level = var; own = tab ∙ sym own.0 }
            | inr rest ↦ elim rest [ inl l ↦ again node.lo lo l | inr l ↦ again node.hi hi l ]
          ]
      by_shape again (Later below tab) =
          elim ((given.beads.halves b (table s m r) (table s m r)).0 (subst (IsBeadOf b) tab bead)) [
            | inl own ↦ absurd (own.1 refl)
            | inr rest ↦ elim rest [ inl l ↦ again r below l | inr l ↦ again r below l ]
          ]

  -- the bead of a node is one of its whole table
  pub bead_of_at : (s : NodeStore) → IsStore s → (b : Truth) (k : HeldAt s b) → IsBeadOf b (truth_of s k.r)
  bead_of_at s h b k =
      let whole : truth_of s k.r ≡ lifted k.node.var (table s (suc k.m) k.r) =
      sym (ap (λ n. table s n k.r) k.level) ∙ table-lifted s k.node.var (suc k.m) k.r (within_own s k.r k.m k.node k.at k.level) in
      let bead = own_bead s h k.r k.m k.node k.at k.level in
      let own : IsBeadOf (table s (suc k.m) k.r) (truth_of s k.r) =
      subst (IsBeadOf (table s (suc k.m) k.r)) (sym whole) ((given.beads.lifted k.node.var (table s (suc k.m) k.r) (table s (suc k.m) k.r)).1 (given.beads.self (table s (suc k.m) k.r) bead)) in
      subst (λ x. IsBeadOf x (truth_of s k.r)) k.own own

  pub held_from_at : (s : NodeStore) → IsStore s → (b : Truth) → HeldAt s b → IsHeld s b
  held_from_at s h b k = (k.r, node_ref s.nodes k.r k.node k.at, bead_of_at s h b k)

  pub at_from_held : (s : NodeStore) → IsStore s → (b : Truth) → IsHeld s b → HeldAt s b
  at_from_held s h b k = held_at s h s.vars k.0 b (within_from_ref s k.0 k.1) k.2

  -- a store holds as many beads as it has nodes
  pub size_of_held : (s : NodeStore) → IsStore s → HasSize (IsHeld s) (length s.nodes)
  unfolding beads
  size_of_held s h = (
    beads s,
    λ i j d below l.
        let k : j < length s.nodes = omega (arith, l, long) in
        λ e. let same = own_table_differs s h i j (omega arith) k (sym (at i d (omega arith)) ∙ (e ∙ at j d k)) in omega (arith, same, below),
    λ b. (
      λ c.
          let k : c.0 < length s.nodes = omega (arith, c.1, long) in
          let p = placed s h c.0 k in
          held_from_at s h b (record {
            r = suc (suc c.0);
            m = p.m;
            node = p.node;
            at = p.at;
            level = p.level;
            own = sym (own_table-is s c.0 p.m p.node p.at p.level) ∙ (sym (at c.0 b k) ∙ c.2);
          }),
      λ held. contained b (at_from_held s h b held),
    ),
    long,
  )
    where
      long : length (beads s) ≡ length s.nodes
      long = length-map (range_with_len 0 (length s.nodes)) (own_table s) ∙ length-range_with_len 0 (length s.nodes)

      at : (k : ℕ) (d : Truth) → k < length s.nodes → get_or (beads s) k d ≡ own_table s k
      at k d l = get_or-map-range_with_len (own_table s) 0 (length s.nodes) k k d l (omega arith)

      contained_by : (b : Truth) (r m : ℕ) (node : Node) → node_at s.nodes r ≡ Some node → node.var + suc m ≡ s.vars → table s (suc m) r ≡ b → Contains (beads s) b
      contained_by b zero m node e level own = absurd (let f : None ≡ Some node = e in cc)
      contained_by b (suc zero) m node e level own = absurd (let f : None ≡ Some node = e in cc)
      contained_by b (suc (suc k)) m node e level own =
          let l = slice_get_within s.nodes k node e in
          (k, omega (arith, l, long), at k b l ∙ (own_table-is s k m node e level ∙ own))

      contained : (b : Truth) → HeldAt s b → Contains (beads s) b
      contained b x = contained_by b x.r x.m x.node x.at x.level x.own
