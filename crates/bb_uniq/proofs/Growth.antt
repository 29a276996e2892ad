-- a store with more nodes: the Refs from before keep their nodes and tables
use Rattle.std.proofs.Common.{◌≡◌, ◌≢◌, ◌≤◌, ◌<◌, ◌⊎◌, ℕ, zero, suc, ◌+◌, List, [], ◌∷◌, ◌++◌, length, Option, Some, None, refl, sym, ap, ap₂, ◌∙◌, subst, inl, inr, arith, length-append, get_or, ◌-◌}
use Rattle.std.specs.Prelude.{MatchOption, slice_get}
use Rattle.std.proofs.lemmas.Bool.{cases_lt}
use Rattle.std.proofs.lemmas.Option.{slice_get_read}
use Rattle.bb_bits.specs.Truth.{Halves}
use Rattle.bb_uniq.specs.declared.store.Node.{Node}
use Rattle.bb_uniq.specs.Inside.Nodes.{NodeStore, node_at, IsRef, IsBelow, IsStore, IsNew, with_node, view_by}
use Rattle.bb_uniq.specs.Inside.Meaning.{Keeps}
use Rattle.bb_uniq.proofs.Tables.{IsWithin, table, table-zero, table-here, table-later, Shape, Here, Later, shape_of, ref_from_within, within_from_ref, node_ref}

slice_get-append : (xs ys : List Node) (k : ℕ) → k < length xs → slice_get (xs ++ ys) k ≡ slice_get xs k
slice_get-append [] ys k h = absurd (omega (arith, h))
slice_get-append (x ∷ xs) ys zero h = refl
slice_get-append (x ∷ xs) ys (suc k) h = slice_get-append xs ys k (omega (arith, h))

slice_get-last : (xs : List Node) (x : Node) → slice_get (xs ++ x ∷ []) (length xs) ≡ Some x
slice_get-last [] x = refl
slice_get-last (y ∷ xs) x = slice_get-last xs x

slice_get-beyond : (xs : List Node) (k : ℕ) → length xs ≤ k → slice_get xs k ≡ None
slice_get-beyond [] k h = refl
slice_get-beyond (x ∷ xs) zero h = absurd (omega (arith, h))
slice_get-beyond (x ∷ xs) (suc k) h = slice_get-beyond xs k (omega (arith, h))

pub node_at-append : (nodes more : List Node) (r : ℕ) → r < length nodes + 2 → node_at (nodes ++ more) r ≡ node_at nodes r
node_at-append nodes more zero h = refl
node_at-append nodes more (suc zero) h = refl
node_at-append nodes more (suc (suc k)) h = slice_get-append nodes more k (omega (arith, h))

pub node_at-last : (nodes : List Node) (x : Node) → node_at (nodes ++ x ∷ []) (length nodes + 2) ≡ Some x
node_at-last nodes x =
    let e : length nodes + 2 ≡ suc (suc (length nodes)) = omega arith in
    ap (node_at (nodes ++ x ∷ [])) e ∙ slice_get-last nodes x

-- what is read at the place of a Ref that is no leaf
pub node_read : (nodes : List Node) (r : ℕ) (node : Node) → 2 ≤ r → r < length nodes + 2 → node ≡ get_or nodes (r - 2) node → node_at nodes r ≡ Some node
node_read nodes zero node least within e = absurd (omega (arith, least))
node_read nodes (suc zero) node least within e = absurd (omega (arith, least))
node_read nodes (suc (suc k)) node least within e =
    let same : suc (suc k) - 2 ≡ k = omega arith in
    slice_get_read nodes (length nodes) k node refl (omega (arith, within)) (subst (λ i. node ≡ get_or nodes i node) same e)

-- a node of the store with one more node is one from before, or the new one
pub node_at_push : (nodes : List Node) (x : Node) (r : ℕ) (node : Node) → node_at (nodes ++ x ∷ []) r ≡ Some node → (node_at nodes r ≡ Some node) ⊎ ((r ≡ length nodes + 2) × (x ≡ node))
node_at_push nodes x r node e =
    elim (cases_lt r (length nodes + 2)) [
      | inl before ↦ inl (sym (node_at-append nodes (x ∷ []) r before) ∙ e)
      | inr after ↦
          let l = node_ref (nodes ++ x ∷ []) r node e in
          let same : r ≡ length nodes + 2 = omega (arith, l, after, length-append nodes (x ∷ [])) in
          let f : Some x ≡ Some node = sym (node_at-last nodes x) ∙ (ap (node_at (nodes ++ x ∷ [])) (sym same) ∙ e) in
          inr (same, cc)
    ]

abbrev pub grown : NodeStore → List Node → NodeStore
grown s more = record s { nodes = s.nodes ++ more }

pub within-grown : (s : NodeStore) (more : List Node) (m r : ℕ) → IsWithin s m r → IsWithin (grown s more) m r
within-grown s more m r w = subst (λ o. MatchOption o (r < 2) (λ node. s.vars ≤ node.var + m)) (sym (node_at-append s.nodes more r (ref_from_within s m r w))) w

-- what is below a node is a leaf or a node
pub below_ref : (s : NodeStore) (v r : ℕ) → IsBelow s v r → IsRef s r
below_ref s v r h = ref_by (node_at s.nodes r) refl h
  where
    ref_by : (o : Option Node) → node_at s.nodes r ≡ o → MatchOption o (r < 2) (λ node. v < node.var) → IsRef s r
    ref_by None e l = omega (arith, l)
    ref_by (Some node) e l = node_ref s.nodes r node e

below-grown : (s : NodeStore) (more : List Node) (v r : ℕ) → IsBelow s v r → IsBelow (grown s more) v r
below-grown s more v r h = subst (λ o. MatchOption o (r < 2) (λ node. v < node.var)) (sym (node_at-append s.nodes more r (below_ref s v r h))) h

pub table-grown : (s : NodeStore) → IsStore s → (more : List Node) (m r : ℕ) → IsWithin s m r → table (grown s more) m r ≡ table s m r
table-grown s h more zero r w = table-zero (grown s more) r ∙ sym (table-zero s r)
table-grown s h more (suc m) r w = by_shape (table-grown s h more m) (shape_of s h m r w)
  where
    by_shape : ((q : ℕ) → IsWithin s m q → table (grown s more) m q ≡ table s m q) → Shape s m r → table (grown s more) (suc m) r ≡ table s (suc m) r
    by_shape again (Here node at var tab lo hi differs) =
        table-here (grown s more) m r node (node_at-append s.nodes more r (node_ref s.nodes r node at) ∙ at) var ∙ (ap₂ Halves (again node.lo lo) (again node.hi hi) ∙ sym tab)
    by_shape again (Later below tab) =
        table-later (grown s more) m r (within-grown s more m r below) ∙ (ap₂ Halves (again r below) (again r below) ∙ sym tab)

-- every Ref from before is kept
pub Keeps-grown : (s : NodeStore) → IsStore s → (more : List Node) → Keeps s (grown s more)
Keeps-grown s h more = record {
  vars = refl;
  limit = refl;
  refs = λ r l. omega (arith, l, length-append s.nodes more);
  views = λ r l. ap (view_by r) (node_at-append s.nodes more r l);
  tables = λ r l. table-grown s h more s.vars r (within_from_ref s r l);
}

pub Keeps-same : (s : NodeStore) → Keeps s s
Keeps-same s = record { vars = refl; limit = refl; refs = λ r l. l; views = λ r l. refl; tables = λ r l. refl }

pub Keeps-then : (a b c : NodeStore) → Keeps a b → Keeps b c → Keeps a c
Keeps-then a b c h k = record {
  vars = k.vars ∙ h.vars;
  limit = k.limit ∙ h.limit;
  refs = λ r l. k.refs r (h.refs r l);
  views = λ r l. k.views r (h.refs r l) ∙ h.views r l;
  tables = λ r l. k.tables r (h.refs r l) ∙ h.tables r l;
}

-- the store with a new node is a store
pub IsStore-with_node : (s : NodeStore) → IsStore s → (v lo hi : ℕ) → v < s.vars → IsBelow s v lo → IsBelow s v hi → IsNew s v lo hi → length s.nodes < s.limit → IsStore (with_node s v lo hi)
IsStore-with_node s h v lo hi within lo_below hi_below new room =
    let x : Node = record { var = v; lo = lo; hi = hi } in
    record {
      vars = λ r node e. elim (node_at_push s.nodes x r node e) [ inl old ↦ h.vars r node old | inr last ↦ subst (λ (y : Node). y.var < s.vars) last.1 within ];
      below = λ r node e.
          elim (node_at_push s.nodes x r node e) [
            | inl old ↦ let b = h.below r node old in (below-grown s (x ∷ []) node.var node.lo b.0, below-grown s (x ∷ []) node.var node.hi b.1)
            | inr last ↦
                subst (λ (y : Node). IsBelow (with_node s v lo hi) y.var y.lo × IsBelow (with_node s v lo hi) y.var y.hi) last.1
                (below-grown s (x ∷ []) v lo lo_below, below-grown s (x ∷ []) v hi hi_below)
          ];
      reduced = λ r node e. elim (node_at_push s.nodes x r node e) [ inl old ↦ h.reduced r node old | inr last ↦ subst (λ (y : Node). y.lo ≢ y.hi) last.1 new.0 ];
      unique = λ r q node e f.
          elim (node_at_push s.nodes x r node e) [
            | inl old ↦
                elim (node_at_push s.nodes x q node f) [
                  | inl old_too ↦ h.unique r q node old old_too
                  | inr last ↦ absurd (new.1 r (old ∙ ap Some (sym last.1)))
                ]
            | inr last ↦
                elim (node_at_push s.nodes x q node f) [
                  | inl old_too ↦ absurd (new.1 q (old_too ∙ ap Some (sym last.1)))
                  | inr last_too ↦ last.0 ∙ sym last_too.0
                ]
          ];
      held = omega (arith, room, length-append s.nodes (x ∷ []));
    }
