-- the variable at which a Ref is, and its cofactors
use Rattle.std.proofs.Common.{◌≡◌, ◌≤◌, ◌<◌, ℕ, suc, ◌+◌, eqb, Option, Some, None, refl, sym, ap, subst, inl, inr, arith}
use Rattle.std.specs.Prelude.{MatchOption}
use Rattle.std.proofs.lemmas.Bool.{cases_eq, eq-eqb, ne_eqb, cond-true, cond-false}
use Rattle.bb_uniq.specs.declared.store.Node.{Node}
use Rattle.bb_uniq.specs.declared.store.View.{View}
use Rattle.bb_uniq.specs.declared.store.View.TheVariants as seen
use Rattle.bb_uniq.specs.Inside.Nodes.{NodeStore, node_at, view_by, view_of, IsRef, IsBelow, IsStore}
use Rattle.bb_uniq.specs.Inside.Meaning.{ViewMeans}
use Rattle.bb_uniq.specs.Inside.Cofactors.{variable_seen, top_of, lo_seen, hi_seen, AreCofactors}
use Rattle.bb_uniq.proofs.Given.{Given}
use Rattle.bb_uniq.proofs.Tables.{ref_node, match_from_none, match_from_some}
use Rattle.bb_uniq.proofs.Making.{view_means}
use Rattle.bb_uniq.proofs.Steps.{splits_node, splits_later}

pub below_from_top : (s : NodeStore) (v r : ℕ) → IsRef s r → v < top_of s r → IsBelow s v r
below_from_top s v r ref l = by_node (node_at s.nodes r) refl l
  where
    by_node : (o : Option Node) → node_at s.nodes r ≡ o → v < variable_seen s.vars (view_by r o) → MatchOption (node_at s.nodes r) (r < 2) (λ node. v < node.var)
    by_node None e l = match_from_none (node_at s.nodes r) (r < 2) (λ node. v < node.var) e (ref_node s.nodes r ref e)
    by_node (Some node) e l = match_from_some (node_at s.nodes r) (r < 2) (λ node. v < node.var) node e l

pub top_below : (s : NodeStore) (v r : ℕ) → v < s.vars → IsBelow s v r → v < top_of s r
top_below s v r l below = by_node (node_at s.nodes r) below
  where
    by_node : (o : Option Node) → MatchOption o (r < 2) (λ node. v < node.var) → v < variable_seen s.vars (view_by r o)
    by_node None h = l
    by_node (Some node) h = h

pub inner_top : (s : NodeStore) → IsStore s → (r : ℕ) → IsRef s r → 2 ≤ r → top_of s r < s.vars
inner_top s h r ref l = by_node (node_at s.nodes r) refl
  where
    by_node : (o : Option Node) → node_at s.nodes r ≡ o → variable_seen s.vars (view_by r o) < s.vars
    by_node None e = absurd (let k = ref_node s.nodes r ref e in omega (arith, k, l))
    by_node (Some node) e = h.vars r node e

module _ (given : Given) where
  pub cofactors : (s : NodeStore) → IsStore s → (v m r : ℕ) → v + suc m ≡ s.vars → IsRef s r → v ≤ top_of s r → AreCofactors s v m r (lo_seen v r (view_of s r)) (hi_seen v r (view_of s r))
  cofactors s h v m r level ref l = by_view (view_of s r) refl l (view_means given s h r ref)
    where
      by_view : (w : View) → view_of s r ≡ w → v ≤ variable_seen s.vars w → ViewMeans s r w → AreCofactors s v m r (lo_seen v r w) (hi_seen v r w)
      by_view (seen.Leaf b) e l means =
          let top : top_of s r ≡ s.vars = ap (variable_seen s.vars) e in
          splits_later given s v m r level (below_from_top s v r ref (omega (arith, top, level)))
      by_view (seen.Node own lo hi) e l means =
          elim (cases_eq own v) [
            | inl same ↦
                let there : ViewMeans s r (seen.Node v lo hi) = subst (λ i. ViewMeans s r (seen.Node i lo hi)) same means in
                let test = eq-eqb own v same in
                subst (λ q. AreCofactors s v m r q (hi_seen v r (seen.Node own lo hi))) (sym (cond-true (eqb own v) lo.0 r test))
                (subst (λ q. AreCofactors s v m r lo.0 q) (sym (cond-true (eqb own v) hi.0 r test)) (splits_node given s v m r lo.0 hi.0 level there.1 there.2 there.3))
            | inr other ↦
                let top : top_of s r ≡ own = ap (variable_seen s.vars) e in
                let test = ne_eqb own v other in
                subst (λ q. AreCofactors s v m r q (hi_seen v r (seen.Node own lo hi))) (sym (cond-false (eqb own v) lo.0 r test))
                (subst (λ q. AreCofactors s v m r r q) (sym (cond-false (eqb own v) hi.0 r test)) (splits_later given s v m r level (below_from_top s v r ref (omega (arith, top, l, other)))))
          ]
