use Rattle.std.proofs.Common.{◌==◌, ◌≡◌, ◌<◌, ℕ, zero, suc, Option, Some, None, arith, List}
use Rattle.std.specs.Prelude.{MatchOption}
use Rattle.std.proofs.lemmas.Bool.{ltb-true}
use Rattle.bb_uniq.specs.declared.store.Node.{Node}
use Rattle.bb_uniq.specs.declared.store.Ref.{Ref}
use Rattle.bb_uniq.specs.declared.store.View.TheVariants as seen
use Rattle.bb_uniq.specs.Inside.Nodes.{node_at, view_by}
use Rattle.bb_test_engines.proofs.store_tests.is_below.Goals as goal

leaf_below : (nodes : List Node) (v r : ℕ) → r < 2 → MatchOption (node_at nodes r) (r < 2) (λ node. v < node.var)
leaf_below nodes v zero l = l
leaf_below nodes v (suc zero) l = l
leaf_below nodes v (suc (suc r)) l = absurd (omega (arith, l))

node_below : (o : Option Node) (v r var : ℕ) (lo hi : Ref) → seen.Node var lo hi ≡ view_by r o → v < var → MatchOption o (r < 2) (λ node. v < node.var)
node_below None v r var lo hi e l = absurd (let f : seen.Node var lo hi ≡ seen.Leaf (r == 1) = e in cc)
node_below (Some node) v r var lo hi e l =
    let f : seen.Node var lo hi ≡ seen.Node node.var (record { 0 = node.lo }) (record { 0 = node.hi }) = e in
    let same : var ≡ node.var = cc in
    omega (arith, l, same)

pub returns-then-f-lt2 : goal.returns-then-f-lt2
returns-then-f-lt2 c = λ _. leaf_below c.args.store.now.nodes c.args.v c.args.f.0 c.if-f-lt2.true

pub returns-in-Node : goal.returns-in-Node
returns-in-Node c = λ e. node_below (node_at c.args.store.now.nodes c.args.f.0) c.args.v c.args.f.0 c.in-Node.var c.in-Node.lo c.in-Node.hi c.in-Node.ensures.view (ltb-true c.args.v c.in-Node.var e)
