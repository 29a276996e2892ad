use Rattle.std.proofs.Common.{◌≡◌, ◌∙◌, ap, subst, sym}
use Rattle.bb_uniq.specs.declared.store.View.{View}
use Rattle.bb_uniq.specs.declared.store.View.TheVariants as seen
use Rattle.bb_uniq.specs.Inside.Nodes.{NodeStore, IsRef, view_by, view_of}
use Rattle.bb_uniq.proofs.Making.{leaf_table, view_means_at}
use Rattle.bb_uniq.proofs.Growth.{node_read}
use Rattle.bb_uniq.proofs.store.Store.view.Goals as goal

pub returns-then-r-lt2-clause-table : goal.returns-then-r-lt2-clause-table
returns-then-r-lt2-clause-table c = leaf_table c.args.self.now c.args.self.now.vars c.args.r.0 c.if-r-lt2.true

pub returns-clause-table : goal.returns-clause-table
returns-clause-table c =
    let i = c.self.inside in
    let s : NodeStore = record { vars = i.vars; limit = i.limit; nodes = i.nodes.items } in
    let node = c.index-node.result.now in
    let v : View = seen.Node node.var (record { 0 = node.lo }) (record { 0 = node.hi }) in
    let seen : v ≡ view_of s c.args.r.0 = ap (view_by c.args.r.0) (sym (node_read s.nodes c.args.r.0 node c.if-r-lt2.false (subst (λ x. IsRef x c.args.r.0) (sym c.self.view_is) c.requires) c.index-node.ensures)) in
    view_means_at (record { tables = c.tables.ensures; beads = c.beads.ensures; sizes = c.sizes.ensures }) s c.args.self.now c.self.view_is c.self.invariant.0 c.args.r.0 c.requires v (seen ∙ ap (λ x. view_of x c.args.r.0) c.self.view_is)
