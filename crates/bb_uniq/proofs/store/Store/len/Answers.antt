use Rattle.std.proofs.Common.{arith, subst, sym, ap, ◌∙◌, ◌≡◌, length}
use Rattle.bb_bits.specs.TruthSets.{HasSize}
use Rattle.bb_uniq.specs.Inside.Nodes.{NodeStore, IsStore}
use Rattle.bb_uniq.specs.Inside.Meaning.{IsHeld}
use Rattle.bb_uniq.proofs.Held.{size_of_held}
use Rattle.bb_uniq.proofs.store.Store.len.Goals as goal

pub returns-clause-beads : goal.returns-clause-beads
returns-clause-beads c =
    let now = c.args.self.now in
    let own : length c.self.inside.nodes.items ≡ c.len.result = grind (arith) in
    let e : length now.nodes ≡ c.len.result = sym (ap (λ (s : NodeStore). length s.nodes) c.self.view_is) ∙ own in
    subst (λ n. HasSize (IsHeld now) n) e (size_of_held (record { tables = c.tables.ensures; beads = c.beads.ensures; sizes = c.sizes.ensures }) now (subst IsStore c.self.view_is c.self.invariant.0))
