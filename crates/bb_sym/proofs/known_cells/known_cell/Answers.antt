use Rattle.std.proofs.Common.{◌≡◌, not, List, sym, subst, refl}
use Rattle.bb_bits.specs.Truth.{constant}
use Rattle.bb_net.specs.declared.cell.Cell.{Cell}
use Rattle.bb_uniq.specs.Inside.Nodes.{NodeStore}
use Rattle.bb_sym.specs.declared.known_gates.DualRail.{DualRail}
use Rattle.bb_sym.specs.Inside.Made.{Makes, AreTooMany}
use Rattle.bb_sym.specs.Inside.Rails.{rails_at, tables_made}
use Rattle.bb_sym.proofs.MadeLemmas.{Adds-leaf}
use Rattle.bb_sym.proofs.PairLemmas.{two_made}
use Rattle.bb_sym.proofs.known_cells.known_cell.Goals as goal

pub returns-in-Const-clause-makes : goal.returns-in-Const-clause-makes
returns-in-Const-clause-makes c =
    let s = c.args.d.now.store in
    let b = c.in-Const.bit in
    let sound = c.is_canonical.ensures.sound.store in
    subst (λ (cell : Cell). Makes s s (tables_made s.vars (rails_at s c.args.made.now) cell)) (sym c.in-Const.is)
    (two_made s s (constant s.vars b) (constant s.vars (not b)) (constant s.vars (not b)) c.leaf.result (Adds-leaf c.stores.ensures c.growth.ensures s sound b c.leaf.result.0 c.leaf.ensures) refl s c.leaf-in-Const.result
    (Adds-leaf c.stores.ensures c.growth.ensures s sound (not b) c.leaf-in-Const.result.0 c.leaf-in-Const.ensures))

refused_at : (s : NodeStore) (made : List DualRail) {cell other : Cell} → cell ≡ other → AreTooMany s (tables_made s.vars (rails_at s made) cell) → AreTooMany s (tables_made s.vars (rails_at s made) other)
refused_at s made e many = subst (λ (cell : Cell). AreTooMany s (tables_made s.vars (rails_at s made) cell)) e many

pub returns-in-Input-clause-nodes : goal.returns-in-Input-clause-nodes
returns-in-Input-clause-nodes c = λ full. refused_at c.args.d.now.store c.args.made.now (sym c.in-Input.is) (c.known_input.ensures.nodes full)

pub returns-in-And-clause-nodes : goal.returns-in-And-clause-nodes
returns-in-And-clause-nodes c = λ full. refused_at c.args.d.now.store c.args.made.now (sym c.in-And.is) (c.known_and.ensures.nodes full)

pub returns-in-Or-clause-nodes : goal.returns-in-Or-clause-nodes
returns-in-Or-clause-nodes c = λ full. refused_at c.args.d.now.store c.args.made.now (sym c.in-Or.is) (c.known_or.ensures.nodes full)

pub returns-in-Xor-clause-nodes : goal.returns-in-Xor-clause-nodes
returns-in-Xor-clause-nodes c = λ full. refused_at c.args.d.now.store c.args.made.now (sym c.in-Xor.is) (c.known_xor.ensures.nodes full)

pub returns-in-Mux-clause-nodes : goal.returns-in-Mux-clause-nodes
returns-in-Mux-clause-nodes c = λ full. refused_at c.args.d.now.store c.args.made.now (sym c.in-Mux.is) (c.known_mux.ensures.nodes full)
