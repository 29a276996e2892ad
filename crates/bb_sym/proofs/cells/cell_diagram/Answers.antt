use Rattle.std.proofs.Common.{sym, subst}
use Rattle.bb_net.specs.declared.cell.Cell.{Cell}
use Rattle.bb_uniq.specs.Inside.Meaning.{truth_of, Adds}
use Rattle.bb_sym.specs.Inside.Made.{cell_table, ref_at}
use Rattle.bb_sym.proofs.MadeLemmas.{Adds-leaf}
use Rattle.bb_sym.proofs.cells.cell_diagram.Goals as goal

pub bounds-starts-b : goal.bounds-starts-b
bounds-starts-b c = (c.requires.pin c.in-BoxOut.b c.in-BoxOut.p c.in-BoxOut.is).0

pub returns-in-Const-clause-ok : goal.returns-in-Const-clause-ok
returns-in-Const-clause-ok c =
    let s = c.args.d.now.store in
    subst (λ (cell : Cell). Adds s s (cell_table s.vars c.args.first c.args.starts.now (λ place. truth_of s (ref_at c.args.made.now place).0) cell) c.leaf.result.0) (sym c.in-Const.is)
    (Adds-leaf c.stores.ensures c.growth.ensures s c.is_canonical.ensures.sound.store c.in-Const.bit c.leaf.result.0 c.leaf.ensures)
