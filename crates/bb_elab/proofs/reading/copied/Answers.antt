use Rattle.std.proofs.Common.{false, inl, inr, refl, sym, ◌∙◌}
use Rattle.bb_net.specs.declared.loose.LooseCell.TheVariants.{Const}
use Rattle.bb_elab.proofs.CopyMarks.{copies_one}
use Rattle.bb_elab.proofs.reading.copied.Goals as goal

pub returns-in-Copy-clause-copied : goal.returns-in-Copy-clause-copied
returns-in-Copy-clause-copied c = inr (((c.laws_of_cells.ensures.copies c.args.cells.now c.args.place c.in-Copy.of (Const false)).1 (c.requires.there, c.in-Copy.is)))

pub returns-in-Copy-clause-only : goal.returns-in-Copy-clause-only
returns-in-Copy-clause-only c = λ k has. let f = (c.laws_of_cells.ensures.copies c.args.cells.now c.args.place k (Const false)).0 has in copies_one k c.in-Copy.of (sym f.1 ∙ c.in-Copy.is)

pub returns-in_default : goal.returns-in_default
returns-in_default c = record {
  copied = inl refl;
  only = λ k has. let f = (c.laws_of_cells.ensures.copies c.args.cells.now c.args.place k (Const false)).0 has in absurd (c.in_default.not-Copy k f.1);
}
