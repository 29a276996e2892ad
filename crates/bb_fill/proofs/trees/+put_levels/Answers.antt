use Rattle.std.proofs.Common.{replicate, ◌∙◌, ◌/◌, length, arith, refl}
use Rattle.bb_fill.specs.Words.{word_at}
use Rattle.bb_fill.proofs.Levels.{left_of_tree, tree_text, two_halves}
use Rattle.bb_fill.proofs.TextBuffers.{same, both}
use Rattle.bb_fill.proofs.trees.+put_levels.Goals as goal

pub returns-clause-adds : goal.returns-clause-adds
returns-clause-adds t c =
    let even = two_halves c.args.count (length c.args.pins.now) (c.args.count / 2) c.requires.count (omega (arith, c.in-Some.ensures.cases.1)) refl in
    same (tree_text c.args.table.now c.args.p c.args.values (word_at c.args.flat.now) c.args.pins.now c.in-Some.rest.now c.in-Some.last.now c.args.first c.args.count (c.args.count / 2) c.in-Some.ensures.cases.0 even (replicate c.args.stem 95))
    (both c.put_level.ensures.adds c.put_levels.ensures.adds)

pub returns-clause-left : goal.returns-clause-left
returns-clause-left t c =
    let even = two_halves c.args.count (length c.args.pins.now) (c.args.count / 2) c.requires.count (omega (arith, c.in-Some.ensures.cases.1)) refl in
    left_of_tree c.args.table.now c.args.p c.args.values (word_at c.args.flat.now) c.args.pins.now c.in-Some.rest.now c.in-Some.last.now c.args.first c.args.count (c.args.count / 2) c.in-Some.ensures.cases.0 even
    ∙ c.put_levels.ensures.left
