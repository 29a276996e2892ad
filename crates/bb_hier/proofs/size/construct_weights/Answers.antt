use Rattle.std.proofs.Common.{map, arith}
use Rattle.std.proofs.lemmas.List.{length-map}
use Rattle.bb_names.specs.Inside.Checked.{syntax}
use Rattle.bb_lemmas.proofs.Places.{got}
use Rattle.bb_hier.proofs.size.construct_weights.Goals as goal

pub returns-clause-each : goal.returns-clause-each
returns-clause-each c = λ k m here fits.
    let g = got (map syntax c.args.checked.now) k m m here in
    c.loop-place.invariant.1 k m (omega (arith, g.0, length-map c.args.checked.now syntax, c.loop-place-test.false, c.requires.long)) here fits
