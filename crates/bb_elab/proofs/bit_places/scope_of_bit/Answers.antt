use Rattle.std.proofs.lemmas.Option.{slice_get_within}
use Rattle.bb_elab.proofs.BitPlaces.{top_first, bit_there}
use Rattle.bb_elab.proofs.bit_places.scope_of_bit.Goals as goal

pub last_below-requires : goal.last_below-requires
last_below-requires c = record { some = top_first c.requires.design.0 c.args.placed.now c.requires.design.1 c.args.number }

pub returns-clause-there : goal.returns-clause-there
returns-clause-there c = slice_get_within c.args.placed.now c.last_below.result c.last_below.ensures.last.here.0 c.last_below.ensures.last.here.1

pub returns-clause-bit : goal.returns-clause-bit
returns-clause-bit c = λ d are s at p there b is. bit_there d c.args.placed.now are c.args.number c.last_below.result c.last_below.ensures.last s at p there b is
