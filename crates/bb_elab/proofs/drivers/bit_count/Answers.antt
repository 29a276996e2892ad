use Rattle.bb_elab.proofs.LastBits.{last_templated, last_bits}
use Rattle.bb_elab.proofs.drivers.bit_count.Goals as goal

pub bits_through-requires : goal.bits_through-requires
bits_through-requires c = let d = c.requires.design in record { templated = last_templated c.laws_of_designs.ensures d.0 c.args.placed.now c.args.templates.now d.1 d.2 c.index-placed-placed.result c.index-placed-placed.is }

pub returns : goal.returns
returns c = record { bits = λ d placed templated. last_bits c.laws_of_designs.ensures d c.args.placed.now c.args.templates.now placed templated c.index-placed-placed.result c.index-placed-placed.is c.bits_through.result c.bits_through.ensures.bits }
