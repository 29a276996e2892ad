use Rattle.std.proofs.Common.{sym}
use Rattle.bb_args.proofs.NumberLemmas.{number_within-past}
use Rattle.bb_args.proofs.number.number_within.Goals as goal

pub returns-in_default-3 : goal.returns-in_default-3
returns-in_default-3 c = record { number = sym (number_within-past 64 c.args.least c.args.most c.args.text.now c.in_default.ensures.value.0 (sym c.if-not-is_number.ensures.number) c.ranges.most.fits) }
