use Rattle.std.proofs.Common.{◌∙◌}
use Rattle.bb_fill.proofs.Indexes.{register_named}
use Rattle.bb_fill.proofs.index.is_register.Goals as goal

pub returns : goal.returns
returns c = record { register = c.is_some.ensures ∙ register_named c.args.flat.now c.args.text.now c.register_of.result c.register_of.ensures.some c.register_of.ensures.none }
