use Rattle.bb_fill.proofs.Indexes.{taken}
use Rattle.bb_fill.proofs.index.is_taken.Goals as goal

pub returns : goal.returns
returns c = record { taken = taken c.args.flat.now c.args.texts.now.entries c.args.text.now c.contains_key.result c.requires.index c.contains_key.ensures }
