use Rattle.bb_net.specs.Kinds.{per_box}
use Rattle.bb_fill.proofs.FillAnswers.{filled}
use Rattle.bb_fill.proofs.filling.fill_apart.Goals as goal

pub returns-clause-answer : goal.returns-clause-answer
returns-clause-answer c =
    filled c.args.flat.now (per_box c.args.kinds.now c.args.tables.now) c.in_ok-text.text.items c.net_count.result c.byte_count-bytes.result c.requires.apart c.net_count.ensures.count c.if-net_count-gt-MOST_NETS.false
    c.byte_count-bytes.ensures.counted c.byte_count-bytes.ensures.full c.if-bytes-gt-MOST_BYTES.false c.in_ok-text.ensures.text
