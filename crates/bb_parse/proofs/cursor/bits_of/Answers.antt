use Rattle.bb_parse.proofs.cursor.bits_of.Goals as goal

pub returns : goal.returns
returns c = (c.read_bits_are_meant.ensures c.args.token.now c.args.text.now).1 c.in_ok-bits.bits.items c.in_ok-bits.ensures
