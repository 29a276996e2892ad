use Rattle.bb_dd.specs.contracts.key.KeyPartialEq.TheImpl.{ghosts}
use Rattle.bb_dd.proofs.Entries.{no_fewer_after}
use Rattle.bb_dd.proofs.cache.remember.Goals as goal

pub returns-clause-no_fewer : goal.returns-clause-no_fewer
returns-clause-no_fewer c =
    no_fewer_after ghosts.eq c.args.cache.now c.put.new.self c.args.key c.args.r c.put.result c.len.ensures.valid.1 c.len.ensures.valid.2 c.put.ensures.entries c.put.ensures.err
