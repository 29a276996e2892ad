use Rattle.std.proofs.Common.{[]}
use Rattle.bb_expand.proofs.laws.laws_below.Goals as goal

pub returns-clause-sharing : goal.returns-clause-sharing
returns-clause-sharing c = record {
  count = c.kinds_are_shown.ensures.count;
  inputs = c.kinds_are_counted.ensures.inputs;
  outputs = c.kinds_are_counted.ensures.outputs;
  firsts = λ kinds boxes. c.kinds_are_shown.ensures.firsts kinds boxes (record { ins = []; outs = [] });
  there = c.kinds_are_shown.ensures.there;
  fit = c.tables_are_spread.ensures.fit;
  at = c.tables_are_spread.ensures.at;
}
