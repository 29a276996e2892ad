use Rattle.std.proofs.Common.{sym, subst}
use Rattle.bb_cdcl.specs.Inside.Trails.{AreNew}
use Rattle.bb_cdcl.proofs.Extended.{new_push, free_is_new}
use Rattle.bb_cdcl.proofs.state.extend.Goals as goal

pub returns-clause-ready : goal.returns-clause-ready
returns-clause-ready c =
    let ready = c.requires.ready in
    record {
      new = subst AreNew (sym c.in_ok-assign.ensures.entries) (new_push _ _ ready.new (free_is_new _ _ _ ready.values c.requires.free));
      values = c.in_ok-assign.ensures.values;
      room = c.in_ok-assign.ensures.room;
      empty = ready.empty;
      listed = ready.listed;
    }
