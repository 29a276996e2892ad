use Rattle.std.proofs.Common.{◌≡◌, take}
use Rattle.bb_names.specs.Inside.NetLists.{all_placed}
use Rattle.bb_names.proofs.nets.add_names.Given as goal

abbrev pub invariant-loop-name : goal.invariant-loop-name
invariant-loop-name l = l.index.entries ≡ all_placed l.initial.index.entries (take l.name-index l.more)
