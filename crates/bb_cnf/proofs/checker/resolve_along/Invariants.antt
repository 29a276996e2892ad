use Rattle.std.proofs.Common.{◌≡◌, ◌++◌, drop}
use Rattle.bb_cnf.specs.Chains.{chain}
use Rattle.bb_cnf.specs.Inside.PartialResolvent.{held, AreListed, sets_of}
use Rattle.bb_cnf.proofs.checker.resolve_along.Given as goal

abbrev pub invariant-loop-number : goal.invariant-loop-number
invariant-loop-number l =
    (chain (sets_of l.given ++ sets_of l.made) (held l.initial.so_far) l.rest
    ≡ chain (sets_of l.given ++ sets_of l.made) (held l.so_far) (drop l.number-index l.rest)) × AreListed l.so_far
