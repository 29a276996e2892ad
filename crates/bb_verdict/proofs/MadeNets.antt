-- What is kept of two texts may be filled, and so with the tables that a check gives.
use Rattle.std.proofs.Common.{◌≡◌, Bool, true, false, Option, None, Some, IfSome, if◌then◌else◌, sym, subst}
use Rattle.bb_net.specs.Flats.{FlatNet}
use Rattle.bb_net.specs.Pairs.{NetPair}
use Rattle.bb_verdict.specs.Inside.Made.{CanBeFilled, MadeCanBeFilled}
use Rattle.bb_verdict.proofs.KeptNets.{TablesAreSpread, kept_nets}

kept_or_not : (p : NetPair) (fill : Bool) (imp : Option FlatNet) (f : FlatNet) → imp ≡ (if fill then Some f else None) → CanBeFilled p f → IfSome imp (CanBeFilled p)
kept_or_not p true imp f same can = subst (λ z. IfSome z (CanBeFilled p)) (sym same) can
kept_or_not p false imp f same can = subst (λ z. IfSome z (CanBeFilled p)) (sym same) tt

pub made_can_be_filled : TablesAreSpread → MadeCanBeFilled
made_can_be_filled spread requested spec imp made is = kept_or_not made.pair requested.fill made.imp is.pair.imp_net is.kept (kept_nets spread is.s is.i made.pair is.pair)
