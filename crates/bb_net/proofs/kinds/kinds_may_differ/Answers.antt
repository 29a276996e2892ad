use Rattle.std.proofs.Common.{refl, length, arith}
use Rattle.bb_net.proofs.KindNumbers.{kinds_of_apart, one_apart, places_are_kinds}
use Rattle.bb_net.proofs.SharedTables.{apart_places, places_fit, spread_places}
use Rattle.bb_net.proofs.kinds.kinds_may_differ.Goals as goal

pub returns-clause-keys : goal.returns-clause-keys
returns-clause-keys c = kinds_of_apart

pub returns-clause-one : goal.returns-clause-one
returns-clause-one c = λ kinds boxes fit few. one_apart kinds (omega (arith, few, fit.count))

pub returns-clause-places : goal.returns-clause-places
returns-clause-places c = apart_places

pub returns-clause-own : goal.returns-clause-own
returns-clause-own c = places_are_kinds

pub returns-clause-fit : goal.returns-clause-fit
returns-clause-fit c = places_fit

pub returns-clause-spread : goal.returns-clause-spread
returns-clause-spread c = λ tables. spread_places (length tables) tables refl
