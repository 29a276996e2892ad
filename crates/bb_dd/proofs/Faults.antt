-- the store's answers and the diagrams'
use Rattle.std.proofs.Common.{refl, Err}
use Rattle.std.specs.Prelude.{IsErrOf}
use Rattle.bb_uniq.specs.declared.store.StoreFault.{StoreFault}
use Rattle.bb_uniq.specs.declared.store.StoreFault.TheVariants.{Full}

-- the store refuses only where it is full
pub refused_full : {T : Type 0} (e : StoreFault) → IsErrOf {T = T} (Err e) Full
refused_full Full = refl
