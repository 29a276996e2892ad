use Rattle.std.proofs.Common.{length}
use Rattle.std.specs.Prelude.{◌*◌, ◌^◌}
use Rattle.bb_net.specs.Netlists.{Pins}
use Rattle.bb_net.proofs.SharedTables.{box_has_table, spread_at, spread_fits, shown_fits, spread_back, spread_kept}
use Rattle.bb_net.proofs.ShownLists.{shown_sum}
use Rattle.bb_net.proofs.kinds.tables_are_spread.Goals as goal

pub returns-clause-fit : goal.returns-clause-fit
returns-clause-fit c = spread_fits

pub returns-clause-shown : goal.returns-clause-shown
returns-clause-shown c = shown_fits

pub returns-clause-back : goal.returns-clause-back
returns-clause-back c = spread_back

pub returns-clause-kept : goal.returns-clause-kept
returns-clause-kept c = spread_kept

pub returns-clause-at : goal.returns-clause-at
returns-clause-at c = spread_at

pub returns-clause-held : goal.returns-clause-held
returns-clause-held c = λ kinds tables boxes b p fits pin. let r = box_has_table kinds tables boxes b p pin fits in (r.kind, r.there)

pub returns-clause-bits : goal.returns-clause-bits
returns-clause-bits c = shown_sum (λ (pins : Pins). length pins.outs * 2 ^ length pins.ins)
