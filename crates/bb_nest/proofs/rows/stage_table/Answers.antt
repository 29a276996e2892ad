use Rattle.std.proofs.Common.{◌^◌, sym, ap, subst, arith}
use Rattle.bb_bits.specs.Tables.{TableBits}
use Rattle.bb_uniq.specs.Inside.Meaning.{truth_of}
use Rattle.bb_nest.specs.Inside.StageRows.{HasStageRows}
use Rattle.bb_nest.proofs.rows.stage_table.Goals as goal
use Rattle.bb_nest.proofs.rows.stage_table.Goals.{then-outputs-gt0, else-outputs-gt0}

pub returns-clause-rows : goal.returns-clause-rows
returns-clause-rows c = λ some.
    let n = c.args.d.now.store.vars in
    let t = truth_of c.args.d.now.store c.args.f.0 in
    let readers = c.args.readers.now in
    elim c.if-outputs-gt0.branch [
      | then-outputs-gt0 w ↦
          subst (λ (table : TableBits). HasStageRows n t readers table (2 ^ c.args.inputs)) (sym w.table-is)
          (subst (λ j. HasStageRows n t readers w.fill_rows.new.table (2 ^ j)) (ap (λ (table : TableBits). table.inputs) c.in_ok-table.ensures.ok) w.fill_rows.ensures.rows)
      | else-outputs-gt0 w ↦ absurd (omega (arith, some, w.if-outputs-gt0.false))
    ]
