use Rattle.std.proofs.Common.{◌∙◌, arith}
use Rattle.std.proofs.lemmas.Grind.{common_steps}
use Rattle.bb_uniq.specs.Inside.Meaning.{truth_of}
use Rattle.bb_nest.proofs.FilledRows.{rows_more}
use Rattle.bb_nest.proofs.rows.fill_rows.Goals as goal

pub loop-row-preserved : goal.loop-row-preserved
loop-row-preserved c = (
  c.fill_row.ensures.inputs ∙ c.loop-row.invariant.0,
  c.fill_row.ensures.outputs ∙ c.loop-row.invariant.1,
  c.fill_row.ensures.len ∙ c.loop-row.invariant.2,
  rows_more c.args.d.now.store.vars (truth_of c.args.d.now.store c.args.f.0) c.args.readers.now c.loop-row.table c.fill_row.new.table c.loop-row.row c.fill_row.ensures.inputs c.fill_row.ensures.outputs c.loop-row.invariant.3 c.fill_row.ensures.row
      c.fill_row.ensures.others,
)

pub returns-clause-rows : goal.returns-clause-rows
returns-clause-rows c = λ ins long below. c.loop-row.invariant.3 ins long (grind (arith, common_steps))
