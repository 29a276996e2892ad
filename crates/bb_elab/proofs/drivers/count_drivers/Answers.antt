use Rattle.std.proofs.Common.{[], refl}
use Rattle.std.specs.List.{flat_map}
use Rattle.bb_elab.specs.Inside.DrivenNumbers.{top_numbers, scope_numbers}
use Rattle.bb_elab.proofs.Tallies.{tally_more}
use Rattle.bb_elab.proofs.drivers.count_drivers.Goals as goal

pub returns : goal.returns
returns c = record {
  tally = λ none. tally_more c.args.counts.now c.count_inputs.new.counts c.count_scopes.new.counts (top_numbers c.args.placed.now c.args.templates.now) (flat_map (scope_numbers c.args.placed.now c.args.templates.now) c.args.placed.now) _
      c.count_inputs.ensures.tally c.count_scopes.ensures.tally refl [] none;
}
