use Rattle.std.proofs.Common.{◌≡◌, [], take}
use Rattle.std.specs.List.{fold}
use Rattle.bb_blast.specs.Inside.Logic.{Kept, with_step}
use Rattle.bb_blast.proofs.logic.add_steps.Given as goal

abbrev pub invariant-loop-step : goal.invariant-loop-step
invariant-loop-step l = ◌≡◌ {A = Kept} (record { operators = l.operators.items; results = l.results.items })
    (fold with_step (record { operators = []; results = [] }) (take l.step-index l.steps))
