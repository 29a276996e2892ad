use Rattle.std.proofs.Common.{take}
use Rattle.bb_expand.proofs.FreeModels.{first_bits_differ}
use Rattle.bb_expand.proofs.FreeVariables.{free_variables_are_within}
use Rattle.bb_expand.proofs.FreeVectors.{bits, bits_are_model}
use Rattle.bb_expand.proofs.free_laws.models_are_differences.Goals as goal

pub returns-clause-first : goal.returns-clause-first
returns-clause-first c spec imp spec_kept imp_kept both model is =
    first_bits_differ c.expansions_and_tables.ensures.gate c.laws_below.ensures.exists c.laws_below.ensures.unique spec imp spec_kept imp_kept both model is

pub returns-clause-models : goal.returns-clause-models
returns-clause-models c spec imp spec_kept imp_kept both =
    let gate = c.expansions_and_tables.ensures.gate in
    let below = c.laws_below.ensures in (
      λ h. (take imp.inputs h.0, first_bits_differ gate below.exists below.unique spec imp spec_kept imp_kept both h.0 h.1),
      λ h. (bits gate below.exists below.unique spec imp spec_kept imp_kept both h.0 h.1, bits_are_model gate below.exists below.unique spec imp spec_kept imp_kept both h.0 h.1),
    )

pub returns-clause-within : goal.returns-clause-within
returns-clause-within c = free_variables_are_within
