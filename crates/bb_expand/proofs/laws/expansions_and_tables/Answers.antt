use Rattle.std.proofs.Common.{Bool, List}
use Rattle.bb_net.specs.Kinds.{representatives, per_box}
use Rattle.bb_expand.specs.Expansions.{all_vectors}
use Rattle.bb_expand.specs.Inside.ReadTables.{tables_in}
use Rattle.bb_expand.proofs.AllVectors.{agree_from_all, all_from_agree, vectors_rise, vectors_are_all}
use Rattle.bb_expand.proofs.CellLaw.{cell_law}
use Rattle.bb_expand.proofs.ClauseNumbers.{clauses_are_counted}
use Rattle.bb_expand.proofs.FromModel.{model_fits, model_right}
use Rattle.bb_expand.proofs.ToModel.{bits, bits_model}
use Rattle.bb_expand.proofs.Variables.{variables_are_within}
use Rattle.bb_expand.proofs.laws.expansions_and_tables.Goals as goal

pub returns-clause-gate : goal.returns-clause-gate
returns-clause-gate c = cell_law c.laws_below.ensures.numbering

pub returns-clause-models : goal.returns-clause-models
returns-clause-models c spec imp kinds kept fits vectors =
    let below = c.laws_below.ensures in (
      λ h. (tables_in (representatives kinds imp.boxes) h.0, model_fits below.numbering below.unique below.sharing spec imp kinds kept fits vectors h.0 h.1, model_right below.numbering below.unique below.sharing spec imp kinds kept fits vectors h.0 h.1),
      λ h. (bits below.numbering below.exists below.sharing spec imp kinds kept fits vectors h.0 h.1 h.2, bits_model below.numbering below.exists below.sharing spec imp kinds kept fits vectors h.0 h.1 h.2),
    )

pub returns-clause-all : goal.returns-clause-all
returns-clause-all c spec imp kinds kept fits =
    let below = c.laws_below.ensures in
    let all : List (List Bool) = all_vectors imp.inputs in (
      λ h. (
        tables_in (representatives kinds imp.boxes) h.0,
        model_fits below.numbering below.unique below.sharing spec imp kinds kept fits all h.0 h.1,
        agree_from_all below.numbering spec imp (per_box kinds (tables_in (representatives kinds imp.boxes) h.0)) (model_right below.numbering below.unique below.sharing spec imp kinds kept fits all h.0 h.1),
      ),
      λ h. let right = all_from_agree below.numbering spec imp (per_box kinds h.0) h.2 in (bits below.numbering below.exists below.sharing spec imp kinds kept fits all h.0 h.1 right, bits_model below.numbering below.exists below.sharing spec imp kinds kept fits all h.0 h.1 right),
    )

pub returns-clause-counted : goal.returns-clause-counted
returns-clause-counted c = clauses_are_counted

pub returns-clause-within : goal.returns-clause-within
returns-clause-within c = variables_are_within c.laws_below.ensures.sharing

pub returns-clause-rise : goal.returns-clause-rise
returns-clause-rise c = vectors_rise c.laws_below.ensures.numbering

pub returns-clause-each : goal.returns-clause-each
returns-clause-each c = vectors_are_all c.laws_below.ensures.numbering
