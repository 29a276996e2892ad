-- The laws of the crates below on which those of equivalence rest.
use Rattle.bb_net.specs.Rearrangements.{RearrangedKeepsValues}
use Rattle.bb_net.specs.Values.{ValueGoesByBoxes}
use Rattle.bb_implements.specs.Laws.ContentTables.{TablesGiveOutputs, ContentsHaveTables, TablesHaveContents}
use Rattle.bb_implements.specs.Laws.ListLaws.{ImplementingNetsGiveOutputs}
use Rattle.bb_care.specs.Laws.{ConstrainedPairsAreRight}
use Rattle.bb_match.specs.Laws.{ComparedAreTheOthers, FlatNetsHaveCutsApart, FittingNetsHaveTheirOutputs}
use Rattle.bb_match.specs.Laws.{PairsAreKept, WithoutOutputsAreFlat}

pub record LowerLaws : Type 0 where
  pub by_boxes : ValueGoesByBoxes
  pub rearranged : RearrangedKeepsValues
  pub worlds : ImplementingNetsGiveOutputs
  pub outputs : TablesGiveOutputs
  pub tables : ContentsHaveTables
  pub contents : TablesHaveContents
  pub apart : FlatNetsHaveCutsApart
  pub among : FittingNetsHaveTheirOutputs
  -- of pairs in which outputs count where a care output is 1
  pub others : ComparedAreTheOthers
  pub flat : WithoutOutputsAreFlat
  pub kept : PairsAreKept
  pub right : ConstrainedPairsAreRight
