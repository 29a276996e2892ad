-- The laws of the crates below on which those of isomorphic pairs rest.
use Rattle.std.specs.Prelude.{◌≡◌, ℕ, Bool, List, length}
use Rattle.bb_net.specs.Values.{ValueGoesByBoxes}
use Rattle.bb_sym.specs.Plain.{Function, table}
use Rattle.bb_iso.specs.Laws.{FormulasAreOfCells, IsomorphismIsMutual, IsomorphicNetsHaveCells, IsomorphicCellsHaveOneBit, IsomorphicCellsAreKnownTheSame}
use Rattle.bb_checks.specs.Inside.KindLaws.{KindLaws}
use Rattle.bb_subst.specs.Laws.IsomorphismLaws.{IsomorphicFilledNetsHaveSameBits}
use Rattle.bb_subst.specs.Laws.FilledLaws.{FilledExist}
use Rattle.bb_expand.specs.Laws.{ClausesAreCounted}

-- equal functions have one table
abbrev pub FunctionsFixTables : Type 0
FunctionsFixTables = (n : ℕ) (f g : Function) → ((x : List Bool) → length x ≡ n → f x ≡ g x) → table n f ≡ table n g

-- cells with isomorphic formulas have the same bits
pub record BitLaws : Type 0 where
  pub formulas : FormulasAreOfCells
  pub back : IsomorphismIsMutual
  pub cells : IsomorphicNetsHaveCells
  pub bits : IsomorphicCellsHaveOneBit

-- so have netlists that are filled with the same tables
pub record GivenLaws : Type 0 where
  pub exist : FilledExist
  pub same : IsomorphicFilledNetsHaveSameBits
  pub boxes : ValueGoesByBoxes
  pub counted : ClausesAreCounted

pub record PairLaws : Type 0 where
  pub bits : BitLaws
  pub kinds : KindLaws
  pub known : IsomorphicCellsAreKnownTheSame
  pub fix : FunctionsFixTables
  pub given : GivenLaws
