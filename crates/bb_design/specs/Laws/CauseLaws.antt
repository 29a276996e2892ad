-- Laws of the causes for which a design is refused: they are taken in their order.
use Rattle.std.specs.Prelude.{◌≡◌, ◌⊎◌, ◌<◌, ℕ, suc, List}
use Rattle.bb_design.specs.declared.fault.ElabFault.{ElabFault}
use Rattle.bb_design.specs.Hierarchy.{Design}
use Rattle.bb_design.specs.Laws.{BitsAreThere}
use Rattle.bb_design.specs.Refusals.{DesignCause, Cycle, Recursion, elab_fault_of, IsAbsentInDesign, IsRefusalOf, IsSoundDesign, IsReportedOfDesign, cause_rank}

-- no cause before a rank holds
abbrev pub AreClear : Design → ℕ → Type 0
AreClear d n = (other : DesignCause) → cause_rank other < n → IsAbsentInDesign d other

-- a cause holds, and the fault reports it
pub record ReportsCause (d : Design) (cause : DesignCause) (fault : ElabFault) : Type 0 where
  pub name : List ℕ
  pub is : fault ≡ elab_fault_of cause name
  pub reported : IsReportedOfDesign d cause name

-- of a recursion, and of a loop where the bits are there, it can be decided whether there is one
abbrev pub RecursionsAreReported : Type 0
RecursionsAreReported = (d : Design) → IsAbsentInDesign d Recursion ⊎ ((n : List ℕ) × IsReportedOfDesign d Recursion n)

abbrev pub CyclesAreReported : Type 0
CyclesAreReported = (d : Design) → BitsAreThere d → IsAbsentInDesign d Cycle ⊎ ((n : List ℕ) × IsReportedOfDesign d Cycle n)

-- causes are taken in their order: none comes before the first, one that holds where none before it does is the
-- refusal, and a design without a cause is sound
pub record AreInOrder (d : Design) : Type 0 where
  pub first : AreClear d 0
  pub next : (cause : DesignCause) → AreClear d (cause_rank cause) → IsAbsentInDesign d cause → AreClear d (suc (cause_rank cause))
  pub refused : (cause : DesignCause) (fault : ElabFault) → ReportsCause d cause fault → AreClear d (cause_rank cause) → IsRefusalOf d fault
  pub sound : AreClear d 9 → IsSoundDesign d

abbrev pub CausesAreInOrder : Type 0
CausesAreInOrder = (d : Design) → AreInOrder d
