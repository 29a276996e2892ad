-- A cause that holds where none before it does is the first refusal of the design.
use Rattle.std.proofs.Common.{◌≡◌, ◌⊎◌, suc, ◌<◌, ◌≤◌, inl, inr, sym, ap, ◌∙◌, subst, arith}
use Rattle.bb_design.specs.declared.fault.ElabFault.{ElabFault}
use Rattle.bb_design.specs.Hierarchy.{Design}
use Rattle.bb_design.specs.Refusals.{DesignCause, Recursion, Depth, Size, TwoDrivers, NoDriver, Cycle, BoxTexts, RegisterTexts, PortTexts, cause_rank, IsAbsentInDesign, IsRefusalOf, IsSoundDesign}
use Rattle.bb_lemmas.proofs.Orders.{less_or_not}
use Rattle.bb_design.proofs.RefusalLaws.{cause_at, at_rank}
use Rattle.bb_design.specs.Laws.CauseLaws.{AreClear, ReportsCause}

pub none_clear : (d : Design) → AreClear d 0
none_clear d other lt = absurd (omega (arith, lt))

-- nor does the next one
pub and_clear : (d : Design) (cause : DesignCause) → AreClear d (cause_rank cause) → IsAbsentInDesign d cause → AreClear d (suc (cause_rank cause))
and_clear d cause clear absent other lt = by (less_or_not (cause_rank other) (cause_rank cause))
  where
    by : (cause_rank other < cause_rank cause) ⊎ (cause_rank cause ≤ cause_rank other) → IsAbsentInDesign d other
    by (inl h) = clear other h
    by (inr h) = (let same : cause_rank cause ≡ cause_rank other = omega (arith, h, lt) in subst (IsAbsentInDesign d) (sym (at_rank cause) ∙ ap cause_at same ∙ at_rank other) absent)

pub refused : (d : Design) (cause : DesignCause) (fault : ElabFault) → ReportsCause d cause fault → AreClear d (cause_rank cause) → IsRefusalOf d fault
refused d cause fault reports clear = record { cause = cause; name = reports.name; is = reports.is; reported = reports.reported; earlier = clear }

pub sound_design : (d : Design) → AreClear d 9 → IsSoundDesign d
sound_design d clear cause = clear cause (few cause)
  where
    few : (cause : DesignCause) → cause_rank cause < 9
    few Recursion = omega arith
    few Depth = omega arith
    few Size = omega arith
    few TwoDrivers = omega arith
    few NoDriver = omega arith
    few Cycle = omega arith
    few BoxTexts = omega arith
    few RegisterTexts = omega arith
    few PortTexts = omega arith
