-- What the solver says of the clauses at a free vector.
use Rattle.std.proofs.Common.{◌≡◌, Bool, true, false, [], get_or, refl, inl, inr}
use Rattle.std.specs.Prelude.{◌⊎◌}
use Rattle.bb_net.specs.Netlists.{Netlist, IsNetlist}
use Rattle.bb_net.specs.Values.{bit_of, flat}
use Rattle.bb_cdcl.specs.Inside.Outcomes.{HasModel}
use Rattle.bb_miter.specs.Inside.Equivalence.{AreComparable, AreEquivalent}
use Rattle.bb_expand.specs.Inside.FreeClauses.{free_clauses, ModelsAreDifferences}

same_or_not : (a b : Bool) → (a ≡ b) ⊎ (a ≡ b → ⊥)
same_or_not true true = inl refl
same_or_not true false = inr (λ e. cc e)
same_or_not false true = inr (λ e. cc e)
same_or_not false false = inl refl

-- where there is no model the two are equivalent
pub no_model : ModelsAreDifferences → (spec imp : Netlist) → IsNetlist spec → IsNetlist imp → AreComparable spec imp → (HasModel (free_clauses spec imp) → ⊥) → AreEquivalent spec imp
no_model law spec imp spec_kept imp_kept both none x fits j h =
    elim (same_or_not (bit_of (flat imp x []) (get_or imp.outs j 0)) (bit_of (flat spec x []) (get_or spec.outs j 0))) [
      | inl e ↦ e
      | inr ne ↦ absurd (none ((law spec imp spec_kept imp_kept both).1 (x, (fits, (j, h, ne)))))
    ]
