-- nets without boxes
use Rattle.std.proofs.Common.{◌≡◌, ◌≤◌, Bool, List, [], ◌∷◌, length, refl, sym, ap, ◌∙◌, subst, arith}
use Rattle.bb_net.specs.Equivalence.{AllRight}
use Rattle.bb_net.specs.Conditions.{AllRightTogether, AlwaysSomeWrongAt}
use Rattle.bb_net.specs.Netlists.{Netlist}
use Rattle.bb_net.specs.Values.{flat, output_pins}
use Rattle.bb_sym.specs.Finds.{IsLeastVector}
use Rattle.bb_sym.specs.Functions.{inputs_and_pins}
use Rattle.bb_miter.specs.Inside.Equivalence.{AreEquivalent, DiffersAt}

no_pins : (imp : Netlist) → imp.boxes ≡ [] → output_pins imp.boxes ≡ 0
no_pins imp none = ap output_pins none

empty : (z : List Bool) → length z ≡ 0 → z ≡ []
empty [] e = refl
empty (b ∷ z) e = absurd (omega (arith, e))

pub few_variables : (imp : Netlist) → imp.boxes ≡ [] → imp.inputs ≤ 2048 → inputs_and_pins imp ≤ 2048
few_variables imp none few = omega (arith, few, no_pins imp none)

pub differs : (spec imp : Netlist) → imp.boxes ≡ [] → (x : List Bool) → IsLeastVector imp (AlwaysSomeWrongAt spec imp) x → DiffersAt spec imp x
differs spec imp none x found = (found.vector, found.holds [] (sym (no_pins imp none)))

pub equivalent : (spec imp : Netlist) → imp.boxes ≡ [] → AllRightTogether spec imp → AreEquivalent spec imp
equivalent spec imp none right x vector =
    let here = right x vector in
    subst (λ z. AllRight spec imp x (flat imp x z)) (empty here.0 (here.1 ∙ no_pins imp none)) here.2
