use Rattle.std.proofs.Common.{Bool, Global, Option, Vec, subst, sym}
use Rattle.std.specs.Prelude.{IfSome}
use Rattle.bb_miter.specs.Inside.Equivalence.{DiffersAt}
use Rattle.bb_invariant.proofs.comparing.compare.Goals as goal

pub returns-in-Ok-Some : goal.returns-in-Ok-Some
returns-in-Ok-Some c =
    let differs : Vec Bool Global → Type 0 = λ x. DiffersAt c.args.spec c.args.imp x.items in
    record { answer = subst differs (sym c.in-Ok-Some.x-is) (subst (λ (found : Option (Vec Bool Global)). IfSome found differs) c.in-Ok-Some.field-0-is c.in-Ok-Some.ensures.found) }
