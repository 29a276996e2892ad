-- Tests on literals.
use Rattle.std.proofs.Common.{◌≡◌, ℕ, Bool, true, ◌&&◌, ◌==◌, ap₂}
use Rattle.bb_cnf.specs.declared.clauses.Lit.{Lit}
use Rattle.bb_cnf.specs.Clauses.{same_literal}
use mathlib.Core.Bool.{beq}
use Rattle.bb_lemmas.proofs.Tests.{number_equal, number_self}
use Rattle.bb_lemmas.proofs.Bits.{and_both, beq_equal, beq_self}

pub same_literal-is : (a b : Lit) → same_literal a b ≡ true → a ≡ b
same_literal-is a b h =
    let parts = and_both (a.var == b.var) (beq a.neg b.neg) h in
    let make : ℕ → Bool → Lit = λ x s. record { var = x; neg = s } in
    ap₂ make (number_equal a.var b.var parts.0) (beq_equal a.neg b.neg parts.1)

pub same_literal-itself : (a : Lit) → same_literal a a ≡ true
same_literal-itself a = ap₂ (λ x y. x && y) (number_self a.var) (beq_self a.neg)
