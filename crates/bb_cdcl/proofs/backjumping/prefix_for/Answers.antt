use Rattle.std.proofs.Common.{◌≡◌, true, sym, ◌∙◌, subst}
use Rattle.bb_lemmas.proofs.Bits.{or_right}
use Rattle.bb_cnf.specs.Clauses.{same_literal}
use Rattle.bb_cdcl.proofs.Backjumps.{falsified_at}
use Rattle.bb_cdcl.proofs.backjumping.prefix_for.Goals as goal

pub returns-then-eq-2-clause-enough : goal.returns-then-eq-2-clause-enough
returns-then-eq-2-clause-enough c has =
    let same : same_literal c.negation.result c.args.lit ≡ true = sym c.eq-then-at-place.ensures ∙ c.if-eq-2.true in
    or_right (same_literal c.args.kept c.args.lit) _
    (falsified_at c.args.entries.now c.place-at.result c.entry_at.result c.args.lit c.entry_at.ensures (subst (λ k. same_literal k c.args.lit ≡ true) c.negation.ensures same))
