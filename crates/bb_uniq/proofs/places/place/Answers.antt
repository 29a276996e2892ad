use Rattle.std.proofs.Common.{sym, subst, ◌≡◌, ◌+◌, ◌-◌, ◌/◌, ◌%◌}
use Rattle.std.specs.Prelude.{bit_and}
use Rattle.std.proofs.lemmas.Nat.{and_mask}
use Rattle.bb_uniq.proofs.places.place.Goals as goal

pub returns-clause-place : goal.returns-clause-place
returns-clause-place c =
    let at = c.args.hash / 4294967296 + c.args.steps in
    subst (λ count. bit_and at (count - 1) ≡ at % count) (sym c.requires.count.1) (and_mask at c.requires.count.0)
