use Rattle.std.proofs.Common.{◌<◌, ◌^◌, ◌-◌, ℕ, All, sym, subst}
use Rattle.bb_lemmas.proofs.Turns.{all_mapped}
use Rattle.bb_cdcl.specs.Laws.Numbers.{moved_number, moved_pair}
use Rattle.bb_cdcl.proofs.Dates.{numbers_now}
use Rattle.bb_cdcl.proofs.numbers.step_of.Goals as goal

pub returns-then-more-eq0 : goal.returns-then-more-eq0
returns-then-more-eq0 c = sym (numbers_now c.args.given c.args.dated c.if-more-eq0.true)

pub moved_pairs-requires : goal.moved_pairs-requires
moved_pairs-requires c =
    subst (All (λ (pair : ℕ × ℕ). moved_number c.args.dated.given (c.args.given - c.args.dated.given) pair.0 < 2 ^ 64)) (sym c.deref.ensures.value)
    (all_mapped (λ (pair : ℕ × ℕ). pair.0 < 2 ^ 64) (moved_pair c.args.dated.given (c.args.given - c.args.dated.given)) c.args.dated.step.rest.items c.requires.short.1)
