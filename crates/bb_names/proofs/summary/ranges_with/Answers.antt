use Rattle.std.proofs.Common.{sym, ◌∙◌, append-nil}
use Rattle.bb_names.proofs.summary.ranges_with.Goals as goal

pub returns-then-is_supply : goal.returns-then-is_supply
returns-then-is_supply c = λ n all reports. rw (sym (c.is_supply.ensures n) ∙ c.if-is_supply.true, append-nil all) reports

pub returns-else-is_supply : goal.returns-else-is_supply
returns-else-is_supply c = λ n all reports. rw (sym (c.is_supply.ensures n) ∙ c.if-is_supply.false) (c.with.ensures all reports)
