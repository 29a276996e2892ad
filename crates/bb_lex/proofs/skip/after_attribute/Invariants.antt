use Rattle.std.proofs.Common.{◌≡◌, length}
use Rattle.bb_lex.specs.Inside.Skips.{after_parts}
use Rattle.bb_lex.proofs.skip.after_attribute.Given as goal

abbrev pub invariant-parts : goal.invariant-parts
invariant-parts l = after_parts (length l.rest) l.rest ≡ after_parts (length l.text) l.text

abbrev pub decreases-parts : goal.decreases-parts
decreases-parts l = length l.rest
