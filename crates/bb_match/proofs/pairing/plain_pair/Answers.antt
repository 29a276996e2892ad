use Rattle.std.proofs.Common.{None}
use Rattle.bb_match.proofs.pairing.plain_pair.Goals as goal

pub into_pair-requires : goal.into_pair-requires
into_pair-requires c = record { kept = c.pairs_are_kept.ensures None c.args.shared c.args.spec c.args.imp c.in_ok-parts.parts c.in_ok-parts.ensures.kept.0 c.in_ok-parts.ensures.kept.1 c.in_ok-parts.ensures.ok }
