use Rattle.std.proofs.Common.{map, take}
use Rattle.bb_net.specs.Pairs.{BoxTexts}
use Rattle.bb_match.proofs.KindLemmas.{AreKindsSo}
use Rattle.bb_match.proofs.kinds.module_kinds.Given as goal

abbrev pub invariant-loop-named : goal.invariant-loop-named
invariant-loop-named l = AreKindsSo (map (λ (b : BoxTexts). b.module) (take l.named-index l.boxes)) l.kinds.items l.modules.keys
