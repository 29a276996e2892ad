use Rattle.std.proofs.Common.{All, take}
use Rattle.std.specs.Prelude.{IsSome}
use Rattle.std.specs.Map.{lookup}
use Rattle.bb_bits.specs.Names.{same_name}
use Rattle.bb_match.proofs.places.first_missing.Given as goal

abbrev pub invariant-loop-text : goal.invariant-loop-text
invariant-loop-text l = All (λ text. IsSome (lookup (same_name text) l.places.entries)) (take l.text-index l.texts)
