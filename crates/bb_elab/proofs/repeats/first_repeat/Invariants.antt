use Rattle.std.proofs.Common.{◌≡◌, ◌≢◌, ℕ, List, take}
use Rattle.std.specs.List.{AllPairs, list_any}
use Rattle.bb_bits.specs.Names.{same_name}
use Rattle.bb_elab.proofs.repeats.first_repeat.Given as goal

abbrev pub invariant-loop-name : goal.invariant-loop-name
invariant-loop-name l = record { apart : AllPairs ◌≢◌ (take l.name-index l.names); seen : (n : List ℕ) → list_any (same_name n) l.seen.keys ≡ list_any (same_name n) (take l.name-index l.names) }
