use Rattle.std.proofs.Common.{◌≡◌, ℕ, List, [], ◌∷◌, map, take}
use Rattle.bb_test_designs.proofs.event_tests.names.Given as goal

abbrev pub invariant-loop-byte : goal.invariant-loop-byte
invariant-loop-byte l = ◌≡◌ {A = List (List ℕ)} l.names.items (map (λ byte. byte ∷ []) (take l.byte-index l.text))
