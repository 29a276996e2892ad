use Rattle.std.proofs.Common.{All, Contains, take}
use Rattle.bb_net.specs.CutPoints.{state_texts}
use Rattle.bb_fill.proofs.clashes.first_input.Given as goal

abbrev pub invariant-loop-text : goal.invariant-loop-text
invariant-loop-text l = All (λ text. (Contains (state_texts l.flat) text → ⊥) × (Contains l.flat.outs text → ⊥)) (take l.text-index l.text-items)
