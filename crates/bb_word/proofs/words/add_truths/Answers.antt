use Rattle.std.proofs.Common.{◌<◌, ℕ, [], ◌∷◌, length, refl, arith}
use Rattle.std.proofs.lemmas.Result.{IfOk-weaker}
use Rattle.std.proofs.lemmas.List.Elements.{All-nil, All-cons}
use Rattle.bb_word.proofs.WordSteps.{IsTruth}
use Rattle.bb_word.proofs.words.add_truths.Goals as goal

pub reduce-requires-clause-there : goal.reduce-requires-clause-there
reduce-requires-clause-there c =
    let n = length c.add_folded-2.new.net.cells in
    let a : c.in_ok-first.first < n = omega (arith, c.in_ok-first.ensures.made.there 0 0 (omega arith), c.in_ok-second.ensures.grown) in
    let b : c.in_ok-second.second < n = c.in_ok-second.ensures.made.there 0 0 (omega arith) in
    All-cons (λ (p : ℕ). p < n) c.in_ok-first.first (c.in_ok-second.second ∷ []) a (All-cons (λ (p : ℕ). p < n) c.in_ok-second.second [] b (All-nil (λ (p : ℕ). p < n)))

pub returns-clause-made : goal.returns-clause-made
returns-clause-made c =
    IfOk-weaker _ _ _ (λ (place : ℕ) e. IsTruth c.args.joint c.args.net.now c.add_folded.new.net c.add_folded-2.new.net c.reduce.new.net c.args.left.now c.args.right.now (c.in_ok-first.first ∷ c.in_ok-second.second ∷ []) c.in_ok-first.first c.in_ok-second.second place refl c.in_ok-first.ensures.made c.in_ok-second.ensures.made e) c.reduce.ensures.made
