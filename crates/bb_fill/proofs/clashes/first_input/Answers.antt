use Rattle.std.proofs.Common.{◌∙◌, All, Contains, subst}
use Rattle.std.proofs.lemmas.List.{take_all}
use Rattle.bb_bits.specs.Closures.{IsFirst}
use Rattle.bb_net.specs.CutPoints.{state_texts}
use Rattle.bb_fill.specs.Clashes.{IsInputClash}
use Rattle.bb_fill.proofs.ClashLemmas.{input_or_not}
use Rattle.bb_fill.proofs.Loops.{all_more, first_at}
use Rattle.bb_fill.proofs.clashes.first_input.Goals as goal

pub returns-then-is_taken-clause-some : goal.returns-then-is_taken-clause-some
returns-then-is_taken-clause-some c =
    let f = c.args.flat.now in
    subst (λ names. IsFirst (IsInputClash f) names c.text-item.result) c.ins-text-items.ensures.ins
    (first_at (IsInputClash f) (λ text. (Contains (state_texts f) text → ⊥) × (Contains f.outs text → ⊥)) (input_or_not f) c.ins-text-items.result.now c.loop-text.text-index c.text-item.result c.loop-text-test.true c.text-item.is c.loop-text.invariant c.if-is_taken.ensures.taken)

pub loop-text-preserved : goal.loop-text-preserved
loop-text-preserved c =
    let f = c.args.flat.now in
    all_more (λ text. (Contains (state_texts f) text → ⊥) × (Contains f.outs text → ⊥)) c.ins-text-items.result.now c.loop-text.text-index c.text-item.result c.loop-text-test.true c.text-item.is c.loop-text.invariant c.if-is_taken.ensures.taken

pub returns-clause-none : goal.returns-clause-none
returns-clause-none c =
    let f = c.args.flat.now in
    subst (All (λ text. (Contains (state_texts f) text → ⊥) × (Contains f.outs text → ⊥))) (take_all c.loop-text.text-index c.ins-text-items.result.now c.loop-text-test.false ∙ c.ins-text-items.ensures.ins) c.loop-text.invariant
