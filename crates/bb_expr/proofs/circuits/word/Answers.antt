use Rattle.std.proofs.Common.{◌≡◌, ◌∙◌, ◌++◌, ◌+◌, ℕ, List, Global, length, ap}
use Rattle.std.specs.Prelude.{Vec}
use Rattle.std.proofs.lemmas.Result.{IfOk-weaker}
use Rattle.bb_word.specs.Words.{word_cells}
use Rattle.bb_expr.proofs.InstantiateWords.{adds-word, instantiated-length}
use Rattle.bb_expr.proofs.circuits.word.Goals as goal

pub returns-clause-made : goal.returns-clause-made
returns-clause-made c = λ nets m n old mid x y.
    let both : c.deref.result.now ≡ c.args.left.now ++ c.args.right.now =
    c.deref.ensures.value ∙ c.in_ok-extend_from_slice-2.ensures.items
    ∙ ap (λ (l : List ℕ). l ++ c.args.right.now) (c.in_ok-extend_from_slice.ensures.items ∙ ap (λ (l : List ℕ). l ++ c.args.left.now) c.in_ok-inputs.ensures.items) in
    IfOk-weaker _ _ _ (λ (places : Vec ℕ Global) p.
    adds-word c.args.op nets m n old mid c.args.steps.now.items c.instantiate.new.steps.items c.args.left.now c.args.right.now c.deref.result.now places.items c.in_ok-net.net both c.requires.widths c.in_ok-net.ensures.circuit
    c.in_ok-net.ensures.width c.in_ok-net.ensures.count p x y) c.instantiate.ensures

pub returns-clause-grown : goal.returns-clause-grown
returns-clause-grown c =
    IfOk-weaker _ _ _ (λ (places : Vec ℕ Global) p.
    instantiated-length c.in_ok-net.net c.deref.result.now places.items c.args.steps.now.items c.instantiate.new.steps.items (length c.args.left.now + length c.args.right.now) (word_cells c.args.op (length c.args.left.now) (length c.args.right.now)) c.in_ok-net.ensures.circuit.inputs c.in_ok-net.ensures.count p) c.instantiate.ensures
