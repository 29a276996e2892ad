use Rattle.std.proofs.Common.{◌≡◌, ◌<◌, ◌∙◌, ◌++◌, ℕ, List, [], length, get_or, ap, arith}
use Rattle.std.proofs.lemmas.List.{get_or_default}
use Rattle.bb_net.specs.Pairs.{box_key}
use Rattle.bb_checks.specs.TableLines.{table_line, printed_pin, pin_column}
use Rattle.bb_checks.proofs.TableTexts.{one_more_pin}
use Rattle.bb_checks.proofs.table_lines.push_box.Goals as goal

pub loop-pin-preserved : goal.loop-pin-preserved
loop-pin-preserved c =
    let texts = c.args.texts.now in
    let t = c.args.table.now in
    let pin = c.loop-pin.pin in
    let line : List ℕ → List ℕ → List ℕ = λ key name. c.loop-pin.text.items ++ table_line key name (pin_column t pin) in
    let there : pin < length texts.outs = omega (arith, c.loop-pin-test.true, c.outputs-pin-end.ensures.outputs, c.requires.outputs) in
    let name : c.index-outs-pin.result ≡ printed_pin texts pin =
    c.index-outs-pin.is ∙ ap (λ names. get_or names pin c.index-outs-pin.result) c.outs.ensures.outs ∙ get_or_default texts.outs pin c.index-outs-pin.result [] there in
    c.in_ok-push_pin.ensures.text
    ∙ ap (λ key. line key c.index-outs-pin.result) c.key.ensures.key
    ∙ ap (λ n. line (box_key c.args.shared texts) n) name
    ∙ one_more_pin (λ k. table_line (box_key c.args.shared texts) (printed_pin texts k) (pin_column t k)) c.args.text.now.items c.loop-pin.text.items pin c.loop-pin.invariant
