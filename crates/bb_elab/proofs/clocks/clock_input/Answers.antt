use Rattle.std.proofs.Common.{◌≡◌, ℕ, ◌+◌, ◌<◌, length, sym, ap, ◌∙◌, subst, arith}
use Rattle.std.specs.Prelude.{IfSome, IfNone}
use Rattle.bb_elab.proofs.ClockWalks.{input_found, input_missed}
use Rattle.bb_elab.proofs.clocks.clock_input.Goals as goal

pub returns-clause-clock : goal.returns-clause-clock
returns-clause-clock c = λ d lowering b n source bounded once lowered list at first limit is.
    let l = c.args.list.now in
    let place = c.args.first + c.args.clock in
    let loose = c.lists_are_loose.ensures d lowering l bounded lowered list in
    let few = c.laws_of_cells.ensures.few_inputs d lowering l list c.args.limit limit in
    let there : place < length l.cells = omega (arith, first, (c.laws_of_cells.ensures.net_places d lowering l list c.args.clock b at).1) in
    let end : c.end_of.result ≡ source = c.end_of.ensures.end there n source is in
    c.laws_of_cells.ensures.clocks d lowering l list bounded once lowered b c.args.clock at c.input_at.result c.args.limit place limit
    (ap (λ n. n + c.args.clock) first ∙ sym ((c.laws_of_cells.ensures.net_places d lowering l list c.args.clock b at).0))
    (input_found c.laws_of_cells.ensures l loose c.args.limit few place n source there is c.input_at.result (subst (λ s. IfSome c.input_at.result (λ k. (k < c.args.limit) × (k + 2 ≡ s))) end c.input_at.ensures.some))
    (input_missed c.laws_of_cells.ensures l loose c.args.limit few place n source there is c.input_at.result (subst (λ s. IfNone c.input_at.result ((k : ℕ) → k < c.args.limit → k + 2 ≡ s → ⊥)) end c.input_at.ensures.none))
