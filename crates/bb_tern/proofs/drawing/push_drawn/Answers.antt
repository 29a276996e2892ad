use Rattle.std.proofs.Common.{◌≡◌, ◌+◌, ◌*◌, sym, ap, ◌∙◌, map, vec_items, add-one, suc-mul}
use Rattle.bb_tern.specs.Patterns.{state_after, drawn_pattern}
use Rattle.bb_tern.proofs.DrawLemmas.{rows_more}
use Rattle.bb_tern.proofs.drawing.push_drawn.Goals as goal

pub loop-preserved : goal.loop-preserved
loop-preserved c =
    let n = c.loop.counter * c.args.inputs in
    let next : n + c.args.inputs ≡ (c.loop.counter + 1) * c.args.inputs = sym (ap (λ k. k * c.args.inputs) (add-one c.loop.counter) ∙ suc-mul c.loop.counter c.args.inputs) in (
      rows_more vec_items (drawn_pattern c.args.inputs c.args.seed) (map vec_items c.args.all.now.items) c.loop.all.items c.push.new.self.items c.in_ok-draw.field-0 c.loop.counter c.loop.invariant.0 c.in_ok-push.ensures.items
          (c.in_ok-draw.ensures.ok c.args.seed n c.loop.invariant.1),
      c.in_ok-draw.ensures.state c.args.seed n c.loop.invariant.1 ∙ ap (state_after c.args.seed) next,
    )
