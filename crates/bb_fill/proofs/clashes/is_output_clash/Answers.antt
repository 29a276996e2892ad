use Rattle.std.proofs.Common.{◌≡◌, ◌≢◌, ◌∙◌, subst, sym}
use Rattle.std.specs.Prelude.{MatchBool}
use Rattle.bb_net.specs.Netlists.{cell_at}
use Rattle.bb_fill.specs.Clashes.{state_cell}
use Rattle.bb_fill.proofs.ClashLemmas.{output_clash}
use Rattle.bb_fill.proofs.clashes.is_output_clash.Goals as goal

pub returns-in-Some : goal.returns-in-Some
returns-in-Some c =
    let f = c.args.flat.now in
    record {
      clash = output_clash f c.args.o c.in-Some.r c.is_state.result c.output_place.ensures.kept.apart c.in-Some.ensures.some.0 (sym c.output_text.ensures.text ∙ c.in-Some.ensures.some.1)
          (subst (λ k. MatchBool c.is_state.result (cell_at f.net.cells k ≡ state_cell f c.in-Some.r) (cell_at f.net.cells k ≢ state_cell f c.in-Some.r)) c.output_place.ensures.place c.is_state.ensures.state);
    }
