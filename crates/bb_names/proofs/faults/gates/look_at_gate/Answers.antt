use Rattle.std.proofs.Common.{◌++◌, true, false, ap, ap₂, ◌∙◌, map}
use Rattle.std.proofs.lemmas.Result.{on_ok_weaker}
use Rattle.std.specs.List.{flat_map}
use Rattle.bb_ast.specs.Inside.Views.{expression, module_view}
use Rattle.bb_names.specs.Inside.Firsts.{noted, terminal_sites}
use Rattle.bb_names.proofs.Noting.{noted-then, gate-split}
use Rattle.bb_names.proofs.faults.gates.look_at_gate.Goals as goal

pub returns : goal.returns
returns c = record {
  noted = λ text.
      let m = module_view c.args.of.now in
      let f = c.args.found.now in
      let gate = c.args.gate in
      let prefix = c.split_at.result.0.now in
      let back = c.split_at.result.1.now in
      on_ok_weaker c.look_at_terminals-2.result (λ step. noted-then text m f c.look_at_terminals.new.found c.look_at_terminals-2.new.found (flat_map (terminal_sites gate true) (map expression prefix)) (flat_map (terminal_sites gate false) (map expression back))
      (c.in_ok-look_at_terminals.ensures.noted text) step
      ∙ ap (noted text m f) (ap₂ (λ a b. flat_map (terminal_sites gate true) (map expression a) ++ flat_map (terminal_sites gate false) (map expression b)) c.split_at.ensures.front c.split_at.ensures.back
      ∙ gate-split gate c.args.terminals.now c.outputs_of.result c.outputs_of.ensures)) (c.look_at_terminals-2.ensures.noted text);
}
