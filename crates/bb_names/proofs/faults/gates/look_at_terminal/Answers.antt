use Rattle.std.proofs.Common.{◌≡◌, true, false, not, ap, sym, refl, ◌∙◌, subst}
use Rattle.std.proofs.lemmas.Result.{on_ok_weaker}
use Rattle.std.specs.Prelude.{Some, None, OnOk, if◌then◌else◌}
use Rattle.std.specs.Option.{option_or}
use Rattle.bb_ast.specs.Assignable.{is_assignable}
use Rattle.bb_ast.specs.Gates.{gate_bytes}
use Rattle.bb_ast.specs.Inside.Views.{expression, module_view}
use Rattle.bb_names.specs.Faults.{width_in}
use Rattle.bb_names.specs.Inside.Firsts.{noted, noted_width, terminal_sites}
use Rattle.bb_names.specs.Sites.{Terminal, Driven, Read, sites_in}
use Rattle.bb_names.proofs.Noting.{noted-widely, reported-alone}
use Rattle.bb_names.proofs.Searches.{option_or-none}
use Rattle.bb_names.proofs.faults.gates.look_at_terminal.Goals as goal

pub returns-in_ok-note_word : goal.returns-in_ok-note_word
returns-in_ok-note_word c = record {
  noted = λ text.
      let m = module_view c.args.of.now in
      let f = c.args.found.now in
      let e = expression c.args.terminal.now in
      let gate = c.args.gate in
      let r = c.note_word.new.slot in
      subst (λ b. OnOk c.look_at_width.result (c.look_at_width.new.found ≡ noted text m f (terminal_sites gate b e))) (sym c.if-output.true)
      (on_ok_weaker c.look_at_width.result (λ step. noted-widely text m f (Terminal gate true e) r (width_in m e) 1 (gate_bytes gate) (sites_in Driven e) c.look_at_width.new.found refl refl refl refl
      (c.in_ok-note_word.ensures ∙ ap (λ w. option_or f.role (if not c.may_be_written-wrong.result then Some w else None)) c.gate_word-word.ensures
      ∙ ap (λ b. option_or f.role (if not b then Some (gate_bytes gate) else None)) c.may_be_written-wrong.ensures ∙ ap (option_or f.role) (sym (reported-alone (not (is_assignable e)) (gate_bytes gate))))
      (step ∙ ap (λ w. noted_width text m (record f { role = r }) (width_in m e) 1 w (sites_in Driven e)) c.gate_word-word.ensures)) (c.look_at_width.ensures.noted text));
}

pub returns-else-output : goal.returns-else-output
returns-else-output c = record {
  noted = λ text.
      let m = module_view c.args.of.now in
      let f = c.args.found.now in
      let e = expression c.args.terminal.now in
      let gate = c.args.gate in
      subst (λ b. OnOk c.look_at_width-else-output.result (c.look_at_width-else-output.new.found ≡ noted text m f (terminal_sites gate b e))) (sym c.if-output.false)
      (on_ok_weaker c.look_at_width-else-output.result (λ step. noted-widely text m f (Terminal gate false e) f.role (width_in m e) 1 (gate_bytes gate) (sites_in Read e) c.look_at_width-else-output.new.found refl refl refl refl
      (sym (option_or-none f.role)) (step ∙ ap (λ w. noted_width text m f (width_in m e) 1 w (sites_in Read e)) c.gate_word-word.ensures)) (c.look_at_width-else-output.ensures.noted text));
}
