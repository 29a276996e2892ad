use Rattle.std.proofs.Common.{◌≡◌, ap, sym, refl, ◌∙◌, not, ◌&&◌, subst}
use Rattle.std.proofs.lemmas.Result.{on_ok_weaker}
use Rattle.std.specs.Prelude.{Some, None, option_map, OnOk, if◌then◌else◌}
use Rattle.std.specs.Option.{option_or}
use Rattle.bb_ast.specs.Assignable.{is_assignable}
use Rattle.bb_ast.specs.Inside.Views.{expression, module_view}
use Rattle.bb_names.specs.Faults.{is_input, width_in}
use Rattle.bb_names.specs.Inside.Firsts.{noted, noted_width, use_of}
use Rattle.bb_names.specs.Sites.{Joined, sites_in, use_at, joined_sites}
use Rattle.bb_names.proofs.Noting.{noted-widely, reported-alone}
use Rattle.bb_names.proofs.faults.instances.look_at_joined.Goals as goal

pub returns-in_default : goal.returns-in_default
returns-in_default c = record {
  noted = λ text.
      c.in_ok-look.ensures.noted text ∙ ap (λ o. noted text (module_view c.args.of.now) c.args.found.now (joined_sites (option_map (λ p. record { name = p.name.now; dir = p.dir; width = p.width }) o) (Some (expression c.args.expr.now)))) (sym c.in_default.is);
}

pub returns : goal.returns
returns c = record {
  noted = λ text.
      let m = module_view c.args.of.now in
      let f = c.args.found.now in
      let e = expression c.args.expr.now in
      let pin = c.in-Some.pin in
      let wrong = not (is_input pin.dir) && not (is_assignable e) in
      subst (λ o. OnOk c.look_at_width.result (c.look_at_width.new.found ≡ noted text m f (joined_sites (option_map (λ p. record { name = p.name.now; dir = p.dir; width = p.width }) o) (Some e)))) (sym c.in-Some.is)
      (on_ok_weaker c.look_at_width.result (λ step. noted-widely text m f (Joined (record { name = pin.name.now; dir = pin.dir; width = pin.width }) e) c.note.new.slot (width_in m e) pin.width pin.name.now (sites_in (use_at pin.dir) e) c.look_at_width.new.found refl refl refl refl
      (c.in_ok-note.ensures ∙ ap (λ b. option_or f.role (if b then Some pin.name.now else None)) c.is_wrong_at.ensures ∙ ap (option_or f.role) (sym (reported-alone wrong pin.name.now)))
      (step ∙ ap (λ w. noted_width text m (record f { role = c.note.new.slot }) (width_in m e) pin.width w (sites_in (use_of c.role_at.result) e)) c.bytes.ensures.bytes
      ∙ ap (λ u. noted_width text m (record f { role = c.note.new.slot }) (width_in m e) pin.width pin.name.now (sites_in u e)) c.role_at.ensures)) (c.look_at_width.ensures.noted text));
}
