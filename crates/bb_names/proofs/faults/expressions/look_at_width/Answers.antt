use Rattle.std.proofs.Common.{◌≡◌, true, false, not, ap, ◌∙◌, arith}
use Rattle.std.specs.Prelude.{◌==◌, is_none}
use Rattle.std.specs.Option.{option_or}
use Rattle.bb_ast.specs.Inside.Views.{expression, module_view}
use Rattle.bb_names.specs.Faults.{reported_if, width_in, wrong_width}
use Rattle.bb_names.specs.Inside.Firsts.{first_of, first_reported, use_of}
use Rattle.bb_names.specs.Sites.{sites_in}
use Rattle.bb_names.proofs.Noting.{noted-wide, put-left, kept-left}
use Rattle.bb_names.proofs.faults.expressions.look_at_width.Goals as goal

pub returns-in_ok-note_before : goal.returns-in_ok-note_before
returns-in_ok-note_before c = record {
  noted = λ text.
      let m = module_view c.args.of.now in
      let f = c.args.found.now in
      let e = expression c.args.expr.now in
      let sites = sites_in (use_of c.args.role) e in
      let word = first_of (reported_if (not (width_in m e == c.args.wanted)) c.args.word.now) in
      let free : is_none f.width ≡ true = grind (arith, c.is_none-free.ensures, c.if-free.true) in
      let before = c.in_ok-width.ensures.noted text in
      noted-wide text m f c.look.new.found (width_in m e) c.args.wanted c.args.word.now sites c.note_before.new.slot before
      (put-left f.width word (first_reported wrong_width text m sites) c.look.new.found.width c.note_before.new.slot (ap (λ z. z.width) before) free
      (c.in_ok-note_before.ensures ∙ ap (λ w. option_or w c.look.new.found.width) (c.word_where.ensures ∙ ap (λ b. first_of (reported_if b c.args.word.now)) (c.is_other_width.ensures (width_in m e) c.in_ok-width.ensures.width))));
}

pub returns-else-free : goal.returns-else-free
returns-else-free c = record {
  noted = λ text.
      let m = module_view c.args.of.now in
      let f = c.args.found.now in
      let e = expression c.args.expr.now in
      let sites = sites_in (use_of c.args.role) e in
      let word = first_of (reported_if (not (width_in m e == c.args.wanted)) c.args.word.now) in
      let free : is_none f.width ≡ false = grind (arith, c.is_none-free.ensures, c.if-free.false) in
      let before = c.in_ok-width.ensures.noted text in
      noted-wide text m f c.look.new.found (width_in m e) c.args.wanted c.args.word.now sites c.look.new.found.width before
      (kept-left f.width word (first_reported wrong_width text m sites) c.look.new.found.width (ap (λ z. z.width) before) free);
}
