use Rattle.std.proofs.Common.{◌++◌, [], ap, sym, ◌∙◌, subst, if◌then◌else◌}
use Rattle.std.proofs.lemmas.Result.{on_ok_weaker}
use Rattle.std.specs.Prelude.{Some, None, nat_lt}
use Rattle.std.specs.Option.{option_or}
use Rattle.std.specs.List.{list_any}
use Rattle.bb_ast.specs.Inside.Views.{module_view}
use Rattle.bb_names.specs.Declarations.{range_of}
use Rattle.bb_names.specs.Faults.{clashes, widest}
use Rattle.bb_names.specs.Inside.Firsts.{first_of}
use Rattle.bb_names.specs.Ranges.{range_width}
use Rattle.bb_names.specs.Sites.{Declared as DeclaredSite}
use Rattle.bb_names.specs.Inside.Summaries.{named, IsSummary}
use Rattle.bb_names.proofs.Noting.{noted-one, reported-one}
use Rattle.bb_names.proofs.Searches.{option_or-none}
use Rattle.bb_names.proofs.faults.names.look_at_declared.Goals as goal

pub returns-clause-noted : goal.returns-clause-noted
returns-clause-noted c = λ text before h.
    let m = module_view c.args.of.now in
    let n = c.args.name.now in
    let f = c.args.found.now in
    let d = named n c.args.d in
    on_ok_weaker c.note-3.result (λ step. noted-one text m f (DeclaredSite before d) _ _ _ _ _
    (c.in_ok-note.ensures ∙ ap (option_or f.twice) (ap (λ b. if b then Some n else None) (c.is_clash.ensures m n before c.is_port-port.ensures (subst (IsSummary n before) (sym c.in_ok-before.ensures.earlier) (h n))) ∙ sym (reported-one (list_any (λ x. clashes m x d) before) n)))
    (sym (option_or-none f.unknown))
    (sym (option_or-none f.select))
    (c.in_ok-note-2.ensures ∙ ap (option_or f.width) (ap (λ w. if nat_lt widest w then Some n else None) (c.width_of.ensures.width ∙ ap range_width c.facts-facts.ensures.range) ∙ sym (reported-one (nat_lt widest (range_width (range_of m n))) n)))
    (step ∙ ap (option_or f.role) (sym (ap (λ z. first_of (z ++ [])) (c.is_wrong_declaration-wrong.ensures m n before text c.facts-facts.ensures.kind c.is_port-port.ensures c.is_input_port-input.ensures) ∙ reported-one c.is_wrong_declaration-wrong.result n))))
    c.note-3.ensures

pub returns-clause-declared : goal.returns-clause-declared
returns-clause-declared c = λ before h. on_ok_weaker c.note-3.result (λ _. c.in_ok-before.ensures.declared before h) c.note-3.ensures
