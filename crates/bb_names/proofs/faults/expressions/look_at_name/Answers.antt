use Rattle.std.proofs.Common.{not, [], ◌++◌, ap, sym, ◌∙◌, if◌then◌else◌}
use Rattle.std.specs.Prelude.{Some, None}
use Rattle.std.specs.Option.{option_or}
use Rattle.bb_ast.specs.Inside.Views.{module_view}
use Rattle.bb_names.specs.Declarations.{is_known}
use Rattle.bb_names.specs.Inside.Firsts.{first_of, use_of}
use Rattle.bb_names.specs.Sites.{Used}
use Rattle.bb_names.proofs.Noting.{noted-one, reported-one}
use Rattle.bb_names.proofs.Searches.{option_or-none}
use Rattle.bb_names.proofs.faults.expressions.look_at_name.Goals as goal

pub returns-clause-noted : goal.returns-clause-noted
returns-clause-noted c = λ text.
    let m = module_view c.args.of.now in
    let n = c.args.name.now in
    let f = c.args.found.now in
    let how = use_of c.args.role in
    noted-one text m f (Used how n c.args.bits) _ _ _ _ _
    (sym (option_or-none f.twice))
    (c.in_ok-note.ensures ∙ ap (option_or f.unknown) (ap (λ k. if not k then Some n else None) c.facts-facts.ensures.known ∙ sym (reported-one (not (is_known m n)) n)))
    (c.in_ok-note-2.ensures ∙ ap (option_or f.select) (sym (ap (λ z. first_of (z ++ [])) (c.is_wrong_select.ensures text m n how c.facts-facts.ensures.range) ∙ reported-one c.is_wrong_select.result n)))
    (sym (option_or-none f.width))
    (c.in_ok-note-3.ensures ∙ ap (option_or f.role) (sym (ap (λ z. first_of (z ++ [])) (c.is_wrong_use.ensures m n c.args.bits text c.facts-facts.ensures.kind c.facts-facts.ensures.instance c.is_driven_input-input.ensures) ∙ reported-one c.is_wrong_use.result n)))
