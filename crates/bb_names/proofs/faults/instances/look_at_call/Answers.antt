use Rattle.std.proofs.Common.{◌++◌, ◌∷◌, [], ap, sym, ◌∙◌, subst, if◌then◌else◌}
use Rattle.std.proofs.lemmas.Result.{on_ok_weaker}
use Rattle.std.specs.Prelude.{Some, None, option_map}
use Rattle.std.specs.Option.{option_or}
use Rattle.bb_ast.specs.Inside.Views.{conns_view, module_view}
use Rattle.bb_names.specs.Declarations.{instance_declaration}
use Rattle.bb_names.specs.Inside.Firsts.{noted}
use Rattle.bb_names.specs.Sites.{Declared as DeclaredSite, Placed, conns_sites, place_count}
use Rattle.bb_names.specs.Inside.Summaries.{Describes}
use Rattle.bb_names.proofs.Noting.{noted-one, noted-then, placed-row}
use Rattle.bb_names.proofs.Searches.{option_or-none}
use Rattle.bb_names.proofs.faults.instances.look_at_call.Goals as goal

pub returns-clause-noted : goal.returns-clause-noted
returns-clause-noted c = λ text before h.
    let m = module_view c.args.of.now in
    let f = c.args.found.now in
    let n = c.args.call.now.name in
    let conns = conns_view c.args.call.now.conns in
    let to = option_map (λ t. module_view t.now) c.args.target in
    let one = c.look_at_declared.new.found in
    on_ok_weaker c.look_at_conns.result (λ step.
    noted-then text m f _ c.look_at_conns.new.found (DeclaredSite before (instance_declaration n) ∷ Placed to n (place_count conns) ∷ []) (conns_sites to conns)
    (noted-then text m f one _ (DeclaredSite before (instance_declaration n) ∷ []) (Placed to n (place_count conns) ∷ [])
    (c.in_ok-look_at_declared.ensures.noted text before h ∙ ap (λ d. noted text m f (DeclaredSite before d ∷ [])) (c.instance.ensures n))
    (noted-one text m one (Placed to n (place_count conns)) _ _ _ _ _ (sym (option_or-none one.twice)) (sym (option_or-none one.unknown)) (sym (option_or-none one.select)) (sym (option_or-none one.width))
    (c.in_ok-note.ensures ∙ ap (option_or one.role) (ap (λ b. if b then Some n else None) c.has_too_many.ensures ∙ sym (placed-row text m to n (place_count conns))))))
    step) (c.look_at_conns.ensures.noted text)

pub returns-clause-declared : goal.returns-clause-declared
returns-clause-declared c = λ before h.
    on_ok_weaker c.look_at_conns.result (λ _. subst (λ d. Describes c.look_at_declared.new.earlier.entries (before ++ d ∷ [])) (c.instance.ensures c.args.call.now.name) (c.in_ok-look_at_declared.ensures.declared before h)) (c.look_at_conns.ensures.noted [])
