use Rattle.std.proofs.Common.{◌≡◌, ◌++◌, ◌∷◌, [], ap, sym, ◌∙◌, subst}
use Rattle.std.specs.Prelude.{option_map, option_to_list, OnOk}
use Rattle.bb_ast.specs.Inside.Views.{head_view, module_view}
use Rattle.bb_names.specs.Declarations.{declared_by_head, port_declaration}
use Rattle.bb_names.specs.Inside.Firsts.{noted}
use Rattle.bb_names.specs.Sites.{declared_sites}
use Rattle.bb_names.specs.Inside.Summaries.{named, Describes}
use Rattle.bb_names.proofs.Noting.{sites-alone}
use Rattle.bb_names.proofs.faults.names.look_at_head_port.Goals as goal

pub returns-in-Some-clause-noted : goal.returns-in-Some-clause-noted
returns-in-Some-clause-noted c = λ text before h.
    let m = module_view c.args.of.now in
    let n = c.args.head.now.name in
    let f = c.args.found.now in
    let one : declared_by_head (head_view c.args.head.now) ≡ named n c.port.result ∷ [] =
    ap (λ o. option_to_list (option_map (λ port. port_declaration port n) o)) c.in-Some.is ∙ ap (λ d. d ∷ []) (sym (c.port.ensures n)) in
    subst (λ s. OnOk c.look_at_declared.result (c.look_at_declared.new.found ≡ noted text m f s)) (sym (ap (declared_sites before) one ∙ sites-alone before (named n c.port.result))) (c.look_at_declared.ensures.noted text before h)

pub returns-in-Some-clause-declared : goal.returns-in-Some-clause-declared
returns-in-Some-clause-declared c = λ before h.
    let n = c.args.head.now.name in
    let one : declared_by_head (head_view c.args.head.now) ≡ named n c.port.result ∷ [] =
    ap (λ o. option_to_list (option_map (λ port. port_declaration port n) o)) c.in-Some.is ∙ ap (λ d. d ∷ []) (sym (c.port.ensures n)) in
    subst (λ z. OnOk c.look_at_declared.result (Describes c.look_at_declared.new.earlier.entries (before ++ z))) (sym one) (c.look_at_declared.ensures.declared before h)
