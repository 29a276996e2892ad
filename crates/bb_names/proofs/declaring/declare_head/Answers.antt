use Rattle.std.proofs.Common.{◌≡◌, ◌++◌, ◌∷◌, [], ap, sym, ◌∙◌, subst}
use Rattle.std.specs.Prelude.{option_map, option_to_list, OnOk}
use Rattle.bb_ast.specs.Inside.Views.{head_view}
use Rattle.bb_names.specs.Declarations.{declared_by_head, port_declaration}
use Rattle.bb_names.specs.Inside.Summaries.{named, Describes}
use Rattle.bb_names.proofs.declaring.declare_head.Goals as goal

pub returns-in-Some : goal.returns-in-Some
returns-in-Some c = λ all before.
    let n = c.args.head.now.name in
    let one : declared_by_head (head_view c.args.head.now) ≡ named n c.port.result ∷ [] =
    ap (λ o. option_to_list (option_map (λ port. port_declaration port n) o)) c.in-Some.is ∙ ap (λ d. d ∷ []) (sym (c.port.ensures n)) in
    subst (λ z. OnOk c.declare.result (Describes c.declare.new.declared.entries (all ++ z))) (sym one) (c.declare.ensures all before)
