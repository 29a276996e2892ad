use Rattle.std.proofs.Common.{◌&&◌, ap, sym, ◌∙◌}
use Rattle.std.specs.Prelude.{option_to_list}
use Rattle.std.specs.List.{list_any}
use Rattle.bb_bits.specs.Names.{same_name}
use Rattle.bb_ast.specs.Inside.Views.{module_view}
use Rattle.bb_names.specs.Declarations.{direction_of}
use Rattle.bb_names.specs.Faults.{is_input}
use Rattle.bb_names.proofs.IndexLemmas.{found_input}
use Rattle.bb_names.proofs.indexed.IndexedModule.is_input_port.Goals as goal

pub returns-then-is_input_direction : goal.returns-then-is_input_direction
returns-then-is_input_direction c =
    let m = module_view c.args.self.now in
    let n = c.args.name.now in
    let input = sym c.if-is_input_direction.true ∙ c.is_input_direction.ensures ∙ ap (λ d. list_any is_input (option_to_list d)) c.requires in
    c.is_port.ensures ∙ ap (λ b. b && list_any (λ head. same_name head.name n) m.heads) input ∙ found_input (λ head. same_name head.name n) m.heads (direction_of m n)
