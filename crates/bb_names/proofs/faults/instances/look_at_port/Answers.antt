use Rattle.std.proofs.Common.{◌≡◌, ◌∷◌, [], ap, sym, ◌∙◌, subst}
use Rattle.std.proofs.lemmas.Result.{on_ok_weaker}
use Rattle.std.specs.Prelude.{option_map, OnOk}
use Rattle.indexmap.specs.IndexSet.{insert_key}
use Rattle.bb_bits.specs.Names.{same_name}
use Rattle.bb_ast.specs.Inside.Views.{module_view}
use Rattle.bb_names.specs.Inside.Firsts.{noted}
use Rattle.bb_names.specs.Sites.{PortName}
use Rattle.bb_names.proofs.Noting.{same-more}
use Rattle.bb_names.proofs.faults.instances.look_at_port.Goals as goal

pub returns-in-Some-clause-noted : goal.returns-in-Some-clause-noted
returns-in-Some-clause-noted c = λ text m before same.
    subst (λ o. OnOk c.look_at_port_of.result (c.look_at_port_of.new.found ≡ noted text m c.args.found.now (PortName (option_map (λ t. module_view t.now) o) before c.args.name.now ∷ []))) (sym c.in-Some.is)
    (c.look_at_port_of.ensures text m before (c.contains-again.ensures ∙ same c.args.name.now))

pub returns-in-Some-clause-names : goal.returns-in-Some-clause-names
returns-in-Some-clause-names c = λ before same.
    on_ok_weaker c.look_at_port_of.result (λ _. same-more c.args.earlier.now.keys before c.insert.new.self.keys c.args.name.now same (c.in_ok-insert.ensures.keys ∙ ap (insert_key same_name c.args.earlier.now.keys) c.in_ok-clone.ensures.cases))
    (c.look_at_port_of.ensures [] (module_view c.in-Some.target.now) before (c.contains-again.ensures ∙ same c.args.name.now))

pub returns-in-None-clause-names : goal.returns-in-None-clause-names
returns-in-None-clause-names c = λ before same.
    same-more c.args.earlier.now.keys before c.insert.new.self.keys c.args.name.now same (c.in_ok-insert.ensures.keys ∙ ap (insert_key same_name c.args.earlier.now.keys) c.in_ok-clone.ensures.cases)
