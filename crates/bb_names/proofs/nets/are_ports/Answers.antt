use Rattle.std.proofs.Common.{◌&&◌, sym, ◌∙◌}
use Rattle.std.specs.Prelude.{is_none}
use Rattle.bb_ast.specs.Inside.Views.{module_view, named_view}
use Rattle.bb_names.specs.Declarations.{is_port}
use Rattle.bb_names.proofs.NetLemmas.{all-fails, all-more, all-hold}
use Rattle.bb_names.proofs.nets.are_ports.Goals as goal

pub returns-then-not-is_plain_port : goal.returns-then-not-is_plain_port
returns-then-not-is_plain_port c =
    sym (all-fails (λ x. is_none x.1 && is_port (module_view c.args.of.now) x.0) named_view c.args.all.now c.loop-name.name-index c.loop-name-item.result c.loop-name-test.true c.loop-name-item.is (sym c.is_plain_port.ensures ∙ c.if-not-is_plain_port.true))

pub loop-name-preserved : goal.loop-name-preserved
loop-name-preserved c =
    all-more (λ x. is_none x.1 && is_port (module_view c.args.of.now) x.0) named_view c.args.all.now c.loop-name.name-index c.loop-name-item.result c.loop-name-test.true c.loop-name-item.is c.loop-name.invariant (sym c.is_plain_port.ensures ∙ c.if-not-is_plain_port.false)

pub returns : goal.returns
returns c = sym (all-hold (λ x. is_none x.1 && is_port (module_view c.args.of.now) x.0) named_view c.args.all.now c.loop-name.name-index c.loop-name-test.false c.loop-name.invariant)
