use Rattle.bb_ast.specs.Inside.Views.{expression, module_view}
use Rattle.bb_names.specs.Inside.Firsts.{terminal_sites}
use Rattle.bb_names.proofs.Noting.{noted-turn, noted-all}
use Rattle.bb_names.proofs.faults.gates.look_at_terminals.Goals as goal

pub loop-terminal-preserved : goal.loop-terminal-preserved
loop-terminal-preserved c = λ text.
    noted-turn text (module_view c.args.of.now) (terminal_sites c.args.gate c.args.output) expression c.args.terminals.now c.loop-terminal.terminal-index c.terminal-item.result c.args.found.now c.loop-terminal.found c.look_at_terminal.new.found c.loop-terminal-test.true c.terminal-item.is (c.loop-terminal.invariant text) (c.in_ok-look_at_terminal.ensures.noted text)

pub returns : goal.returns
returns c = record { noted = λ text. noted-all text (module_view c.args.of.now) (terminal_sites c.args.gate c.args.output) expression c.args.terminals.now c.loop-terminal.terminal-index c.args.found.now c.loop-terminal.found c.loop-terminal-test.false (c.loop-terminal.invariant text) }
