use Rattle.bb_fill.specs.Clashes.{OutputClashes}
use Rattle.bb_fill.proofs.clashes.first_clash.Goals as goal

pub returns-in-Some-first_output-clause-some : goal.returns-in-Some-first_output-clause-some
returns-in-Some-first_output-clause-some c = OutputClashes c.in-Some-first_output.o c.in_default.ensures.none c.in-Some-first_output.ensures.some.1 c.output_text.ensures.text
