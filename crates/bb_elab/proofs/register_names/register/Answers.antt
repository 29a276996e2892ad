use Rattle.bb_elab.proofs.NamedRegisters.{clock_source}
use Rattle.bb_elab.proofs.register_names.register.Goals as goal

pub returns : goal.returns
returns c = record {
  ends = c.clock_input.ensures.ends;
  register = λ d net numbers bounded once are first limit r stored text.
      let b = stored.clock in
      let source = clock_source c.laws_of_cells.ensures d c.args.list.now net numbers are c.args.first first c.args.stored.now.clock b.0 b.2 in
      record {
        text = text;
        falling = stored.falling;
        clock = (b.0, b.1, c.clock_input.ensures.clock d are.lowering b.0 source.0 source.1 bounded once are.lowered are.listed b.2 first limit source.2);
      };
}
