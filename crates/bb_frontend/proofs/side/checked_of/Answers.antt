use Rattle.std.proofs.Common.{arith}
use Rattle.bb_ast.specs.Inside.Views.{source_view}
use Rattle.bb_frontend.proofs.side.checked_of.Goals as goal

pub check-requires : goal.check-requires
check-requires c =
    let source = source_view c.in_ok-source.source in
    record {
      read = record {
        formed = c.sources_are_formed.ensures c.args.text.now source c.in_ok-source.ensures.ok;
        small = omega (arith, c.texts_are_long.ensures c.args.text.now source c.in_ok-source.ensures.ok, c.requires.short);
      };
    }
