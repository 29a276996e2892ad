use Rattle.std.proofs.Common.{arith, rules}
use Rattle.bb_ast.specs.Inside.Views.{source_view}
use Rattle.bb_parse.specs.Sources.{ReadsAs}
use Rattle.bb_test_designs.proofs.reading.source_of.Goals as goal

pub returns : goal.returns
returns c =
    let source = source_view c.in_ok-source.source in
    let reads : ReadsAs c.args.text.now source = search rules in
    record {
      read = record {
        formed = c.sources_are_formed.ensures c.args.text.now source reads;
        small = omega (arith, c.texts_are_long.ensures c.args.text.now source reads, c.requires.short);
      };
    }
