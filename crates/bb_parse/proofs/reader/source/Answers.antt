-- What was read is the source, or the first fault.
use Rattle.bb_parse.proofs.ReadLaws.{all_of_text, answer_ok, answer_fault, answer_only_ok, answer_only_fault}
use Rattle.bb_parse.proofs.SourceLaws.{source_sound}
use Rattle.bb_parse.proofs.reader.source.Goals as goal

pub read-requires-clause-of_text : goal.read-requires-clause-of_text
read-requires-clause-of_text c = all_of_text c.tokens_are_in_text.ensures c.args.text.now c.args.tokens.now c.requires

pub returns-clause-ok : goal.returns-clause-ok
returns-clause-ok c =
    let said = c.read_bits_are_meant.ensures in
    let sound = source_sound said c.args.text.now c.args.tokens.now (all_of_text c.tokens_are_in_text.ensures c.args.text.now c.args.tokens.now c.requires) in
    answer_ok said c.args.text.now c.args.tokens.now sound c.read.result c.read.ensures

pub returns-clause-fault : goal.returns-clause-fault
returns-clause-fault c =
    let said = c.read_bits_are_meant.ensures in
    let sound = source_sound said c.args.text.now c.args.tokens.now (all_of_text c.tokens_are_in_text.ensures c.args.text.now c.args.tokens.now c.requires) in
    answer_fault said c.args.text.now c.args.tokens.now sound c.read.result c.read.ensures

pub returns-clause-only_ok : goal.returns-clause-only_ok
returns-clause-only_ok c = answer_only_ok c.read_bits_are_meant.ensures c.args.text.now c.args.tokens.now c.read.result c.read.ensures

pub returns-clause-only_fault : goal.returns-clause-only_fault
returns-clause-only_fault c = answer_only_fault c.read_bits_are_meant.ensures c.args.text.now c.args.tokens.now c.read.result c.read.ensures
