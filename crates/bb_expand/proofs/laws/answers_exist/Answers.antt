use Rattle.bb_expand.proofs.SomeExpanded.{expansions_are_refuted, answers_exist}
use Rattle.bb_expand.proofs.laws.answers_exist.Goals as goal

pub returns-clause-refuted : goal.returns-clause-refuted
returns-clause-refuted c = expansions_are_refuted c.refutations_exist.ensures c.models.ensures c.expansions_and_tables.ensures.all c.expansions_and_tables.ensures.within

pub returns-clause-answer : goal.returns-clause-answer
returns-clause-answer c = answers_exist (record {
  numbering = c.laws_below.ensures.numbering;
  sharing = c.laws_below.ensures.sharing;
  models = c.models.ensures;
  tables = c.expansions_and_tables.ensures.models;
  counted = c.expansions_and_tables.ensures.counted;
  within = c.expansions_and_tables.ensures.within;
  each = c.expansions_and_tables.ensures.each;
  distinct = c.distinguishing_vectors_are_distinct.ensures;
  few = c.vectors_are_few.ensures;
})
