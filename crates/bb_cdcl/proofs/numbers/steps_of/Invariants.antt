use Rattle.std.proofs.Common.{◌≡◌, ◌++◌, map}
use Rattle.bb_cnf.specs.Lines.{step_numbers}
use Rattle.bb_cdcl.specs.Inside.Dates.{numbers_after}
use Rattle.bb_cdcl.proofs.numbers.steps_of.Given as goal

abbrev pub invariant-loop-one : goal.invariant-loop-one
invariant-loop-one l = record {
  all : l.yielded ++ l.one-iterator.rest.items ≡ l.fn.dated.items;
  made : map step_numbers l.steps.items ≡ map (numbers_after l.given) l.yielded;
}
