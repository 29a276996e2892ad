use Rattle.std.proofs.Common.{map, take}
use Rattle.std.specs.List.{AllZip}
use Rattle.bb_names.specs.Inside.Checked.{module_facts, syntax}
use Rattle.bb_hier.specs.Inside.ModuleSummaries.{IsModuleSummary}
use Rattle.bb_hier.proofs.summary.module_summaries.Given as goal

abbrev pub invariant-loop-of : goal.invariant-loop-of
invariant-loop-of l = AllZip IsModuleSummary (map syntax (map module_facts (take l.of-index l.modules))) l.all.items
