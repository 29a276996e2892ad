use Rattle.std.proofs.Common.{◌∙◌, ap, map}
use Rattle.std.specs.Prelude.{not}
use Rattle.bb_names.specs.Inside.Checked.{module_facts, syntax}
use Rattle.bb_design.specs.Hierarchy.{the_only}
use Rattle.bb_hier.proofs.TopLemmas.{filter-same}
use Rattle.bb_hier.proofs.top.root.Goals as goal

pub returns-clause-place : goal.returns-clause-place
returns-clause-place c = c.place_outside.ensures.place ∙ ap the_only (filter-same _ _ (λ m. ap not (c.in_ok-targets.ensures.ok m.name)) (map syntax (map module_facts c.args.modules.now)))
