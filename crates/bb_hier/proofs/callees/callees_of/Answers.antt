use Rattle.std.proofs.Common.{◌∙◌, ap, map}
use Rattle.bb_names.specs.Inside.Checked.{module_facts, syntax}
use Rattle.bb_design.specs.Inside.Callees.{callees}
use Rattle.bb_hier.proofs.CalleeLemmas.{callees-are}
use Rattle.bb_hier.proofs.callees.callees_of.Goals as goal

pub returns : goal.returns
returns c = record {
  ok = c.in_ok-all.ensures.ok
      ∙ callees-are c.in_ok-places.places.entries (map syntax (map module_facts c.modules-modules.result.now)) (map syntax (map module_facts c.modules-modules.result.now)) c.in_ok-places.ensures.ok
      ∙ ap (λ l. map (callees (map syntax l)) (map syntax l)) c.modules-modules.ensures.modules;
}
