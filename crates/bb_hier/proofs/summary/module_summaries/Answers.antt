use Rattle.std.proofs.Common.{map, subst, sym}
use Rattle.std.specs.List.{AllZip}
use Rattle.std.proofs.lemmas.List.Elements.{All-contains}
use Rattle.std.proofs.lemmas.Simd.{map-map}
use Rattle.bb_names.specs.Inside.Checked.{module_facts, syntax, HasNets}
use Rattle.bb_hier.specs.Inside.ModuleSummaries.{IsModuleSummary}
use Rattle.bb_lemmas.proofs.Members.{contains-map}
use Rattle.bb_lemmas.proofs.Turns.{item_there, zip_more}
use Rattle.bb_hier.proofs.summary.module_summaries.Goals as goal

pub summary_of-requires : goal.summary_of-requires
summary_of-requires c = record {
  nets = All-contains HasNets (map module_facts c.args.modules.now) (module_facts c.of-item.result) c.requires.nets
      (contains-map module_facts c.args.modules.now c.of-item.result (item_there c.args.modules.now c.loop-of.of-index c.of-item.result c.loop-of-test.true c.of-item.is));
}

pub loop-of-preserved : goal.loop-of-preserved
loop-of-preserved c =
    subst (λ l. AllZip IsModuleSummary l c.push.new.self.items) (sym (map-map syntax module_facts _))
    (zip_more c.args.modules.now c.loop-of.of-index c.of-item.result c.loop-of-test.true c.of-item.is (λ z. syntax (module_facts z)) IsModuleSummary c.loop-of.all.items c.push.new.self.items c.in_ok-summary_of.field-0
    (subst (λ l. AllZip IsModuleSummary l c.loop-of.all.items) (map-map syntax module_facts _) c.loop-of.invariant) c.in_ok-push.ensures.items c.in_ok-summary_of.ensures.summary)
