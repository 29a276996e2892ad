use Rattle.std.proofs.Common.{◌∙◌, sym, ap}
use Rattle.std.specs.Prelude.{is_some}
use Rattle.std.specs.Map.{lookup}
use Rattle.indexmap.proofs.CallerLemmas.{insert_entry-new}
use Rattle.bb_bits.specs.Names.{same_name}
use Rattle.bb_names.specs.declared.checked.CheckedModule.{CheckedModule}
use Rattle.bb_names.specs.Inside.Checked.{module_facts, syntax}
use Rattle.bb_hier.proofs.CalleeLemmas.{new-name, old-name, none_of}
use Rattle.bb_hier.proofs.callees.places.Goals as goal
use Rattle.bb_hier.proofs.callees.places.Goals.{then-not-contains_key+in_ok-clone+in_ok-insert, else-not-contains_key}

pub loop-k-preserved : goal.loop-k-preserved
loop-k-preserved c = λ n. elim c.if-not-contains_key.branch [
  | then-not-contains_key+in_ok-clone+in_ok-insert w ↦
      new-name module_facts syntax c.args.modules.now c.loop-k.k c.index-modules-k.result c.loop-k-test.true c.index-modules-k.is n w.in_ok-clone.field-0 c.loop-k.places.entries c.if-not-contains_key.places.entries
      (w.in_ok-clone.ensures.cases ∙ sym (ap (λ (z : CheckedModule). z.module.name) c.index-modules-k.is))
      (ap (λ p. p.entries) w.places-is ∙ w.in_ok-insert.ensures.entries
      ∙ insert_entry-new same_name c.loop-k.places w.in_ok-clone.field-0 c.loop-k.k (none_of _ (ap (λ m. is_some (lookup (same_name m) c.loop-k.places.entries)) w.in_ok-clone.ensures.cases ∙ sym c.contains_key.ensures ∙ w.if-not-contains_key.true)))
      c.loop-k.invariant
  | else-not-contains_key w ↦
      old-name module_facts syntax c.args.modules.now c.loop-k.k c.index-modules-k.result c.loop-k-test.true c.index-modules-k.is n c.loop-k.places.entries c.if-not-contains_key.places.entries
      (ap (λ p. p.entries) w.places-is)
      (ap (λ (z : CheckedModule). is_some (lookup (same_name z.module.name) c.loop-k.places.entries)) c.index-modules-k.is ∙ sym c.contains_key.ensures ∙ w.if-not-contains_key.false)
      c.loop-k.invariant
]
