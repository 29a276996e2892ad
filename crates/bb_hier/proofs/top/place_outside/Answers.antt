use Rattle.std.proofs.Common.{◌<◌, ◌∙◌, sym, ap, subst, arith, length}
use Rattle.std.specs.Prelude.{not, IfSome}
use Rattle.std.specs.List.{list_any}
use Rattle.bb_bits.specs.Names.{same_name}
use Rattle.bb_names.specs.declared.checked.CheckedModule.{CheckedModule}
use Rattle.bb_names.specs.Inside.Checked.{module_facts, syntax}
use Rattle.bb_hier.proofs.TopLemmas.{second-kept, first-kept, none-kept}
use Rattle.bb_hier.proofs.top.place_outside.Goals as goal
use Rattle.bb_hier.proofs.top.place_outside.Goals.{then-not-contains+else-is_some, else-not-contains}

pub returns-then-is_some-clause-place : goal.returns-then-is_some-clause-place
returns-then-is_some-clause-place c =
    sym (second-kept module_facts syntax (λ m. not (list_any (same_name m.name) c.args.targets.now.keys)) c.args.modules.now c.loop-k.k c.index-modules-k.result (omega (arith, c.loop-k-test.true)) c.index-modules-k.is
    (ap (λ (z : CheckedModule). not (list_any (same_name z.module.name) c.args.targets.now.keys)) c.index-modules-k.is ∙ ap not (sym c.contains.ensures ∙ c.if-not-contains.true))
    c.loop-k.found c.loop-k.invariant.there c.loop-k.invariant.place (sym c.is_some.ensures ∙ c.if-is_some.true))

pub loop-k-preserved : goal.loop-k-preserved
loop-k-preserved c = elim c.if-not-contains.branch [
  | then-not-contains+else-is_some w ↦ record {
    there = subst (λ o. IfSome o (λ k. k < length c.args.modules.now)) (sym w.found-is) c.loop-k-test.true;
    place = first-kept module_facts syntax (λ m. not (list_any (same_name m.name) c.args.targets.now.keys)) c.args.modules.now c.loop-k.k c.index-modules-k.result c.loop-k-test.true c.index-modules-k.is
        (ap (λ (z : CheckedModule). not (list_any (same_name z.module.name) c.args.targets.now.keys)) c.index-modules-k.is ∙ ap not (sym c.contains.ensures ∙ w.if-not-contains.true))
        c.loop-k.found c.if-not-contains.found c.loop-k.invariant.place (sym w.is_some.ensures ∙ w.if-is_some.false) w.found-is;
  }
  | else-not-contains w ↦ record {
    there = subst (λ o. IfSome o (λ k. k < length c.args.modules.now)) (sym w.found-is) c.loop-k.invariant.there;
    place = none-kept module_facts syntax (λ m. not (list_any (same_name m.name) c.args.targets.now.keys)) c.args.modules.now c.loop-k.k c.index-modules-k.result c.loop-k-test.true c.index-modules-k.is
        (ap (λ (z : CheckedModule). not (list_any (same_name z.module.name) c.args.targets.now.keys)) c.index-modules-k.is ∙ ap not (sym c.contains.ensures ∙ w.if-not-contains.false))
        c.loop-k.found c.if-not-contains.found c.loop-k.invariant.place w.found-is;
  }
]
