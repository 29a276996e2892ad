use Rattle.std.proofs.Common.{◌∙◌, sym, ap, arith}
use Rattle.bb_bits.specs.Names.{same_name}
use Rattle.bb_names.specs.declared.checked.CheckedModule.{CheckedModule}
use Rattle.bb_names.specs.Inside.Checked.{module_facts, syntax}
use Rattle.bb_hier.proofs.TopLemmas.{next-found}
use Rattle.bb_hier.proofs.top.place_named.Goals as goal

pub returns-then-eq-clause-place : goal.returns-then-eq-clause-place
returns-then-eq-clause-place c =
    sym (next-found module_facts syntax (λ m. same_name m.name c.args.name.now) c.args.modules.now c.loop-k.k c.index-modules-k.result (omega (arith, c.loop-k-test.true)) c.index-modules-k.is
    (ap (λ (z : CheckedModule). same_name z.module.name c.args.name.now) c.index-modules-k.is ∙ sym (ap (λ b. same_name b c.args.name.now) c.bytes.ensures.bytes) ∙ sym c.eq.ensures ∙ c.if-eq.true)) ∙ c.loop-k.invariant
