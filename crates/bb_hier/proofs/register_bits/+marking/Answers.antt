use Rattle.std.proofs.Common.{◌++◌, map, sym, ap, ◌∙◌, subst, rules}
use Rattle.std.specs.List.{flat_map}
use Rattle.std.proofs.lemmas.Result.{on_ok_weaker}
use Rattle.bb_ast.specs.declared.expr.Expr.{the_lemmas}
use Rattle.bb_ast.specs.Inside.Views.{expression}
use Rattle.bb_names.specs.Inside.Checked.{module_facts, syntax}
use Rattle.bb_design.specs.NetBits.{written_bits}
use Rattle.bb_hier.specs.Inside.Weights.{any_scope, AreMarks}
use Rattle.bb_hier.proofs.MarkLemmas.{bit_written, parts_written, flat_more, flat_all}
use Rattle.bb_hier.proofs.register_bits.+marking.Goals as goal

pub mark_written-returns-in-Bit : goal.mark_written-returns-in-Bit
mark_written-returns-in-Bit t c = record {
  marks = λ bits are. on_ok_weaker c.mark_named-in-Bit.result
      (subst (λ more. AreMarks c.args.scope.now.nets.items (map (λ row. row.items) c.mark_named-in-Bit.new.marks) (bits ++ more)) (sym (bit_written (syntax (module_facts c.args.scope.now)) c.args.expr.now c.in-Bit.name c.in-Bit.index c.in-Bit.is)))
      (c.mark_named-in-Bit.ensures.marks bits are);
}

pub mark_written-returns-in-Concat : goal.mark_written-returns-in-Concat
mark_written-returns-in-Concat t c = record {
  marks = λ bits are. on_ok_weaker c.mark_all.result
      (subst (λ more. AreMarks c.args.scope.now.nets.items (map (λ row. row.items) c.mark_all.new.marks) (bits ++ more))
      (ap (λ xs. flat_map (written_bits (any_scope (syntax (module_facts c.args.scope.now)))) (map expression xs)) c.deref.ensures.value ∙ sym (parts_written (syntax (module_facts c.args.scope.now)) c.args.expr.now c.in-Concat.all c.in-Concat.is)))
      (c.mark_all.ensures.marks bits are);
}

pub mark_all-mark_written-requires : goal.mark_all-mark_written-requires
mark_all-mark_written-requires t c = (search (rules, the_lemmas), (c.requires.nets, (_, c.loop-part.invariant c.requires.marks.0 c.requires.marks.1)))

pub mark_all-loop-part-preserved : goal.mark_all-loop-part-preserved
mark_all-loop-part-preserved t c = λ bits are.
    subst (AreMarks c.args.scope.now.nets.items (map (λ row. row.items) c.mark_written.new.marks))
    (flat_more (written_bits (any_scope (syntax (module_facts c.args.scope.now)))) expression c.args.all.now c.loop-part.part-index bits c.part-item.result c.loop-part-test.true c.part-item.is)
    (c.in_ok-mark_written.ensures.marks _ (c.loop-part.invariant bits are))

pub mark_all-returns : goal.mark_all-returns
mark_all-returns t c = record {
  marks = λ bits are.
      subst (AreMarks c.args.scope.now.nets.items (map (λ row. row.items) c.loop-part.marks))
      (flat_all (written_bits (any_scope (syntax (module_facts c.args.scope.now)))) expression c.args.all.now c.loop-part.part-index bits c.loop-part-test.false)
      (c.loop-part.invariant bits are);
}
