use Rattle.std.proofs.Common.{◌≡◌, [], ◌∷◌, ◌++◌, length, rules, sym, ap, ◌∙◌, subst, arith, append_assoc, length-append}
use Rattle.std.proofs.lemmas.Grind.{common_steps}
use Rattle.std.proofs.lemmas.Option.{slice_get-get_or}
use Rattle.bb_elab.specs.Inside.CopyEnds.{AreEnds}
use Rattle.bb_elab.proofs.NamedRegisters.{registers_turn, registers_end}
use Rattle.bb_elab.proofs.Tallies.{written_back}
use Rattle.bb_elab.proofs.register_names.registers.Goals as goal

pub register-register-requires-clause-ends : goal.register-register-requires-clause-ends
register-register-requires-clause-ends c = subst (AreEnds c.args.list.now) (sym c.deref_mut.ensures.value) c.loop-text.invariant.ends

pub loop-text-preserved : goal.loop-text-preserved
loop-text-preserved c =
    let seen = c.loop-text.yielded in
    let n = c.in-Some.text in
    let rest = c.next.new.self.rest.items in
    let split : c.loop-text.text-iterator.rest.items ≡ n ∷ rest = search rules in
    let all : (seen ++ n ∷ []) ++ rest ≡ c.args.texts.items = append_assoc seen (n ∷ []) rest ∙ ap (λ l. seen ++ l) (sym split) ∙ c.loop-text.invariant.all in
    let place : c.len.result ≡ length seen = omega (arith, c.len.ensures, c.loop-text.regs.ok, c.loop-text.invariant.long) in
    let whole = ap length all in
    let some = length-append (seen ++ n ∷ []) rest in
    let more = length-append seen (n ∷ []) in
    record {
      all = all;
      ends = subst (AreEnds c.args.list.now)
          (sym (written_back c.loop-text.ends.len c.loop-text.ends.items c.register-register.new.ends (c.register-register.auto.ends ∙ ap length c.deref_mut.ensures.value) c.loop-text.ends.ok.0)) c.register-register.ensures.ends;
      long = omega (arith, ap length c.in_ok-push.ensures.items, length-append c.loop-text.regs.items (c.register-register.result ∷ []), c.loop-text.invariant.long, more);
      each = λ d net numbers bounded once are first limit stored texts.
          registers_turn d c.args.stored.now seen n rest c.args.texts.items all c.len.result place _ (slice_get-get_or c.args.stored.now c.len.result _ (omega (arith, place, whole, some, more, c.requires.long))) stored texts
          c.loop-text.regs.items c.push.new.self.items c.register-register.result (c.loop-text.invariant.each d net numbers bounded once are first limit stored texts) (c.register-register.ensures.register d net numbers bounded once are first limit) c.in_ok-push.ensures.items;
    }

pub returns : goal.returns
returns c = record {
  registers = λ d net numbers bounded once are first limit stored texts.
      let none : c.loop-text.text-iterator.rest.items ≡ [] = grind (arith, common_steps, c.in-None.ensures.steps.0) in
      registers_end d c.loop-text.yielded c.loop-text.text-iterator.rest.items c.args.texts.items c.loop-text.invariant.all none texts c.loop-text.regs.items (c.loop-text.invariant.each d net numbers bounded once are first limit stored texts);
}
