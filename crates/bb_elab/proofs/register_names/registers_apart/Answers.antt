use Rattle.std.proofs.Common.{map, refl, ap, ◌∙◌, inr}
use Rattle.bb_blast.specs.declared.stored.Stored.{Stored}
use Rattle.bb_design.specs.Refusals.{register_texts}
use Rattle.bb_elab.proofs.NamedBits.{reported_again, never_again}
use Rattle.bb_elab.proofs.NamedRegisters.{numbers_below, texts_are}
use Rattle.bb_elab.proofs.register_names.registers_apart.Goals as goal

pub bit_names-requires : goal.bit_names-requires
bit_names-requires c =
    let d = c.requires.design in
    let numbers = c.deref-2.ensures.value ∙ c.in_ok-numbers.ensures.numbers ∙ ap (map (λ (x : Stored). x.bit)) c.deref.ensures.value in
    record { design = (d.0, d.1, numbers_below d.0 c.args.elaborated.now.stored.items d.1.elaborated.registers c.deref-2.result.now numbers) }

pub returns-in-Some-clause-fault : goal.returns-in-Some-clause-fault
returns-in-Some-clause-fault c = inr (λ d has.
    let numbers = c.deref-2.ensures.value ∙ c.in_ok-numbers.ensures.numbers ∙ ap (map (λ (x : Stored). x.bit)) c.deref.ensures.value in
    let texts = texts_are d c.args.elaborated.now.stored.items has.elaborated.registers c.deref-2.result.now numbers c.in_ok-texts.texts.items (c.in_ok-texts.ensures.names d has) in
    record { name = c.in-Some.name; is = refl; reported = reported_again c.in_ok-name.field-0 c.in-Some.name c.in-Some.is c.deref-3.result.now (register_texts d) (c.deref-3.ensures.value ∙ texts) c.in_ok-name.ensures.some })

pub returns-clause-texts : goal.returns-clause-texts
returns-clause-texts c = λ d has.
    let numbers = c.deref-2.ensures.value ∙ c.in_ok-numbers.ensures.numbers ∙ ap (map (λ (x : Stored). x.bit)) c.deref.ensures.value in
    texts_are d c.args.elaborated.now.stored.items has.elaborated.registers c.deref-2.result.now numbers c.in_ok-texts.texts.items (c.in_ok-texts.ensures.names d has)

pub returns-clause-apart : goal.returns-clause-apart
returns-clause-apart c = λ d has.
    let numbers = c.deref-2.ensures.value ∙ c.in_ok-numbers.ensures.numbers ∙ ap (map (λ (x : Stored). x.bit)) c.deref.ensures.value in
    let texts = texts_are d c.args.elaborated.now.stored.items has.elaborated.registers c.deref-2.result.now numbers c.in_ok-texts.texts.items (c.in_ok-texts.ensures.names d has) in
    never_again c.in_ok-name.field-0 c.in-None.is c.deref-3.result.now (register_texts d) (c.deref-3.ensures.value ∙ texts) c.in_ok-name.ensures.none
