use Rattle.std.proofs.Common.{◌≡◌, ◌<◌, length, vec_len, arith}
use Rattle.std.proofs.lemmas.Result.{IfOk-weaker}
use Rattle.bb_frontend.specs.declared.limit.TheConstants.{READ_LIMIT}
use Rattle.bb_ladder.specs.Answers.{SpecLong, SpecRead}
use Rattle.bb_ladder.proofs.running.read_spec.Goals as goal

pub returns-in-Ok-clause-answer : goal.returns-in-Ok-clause-answer
returns-in-Ok-clause-answer g c =
    let all : c.len.result ≡ vec_len c.in-Ok.text.value = rw c.deref.ensures at c.len.ensures in
    let long : length c.in-Ok.text.value.items ≡ READ_LIMIT = omega (arith, all, c.if-len-eq-READ_LIMIT.true, c.in-Ok.text.value.ok) in
    IfOk-weaker _ _ _ (λ a e. SpecLong c.in-Ok.text.value.items c.in-Ok.ensures.bytes long c.in-Ok.ensures.reads e.0 e.1) c.say-in-Ok.ensures

pub returns-in-Ok-2-clause-answer : goal.returns-in-Ok-2-clause-answer
returns-in-Ok-2-clause-answer g c =
    let all : c.len.result ≡ vec_len c.in-Ok.text.value = rw c.deref.ensures at c.len.ensures in
    let short : length c.in-Ok.text.value.items < READ_LIMIT = omega (arith, all, c.if-len-eq-READ_LIMIT.false, c.in-Ok.text.value.ok, c.in-Ok.ensures.within) in
    let read = rw (c.read.ensures.holds c.args.pair_request.now.imp.now, c.deref-in-Ok-2-2.ensures.value, c.deref-in-Ok-2.ensures) at c.read_imp.ensures.answer in
    IfOk-weaker _ _ _ (λ a e. SpecRead c.in-Ok.text.value.items _ c.in-Ok.ensures.bytes short c.in-Ok.ensures.reads e) read
