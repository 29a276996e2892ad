use Rattle.std.proofs.Common.{◌≡◌, ◌<◌, ◌+◌, ◌^◌, suc, IfSome, List, length, get_or, set, sym, subst, ap, ap₂, ◌∙◌, arith}
use Rattle.bb_cdcl.specs.declared.trail.Entry.{Entry}
use Rattle.bb_cdcl.specs.Laws.Numbers.{moved_number}
use Rattle.bb_cdcl.specs.Inside.Trails.{moved_entry}
use Rattle.bb_cdcl.proofs.Resumed.{iterated, iterated_at, iterated_more, iterated_all}
use Rattle.bb_cdcl.proofs.trail.move_reasons.Goals as goal

pub moved_reason-requires : goal.moved_reason-requires
moved_reason-requires c =
    let f = moved_entry c.args.given c.args.more in
    let old = c.args.trail.now.entries.items in
    let e = c.index-entry.result.now in
    let within : c.loop-place.place < length old = omega (arith, c.loop-place-test.true, c.len-place-end.ensures, c.args.trail.now.entries.ok.0) in
    let same : e ≡ get_or old c.loop-place.place e = c.index-entry.ensures ∙ ap (λ es. get_or es c.loop-place.place e) c.loop-place.invariant.entries ∙ iterated_at f c.loop-place.place old e in
    subst (λ (d : Entry). IfSome d.reason (λ number. moved_number c.args.given c.args.more number < 2 ^ 64)) (sym same) (c.requires c.loop-place.place e within)

pub loop-place-preserved : goal.loop-place-preserved
loop-place-preserved c =
    let f = moved_entry c.args.given c.args.more in
    let old = c.args.trail.now.entries.items in
    let e = c.index-entry.result.now in
    let within : c.loop-place.place < length old = omega (arith, c.loop-place-test.true, c.len-place-end.ensures, c.args.trail.now.entries.ok.0) in
    let same : e ≡ get_or old c.loop-place.place e = c.index-entry.ensures ∙ ap (λ es. get_or es c.loop-place.place e) c.loop-place.invariant.entries ∙ iterated_at f c.loop-place.place old e in
    let next : suc c.loop-place.place ≡ c.loop-place.place + 1 = omega arith in
    record {
      entries = ap₂ (λ (es : List Entry) (d : Entry). set es c.loop-place.place d) c.loop-place.invariant.entries (c.moved_reason.ensures ∙ ap f same)
          ∙ iterated_more f c.loop-place.place old e within ∙ ap (λ n. iterated f n old) next;
      values = c.loop-place.invariant.values;
    }

pub returns-clause-entries : goal.returns-clause-entries
returns-clause-entries c =
    let f = moved_entry c.args.given c.args.more in
    let old = c.args.trail.now.entries.items in
    c.loop-place.invariant.entries
    ∙ iterated_all f c.loop-place.place old (omega (arith, c.loop-place-test.false, c.len-place-end.ensures, c.args.trail.now.entries.ok.0))
