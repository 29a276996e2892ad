use Rattle.std.proofs.Common.{◌++◌, map, length, refl, sym, subst}
use Rattle.std.specs.Prelude.{All, Option}
use Rattle.std.specs.List.{AllZip, flat_map}
use Rattle.std.proofs.lemmas.Option.{slice_get_read}
use Rattle.bb_ast.specs.Syntax.{PlainModule}
use Rattle.bb_ast.specs.Inside.Views.{call_view}
use Rattle.bb_names.specs.Inside.Checked.{syntax}
use Rattle.bb_names.specs.Sites.{module_named}
use Rattle.bb_design.specs.Constructs.{connections}
use Rattle.bb_design.specs.Hierarchy.{instance_of}
use Rattle.bb_blast.specs.Inside.BitBlasting.{IsMakeable, IsPartAt}
use Rattle.bb_lemmas.proofs.Places.{got-map}
use Rattle.bb_lemmas.proofs.Turns.{all_flat, seen_there, zip_flat, zip_begin, zip_end}
use Rattle.bb_blast.proofs.calling.add_calls.Goals as goal

pub add_conns-requires-clause-makeable : goal.add_conns-requires-clause-makeable
add_conns-requires-clause-makeable c =
    let checked = c.args.context.checked.now in
    let call = c.index-calls-k.result in
    let n = c.requires.makeable.0 in
    let k = c.loop-k.k in
    let there = got-map (instance_of n) (map call_view c.args.calls.now) k (call_view call) (got-map call_view c.args.calls.now k call (slice_get_read c.args.calls.now (length c.args.calls.now) k call refl c.loop-k-test.true c.index-calls-k.is)) in
    let is = c.requires.makeable.1.each k (instance_of n (call_view call)) there in
    let here = all_flat (IsMakeable checked c.args.context.module) (connections (module_named (map syntax checked) n)) (map call_view c.args.calls.now) (call_view call) (seen_there call_view c.args.calls.now k call c.loop-k-test.true c.index-calls-k.is) c.requires.makeable.2 in
    (call.name, subst (λ (o : Option PlainModule). All (IsMakeable checked c.args.context.module) (connections o (call_view call))) is.meant here)

pub loop-k-init : goal.loop-k-init
loop-k-init c = λ n are before all. zip_begin (IsPartAt c.args.context.checked.now c.args.context.module) before c.args.parts.now.items all

pub loop-k-preserved : goal.loop-k-preserved
loop-k-preserved c = λ n are before all.
    let checked = c.args.context.checked.now in
    let r = IsPartAt checked c.args.context.module in
    let call = c.index-calls-k.result in
    let k = c.loop-k.k in
    let called = instance_of n (call_view call) in
    let there = got-map (instance_of n) (map call_view c.args.calls.now) k (call_view call) (got-map call_view c.args.calls.now k call (slice_get_read c.args.calls.now (length c.args.calls.now) k call refl c.loop-k-test.true c.index-calls-k.is)) in
    let is = are.each k called there in
    zip_flat r call_view c.args.calls.now k call c.loop-k-test.true c.index-calls-k.is (connections (module_named (map syntax checked) n)) before c.loop-k.parts.items c.add_conns.new.parts.items (c.loop-k.invariant n are before all)
    (λ b earlier. subst (λ (o : Option PlainModule). AllZip r c.add_conns.new.parts.items (b ++ connections o (call_view call))) (sym is.meant) (c.in_ok-add_conns.ensures.parts called is b earlier))

pub returns : goal.returns
returns c = record {
  parts = λ n are before all. zip_end (IsPartAt c.args.context.checked.now c.args.context.module) (λ l. flat_map (connections (module_named (map syntax c.args.context.checked.now) n)) (map call_view l)) c.args.calls.now c.loop-k.k before c.loop-k.parts.items
      c.loop-k-test.false (c.loop-k.invariant n are before all);
}
