use Rattle.std.proofs.Common.{Some, map}
use Rattle.std.specs.Prelude.{option_to_list}
use Rattle.bb_ast.specs.Syntax.{Named}
use Rattle.bb_ast.specs.Inside.Views.{named_view}
use Rattle.bb_names.specs.Sites.{pin_named}
use Rattle.bb_design.specs.Constructs.{connection, connections}
use Rattle.bb_blast.specs.Inside.BitBlasting.{module_in, IsMakeable, IsPartAt}
use Rattle.bb_lemmas.proofs.Turns.{all_flat, seen_there, zip_flat, zip_added, zip_begin, zip_end}
use Rattle.bb_blast.proofs.calling.add_named.Goals as goal

pub connected-requires-clause-makeable : goal.connected-requires-clause-makeable
connected-requires-clause-makeable c =
    let m = module_in c.args.context.checked.now c.args.inner.target in
    let i = c.requires.makeable.0 in
    let x = c.loop-port-item.result in (
      i,
      all_flat (IsMakeable c.args.context.checked.now c.args.context.module) (λ x. connection i (pin_named m x.0) x.1) (map named_view c.args.all.now) (named_view x)
          (seen_there named_view c.args.all.now c.loop-port.port-index x c.loop-port-test.true c.loop-port-item.is) c.requires.makeable.1,
    )

pub loop-port-init : goal.loop-port-init
loop-port-init c = λ called is before all. zip_begin (IsPartAt c.args.context.checked.now c.args.context.module) before c.args.parts.now.items all

pub loop-port-preserved : goal.loop-port-preserved
loop-port-preserved c = λ called is before all.
    let m = module_in c.args.context.checked.now c.args.inner.target in
    let r = IsPartAt c.args.context.checked.now c.args.context.module in
    let x = c.loop-port-item.result in
    zip_flat r named_view c.args.all.now c.loop-port.port-index x c.loop-port-test.true c.loop-port-item.is (λ x. connection called.name (pin_named m x.0) x.1) before c.loop-port.parts.items c.add_part.new.parts.items
    (c.loop-port.invariant called is before all)
    (λ b earlier. zip_added r c.loop-port.parts.items (option_to_list c.in_ok-part.part) c.add_part.new.parts.items b (connection called.name (pin_named m (named_view x).0) (named_view x).1) earlier (c.in_ok-part.ensures.part called is) c.in_ok-add_part.ensures.added)

pub returns : goal.returns
returns c = record {
  parts = λ called is before all. zip_end (IsPartAt c.args.context.checked.now c.args.context.module) (λ l. connections (Some (module_in c.args.context.checked.now c.args.inner.target)) (called.name, Named (map named_view l))) c.args.all.now c.loop-port.port-index before
      c.loop-port.parts.items c.loop-port-test.false (c.loop-port.invariant called is before all);
}
