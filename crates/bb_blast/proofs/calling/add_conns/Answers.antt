use Rattle.std.proofs.Common.{◌≡◌, ◌++◌, Some, map, sym, ap, ◌∙◌, subst}
use Rattle.std.specs.List.{AllZip}
use Rattle.std.specs.Result.{OnOk}
use Rattle.bb_ast.specs.Syntax.{PlainConns, Order, Named}
use Rattle.bb_ast.specs.Inside.Views.{optional_view, named_view, conns_view}
use Rattle.bb_design.specs.Constructs.{connections}
use Rattle.bb_blast.specs.Inside.BitBlasting.{module_in, IsPartAt}
use Rattle.bb_blast.proofs.calling.add_conns.Goals as goal

pub returns-in-Order : goal.returns-in-Order
returns-in-Order c =
    let m = module_in c.args.context.checked.now c.args.inner.target in
    let is_order : Order (map optional_view c.deref.result.now) ≡ conns_view c.args.conns.now = ap (λ l. Order (map optional_view l)) c.deref.ensures.value ∙ sym (ap conns_view c.in-Order.is) in
    record {
      parts = λ called is before all. subst (λ (x : PlainConns). OnOk c.add_ordered.result (AllZip (IsPartAt c.args.context.checked.now c.args.context.module) c.add_ordered.new.parts.items (before ++ connections (Some m) (called.name, x)))) is_order
          (c.add_ordered.ensures.parts called is before all);
    }

pub returns-in-Named : goal.returns-in-Named
returns-in-Named c =
    let m = module_in c.args.context.checked.now c.args.inner.target in
    let is_named : Named (map named_view c.deref-in-Named.result.now) ≡ conns_view c.args.conns.now = ap (λ l. Named (map named_view l)) c.deref-in-Named.ensures.value ∙ sym (ap conns_view c.in-Named.is) in
    record {
      parts = λ called is before all. subst (λ (x : PlainConns). OnOk c.add_named.result (AllZip (IsPartAt c.args.context.checked.now c.args.context.module) c.add_named.new.parts.items (before ++ connections (Some m) (called.name, x)))) is_named
          (c.add_named.ensures.parts called is before all);
    }
