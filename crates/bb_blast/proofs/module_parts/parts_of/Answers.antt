use Rattle.std.proofs.Common.{◌≡◌, ◌+◌, ◌<◌, ℕ, [], List, Contains, get_or, map, take, length, refl, sym, ap, ◌∙◌, subst, arith, length-append}
use Rattle.std.specs.List.{AllZip, flat_map}
use Rattle.std.proofs.lemmas.List.{take-map}
use Rattle.std.proofs.lemmas.Option.{slice_get_read}
use Rattle.bb_ast.specs.declared.module.Item.{Item}
use Rattle.bb_ast.specs.Syntax.{PlainItem, PlainModule}
use Rattle.bb_ast.specs.Inside.Views.{body_view, item_view}
use Rattle.bb_names.specs.Inside.Checked.{module_facts, syntax}
use Rattle.bb_design.specs.Constructs.{body_constructs}
use Rattle.bb_design.specs.Hierarchy.{instances_in}
use Rattle.bb_blast.specs.Inside.BitBlasting.{AreCallsAt, IsMakeable, IsPartAt, module_in}
use Rattle.bb_lemmas.proofs.Places.{got-map}
use Rattle.bb_blast.proofs.ModuleItems.{calls_in_item, item_occurs}
use Rattle.bb_lemmas.proofs.Turns.{all_flat, seen_there, flat-more, zip_flat, zip_end}
use Rattle.bb_blast.proofs.module_parts.parts_of.Goals as goal

-- the items as the code and as the definitions see them
items-are : (m n : PlainModule) (items seen : List Item) → m ≡ n → n.items ≡ map item_view items → seen ≡ items → m.items ≡ map item_view seen
items-are m n items seen meant are is = ap (λ (x : PlainModule). x.items) meant ∙ are ∙ ap (map item_view) (sym is)

pub loop-item-init : goal.loop-item-init
loop-item-init c = record { count = refl; occurs = subst (λ l. AllZip (IsPartAt c.args.context.checked.now c.args.context.module) l []) (sym c.new-parts.ensures.items) tt }

pub add_body-requires-clause-calls : goal.add_body-requires-clause-calls
add_body-requires-clause-calls c =
    let seen = c.deref-item-items.result.now in
    let item = c.item-item.result in
    let i = c.loop-item.item-index in
    let are = items-are (module_in c.args.context.checked.now c.args.context.module) (syntax (module_facts c.scope_at.result.now)) c.scope_at.result.now.module.items.items seen c.scope_at.ensures.meant refl c.deref-item-items.ensures.value in
    calls_in_item c.args.context.checked.now c.args.context.module c.args.targets.modules.now (map item_view seen) i (item_view item) c.loop-item.first (got-map item_view seen i item (slice_get_read seen (length seen) i item refl c.loop-item-test.true c.item-item.is))
    (subst (λ items. AreCallsAt c.args.context.checked.now c.args.context.module c.args.targets.modules.now 0 (flat_map (λ (x : PlainItem). instances_in x.body) items)) are c.requires.calls)
    (c.loop-item.invariant.count ∙ ap (λ l. length (flat_map (λ (x : PlainItem). instances_in x.body) l)) (sym (take-map item_view i seen)))

pub add_body-requires-clause-occurs : goal.add_body-requires-clause-occurs
add_body-requires-clause-occurs c =
    let seen = c.deref-item-items.result.now in
    let item = c.item-item.result in
    let are = items-are (module_in c.args.context.checked.now c.args.context.module) (syntax (module_facts c.scope_at.result.now)) c.scope_at.result.now.module.items.items seen c.scope_at.ensures.meant refl c.deref-item-items.ensures.value in
    item_occurs c.args.context.checked.now c.args.context.module (module_facts c.scope_at.result.now) c.scope_at.ensures.there (item_view item) (subst (λ l. Contains l (item_view item)) (sym are) (seen_there item_view seen c.loop-item.item-index item c.loop-item-test.true c.item-item.is))

pub add_body-requires-clause-makeable : goal.add_body-requires-clause-makeable
add_body-requires-clause-makeable c =
    let seen = c.deref-item-items.result.now in
    let item = c.item-item.result in
    let are = items-are (module_in c.args.context.checked.now c.args.context.module) (syntax (module_facts c.scope_at.result.now)) c.scope_at.result.now.module.items.items seen c.scope_at.ensures.meant refl c.deref-item-items.ensures.value in
    all_flat (IsMakeable c.args.context.checked.now c.args.context.module) (λ (x : PlainItem). body_constructs (map syntax c.args.context.checked.now) x.body) (module_in c.args.context.checked.now c.args.context.module).items (item_view item)
    (subst (λ l. Contains l (item_view item)) (sym are) (seen_there item_view seen c.loop-item.item-index item c.loop-item-test.true c.item-item.is)) c.requires.makeable

counted : (first n : ℕ) (seen : List Item) (i : ℕ) (item : Item) → i < length seen → item ≡ get_or seen i item → first ≡ length (flat_map (λ (x : PlainItem). instances_in x.body) (map item_view (take i seen))) → n ≡ length (instances_in (body_view item.body))
    → first + n ≡ length (flat_map (λ (x : PlainItem). instances_in x.body) (map item_view (take (i + 1) seen)))
counted first n seen i item lt is f e =
    let before = flat_map (λ (x : PlainItem). instances_in x.body) (map item_view (take i seen)) in
    omega (arith, f, e, length-append before (instances_in (body_view item.body)), ap length (flat-more (λ (x : PlainItem). instances_in x.body) item_view seen i item lt is))

pub overflow_add-first : goal.overflow_add-first
overflow_add-first c =
    let seen = c.deref-item-items.result.now in
    let item = c.item-item.result in
    let i = c.loop-item.item-index in
    let are = items-are (module_in c.args.context.checked.now c.args.context.module) (syntax (module_facts c.scope_at.result.now)) c.scope_at.result.now.module.items.items seen c.scope_at.ensures.meant refl c.deref-item-items.ensures.value in
    let here = calls_in_item c.args.context.checked.now c.args.context.module c.args.targets.modules.now (map item_view seen) i (item_view item) c.loop-item.first (got-map item_view seen i item (slice_get_read seen (length seen) i item refl c.loop-item-test.true c.item-item.is))
    (subst (λ items. AreCallsAt c.args.context.checked.now c.args.context.module c.args.targets.modules.now 0 (flat_map (λ (x : PlainItem). instances_in x.body) items)) are c.requires.calls)
    (c.loop-item.invariant.count ∙ ap (λ l. length (flat_map (λ (x : PlainItem). instances_in x.body) l)) (sym (take-map item_view i seen))) in
    omega (arith, here.room, c.requires.few, c.instance_count-first.ensures.count)

pub loop-item-preserved : goal.loop-item-preserved
loop-item-preserved c =
    let seen = c.deref-item-items.result.now in
    let item = c.item-item.result in
    let i = c.loop-item.item-index in
    let r = IsPartAt c.args.context.checked.now c.args.context.module in
    let constructs = λ (x : PlainItem). body_constructs (map syntax c.args.context.checked.now) x.body in
    record {
      count = counted c.loop-item.first c.instance_count-first.result seen i item c.loop-item-test.true c.item-item.is c.loop-item.invariant.count c.instance_count-first.ensures.count;
      occurs = zip_flat r item_view seen i item c.loop-item-test.true c.item-item.is constructs [] c.loop-item.parts.items c.add_body.new.parts.items c.loop-item.invariant.occurs c.in_ok-add_body.ensures.parts;
    }

pub returns : goal.returns
returns c =
    let seen = c.deref-item-items.result.now in
    let r = IsPartAt c.args.context.checked.now c.args.context.module in
    let are = items-are (module_in c.args.context.checked.now c.args.context.module) (syntax (module_facts c.scope_at.result.now)) c.scope_at.result.now.module.items.items seen c.scope_at.ensures.meant refl c.deref-item-items.ensures.value in
    let constructs = λ (x : PlainItem). body_constructs (map syntax c.args.context.checked.now) x.body in
    record {
      parts = subst (λ l. AllZip r c.loop-item.parts.items (flat_map constructs l)) (sym are) (zip_end r (λ l. flat_map constructs (map item_view l)) seen c.loop-item.item-index [] c.loop-item.parts.items c.loop-item-test.false c.loop-item.invariant.occurs);
    }
