use Rattle.std.proofs.Common.{◌≡◌, ◌+◌, Contains, ℕ, Some, map, length, refl, subst, arith}
use Rattle.std.specs.Prelude.{option_to_list}
use Rattle.std.specs.List.{enumerate_from}
use Rattle.std.proofs.lemmas.Option.{slice_get_read}
use Rattle.bb_ast.specs.Syntax.{Order}
use Rattle.bb_ast.specs.Inside.Views.{optional_view}
use Rattle.bb_names.specs.Sites.{pin_at}
use Rattle.bb_design.specs.Constructs.{connection, connections}
use Rattle.bb_blast.specs.Inside.BitBlasting.{module_in, IsMakeable, IsPartAt}
use Rattle.bb_lemmas.proofs.Places.{got-map}
use Rattle.bb_lemmas.proofs.Turns.{all_flat, zip_numbered, zip_added, zip_begin, zip_end}
use Rattle.bb_lemmas.proofs.Numbered.{at-place}
use Rattle.bb_blast.proofs.calling.add_ordered.Goals as goal

zero-plus : (i : ℕ) → 0 + i ≡ i
zero-plus i = omega arith

pub ordered-requires-clause-makeable : goal.ordered-requires-clause-makeable
ordered-requires-clause-makeable c =
    let m = module_in c.args.context.checked.now c.args.inner.target in
    let i = c.requires.makeable.0 in
    let k = c.loop-k.k in
    let place = optional_view c.index-places-k.result in
    let there = got-map optional_view c.args.places.now k c.index-places-k.result (slice_get_read c.args.places.now (length c.args.places.now) k c.index-places-k.result refl c.loop-k-test.true c.index-places-k.is) in
    (i, all_flat (IsMakeable c.args.context.checked.now c.args.context.module) (λ x. connection i (pin_at m x.0) x.1) (enumerate_from 0 (map optional_view c.args.places.now)) (k, place) (subst (λ j. Contains (enumerate_from 0 (map optional_view c.args.places.now)) (j, place)) (zero-plus k) (at-place 0 (map optional_view c.args.places.now) k place there)) c.requires.makeable.1)

pub loop-k-init : goal.loop-k-init
loop-k-init c = λ called is before all. zip_begin (IsPartAt c.args.context.checked.now c.args.context.module) before c.args.parts.now.items all

pub loop-k-preserved : goal.loop-k-preserved
loop-k-preserved c = λ called is before all.
    let m = module_in c.args.context.checked.now c.args.inner.target in
    let r = IsPartAt c.args.context.checked.now c.args.context.module in
    zip_numbered r optional_view c.args.places.now c.loop-k.k c.index-places-k.result c.loop-k-test.true c.index-places-k.is (λ x. connection called.name (pin_at m x.0) x.1) before c.loop-k.parts.items c.add_part.new.parts.items
    (c.loop-k.invariant called is before all)
    (λ b earlier. zip_added r c.loop-k.parts.items (option_to_list c.in_ok-part.part) c.add_part.new.parts.items b (connection called.name (pin_at m c.loop-k.k) (optional_view c.index-places-k.result)) earlier (c.in_ok-part.ensures.part called is) c.in_ok-add_part.ensures.added)

pub returns : goal.returns
returns c = record {
  parts = λ called is before all. zip_end (IsPartAt c.args.context.checked.now c.args.context.module) (λ l. connections (Some (module_in c.args.context.checked.now c.args.inner.target)) (called.name, Order (map optional_view l))) c.args.places.now c.loop-k.k before
      c.loop-k.parts.items c.loop-k-test.false (c.loop-k.invariant called is before all);
}
