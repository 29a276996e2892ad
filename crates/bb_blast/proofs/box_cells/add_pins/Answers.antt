use Rattle.std.proofs.Common.{length, ap, ap₂, ◌∙◌, arith, ◌++◌, ◌∷◌, []}
use Rattle.std.proofs.lemmas.List.{with_items_is}
use Rattle.bb_blast.specs.Inside.Counting.{capped, after}
use Rattle.bb_blast.specs.Inside.Listing.{boxed_view, given_all, in_row}
use Rattle.bb_blast.proofs.ListingLoops.{box_put}
use Rattle.bb_blast.proofs.box_cells.add_pins.Goals as goal

pub returns : goal.returns
returns c =
    let given = c.give_in_row.ensures.given ∙ ap₂ (λ s l. given_all s (in_row c.args.first l c.next_place-base.result)) c.deref_mut.ensures.value c.deref-4.ensures.value in
    let sources = with_items_is c.args.boxed.now.sources c.give_in_row.new.sources (omega (arith, c.give_in_row.auto.sources, ap length c.deref_mut.ensures.value, c.args.boxed.now.sources.ok.0)) ∙ given in
    record {
      added = box_put c.args.layout.nets c.args.layout.others c.args.first (boxed_view c.args.boxed.now) c.args.template.now _ _ _ c.next_place-base.result c.count_of-b.result c.count_of.result c.after.result
          (c.next_place-base.ensures.place ∙ ap (λ l. after c.args.layout.others (length l)) c.deref.ensures.value) (c.count_of-b.ensures.count ∙ ap (λ l. capped (length l)) c.deref-2.ensures.value)
          (c.count_of.ensures.count ∙ ap (λ l. capped (length l)) c.deref-3.ensures.value) c.after.ensures.number
          c.in_ok-add_outputs.ensures.added sources
          (c.in_ok-push.ensures.items ∙ ap (λ p. c.args.boxed.now.boxes.items ++ p ∷ []) c.in_ok-pins.ensures.pins);
    }
