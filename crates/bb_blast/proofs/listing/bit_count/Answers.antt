use Rattle.std.proofs.Common.{◌≡◌, ◌+◌, take, sym, ap, ◌∙◌, arith}
use Rattle.std.specs.Prelude.{slice_get}
use Rattle.std.specs.Option.{option_map_or}
use Rattle.bb_blast.specs.declared.template.ModuleTemplate.{ModuleTemplate}
use Rattle.bb_blast.specs.Inside.Counting.{capped}
use Rattle.bb_blast.specs.Inside.Listing.{bit_count}
use Rattle.bb_blast.proofs.CappedNumbers.{capped_small, capped_first}
use Rattle.bb_blast.proofs.ListingLoops.{fold_next}
use Rattle.bb_blast.proofs.listing.bit_count.Goals as goal

pub loop-scope-init : goal.loop-scope-init
loop-scope-init c = sym (capped_small 0 (omega arith))

pub loop-scope-preserved : goal.loop-scope-preserved
loop-scope-preserved c =
    let before = bit_count (take c.loop-scope.scope-index c.args.placed.now) c.args.templates.now in
    let bits : option_map_or (λ (o : ModuleTemplate). o.bits) (slice_get c.args.templates.now c.scope-item.result.module) 0 ≡ c.template_of.result.now.bits = ap (λ o. option_map_or (λ (o : ModuleTemplate). o.bits) o 0) c.template_of.ensures.template in
    c.after-count.ensures.number ∙ ap (λ n. capped (n + c.template_of.result.now.bits)) c.loop-scope.invariant ∙ capped_first before c.template_of.result.now.bits
    ∙ ap capped (sym (fold_next (λ n p. n + option_map_or (λ (o : ModuleTemplate). o.bits) (slice_get c.args.templates.now p.module) 0) 0 c.args.placed.now c.loop-scope.scope-index c.scope-item.result c.loop-scope-test.true c.scope-item.is
    ∙ ap (λ n. before + n) bits))
