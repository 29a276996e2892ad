use Rattle.std.proofs.Common.{◌≡◌, ◌∷◌, [], length, refl, sym, ap, ◌∙◌, subst, arith}
use Rattle.bb_ast.specs.Inside.Views.{expression}
use Rattle.bb_names.specs.Inside.Checked.{module_facts}
use Rattle.bb_names.specs.Widths.{Ranges, own_width}
use Rattle.bb_design.specs.NetBits.{written_bits}
use Rattle.bb_blast.specs.Inside.Logic.{IsLogicOf}
use Rattle.bb_blast.specs.Inside.ModuleTemplates.{AreBitsIn}
use Rattle.bb_blast.specs.Inside.BitBlasting.{module_in}
use Rattle.bb_blast.proofs.LeftBits.{bits_long}
use Rattle.bb_lemmas.proofs.Places.{only_one}
use Rattle.bb_blast.proofs.ModulePlaces.{ranges-are, beside_context, bits_meant}
use Rattle.bb_blast.proofs.assigning.register.Goals as goal

pub index-clock-requires : goal.index-clock-requires
index-clock-requires c =
    let f = module_facts c.scope_at-scope.result.now in
    let clock = expression c.args.always.now.clock in
    let bits = c.in_ok-left_bits.field-0.items in
    let are = bits_meant c.args.context.checked.now c.args.context.module f c.scope_at-scope.ensures.there bits (λ s. written_bits s clock) c.in_ok-left_bits.ensures.bits in
    let one : length bits ≡ 1 = bits_long (module_in c.args.context.checked.now c.args.context.module) bits (λ s. written_bits s clock) are ∙ c.requires.makeable.fits.2.one in
    omega (arith, one)

pub returns : goal.returns
returns c =
    let checked = c.args.context.checked.now in
    let k = c.args.context.module in
    let f = module_facts c.scope_at-scope.result.now in
    let there = c.scope_at-scope.ensures.there in
    let left = expression c.args.always.now.left in
    let clock = expression c.args.always.now.clock in
    let bits = c.in_ok-left_bits.field-0.items in
    let are = bits_meant checked k f there bits (λ s. written_bits s clock) c.in_ok-left_bits.ensures.bits in
    let one : length bits ≡ 1 = bits_long (module_in checked k) bits (λ s. written_bits s clock) are ∙ c.requires.makeable.fits.2.one in
    let only : bits ≡ c.index-clock.result.now ∷ [] = only_one bits c.index-clock.result.now one ∙ ap (λ n. n ∷ []) (sym c.index-clock.ensures) in
    record {
      part = (
        bits_meant checked k f there c.in_ok-left.left.items (λ s. written_bits s left) c.in_ok-left.ensures.bits,
        (
          c.in_ok-steps.steps,
          beside_context checked k f there c.in_ok-steps.steps left (expression c.args.always.now.right) c.own_width-least.result (c.own_width-least.ensures ∙ ap (λ (r : Ranges). own_width r left) (ranges-are checked k f there)) c.in_ok-steps.ensures.made,
          subst (λ n. IsLogicOf n c.in_ok-steps.steps c.in_ok-right.right) (omega (arith, c.len.ensures, c.in_ok-left.left.ok)) c.in_ok-right.ensures.logic,
        ),
        subst (λ l. AreBitsIn (module_in checked k) l (λ s. written_bits s clock)) only are,
        refl,
      );
    }
