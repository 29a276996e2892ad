use Rattle.std.proofs.Common.{◌≡◌, ◌≤◌, ℕ, List, length, map, take, drop, get_or, refl, sym, ap, ◌∙◌, subst, arith, length-append, ◌++◌}
use Rattle.std.specs.Prelude.{All, min, slice_get}
use Rattle.std.specs.List.{AllZip, flat_map}
use Rattle.std.proofs.lemmas.List.{take-map, drop-map, take_min, drop_min, length-map}
use Rattle.std.proofs.lemmas.List.Folds.{length-flat_map-take}
use Rattle.bb_ast.specs.declared.module.Gate.{Gate}
use Rattle.bb_ast.specs.declared.expr.Expr.{Expr}
use Rattle.bb_ast.specs.Gates.{output_count}
use Rattle.bb_ast.specs.Syntax.{Expression}
use Rattle.bb_ast.specs.Inside.Views.{expression}
use Rattle.bb_names.specs.Inside.Checked.{module_facts}
use Rattle.bb_expr.specs.Inside.Fit.{AreFit}
use Rattle.bb_expr.specs.Inside.Occurrences.{OccursAt}
use Rattle.bb_design.specs.Contexts.{width_of, made_in}
use Rattle.bb_design.specs.Drivers.{terminal_terms}
use Rattle.bb_design.specs.GateFunctions.{gate_cells}
use Rattle.bb_design.specs.Hierarchy.{Scope}
use Rattle.bb_design.specs.NetBits.{written_bits}
use Rattle.bb_blast.specs.Inside.ModuleTemplates.{AreBitsIn, IsWholeIn}
use Rattle.bb_blast.specs.Inside.BitBlasting.{module_in, scope_of}
use Rattle.bb_blast.proofs.ModulePlaces.{at_some, bits_meant}
use Rattle.bb_blast.proofs.gating.gate_part.Goals as goal

-- the outputs and the inputs among the terminals
prefixes : (gate : Gate) (terms prefix : List Expr) (n : ℕ) → n ≡ min (output_count gate (length terms)) (length terms) → prefix ≡ take n terms → map expression prefix ≡ take (output_count gate (length (map expression terms))) (map expression terms)
prefixes gate terms prefix n is e =
    ap (map expression) (e ∙ ap (λ i. take i terms) is ∙ take_min (output_count gate (length terms)) terms) ∙ sym (take-map expression (output_count gate (length terms)) terms)
    ∙ ap (λ i. take (output_count gate i) (map expression terms)) (sym (length-map terms expression))

backs : (gate : Gate) (terms back : List Expr) (n : ℕ) → n ≡ min (output_count gate (length terms)) (length terms) → back ≡ drop n terms → map expression back ≡ drop (output_count gate (length (map expression terms))) (map expression terms)
backs gate terms back n is e =
    ap (map expression) (e ∙ ap (λ i. drop i terms) is ∙ drop_min (output_count gate (length terms)) terms) ∙ sym (drop-map expression (output_count gate (length terms)) terms)
    ∙ ap (λ i. drop (output_count gate i) (map expression terms)) (sym (length-map terms expression))

-- each input makes no more cells than the gate
inputs_few : (s : Scope) (gate : Gate) (ins : List Expression) (most : ℕ) → length (flat_map (λ e. (made_in s e (width_of s e)).cells) ins ++ gate_cells gate (terminal_terms s ins)) ≤ most
    → All (λ e. length (made_in s e (width_of s e)).cells ≤ most) ins
inputs_few s gate ins most few i d lt =
    let all = flat_map (λ e. (made_in s e (width_of s e)).cells) ins in
    omega (arith, few, length-append all (gate_cells gate (terminal_terms s ins)), length-flat_map-take (λ (e : Expression). (made_in s e (width_of s e)).cells) ins i d lt)

pub lefts_bits-requires-clause-fit : goal.lefts_bits-requires-clause-fit
lefts_bits-requires-clause-fit c =
    let f = module_facts c.scope_at-scope.result.now in
    let fits = c.requires.makeable.fits.0 in
    subst (All (AreFit f)) (sym (prefixes c.args.gate c.args.terms.now c.split_at.result.0.now c.output_count.result c.output_count.ensures.outputs c.split_at.ensures.front))
    (λ i d lt. at_some (λ m. AreFit m (get_or (take (output_count c.args.gate (length (map expression c.args.terms.now))) (map expression c.args.terms.now)) i d)) (slice_get c.args.context.checked.now c.args.context.module) f c.scope_at-scope.ensures.there (fits i d lt))

pub gate_inputs-requires-clause-occurs : goal.gate_inputs-requires-clause-occurs
gate_inputs-requires-clause-occurs c =
    subst (All (OccursAt c.args.context.checked.now c.args.context.module)) (sym (backs c.args.gate c.args.terms.now c.split_at.result.1.now c.output_count.result c.output_count.ensures.outputs c.split_at.ensures.back)) c.requires.makeable.fits.1

pub gate_inputs-requires-clause-few : goal.gate_inputs-requires-clause-few
gate_inputs-requires-clause-few c =
    let s = scope_of (module_in c.args.context.checked.now c.args.context.module) in
    subst (All (λ e. length (made_in s e (width_of s e)).cells ≤ 2000000)) (sym (backs c.args.gate c.args.terms.now c.split_at.result.1.now c.output_count.result c.output_count.ensures.outputs c.split_at.ensures.back))
    (inputs_few s c.args.gate (drop (output_count c.args.gate (length (map expression c.args.terms.now))) (map expression c.args.terms.now)) 2000000 c.requires.makeable.few)

pub returns : goal.returns
returns c =
    let m = module_in c.args.context.checked.now c.args.context.module in
    record {
      part = (
        refl,
        subst (λ l. AreBitsIn m c.in_ok-outs.outs.items (λ s. flat_map (written_bits s) l)) (prefixes c.args.gate c.args.terms.now c.split_at.result.0.now c.output_count.result c.output_count.ensures.outputs c.split_at.ensures.front)
            (bits_meant c.args.context.checked.now c.args.context.module (module_facts c.scope_at-scope.result.now) c.scope_at-scope.ensures.there c.in_ok-outs.outs.items (λ s. flat_map (written_bits s) (map expression c.split_at.result.0.now)) c.in_ok-outs.ensures.bits),
        subst (AllZip (IsWholeIn m) c.in_ok-ins.ins.items) (backs c.args.gate c.args.terms.now c.split_at.result.1.now c.output_count.result c.output_count.ensures.outputs c.split_at.ensures.back) c.in_ok-ins.ensures.made,
      );
    }
