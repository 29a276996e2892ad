-- The numbers of the bits of ports of a scope.
use Rattle.std.proofs.Common.{◌≡◌, ℕ, ◌+◌, ◌<◌, ◌^◌, All, List, [], ◌∷◌, map, length, Some, refl, sym, ap, ap₂, ◌∙◌, subst, arith}
use Rattle.std.specs.Prelude.{slice_get}
use Rattle.std.proofs.lemmas.List.{get_or-map, length-map}
use Rattle.std.proofs.lemmas.Option.{slice_get_within, same_Some}
use Rattle.bb_ast.specs.Syntax.{PlainModule}
use Rattle.bb_net.specs.Pairs.{BoxTexts}
use Rattle.bb_elab.specs.declared.elaboration.Elaborated.{Elaborated}
use Rattle.bb_blast.specs.declared.template.ModuleTemplate.{ModuleTemplate}
use Rattle.bb_blast.specs.declared.placed.Placed.{Placed}
use Rattle.bb_bits.specs.Inside.Places.{numbers_from, AreAt}
use Rattle.bb_design.specs.Hierarchy.{Design, Scope, root, scopes}
use Rattle.bb_design.specs.NetBits.{Bit, net_order, input_bits, output_bits, top_inputs, top_outputs, scope_bits}
use Rattle.bb_blast.specs.Inside.ModuleTemplates.{IsModuleTemplate}
use Rattle.bb_blast.specs.Inside.Placements.{IsScopeAt}
use Rattle.bb_elab.specs.Inside.Stages.{IsElaborated}
use Rattle.bb_implements.specs.Implements.{box_texts}
use Rattle.bb_design.specs.Texts.{path_text, pin_text}
use Rattle.bb_design.specs.Refusals.{IsSmallDesign}
use Rattle.bb_lemmas.proofs.AtPlaces.{at_below}
use Rattle.bb_lemmas.proofs.FlatPlaces.{at_flat}

module _ (text : List PlainModule) (d : Design) (g : Elaborated) (has : IsElaborated text d g) (k : ℕ) (s : Scope) (at : IsScopeAt d k s) (p : Placed) (there : slice_get g.placed.items k ≡ Some p) where
  made : (o : ModuleTemplate) × (slice_get g.templates.items p.module ≡ Some o) × IsModuleTemplate d.text s.source o
  made = has.elaborated.templated k s p at there

  pub module_within : p.module < length g.templates.items
  module_within = slice_get_within g.templates.items p.module made.0 made.1

  module _ (o : ModuleTemplate) (kept : slice_get g.templates.items p.module ≡ Some o) where
    is_template : IsModuleTemplate d.text s.source o
    is_template = subst (IsModuleTemplate d.text s.source) (same_Some made.0 o (sym made.1 ∙ kept)) made.2

    pub inputs_at : AreAt (net_order d) (numbers_from p.first o.inputs.items) (input_bits s)
    inputs_at = at_flat scope_bits (scopes d) k s at p.first (has.elaborated.scopes.each k s p at there).first o.inputs.items (input_bits s) (is_template.inputs s.path)

    pub outputs_at : AreAt (net_order d) (numbers_from p.first o.outputs.items) (output_bits s)
    outputs_at = at_flat scope_bits (scopes d) k s at p.first (has.elaborated.scopes.each k s p at there).first o.outputs.items (output_bits s) (is_template.outputs s.path)

from_zero : (n : ℕ) → n ≡ 0 → (ks : List ℕ) → numbers_from n ks ≡ ks
from_zero n is [] = refl
from_zero n is (k ∷ ks) = let same : n + k ≡ k = omega (arith, is) in ap₂ ◌∷◌ same (from_zero n is ks)

-- the top comes first
module _ (text : List PlainModule) (d : Design) (g : Elaborated) (has : IsElaborated text d g) where
  pub top_placed : 0 < length g.placed.items
  top_placed = let count = has.elaborated.scopes.count in omega (arith, count)

  module _ (p : Placed) (there : slice_get g.placed.items 0 ≡ Some p) (o : ModuleTemplate) (kept : slice_get g.templates.items p.module ≡ Some o) where
    pub top_inputs_at : AreAt (net_order d) o.inputs.items (top_inputs d)
    top_inputs_at = subst (λ ks. AreAt (net_order d) ks (top_inputs d)) (from_zero p.first (has.elaborated.scopes.each 0 (root d) p refl there).first o.inputs.items) (inputs_at text d g has 0 (root d) refl p there o kept)

    pub top_outputs_at : AreAt (net_order d) o.outputs.items (top_outputs d)
    top_outputs_at = subst (λ ks. AreAt (net_order d) ks (top_outputs d)) (from_zero p.first (has.elaborated.scopes.each 0 (root d) p refl there).first o.outputs.items) (outputs_at text d g has 0 (root d) refl p there o kept)

-- the numbers of bits are small in a design that is small
few_numbers : (d : Design) → IsSmallDesign d → (bits : List Bit) (first : ℕ) (own : List ℕ) → AreAt (net_order d) (numbers_from first own) bits → All (λ i. first + i < 2 ^ 32) own
few_numbers d small bits first own at k x lt =
    let below = at_below (net_order d) (numbers_from first own) bits at k 0 (omega (arith, lt, length-map own (λ i. first + i))) in
    omega (arith, below, get_or-map (λ i. first + i) own k x 0 lt, small.0)

-- and so are those that are moved to a scope
pub moved_at : (d : Design) → IsSmallDesign d → (bits : List Bit) (first : ℕ) (own listed moved : List ℕ) → AreAt (net_order d) (numbers_from first own) bits → listed ≡ own → (All (λ i. first + i < 2 ^ 32) listed → moved ≡ map (λ i. first + i) listed)
    → AreAt (net_order d) moved bits
moved_at d small bits first own listed moved at same is =
    let fits = subst (All (λ i. first + i < 2 ^ 32)) (sym same) (few_numbers d small bits first own at) in
    subst (λ l. AreAt (net_order d) l bits) (sym (is fits ∙ ap (map (λ i. first + i)) same)) at

pub box_is : (d : Design) (s : Scope) (n : BoxTexts) (path name : List ℕ) (ins outs : List (List ℕ)) → n ≡ record { path = path; «module» = name; ins = ins; outs = outs }
    → path ≡ path_text s.path → name ≡ s.source.name → ins ≡ map (pin_text d) (input_bits s) → outs ≡ map (pin_text d) (output_bits s) → n ≡ box_texts d s
box_is d s n path name ins outs is p m q r =
    is ∙ ap₂ (λ (x y : List ℕ). record { path = x; «module» = y; ins = ins; outs = outs }) p m
    ∙ ap₂ (λ (x y : List (List ℕ)). record { path = path_text s.path; «module» = s.source.name; ins = x; outs = y }) q r
