-- What the numbers of a design name is there: templates, scopes, nets and instances.
use Rattle.std.proofs.Common.{◌≡◌, ℕ, ◌+◌, ◌<◌, false, if◌then◌else◌, List, [], ◌∷◌, flat_map, map, length, get_or, All, Contains, Some, sym, ◌∙◌, subst, arith}
use Rattle.std.specs.Prelude.{slice_get}
use Rattle.std.specs.List.{AllZip, enumerate_from}
use Rattle.std.proofs.lemmas.List.Elements.{All-nil, All-cons, All-head, All-tail}
use Rattle.std.proofs.lemmas.Slice.Zip.{AllZip-long}
use Rattle.std.proofs.lemmas.Option.{slice_get_within, slice_get-get_or}
use Rattle.bb_ast.specs.Syntax.{Expression}
use Rattle.bb_names.specs.declared.net.NetInfo.{NetInfo}
use Rattle.bb_names.specs.Nets.{nets_of}
use Rattle.bb_expr.specs.declared.step.BitStep.{BitStep}
use Rattle.bb_expr.specs.declared.step.BitStep.TheVariants as steps
use Rattle.bb_expr.specs.declared.step.Lowered.{Lowered}
use Rattle.bb_expr.specs.Lowered.{ReadsEarlier}
use Rattle.bb_blast.specs.declared.logic.Logic.{Logic}
use Rattle.bb_blast.specs.declared.template.ModuleTemplate.{ModuleTemplate}
use Rattle.bb_blast.specs.declared.template.Part.{Part}
use Rattle.bb_blast.specs.declared.template.Part.TheVariants as part
use Rattle.bb_blast.specs.declared.placed.Placed.{Placed}
use Rattle.bb_design.specs.Hierarchy.{Design, Scope, instances_of, root, scopes}
use Rattle.bb_design.specs.Contexts.{width_of, context_width}
use Rattle.bb_design.specs.Constructs.{Construct, Assignment, GateInstance, Register, SupplyNet, InputConnection, OutputConnection, BoxContents, body_constructs, constructs_at, parts}
use Rattle.bb_blast.specs.Inside.Listing.{IsPartAmong, IsScopeAmong}
use Rattle.bb_design.specs.Inside.Allowed.{IsBounded}
use Rattle.bb_blast.specs.Inside.Logic.{IsLogicAmong}
use Rattle.bb_blast.specs.Inside.ModuleTemplates.{IsKeptIn, IsMadeIn, IsPartOf, IsWholeIn, IsModuleTemplate}
use Rattle.bb_blast.specs.Inside.Placements.{ArePlaced, AreTemplated, IsScopeAt, IsChildAt}
use Rattle.bb_blast.proofs.LogicSteps.{IsNetBelow, logic_below}
use Rattle.bb_lemmas.proofs.Places.{there_at}
use Rattle.bb_lemmas.proofs.Members.{contains-map, into_flat, contains_here, contains_there}
use Rattle.bb_design.specs.Laws.DesignLaws.{DesignLaws}

-- what holds of elements beside others
all_zipped : {A B : Type 0} (R : A → B → Type 0) (P : A → Type 0) (xs : List A) (ys : List B) → AllZip R xs ys → ((x : A) (y : B) → Contains ys y → R x y → P x) → All P xs
all_zipped R P [] ys all each = All-nil P
all_zipped R P (x ∷ xs) [] all each = absurd all
all_zipped R P (x ∷ xs) (y ∷ ys) all each = All-cons P x xs (each x y (contains_here y ys) all.0) (all_zipped R P xs ys all.1 (λ u v has r. each u v (contains_there y ys v has) r))

module _ (nets : List NetInfo) (m : ℕ) (there : (k : ℕ) → k < length nets → k < m) where
  net_below : (place : ℕ) (step : BitStep) → ReadsEarlier nets place step → IsNetBelow m step
  net_below place (steps.Net k i) reads = there k reads.0
  net_below place step reads = tt

  nets_below : (a : ℕ) (all : List BitStep) → All (λ (x : ℕ × BitStep). ReadsEarlier nets x.0 x.1) (enumerate_from a all) → All (IsNetBelow m) all
  nets_below a [] reads = All-nil _
  nets_below a (step ∷ all) reads =
      All-cons (IsNetBelow m) step all (net_below a step (All-head (λ (x : ℕ × BitStep). ReadsEarlier nets x.0 x.1) (a, step) (enumerate_from (a + 1) all) reads))
      (nets_below (a + 1) all (All-tail (λ (x : ℕ × BitStep). ReadsEarlier nets x.0 x.1) (a, step) (enumerate_from (a + 1) all) reads))

module _ (d : Design) (placed : List Placed) (are : ArePlaced d placed) (templates : List ModuleTemplate) (templated : AreTemplated d placed templates)
    (k : ℕ) (s : Scope) (p : Placed) (at : IsScopeAt d k s) (has : slice_get placed k ≡ Some p) (o : ModuleTemplate) (template : IsModuleTemplate d.text s.source o) where
  starts_there : (n : ℕ) → n < length (nets_of s.source) → n < length o.starts.items
  starts_there n fits = slice_get_within o.starts.items n _ (template.starts n fits)

  made_below : (l : Lowered) (e : Expression) (width : Scope → ℕ) → IsMadeIn s.source l e width → All (IsNetBelow (length o.starts.items)) l.steps.items
  made_below l e width made = nets_below (nets_of s.source) (length o.starts.items) starts_there 0 l.steps.items made.earlier

  kept_below : (g : Logic) (e : Expression) (width : Scope → ℕ) (count : ℕ) → IsKeptIn s.source g e width count → IsLogicAmong (length o.starts.items) g
  kept_below g e width count kept = logic_below (length o.starts.items) count kept.0 g kept.2 (made_below kept.0 e width kept.1)

  instances_long : length p.children.items ≡ length (instances_of s.source)
  instances_long = sym (AllZip-long (IsChildAt d s) p.children.items (instances_of s.source) (are.each k s p at has).children)

  inputs_among : (gs : List Logic) (es : List Expression) → AllZip (IsWholeIn s.source) gs es → All (IsLogicAmong (length o.starts.items)) gs
  inputs_among gs es all = all_zipped (IsWholeIn s.source) (IsLogicAmong (length o.starts.items)) gs es all (λ g e has is. kept_below g e (λ s. width_of s e) (width_of (record { path = []; source = s.source }) e) is)

  part_among : (q : Part) (c : Construct) → IsPartOf d.text s.source q c → IsPartAmong (length o.starts.items) (length p.children.items) q
  part_among (part.Assignment left right) (Assignment l r) is = kept_below right r (λ s. context_width s l r) (length left.items) is.1
  part_among (part.Gate gate outs ins) (GateInstance g os es) is = inputs_among ins.items es is.2
  part_among (part.Register left right clock falling) (Register r) is = kept_below right r.right (λ s. context_width s r.left r.right) (length left.items) is.1
  part_among (part.Supply high bits) (SupplyNet h n) is = tt
  part_among (part.Input instance pin value) (InputConnection i port e) is = (omega (arith, slice_get_within (instances_of s.source) instance is.0.called is.0.there, instances_long), kept_below value e (λ s. width_of s e) (width_of (record { path = []; source = s.source }) e) is.1)
  part_among (part.Output instance pin left) (OutputConnection i port e) is = omega (arith, slice_get_within (instances_of s.source) instance is.0.called is.0.there, instances_long)
  part_among q c is = absurd is

  parts_among : All (IsPartAmong (length o.starts.items) (length p.children.items)) o.parts.items
  parts_among =
      all_zipped (IsPartOf d.text s.source) (IsPartAmong (length o.starts.items) (length p.children.items)) o.parts.items (flat_map (λ item. body_constructs d.text item.body) s.source.items) template.parts
      (λ q c there is. part_among q c is)

  scope_among : slice_get templates p.module ≡ Some o → IsScopeAmong placed templates p
  scope_among found = record {
    template = slice_get_within templates p.module o found;
    children = all_zipped (IsChildAt d s) (λ c. c < length placed) p.children.items (instances_of s.source) (are.each k s p at has).children (λ c i there is. omega (arith, slice_get_within (scopes d) c _ is.2, are.count));
    parts = λ z plain e. let same : o ≡ z = grind (arith, found, e) in subst (λ (y : ModuleTemplate). All (IsPartAmong (length y.starts.items) (length p.children.items)) y.parts.items) same parts_among;
  }

pub scopes_among : (d : Design) → (placed : List Placed) → ArePlaced d placed → (templates : List ModuleTemplate) → AreTemplated d placed templates → All (IsScopeAmong placed templates) placed
scopes_among d placed are templates templated k q fits =
    let p = get_or placed k q in
    let s = get_or (scopes d) k (root d) in
    let has : slice_get placed k ≡ Some p = slice_get-get_or placed k q fits in
    let at : slice_get (scopes d) k ≡ Some s = slice_get-get_or (scopes d) k (root d) (omega (arith, are.count, fits)) in
    let o = templated k s p at has in
    scope_among d placed are templates templated k s p at has o.0 o.2 o.1
