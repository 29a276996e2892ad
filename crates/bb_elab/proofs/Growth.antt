-- What the stages of the scopes, drivers and registers of a design ask for and give, for the design with a module on top.
use Rattle.std.proofs.Common.{◌≡◌, ◌^◌, ℕ, ◌<◌, List, length, Some, refl, sym, subst, arith}
use Rattle.std.specs.Prelude.{slice_get}
use Rattle.std.proofs.lemmas.Option.{slice_get_within}
use Rattle.bb_ast.specs.Syntax.{PlainModule}
use Rattle.bb_design.specs.declared.fault.ElabFault.TheVariants.{DrivenTwice}
use Rattle.bb_blast.specs.declared.template.ModuleTemplate.{ModuleTemplate}
use Rattle.bb_blast.specs.declared.placed.Placed.{Placed}
use Rattle.bb_blast.specs.declared.stored.Stored.{Stored}
use Rattle.bb_elab.specs.Inside.DrivenNumbers.{IsFirstAt, AreCounts}
use Rattle.bb_design.specs.Hierarchy.{Design}
use Rattle.bb_design.specs.Inside.Allowed.{IsBounded}
use Rattle.bb_design.specs.NetBits.{Bit, net_order}
use Rattle.bb_blast.specs.Inside.Placements.{ArePlaced, AreTemplated, AreStored}
use Rattle.bb_design.specs.Refusals.{TwoDrivers, IsDrivenTwice, AreDrivenOnce, IsSmallDesign, IsRefusalOf, design_on}
use Rattle.bb_elab.specs.Inside.Stages.{AreElaborated}
use Rattle.bb_hier.specs.Inside.Finite.{AtTop, IsFinite}
use Rattle.bb_design.specs.Texts.{bit_text}
use Rattle.bb_lemmas.proofs.Places.{some_at}
use Rattle.bb_elab.proofs.FiniteDesigns.{finite_clear}
use Rattle.bb_design.specs.Laws.DesignLaws.{DesignLaws}

module _ (of_designs : DesignLaws) (text : List PlainModule) (top : ℕ) (lt : top < length text) (finite : AtTop text top IsFinite) (placed : List Placed) (scopes : AtTop text top (λ d. ArePlaced d placed)) where
  -- the module on top, and the design
  abbrev head : (t : PlainModule) × (slice_get text top ≡ Some t)
  head = some_at text top lt

  abbrev pub design : Design
  design = design_on text head.0

  pub bounded : IsBounded design
  bounded = (finite head.0 head.1).bounded

  pub for_templates : (seen : List Placed) → seen ≡ placed → (d : Design) × (d.text ≡ text) × ArePlaced d seen × IsSmallDesign d
  for_templates seen same = (design, refl, subst (ArePlaced design) (sym same) (scopes head.0 head.1), bounded.small)

  module _ (templates : List ModuleTemplate) (made : (d : Design) → d.text ≡ text → ArePlaced d placed → IsSmallDesign d → AreTemplated d placed templates) where
    templated_at : AtTop text top (λ d. AreTemplated d placed templates)
    templated_at t at = made (design_on text t) refl (scopes t at) (finite t at).bounded.small

    pub for_counts : (seen : List Placed) (looked : List ModuleTemplate) → seen ≡ placed → looked ≡ templates → (d : Design) × ArePlaced d seen × AreTemplated d seen looked × IsBounded d
    for_counts seen looked same alike = (
      design,
      subst (ArePlaced design) (sym same) (scopes head.0 head.1),
      subst (λ p. AreTemplated design p looked) (sym same) (subst (AreTemplated design placed) (sym alike) (templated_at head.0 head.1)),
      bounded,
    )

    pub for_bits : (seen : List Placed) (looked : List ModuleTemplate) → seen ≡ placed → looked ≡ templates → (d : Design) × ArePlaced d seen × AreTemplated d seen looked
    for_bits seen looked same alike = let all = for_counts seen looked same alike in (all.0, all.1, all.2)

    pub for_registers : (seen : List Placed) (looked : List ModuleTemplate) → seen ≡ placed → looked ≡ templates → (bits : ℕ) → ((d : Design) → ArePlaced d placed → AreTemplated d placed templates → bits ≡ length (net_order d))
        → (d : Design) × ArePlaced d seen × AreTemplated d seen looked × IsBounded d × (bits ≡ length (net_order d))
    unfolding for_counts
    for_registers seen looked same alike bits long = let all = for_counts seen looked same alike in (all.0, all.1, all.2, all.3, long design (scopes head.0 head.1) (templated_at head.0 head.1))

    module _ (counts : List ℕ) (counted : (d : Design) → ArePlaced d placed → AreTemplated d placed templates → IsBounded d → AreCounts d counts) where
      pub counted_at : AtTop text top (λ d. AreCounts d counts)
      counted_at t at = counted (design_on text t) (scopes t at) (templated_at t at) (finite t at).bounded

      -- a bit that is driven twice
      module _ (k : ℕ) (found : (d : Design) → AreCounts d counts → IsFirstAt d (IsDrivenTwice d) k) where
        pub few : k < 2 ^ 32
        few = let b = found design (counted_at head.0 head.1) in let small = bounded.small.0 in let fits = slice_get_within (net_order design) k b.0 b.1 in omega (arith, small, fits)

        pub for_name : (seen : List Placed) (looked : List ModuleTemplate) → seen ≡ placed → looked ≡ templates → (d : Design) × (d.text ≡ text) × ArePlaced d seen × AreTemplated d seen looked × (k < length (net_order d))
        unfolding for_counts
        for_name seen looked same alike =
            let all = for_counts seen looked same alike in
            let b = found design (counted_at head.0 head.1) in
            (all.0, refl, all.1, all.2, slice_get_within (net_order design) k b.0 b.1)

        pub twice : (n : List ℕ) → ((d : Design) → d.text ≡ text → ArePlaced d placed → AreTemplated d placed templates → (b : Bit) → slice_get (net_order d) k ≡ Some b → n ≡ bit_text d b) → AtTop text top (λ d. IsRefusalOf d (DrivenTwice n))
        twice n named t at =
            let d = design_on text t in
            let b = found d (counted_at t at) in
            (of_designs.causes d).refused TwoDrivers (DrivenTwice n) (record { name = n; is = refl; reported = (b.0, b.2, named d refl (scopes t at) (templated_at t at) b.0 b.1) }) (finite_clear of_designs d (finite t at))

      pub elaborated : (stored : List Stored) → ((d : Design) → IsBounded d → AreCounts d counts → AreDrivenOnce d)
          → (bits : ℕ) → ((d : Design) → ArePlaced d placed → AreTemplated d placed templates → bits ≡ length (net_order d))
          → ((d : Design) → ArePlaced d placed → AreTemplated d placed templates → IsBounded d → bits ≡ length (net_order d) → AreStored d stored) → AtTop text top (λ d. AreElaborated d placed templates counts stored)
      elaborated stored once bits long registers t at =
          let d = design_on text t in
          record {
            scopes = scopes t at;
            templated = templated_at t at;
            counted = counted_at t at;
            once = once d (finite t at).bounded (counted_at t at);
            registers = registers d (scopes t at) (templated_at t at) (finite t at).bounded (long d (scopes t at) (templated_at t at));
          }
