-- From the design with a module on top to the text with a top, which may be named.
use Rattle.std.proofs.Common.{◌≡◌, ◌⊎◌, ℕ, ◌<◌, List, length, Option, Some, inl, inr, sym, ◌∙◌}
use Rattle.std.specs.Prelude.{slice_get}
use Rattle.bb_ast.specs.Syntax.{PlainModule}
use Rattle.bb_design.specs.declared.fault.ElabFault.{ElabFault}
use Rattle.bb_design.specs.declared.fault.ElabFault.TheVariants.{NoMemory}
use Rattle.bb_net.specs.Flats.{FlatNet}
use Rattle.bb_design.specs.Hierarchy.{top_of}
use Rattle.bb_design.specs.Refusals.{IsFirstDesignRefusal, IsRefusalOf, IsSoundDesign, IsSoundText}
use Rattle.bb_hier.specs.Inside.Finite.{AtTop}
use Rattle.bb_implements.specs.Implements.{Implements, ImplementsText}
use Rattle.bb_lemmas.proofs.Places.{some_at}
use Rattle.bb_design.specs.Laws.DesignLaws.{DesignLaws}

module _ (of_designs : DesignLaws) (text : List PlainModule) (name : Option (List ℕ)) (top : ℕ) (lt : top < length text) (place : slice_get text top ≡ top_of text name) where
  abbrev head : (t : PlainModule) × (slice_get text top ≡ Some t)
  head = some_at text top lt

  meant : top_of text name ≡ Some head.0
  meant = sym place ∙ head.1

  pub refused_text : (fault : ElabFault) → AtTop text top (λ d. IsRefusalOf d fault) → IsFirstDesignRefusal text name fault
  refused_text fault refused = inr (head.0, meant, refused head.0 head.1)

  pub may_refuse : (fault : ElabFault) → (fault ≡ NoMemory) ⊎ AtTop text top (λ d. IsRefusalOf d fault) → (fault ≡ NoMemory) ⊎ IsFirstDesignRefusal text name fault
  may_refuse fault (inl none) = inl none
  may_refuse fault (inr refused) = inr (refused_text fault refused)

  -- no other answer is given
  pub only_memory : (fault : ElabFault) → (fault ≡ NoMemory) ⊎ AtTop text top (λ d. IsRefusalOf d fault) → IsSoundText text name → fault ≡ NoMemory
  only_memory fault (inl none) sound = none
  only_memory fault (inr refused) sound = absurd (of_designs.not_both text name fault sound (refused_text fault refused))

  pub only_first : (fault : ElabFault) → (fault ≡ NoMemory) ⊎ AtTop text top (λ d. IsRefusalOf d fault) → (first : ElabFault) → IsFirstDesignRefusal text name first → (fault ≡ first) ⊎ (fault ≡ NoMemory)
  only_first fault (inl none) first is = inr none
  only_first fault (inr refused) first is = inl (of_designs.one_refusal text name fault first (refused_text fault refused) is)

  module _ (flat : FlatNet) (occurs : AtTop text top (λ d. Implements d flat × IsSoundDesign d)) where
    pub occurs_for_text : ImplementsText text name flat
    occurs_for_text = (head.0, meant, (occurs head.0 head.1).0)

    pub sound_text : IsSoundText text name
    sound_text = (head.0, meant, (occurs head.0 head.1).1)

    pub not_refused : (first : ElabFault) → IsFirstDesignRefusal text name first → ⊥
    not_refused first is = of_designs.not_both text name first sound_text is
