-- two results, one after the other
use Rattle.std.proofs.Common.{◌≡◌, List, [], ◌∷◌, ◌++◌, ap₂, subst, ◌∙◌}
use Rattle.bb_bits.specs.Truth.{Truth}
use Rattle.bb_uniq.specs.declared.store.Ref.{Ref}
use Rattle.bb_uniq.specs.Inside.Nodes.{NodeStore}
use Rattle.bb_uniq.specs.Inside.Meaning.{Adds, IsTooMany}
use Rattle.bb_sym.specs.Inside.Made.{Makes, AreTooMany, Represents}
use Rattle.bb_sym.proofs.MadeLemmas.{Makes-then, Makes-one, too_many_then, too_many_one}
use Rattle.bb_sym.proofs.OutputLoop.{rest_refused, first_makes}

-- two tables t and u, where the second is u after the first was made
module _ (s m : NodeStore) (t u v : Truth) (first : Ref) (added : Adds s m t first.0) (same : v ≡ u) where
  pub two_refused : IsTooMany m v → AreTooMany s (t ∷ u ∷ [])
  two_refused many = rest_refused s m t (u ∷ []) first.0 added (too_many_one m u (subst (IsTooMany m) same many))

  module _ (n : NodeStore) (second : Ref) (also : Adds m n v second.0) where
    pub two_made : Makes s n (t ∷ u ∷ [])
    two_made = first_makes s m n t (u ∷ []) first.0 added (Makes-one m n u second.0 (subst (λ w. Adds m n w second.0) same also))

    pub two_first : Represents n t first
    two_first = record { ref = also.kept.refs first.0 added.ref; table = also.kept.tables first.0 added.ref ∙ added.table }

    pub two_second : Represents n u second
    two_second = record { ref = also.ref; table = also.table ∙ same }

-- two lists of tables
module _ (s m : NodeStore) (ts us vs : List Truth) (made : Makes s m ts) (same : vs ≡ us) where
  pub lists_refused : AreTooMany m vs → AreTooMany s (ts ++ us)
  lists_refused many = too_many_then s m ts us made (subst (AreTooMany m) same many)

  pub lists_made : (n : NodeStore) → Makes m n vs → Makes s n (ts ++ us)
  lists_made n also = Makes-then s m n ts us made (subst (Makes m n) same also)

pub same_four : {X : Type 0} (f : Truth → Truth → Truth → Truth → X) {a b c d x y z w : Truth} → a ≡ x → b ≡ y → c ≡ z → d ≡ w → f a b c d ≡ f x y z w
same_four f p q r s = ap₂ (λ g u. g u) (ap₂ (λ g u. g u) (ap₂ f p q) r) s

pub same_three : {X Y : Type 0} (f : X → X → X → Y) {a b c x y z : X} → a ≡ x → b ≡ y → c ≡ z → f a b c ≡ f x y z
same_three f p q r = ap₂ (λ g u. g u) (ap₂ f p q) r

pub occurs_same : (s : NodeStore) (t u : Truth) (r : Ref) → t ≡ u → Represents s t r → Represents s u r
occurs_same s t u r e h = record { ref = h.ref; table = h.table ∙ e }
