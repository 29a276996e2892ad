-- Refs in pairs, for values in three values
use Rattle.std.proofs.Common.{◌≡◌, ℕ, List, [], ◌∷◌, ◌++◌, length, sym, ap₂, ◌∙◌, subst, inl, inr, arith}
use Rattle.std.proofs.lemmas.Bool.{cases_lt}
use Rattle.std.proofs.lemmas.List.{length_push, get_or_append_left, get_or_push}
use Rattle.bb_uniq.specs.Inside.Nodes.{NodeStore}
use Rattle.bb_uniq.specs.Inside.Meaning.{Keeps}
use Rattle.bb_sym.specs.declared.known_gates.DualRail.{DualRail}
use Rattle.bb_sym.specs.Inside.Rails.{Rails, rails, rails_of, AreRails, HaveRails, HaveAllRails, pair_at}
use Rattle.bb_sym.proofs.MadeLemmas.{Represents-kept}
use Rattle.bb_sym.proofs.PairLemmas.{same_three}

-- what stores say of two Refs, after more was made
pub rails_of-kept : (a b : NodeStore) (r : DualRail) → Keeps a b → AreRails a r → rails_of b r ≡ rails_of a r
rails_of-kept a b r kept refs = ap₂ rails (kept.tables r.one.0 refs.0) (kept.tables r.zero.0 refs.1)

pub HaveRails-kept : (a b : NodeStore) (t : Rails) (r : DualRail) → Keeps a b → HaveRails a t r → HaveRails b t r
HaveRails-kept a b t r kept h = record { one = Represents-kept a b t.one r.one kept h.one; zero = Represents-kept a b t.zero r.zero kept h.zero }

pub HaveRails-tables : (s : NodeStore) (t : Rails) (r : DualRail) → HaveRails s t r → rails_of s r ≡ t
HaveRails-tables s t r h = ap₂ rails h.one.table h.zero.table

-- what two or three pairs make, after more was made
pub two_kept : {X : Type 0} (f : Rails → Rails → X) (s m : NodeStore) (a b : DualRail) → Keeps s m → AreRails s a → AreRails s b → f (rails_of m a) (rails_of m b) ≡ f (rails_of s a) (rails_of s b)
two_kept f s m a b kept x y = ap₂ f (rails_of-kept s m a kept x) (rails_of-kept s m b kept y)

pub three_kept : {X : Type 0} (f : Rails → Rails → Rails → X) (s m : NodeStore) (a b c : DualRail) → Keeps s m → AreRails s a → AreRails s b → AreRails s c →
    f (rails_of m a) (rails_of m b) (rails_of m c) ≡ f (rails_of s a) (rails_of s b) (rails_of s c)
three_kept f s m a b c kept x y z = same_three f (rails_of-kept s m a kept x) (rails_of-kept s m b kept y) (rails_of-kept s m c kept z)

-- two more Refs at the end of a list
pub HaveAllRails-push : (old new : NodeStore) (t : ℕ → Rails) (made : List DualRail) (r : DualRail) (n : ℕ) → length made ≡ n → Keeps old new → HaveAllRails old t made → HaveRails new (t n) r → HaveAllRails new t (made ++ r ∷ [])
HaveAllRails-push old new t made r n e kept h last place l =
    let long = length_push made r in
    let default : DualRail = pair_at [] 0 in
    elim (cases_lt place (length made)) [
      | inl before ↦ subst (HaveRails new (t place)) (sym (get_or_append_left made (r ∷ []) default place before)) (HaveRails-kept old new (t place) (pair_at made place) kept (h place before))
      | inr after ↦
          let here : place ≡ length made = omega (arith, long, l, after) in
          let at : place ≡ n = here ∙ e in
          subst (HaveRails new (t place)) (sym (get_or_push made r default place (sym here))) (subst (λ k. HaveRails new (t k) r) (sym at) last)
    ]
