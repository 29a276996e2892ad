-- subtables and beads
use Rattle.std.proofs.Common.{◌≡◌, ◌≢◌, ◌↔◌, ◌⊎◌, ℕ, zero, suc, refl, sym, subst, inl, inr, List, [], ◌∷◌, arith}
use Rattle.std.specs.Prelude.{Contains}
use Rattle.std.proofs.lemmas.List.Elements.{Contains-append_cases, Contains-append_right}
use Rattle.bb_bits.specs.Truth.{Truth, Bit, Halves, lifted, IsSubtableOf, IsBead, IsBeadOf, IsBeadOfAny}

pub IsSubtableOf-self : (t : Truth) → IsSubtableOf t t
IsSubtableOf-self (Bit b) = refl
IsSubtableOf-self (Halves lo hi) = inl refl

pub beads_of_halves : (b lo hi : Truth) → IsBeadOf b (Halves lo hi) ↔ (((b ≡ Halves lo hi) × (lo ≢ hi)) ⊎ (IsBeadOf b lo ⊎ IsBeadOf b hi))
beads_of_halves b lo hi = (
  λ h. elim h.0 [
    | inl e ↦ inl (e, subst IsBead e h.1)
    | inr rest ↦ elim rest [ inl l ↦ inr (inl (l, h.1)) | inr r ↦ inr (inr (r, h.1)) ]
  ],
  λ h. elim h [
    | inl e ↦ (inl e.0, subst IsBead (sym e.0) e.1)
    | inr rest ↦ elim rest [ inl l ↦ (inr (inl l.0), l.1) | inr r ↦ (inr (inr r.0), r.1) ]
  ],
)

pub bead_below : (k : ℕ) (b t : Truth) → IsBeadOf b (lifted k t) → IsBeadOf b t
bead_below zero b t h = h
bead_below (suc k) b t h =
    elim ((beads_of_halves b (lifted k t) (lifted k t)).0 h) [
      | inl e ↦ absurd (e.1 refl)
      | inr rest ↦ elim rest [ inl l ↦ bead_below k b t l | inr r ↦ bead_below k b t r ]
    ]

pub bead_above : (k : ℕ) (b t : Truth) → IsBeadOf b t → IsBeadOf b (lifted k t)
bead_above zero b t h = h
bead_above (suc k) b t h = (inr (inl (bead_above k b t h).0), h.1)

pub beads_of_lifted : (k : ℕ) (b t : Truth) → IsBeadOf b (lifted k t) ↔ IsBeadOf b t
beads_of_lifted k b t = (bead_below k b t, bead_above k b t)

pub first_and_rest : (t : Truth) (ts : List Truth) (b : Truth) → IsBeadOfAny (t ∷ ts) b ↔ (IsBeadOf b t ⊎ IsBeadOfAny ts b)
first_and_rest t ts b = (
  λ h. elim (Contains-append_cases (t ∷ []) ts h.0 h.1) [
    | inl first ↦ inl (subst (IsBeadOf b) (only first) h.2)
    | inr rest ↦ inr (h.0, rest, h.2)
  ],
  λ h. elim h [
    | inl first ↦ (t, (0, omega arith, refl), first)
    | inr rest ↦ (rest.0, Contains-append_right (t ∷ []) ts rest.0 rest.1, rest.2)
  ],
)
  where
    only : {u : Truth} → Contains (t ∷ []) u → u ≡ t
    only {u} (zero, l, e) = sym e
    only {u} (suc k, l, e) = absurd (omega (arith, l))
