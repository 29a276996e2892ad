-- the beads of a list of tables can be counted
use Rattle.std.proofs.Common.{◌≡◌, ◌≢◌, ◌↔◌, ◌⊎◌, ℕ, zero, suc, ◌+◌, true, false, List, [], ◌∷◌, ◌++◌, refl, sym, subst, inl, inr, arith}
use Rattle.std.specs.Prelude.{Contains}
use Rattle.std.proofs.lemmas.List.Elements.{Contains-append_cases, Contains-append_left, Contains-append_right}
use Rattle.bb_bits.specs.Truth.{Truth, Bit, Halves, IsBead, IsBeadOf, IsBeadOfAny}
use Rattle.bb_bits.specs.TruthSets.{HasSize}
use Rattle.bb_bits.proofs.TruthBeads.{beads_of_halves, first_and_rest}
use Rattle.bb_bits.proofs.TruthSizes.{one_more, size_of_same}

-- two tables are equal or not
same_or_not : (t u : Truth) → (t ≡ u) ⊎ (t ≢ u)
same_or_not (Bit false) (Bit false) = inl refl
same_or_not (Bit true) (Bit true) = inl refl
same_or_not (Bit false) (Bit true) = inr (λ e. let f : false ≡ true = cc in cc)
same_or_not (Bit true) (Bit false) = inr (λ e. let f : true ≡ false = cc in cc)
same_or_not (Bit a) (Halves c d) = inr (λ e. cc)
same_or_not (Halves a b) (Bit c) = inr (λ e. cc)
same_or_not (Halves a b) (Halves c d) =
    elim (same_or_not a c) [
      | inl first ↦ elim (same_or_not b d) [ inl second ↦ inl (cc) | inr other ↦ inr (λ e. other (cc)) ]
      | inr other ↦ inr (λ e. other (cc))
    ]

contains_or_not : (ts : List Truth) (t : Truth) → Contains ts t ⊎ (Contains ts t → ⊥)
contains_or_not [] t = inr (λ c. absurd (omega (arith, c.1)))
contains_or_not (u ∷ ts) t =
    elim (same_or_not u t) [
      | inl same ↦ inl (0, omega arith, same)
      | inr other ↦
          elim (contains_or_not ts t) [
            | inl c ↦ inl (Contains-append_right (u ∷ []) ts t c)
            | inr none ↦ inr (λ c. elim (Contains-append_cases (u ∷ []) ts t c) [ inl first ↦ other (only first) | inr rest ↦ none rest ])
          ]
    ]
  where
    only : Contains (u ∷ []) t → u ≡ t
    only (zero, l, e) = e
    only (suc k, l, e) = absurd (omega (arith, l))

-- the entries of a list have a size
sized : (ts : List Truth) → (n : ℕ) × HasSize (Contains ts) n
sized [] = (0, ([], λ i j d l k. absurd (omega (arith, k)), λ t. (λ c. c, λ c. c), refl))
sized (t ∷ ts) =
    let rest = sized ts in
    elim (contains_or_not ts t) [
      | inl c ↦ (rest.0, size_of_same (Contains ts) (Contains (t ∷ ts)) rest.0 (λ u. (Contains-append_right (t ∷ []) ts u, λ d. elim (Contains-append_cases (t ∷ []) ts u d) [ inl first ↦ subst (Contains ts) (only u first) c | inr later ↦ later ])) rest.1)
      | inr new ↦ (
        rest.0 + 1,
        one_more (Contains ts) (Contains (t ∷ ts)) rest.0 t (λ u. (
          λ d. elim (Contains-append_cases (t ∷ []) ts u d) [ inl first ↦ inr (sym (only u first)) | inr later ↦ inl later ],
          λ d. elim d [ inl later ↦ Contains-append_right (t ∷ []) ts u later | inr e ↦ (0, omega arith, sym e) ],
        )) new rest.1,
      )
    ]
  where
    only : (u : Truth) → Contains (t ∷ []) u → t ≡ u
    only u (zero, l, e) = e
    only u (suc k, l, e) = absurd (omega (arith, l))

-- a list of the beads of a table, and of those of a list of tables
listed : (t : Truth) → (bs : List Truth) × ((b : Truth) → Contains bs b ↔ IsBeadOf b t)
listed (Bit x) = ([], λ b. (λ c. absurd (omega (arith, c.1)), λ h. absurd (subst IsBead h.0 h.1)))
listed (Halves lo hi) =
    let first = listed lo in
    let second = listed hi in
    let parts : (b : Truth) → Contains (first.0 ++ second.0) b ↔ (IsBeadOf b lo ⊎ IsBeadOf b hi) = λ b. (
      λ c. elim (Contains-append_cases first.0 second.0 b c) [ inl l ↦ inl ((first.1 b).0 l) | inr r ↦ inr ((second.1 b).0 r) ],
      λ h. elim h [ inl l ↦ Contains-append_left first.0 second.0 b ((first.1 b).1 l) | inr r ↦ Contains-append_right first.0 second.0 b ((second.1 b).1 r) ],
    ) in
    elim (same_or_not lo hi) [
      | inl same ↦ (
        first.0 ++ second.0,
        λ b. (
          λ c. (beads_of_halves b lo hi).1 (inr ((parts b).0 c)),
          λ h. elim ((beads_of_halves b lo hi).0 h) [ inl own ↦ absurd (own.1 same) | inr rest ↦ (parts b).1 rest ],
        ),
      )
      | inr differ ↦ (
        Halves lo hi ∷ (first.0 ++ second.0),
        λ b. (
          λ c. elim (Contains-append_cases (Halves lo hi ∷ []) (first.0 ++ second.0) b c) [ inl own ↦ (beads_of_halves b lo hi).1 (inl (sym (only b own), differ)) | inr rest ↦ (beads_of_halves b lo hi).1 (inr ((parts b).0 rest)) ],
          λ h. elim ((beads_of_halves b lo hi).0 h) [ inl own ↦ (0, omega arith, sym own.0) | inr rest ↦ Contains-append_right (Halves lo hi ∷ []) (first.0 ++ second.0) b ((parts b).1 rest) ],
        ),
      )
    ]
  where
    only : (b : Truth) → Contains (Halves lo hi ∷ []) b → Halves lo hi ≡ b
    only b (zero, l, e) = e
    only b (suc k, l, e) = absurd (omega (arith, l))

listed_all : (ts : List Truth) → (bs : List Truth) × ((b : Truth) → Contains bs b ↔ IsBeadOfAny ts b)
listed_all [] = ([], λ b. (λ c. absurd (omega (arith, c.1)), λ h. absurd (omega (arith, h.1.1))))
listed_all (t ∷ ts) =
    let first = listed t in
    let rest = listed_all ts in (
      first.0 ++ rest.0,
      λ b. (
        λ c. elim (Contains-append_cases first.0 rest.0 b c) [ inl l ↦ (first_and_rest t ts b).1 (inl ((first.1 b).0 l)) | inr r ↦ (first_and_rest t ts b).1 (inr ((rest.1 b).0 r)) ],
        λ h. elim ((first_and_rest t ts b).0 h) [ inl l ↦ Contains-append_left first.0 rest.0 b ((first.1 b).1 l) | inr r ↦ Contains-append_right first.0 rest.0 b ((rest.1 b).1 r) ],
      ),
    )

pub beads_have_size : (ts : List Truth) → (n : ℕ) × HasSize (IsBeadOfAny ts) n
beads_have_size ts =
    let all = listed_all ts in
    let n = sized all.0 in
    (n.0, size_of_same (Contains all.0) (IsBeadOfAny ts) n.0 all.1 n.1)
