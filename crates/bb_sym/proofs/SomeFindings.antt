-- Of finitely many vectors with a condition one is the least, and of finitely many outputs one is the first.
use Rattle.std.proofs.Common.{◌≡◌, ◌≢◌, ◌⊎◌, ◌<◌, ◌+◌, ◌^◌, ℕ, zero, suc, Bool, Option, Some, None, List, length, refl, sym, ap, ◌∙◌, subst, inl, inr, arith}
use Rattle.std.specs.Prelude.{IfSome, slice_index}
use Rattle.std.proofs.lemmas.Bool.{cases_eq}
use Rattle.std.proofs.lemmas.List.{length-take}
use Rattle.bb_lemmas.proofs.LeastBits.{Below, least_or_none}
use Rattle.bb_lemmas.proofs.Ranges.{length-run}
use Rattle.bb_lemmas.proofs.Vectors.{vec_of}
use Rattle.bb_net.specs.declared.cell.Cell.TheVariants.{Input}
use Rattle.bb_net.specs.Netlists.{Netlist, IsNetlist}
use Rattle.bb_net.specs.Values.{flat}
use Rattle.bb_net.specs.Ternary.{tern, tern_of}
use Rattle.bb_net.specs.Equivalence.{wanted_bit, IsVector, AreBoxOutputs, IsOutput, AllRight}
use Rattle.bb_net.specs.Conditions.{IsKnownWrong, MayBeRight, MayBeRightEverywhere, IsAlwaysWrong, EachSometimesRight, AlwaysSomeWrongAt, AllRightTogether}
use Rattle.bb_sym.specs.declared.found.Found.{Found}
use Rattle.bb_sym.specs.Finds.{IsLeastVector, IsFirstFound, IsSometimesRight, FindsOutput, FindsVector}

module _ (below : Below) where
  vector_or_none : (imp : Netlist) (P N : List Bool → Type 0) → ((y : List Bool) → P y → N y → ⊥) → ((y : List Bool) → P y ⊎ N y) → ((x : List Bool) × IsLeastVector imp P x) ⊎ ((y : List Bool) → IsVector imp y → N y)
  vector_or_none imp P N apart each = elim (least_or_none below P N apart imp.inputs (λ y len. each y)) [
    | inl one ↦ let is = one.1 in inl (one.0, record { vector = is.long; holds = is.holds; least = is.least })
    | inr none ↦ inr none
  ]

  -- the first output for which there is a vector
  first_or_none : (imp : Netlist) (P N : List Bool → ℕ → Type 0) → ((y : List Bool) (j : ℕ) → P y j → N y j → ⊥) → ((y : List Bool) (j : ℕ) → P y j ⊎ N y j)
      → ((x : List Bool) × (j : ℕ) × IsFirstFound imp P N x j) ⊎ ((y : List Bool) → IsVector imp y → (j : ℕ) → IsOutput imp j → N y j)
  first_or_none imp P N apart each = elim (search (length imp.outs)) [
    | inl none ↦ inr (λ y len j h. none j h y len)
    | inr one ↦ let is = one.2 in inl (is.0, one.0, record { there = one.1; at = is.1; earlier = is.2 })
  ]
    where
      search : (n : ℕ) → ((j : ℕ) → j < n → (y : List Bool) → IsVector imp y → N y j)
          ⊎ ((j : ℕ) × (j < n) × ((x : List Bool) × IsLeastVector imp (λ y. P y j) x × ((i : ℕ) → i < j → (y : List Bool) → IsVector imp y → N y i)))
      search zero = inl (λ j h. absurd (omega (arith, h)))
      search (suc n) = elim (search n) [
        | inr one ↦ inr (one.0, omega (arith, one.1), one.2)
        | inl all ↦ elim (vector_or_none imp (λ y. P y n) (λ y. N y n) (λ y. apart y n) (λ y. each y n)) [
          | inl is ↦ inr (n, omega arith, (is.0, is.1, all))
          | inr none ↦ inl (λ j h. elim (cases_eq j n) [ inl e ↦ subst (λ i. (y : List Bool) → IsVector imp y → N y i) (sym e) none | inr ne ↦ all j (omega (arith, h, ne)) ])
        ]
      ]

  -- ---- what is found

  -- the inputs of a netlist are fewer than a vector holds
  few_inputs : (imp : Netlist) → IsNetlist imp → imp.inputs < 2 ^ 63
  few_inputs imp kept =
      let long = ap length kept.prefix in
      let inputs = length-take (imp.inputs + 2) imp.cells in
      omega (arith, kept.cells_fit, inputs, long, length-run Input 0 imp.inputs)

  written : (imp : Netlist) (output : Option ℕ) (x : List Bool) → IsNetlist imp → IsVector imp x → (found : Found) × (found.output ≡ output) × (found.input.items ≡ x)
  written imp output x kept vector = (record { output = output; input = vec_of x (omega (arith, vector, few_inputs imp kept)) }, refl, refl)

  output_or_none : (imp : Netlist) (P N : List Bool → ℕ → Type 0) → IsNetlist imp → ((y : List Bool) (j : ℕ) → P y j → N y j → ⊥) → ((y : List Bool) (j : ℕ) → P y j ⊎ N y j)
      → ((found : Found) × FindsOutput imp P N found) ⊎ ((y : List Bool) → IsVector imp y → (j : ℕ) → IsOutput imp j → N y j)
  output_or_none imp P N kept apart each = elim (first_or_none imp P N apart each) [
    | inl one ↦ let f = written imp (Some one.1) one.0 kept one.2.at.vector in inl (f.0, (one.1, f.1, subst (λ x. IsFirstFound imp P N x one.1) (sym f.2) one.2))
    | inr none ↦ inr none
  ]

  pub known_or_none : (spec imp : Netlist) → IsNetlist imp → ((x : List Bool) (j : ℕ) → IsKnownWrong spec imp x j ⊎ MayBeRight spec imp x j)
      → ((found : Found) × FindsOutput imp (IsKnownWrong spec imp) (MayBeRight spec imp) found) ⊎ MayBeRightEverywhere spec imp
  known_or_none spec imp kept cases = output_or_none imp (IsKnownWrong spec imp) (MayBeRight spec imp) kept apart cases
    where
      clash : (value : Option Bool) (wanted : Bool) → (bit : Bool) × (value ≡ Some bit) × (wanted ≢ bit) → IfSome value (λ bit. wanted ≡ bit) → ⊥
      clash None wanted wrong right = let never = wrong.1 in cc
      clash (Some bit) wanted wrong right = wrong.2 (right ∙ (let same = wrong.1 in cc))

      apart : (y : List Bool) (j : ℕ) → IsKnownWrong spec imp y j → MayBeRight spec imp y j → ⊥
      apart y j wrong right = clash (tern_of (tern imp y) (slice_index imp.outs j)) (wanted_bit spec y j) wrong right

  pub always_or_none : (spec imp : Netlist) → IsNetlist imp → ((x : List Bool) (j : ℕ) → IsAlwaysWrong spec imp x j ⊎ IsSometimesRight spec imp x j)
      → ((found : Found) × FindsOutput imp (IsAlwaysWrong spec imp) (IsSometimesRight spec imp) found) ⊎ EachSometimesRight spec imp
  always_or_none spec imp kept cases = output_or_none imp (IsAlwaysWrong spec imp) (IsSometimesRight spec imp) kept (λ y j wrong right. wrong right.0 right.1 right.2) cases

  pub all_or_none : (spec imp : Netlist) → IsNetlist imp → ((x : List Bool) → AlwaysSomeWrongAt spec imp x ⊎ ((z : List Bool) × AreBoxOutputs imp z × AllRight spec imp x (flat imp x z)))
      → ((found : Found) × FindsVector imp (AlwaysSomeWrongAt spec imp) found) ⊎ AllRightTogether spec imp
  all_or_none spec imp kept cases = elim (vector_or_none imp (AlwaysSomeWrongAt spec imp) (λ x. (z : List Bool) × AreBoxOutputs imp z × AllRight spec imp x (flat imp x z))
      (λ y wrong right. (let w = wrong right.0 right.1 in w.2 (right.2 w.0 w.1))) cases) [
        | inl one ↦ let f = written imp None one.0 kept one.1.vector in inl (f.0, (f.1, subst (IsLeastVector imp (AlwaysSomeWrongAt spec imp)) (sym f.2) one.1))
        | inr none ↦ inr none
      ]
