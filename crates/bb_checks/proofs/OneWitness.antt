-- What a check finds of a pair is one: the first pattern, the least vector, and the first output that is wrong there.
use Rattle.std.proofs.Common.{◌≡◌, ◌<◌, ℕ, Bool, List, [], ◌∷◌, ◌++◌, Contains, drop, get_or, length, inl, inr, refl, sym, ap, ap₂, subst, ◌∙◌, arith}
use Rattle.std.specs.Prelude.{Some}
use Rattle.std.proofs.lemmas.Bool.{cases_order}
use Rattle.std.proofs.lemmas.List.Elements.{Contains-append_right}
use Rattle.bb_bits.specs.Numbers.{number_of, bits_of}
use Rattle.bb_net.specs.Equivalence.{IsOutput}
use Rattle.bb_net.specs.Conditions.{IsFirstHit, IsKnownWrong}
use Rattle.bb_net.specs.Netlists.{Netlist}
use Rattle.bb_net.specs.Pairs.{NetPair}
use Rattle.bb_sym.specs.declared.found.Found.{Found}
use Rattle.bb_sym.specs.Finds.{IsLeastVector, IsFirstFound}
use Rattle.bb_checks.specs.Rungs.{IsFirstOf, IsLeastOf}
use Rattle.bb_checks.proofs.StayLaw.{known_not_right}

-- the law on which this rests: bits are spelled by their number
abbrev pub NumbersFixBits : Type 0
NumbersFixBits = (bits : List Bool) → bits_of (length bits) (number_of bits) ≡ bits

-- the same output and the same vector
pub record AreSameFound (found other : Found) : Type 0 where
  pub output : found.output ≡ other.output
  pub input : found.input.items ≡ other.input.items

-- the first of which something holds is one
first_of_all : {X : Type 0} (P : X → Type 0) (before other after rest : List X) (x y : X) → before ++ x ∷ after ≡ other ++ y ∷ rest
    → ((z : X) → Contains before z → P z → ⊥) → ((z : X) → Contains other z → P z → ⊥) → P x → P y → x ≡ y
first_of_all P [] [] after rest x y same none lack px py = ap (λ l. get_or l 0 x) same
first_of_all P [] (w ∷ other) after rest x y same none lack px py = absurd (lack w (0, omega arith, refl) (subst P (ap (λ l. get_or l 0 x) same) px))
first_of_all P (z ∷ before) [] after rest x y same none lack px py = absurd (none z (0, omega arith, refl) (subst P (sym (ap (λ l. get_or l 0 z) same)) py))
first_of_all P (z ∷ before) (w ∷ other) after rest x y same none lack px py =
    first_of_all P before other after rest x y (ap (drop 1) same) (λ v has. none v (Contains-append_right (z ∷ []) before v has)) (λ v has. lack v (Contains-append_right (w ∷ []) other v has)) px py

-- of two outputs neither of which is before the other
same_output : (j k : ℕ) → (j < k → ⊥) → (k < j → ⊥) → j ≡ k
same_output j k up down = elim (cases_order j k) [
  | inl same ↦ same
  | inr (inl less) ↦ absurd (up less)
  | inr (inr less) ↦ absurd (down less)
]

module _ (spec imp : Netlist) where
  hit_vector : (patterns : List (List Bool)) (x y : List Bool) (j k : ℕ) → IsFirstHit spec imp patterns x j → IsFirstHit spec imp patterns y k → x ≡ y
  hit_vector patterns x y j k a b = first_of_all (λ z. (i : ℕ) × IsOutput imp i × IsKnownWrong spec imp z i) a.before b.before a.after b.after x y (sym a.occurs ∙ b.occurs)
      (λ z has (i, there, wrong). known_not_right spec imp z i wrong (a.earlier z has i there)) (λ z has (i, there, wrong). known_not_right spec imp z i wrong (b.earlier z has i there))
      (j, a.there, a.wrong) (k, b.there, b.wrong)

  hit_output : (patterns : List (List Bool)) (x y : List Bool) (j k : ℕ) → IsFirstHit spec imp patterns x j → IsFirstHit spec imp patterns y k → x ≡ y → j ≡ k
  hit_output patterns x y j k a b same = same_output j k
      (λ less. known_not_right spec imp y j (subst (λ z. IsKnownWrong spec imp z j) same a.wrong) (b.first j less))
      (λ less. known_not_right spec imp x k (subst (λ z. IsKnownWrong spec imp z k) (sym same) b.wrong) (a.first k less))

  pub one_hit : (patterns : List (List Bool)) (found other : Found) (j k : ℕ) → found.output ≡ Some j → other.output ≡ Some k
      → IsFirstHit spec imp patterns found.input.items j → IsFirstHit spec imp patterns other.input.items k → AreSameFound found other
  one_hit patterns found other j k is be a b =
      let same = hit_vector patterns _ _ j k a b in
      record { output = is ∙ ap Some (hit_output patterns _ _ j k a b same) ∙ sym be; input = same }

module _ (once : NumbersFixBits) where
  least_vector : (imp : Netlist) (P : List Bool → Type 0) (x y : List Bool) → IsLeastVector imp P x → IsLeastVector imp P y → x ≡ y
  least_vector imp P x y a b =
      sym (once x) ∙ ap₂ bits_of (a.vector ∙ sym b.vector) (omega (arith, a.least y b.vector b.holds, b.least x a.vector a.holds)) ∙ once y

  first_output : (imp : Netlist) (P N : List Bool → ℕ → Type 0) → ((x : List Bool) (j : ℕ) → P x j → N x j → ⊥) → (x y : List Bool) (j k : ℕ) → IsFirstFound imp P N x j → IsFirstFound imp P N y k → j ≡ k
  first_output imp P N not_both x y j k a b = same_output j k
      (λ less. not_both x j a.at.holds (b.earlier j less x a.at.vector))
      (λ less. not_both y k b.at.holds (a.earlier k less y b.at.vector))

  pub one_first : (p : NetPair) (P N : List Bool → ℕ → Type 0) → ((x : List Bool) (j : ℕ) → P x j → N x j → ⊥) → (found other : Found) → IsFirstOf p P N found → IsFirstOf p P N other → AreSameFound found other
  one_first p P N not_both found other (j, is, a) (k, be, b) =
      let same = first_output p.imp P N not_both _ _ j k a b in
      record {
        output = is ∙ ap Some same ∙ sym be;
        input = least_vector p.imp (λ y. P y k) _ _ (subst (λ i. IsLeastVector p.imp (λ y. P y i) found.input.items) same a.at) b.at;
      }

  pub one_least : (p : NetPair) (found other : Found) → IsLeastOf p found → IsLeastOf p other → AreSameFound found other
  one_least p found other (is, a) (be, b) = record { output = is ∙ sym be; input = least_vector p.imp _ _ _ a b }
