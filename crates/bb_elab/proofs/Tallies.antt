-- Lists of numbers counted piece by piece.
use Rattle.std.proofs.Common.{if◌then◌else◌, ◌≡◌, ◌+◌, ◌<◌, ◌++◌, ℕ, zero, suc, Bool, true, false, List, [], ◌∷◌, map, length, take, drop, get_or, All, Some, refl, sym, ap, ◌∙◌, subst, arith, append-nil, append_assoc, true≢false}
use Rattle.std.specs.Prelude.{◌==◌, min, replicate, slice_get}
use Rattle.std.specs.List.{filter, flat_map}
use Rattle.std.proofs.lemmas.Bool.Decides.{nat_tests}
use Rattle.std.proofs.lemmas.Grind.{flat_map-append}
use Rattle.std.proofs.lemmas.List.{map-append, take_all, drop_all}
use Rattle.std.proofs.lemmas.List.Elements.{All-contains}
use Rattle.bb_design.specs.Hierarchy.{Design}
use Rattle.bb_design.specs.NetBits.{Bit, same_bit, net_order}
use Rattle.bb_design.specs.Drivers.{driven_bits}
use Rattle.bb_elab.specs.Inside.DrivenNumbers.{IsTally, times, AreCounts}
use Rattle.bb_bits.specs.Inside.Places.{AreAt}
use Rattle.bb_lemmas.proofs.Places.{got, some_same}
use Rattle.bb_lemmas.proofs.Members.{all_from, into_flat}
use Rattle.bb_lemmas.proofs.Apart.{one_place}
use Rattle.bb_bits.specs.Closures.{IsDistinct}
use Rattle.bb_lemmas.proofs.Turns.{item_there, prefix_more}
use Rattle.bb_design.specs.Laws.DesignLaws.{DesignLaws}

-- these numbers have been counted besides
abbrev pub TalliesMore : List ℕ → List ℕ → List ℕ → Type 0
TalliesMore old new more = (numbers : List ℕ) → IsTally numbers old → IsTally (numbers ++ more) new

pub tally_more : (a b c : List ℕ) (xs ys zs : List ℕ) → TalliesMore a b xs → TalliesMore b c ys → zs ≡ xs ++ ys → TalliesMore a c zs
tally_more a b c xs ys zs first second same numbers was =
    subst (λ l. IsTally l c) (append_assoc numbers xs ys ∙ ap (λ l. numbers ++ l) (sym same)) (second (numbers ++ xs) (first numbers was))

pub tally_whole : {A : Type 0} (f : List A → List ℕ) (xs : List A) (k : ℕ) (a b : List ℕ) → take k xs ≡ xs → TalliesMore a b (f (take k xs)) → TalliesMore a b (f xs)
tally_whole f xs k a b all counted = subst (λ l. TalliesMore a b (f l)) all counted

module _ {A : Type 0} (xs : List A) (k : ℕ) (x : A) (lt : k < length xs) (at : x ≡ get_or xs k x) where
  pub flat_more : {B : Type 0} (f : A → List B) → flat_map f (take (k + 1) xs) ≡ flat_map f (take k xs) ++ f x
  flat_more f = ap (flat_map f) (prefix_more xs k x lt at) ∙ flat_map-append f (take k xs) (x ∷ []) ∙ ap (λ l. flat_map f (take k xs) ++ l) (append-nil (f x))

  pub map_more : {B : Type 0} (f : A → B) → map f (take (k + 1) xs) ≡ map f (take k xs) ++ f x ∷ []
  map_more f = ap (map f) (prefix_more xs k x lt at) ∙ map-append f (take k xs) (x ∷ [])

  -- what holds of all that is made holds of what is made of one
  pub all_of_one : {B : Type 0} (P : B → Type 0) (f : A → List B) → All P (flat_map f xs) → All P (f x)
  all_of_one P f all = all_from P (f x) (λ y has. All-contains P (flat_map f xs) y all (into_flat f xs x y (item_there xs k x lt at) has))

-- what has been written is there
pub written_back : {A : Type 0} (n : ℕ) (old new : List A) → length new ≡ length old → n ≡ length old → take n (new ++ drop (length new) old) ≡ new
written_back n old new long is = ap (λ l. take n (new ++ l)) (drop_all (length new) old (omega (arith, long))) ∙ ap (take n) (append-nil new) ∙ take_all n new (omega (arith, long, is))

pub none_counted : (counts : List ℕ) (n : ℕ) → counts ≡ replicate n 0 → IsTally [] counts
none_counted counts n is k lt = ap (λ l. get_or l k 0) is ∙ zeros n k
  where
    zeros : (n k : ℕ) → get_or {A = ℕ} (replicate n 0) k 0 ≡ 0
    zeros zero k = refl
    zeros (suc n) zero = refl
    zeros (suc n) (suc k) = zeros n k

pub not_same : (n k : ℕ) → n ≡ k → (n == k) ≡ false → ⊥
not_same n k same e = grind (arith, nat_tests, same, e)

-- bits that are at one place each are counted at their numbers
module _ (of_designs : DesignLaws) (all : List Bit) (distinct : IsDistinct all) where
  pub test_same : (k n : ℕ) (b x : Bit) → slice_get all k ≡ Some b → slice_get all n ≡ Some x → (n == k) ≡ same_bit b x
  test_same k n b x at here = by (n == k) refl (same_bit b x) refl
    where
      by : (t : Bool) → (n == k) ≡ t → (u : Bool) → same_bit b x ≡ u → (n == k) ≡ same_bit b x
      by true e true f = e ∙ sym f
      by false e false f = e ∙ sym f
      by true e false f =
          let same : n ≡ k = grind (arith, nat_tests, e) in
          let bits : b ≡ x = some_same b x (sym at ∙ ap (slice_get all) (sym same) ∙ here) in
          absurd (true≢false (sym (((of_designs.distinguished b b).1 refl)) ∙ ap (same_bit b) bits ∙ f))
      by false e true f =
          let bits : b ≡ x = (of_designs.distinguished b x).0 f in
          let same : n ≡ k = one_place all distinct n k x here (at ∙ ap Some bits) in
          absurd (not_same n k same e)

  pub times_same : (k : ℕ) (b : Bit) → slice_get all k ≡ Some b → (ns : List ℕ) (xs : List Bit) → AreAt all ns xs → times k ns ≡ length (filter (same_bit b) xs)
  times_same k b at [] [] are = refl
  times_same k b at [] (x ∷ xs) are = cc
  times_same k b at (n ∷ ns) [] are = cc
  times_same k b at (n ∷ ns) (x ∷ xs) are =
      let here : slice_get all n ≡ Some x = ap (λ l. get_or l 0 (slice_get all n)) are in
      let rest = times_same k b at ns xs (ap (drop 1) are) in
      longer (n == k) (same_bit b x) (test_same k n b x at here) rest
    where
      longer : (t u : Bool) → t ≡ u → times k ns ≡ length (filter (same_bit b) xs) → length (if t then n ∷ filter (λ m. m == k) ns else filter (λ m. m == k) ns) ≡ length (if u then x ∷ filter (same_bit b) xs else filter (same_bit b) xs)
      longer true true e rest = ap suc rest
      longer false false e rest = rest
      longer true false e rest = absurd (true≢false e)
      longer false true e rest = absurd (true≢false (sym e))

module _ (of_designs : DesignLaws) where
  pub counts_reported : (d : Design) (counts numbers : List ℕ) → IsDistinct (net_order d) → AreAt (net_order d) numbers (driven_bits d) → length counts ≡ length (net_order d) → IsTally numbers counts → AreCounts d counts
  counts_reported d counts numbers distinct at long tally = record {
    count = long;
    each = λ k b here. tally k (omega (arith, (got (net_order d) k b b here).0, long)) ∙ ap (min 2) (times_same of_designs (net_order d) distinct k b here numbers (driven_bits d) at);
  }
