-- what a check that quantifies the output pins finds, as a condition on vectors
use Rattle.std.proofs.Common.{◌≡◌, ◌≢◌, ◌<◌, ℕ, zero, suc, Bool, true, false, List, [], ◌∷◌, ◌++◌, length, take, drop, refl, sym, ap, ap₂, ◌∙◌, subst, subst₂, arith, append-nil, slice_index}
use Rattle.bb_bits.specs.Bits.{xor}
use Rattle.bb_bits.specs.Laws.TruthLaws.{QuantifierLaws}
use Rattle.bb_net.specs.Netlists.{Netlist}
use Rattle.bb_net.specs.Values.{bit_of, flat, output_pins}
use Rattle.bb_net.specs.Equivalence.{IsVector, out_bit, wanted_bit}
use Rattle.bb_net.specs.Conditions.{IsAlwaysWrong, EachSometimesRight}
use Rattle.bb_uniq.specs.declared.store.Ref.{Ref}
use Rattle.bb_uniq.specs.Inside.Nodes.{NodeStore}
use Rattle.bb_uniq.specs.Inside.Meaning.{truth_of}
use Rattle.bb_quant.specs.Inside.LeastPoints.{IsLeastPoint}
use Rattle.bb_sym.specs.Functions.{is_wrong, always_wrong, inputs_and_pins}
use Rattle.bb_sym.specs.Finds.{IsLeastVector, IsFirstFound, IsSometimesRight}
use Rattle.bb_sym.specs.Inside.Made.{IsNowhereTrue, RepresentAll, ref_at}
use Rattle.bb_sym.proofs.LeastVectors.{least_inputs, one_of_none}

prefix : (x w : List Bool) (n : ℕ) → length x ≡ n → take n (x ++ w) ≡ x
prefix [] w zero e = refl
prefix [] w (suc n) e = absurd (omega (arith, e))
prefix (b ∷ x) w zero e = absurd (omega (arith, e))
prefix (b ∷ x) w (suc n) e = ap (λ (y : List Bool). b ∷ y) (prefix x w n (omega (arith, e)))

after : (x w : List Bool) (n : ℕ) → length x ≡ n → drop n (x ++ w) ≡ w
after [] w zero e = refl
after [] w (suc n) e = absurd (omega (arith, e))
after (b ∷ x) w zero e = absurd (omega (arith, e))
after (b ∷ x) w (suc n) e = after x w n (omega (arith, e))

-- at inputs and pins, the function of an output says whether it is wrong
pub wrong_bit : (spec imp : Netlist) (j : ℕ) (x z : List Bool) → length x ≡ imp.inputs → is_wrong spec imp j (x ++ (z ++ [])) ≡ xor (wanted_bit spec x j) (out_bit imp (flat imp x z) j)
wrong_bit spec imp j x z e =
    let first = prefix x (z ++ []) imp.inputs e in
    let rest = after x (z ++ []) imp.inputs e ∙ append-nil z in
    ap₂ xor (ap (λ y. bit_of (flat spec y []) (slice_index spec.outs j)) first) (ap₂ (λ y w. bit_of (flat imp y w) (slice_index imp.outs j)) first rest)

pub xor_differ : (a b : Bool) → xor a b ≡ true → b ≢ a
xor_differ true true e f = let g : false ≡ true = e in cc
xor_differ false false e f = let g : false ≡ true = e in cc
xor_differ true false e f = let g : false ≡ true = f in cc
xor_differ false true e f = let g : true ≡ false = f in cc

pub differ_xor : (a b : Bool) → (b ≢ a) → xor a b ≡ true
differ_xor true true h = absurd (h refl)
differ_xor false false h = absurd (h refl)
differ_xor true false h = refl
differ_xor false true h = refl

pub xor_same : (a b : Bool) → xor a b ≡ false → b ≡ a
xor_same true true e = refl
xor_same false false e = refl
xor_same true false e = sym e
xor_same false true e = e

module _ (laws : QuantifierLaws) (spec imp : Netlist) where
  -- of one output
  pub least_wrong : (j : ℕ) (old p : List Bool) → length old ≡ inputs_and_pins imp → IsLeastPoint (always_wrong spec imp j) true 0 old p → IsLeastVector imp (λ x. IsAlwaysWrong spec imp x j) (take imp.inputs p)
  least_wrong j old p long =
      least_inputs laws imp.inputs (output_pins imp.boxes) (is_wrong spec imp j) imp refl (λ x. IsAlwaysWrong spec imp x j)
      (λ x e all z l. xor_differ (wanted_bit spec x j) (out_bit imp (flat imp x z) j) (sym (wrong_bit spec imp j x z e) ∙ all z l))
      (λ x e wrong z l. wrong_bit spec imp j x z e ∙ differ_xor (wanted_bit spec x j) (out_bit imp (flat imp x z) j) (wrong z l))
      old p long

  pub sometimes_right : (j : ℕ) → IsNowhereTrue (inputs_and_pins imp) (always_wrong spec imp j) → (x : List Bool) → IsVector imp x → IsSometimesRight spec imp x j
  sometimes_right j none x e =
      let found = one_of_none laws imp.inputs (output_pins imp.boxes) (is_wrong spec imp j) none x e in
      (found.0, found.1, xor_same (wanted_bit spec x j) (out_bit imp (flat imp x found.0) j) (sym (wrong_bit spec imp j x found.0 e) ∙ found.2))

  table_at : (s : NodeStore) (refs : List Ref) (j : ℕ) → s.vars ≡ inputs_and_pins imp → RepresentAll s (always_wrong spec imp) refs → j < length refs → IsNowhereTrue s.vars (truth_of s (ref_at refs j).0) → IsNowhereTrue (inputs_and_pins imp) (always_wrong spec imp j)
  table_at s refs j e occur l none = subst₂ IsNowhereTrue e (occur j l).table none

  -- the first output of which there is a vector
  pub first_wrong : (s : NodeStore) (refs : List Ref) (old p found : List Bool) (j : ℕ) → s.vars ≡ inputs_and_pins imp → length refs ≡ length imp.outs → RepresentAll s (always_wrong spec imp) refs → length old ≡ s.vars → j < length refs →
      IsLeastPoint (truth_of s (ref_at refs j).0) true 0 old p → ((i : ℕ) → i < j → IsNowhereTrue s.vars (truth_of s (ref_at refs i).0)) → found ≡ take imp.inputs p → IsFirstFound imp (IsAlwaysWrong spec imp) (IsSometimesRight spec imp) found j
  first_wrong s refs old p found j e count occur long l least none is = record {
    there = omega (arith, l, count);
    at = subst (IsLeastVector imp (λ x. IsAlwaysWrong spec imp x j)) (sym is) (least_wrong j old p (long ∙ e) (subst (λ t. IsLeastPoint t true 0 old p) (occur j l).table least));
    earlier = λ i before y vector. sometimes_right i (table_at s refs i e occur (omega (arith, before, l)) (none i before)) y vector;
  }

  pub none_wrong : (s : NodeStore) (refs : List Ref) → s.vars ≡ inputs_and_pins imp → length refs ≡ length imp.outs → RepresentAll s (always_wrong spec imp) refs → ((i : ℕ) → i < length refs → IsNowhereTrue s.vars (truth_of s (ref_at refs i).0)) → EachSometimesRight spec imp
  none_wrong s refs e count occur none x vector j there =
      let l : j < length refs = omega (arith, there, count) in
      sometimes_right j (table_at s refs j e occur l (none j l)) x vector
