-- what the disjunction of the wrong outputs finds
use Rattle.std.proofs.Common.{◌≡◌, ◌<◌, ℕ, zero, suc, ◌+◌, Bool, true, false, ◌||◌, List, [], ◌++◌, length, refl, sym, ap, ◌∙◌, arith, take}
use Rattle.std.specs.List.{list_any, range_with_len}
use Rattle.std.proofs.lemmas.List.FromFn.{length-range_with_len, get_or-range_with_len}
use Rattle.std.proofs.lemmas.List.Folds.{list_any_at}
use Rattle.bb_lemmas.proofs.Bits.{not_true, never_both}
use Rattle.bb_bits.specs.Laws.TruthLaws.{QuantifierLaws}
use Rattle.bb_net.specs.Netlists.{Netlist}
use Rattle.bb_net.specs.Values.{flat, output_pins}
use Rattle.bb_net.specs.Equivalence.{wanted_bit, out_bit}
use Rattle.bb_net.specs.Conditions.{AlwaysSomeWrongAt, AllRightTogether}
use Rattle.bb_quant.specs.Inside.LeastPoints.{IsLeastPoint}
use Rattle.bb_sym.specs.Functions.{is_wrong, some_wrong, all_always_wrong, inputs_and_pins}
use Rattle.bb_sym.specs.Finds.{IsLeastVector}
use Rattle.bb_sym.specs.Inside.Made.{IsNowhereTrue}
use Rattle.bb_sym.proofs.LeastVectors.{least_inputs, one_of_none}
use Rattle.bb_sym.proofs.WrongOutputs.{wrong_bit, xor_differ, differ_xor, xor_same}

here : (p : ℕ → Bool) (a n : ℕ) (b : Bool) → p a ≡ b → b || list_any p (range_with_len (a + 1) n) ≡ true → (list_any p (range_with_len (a + 1) n) ≡ true → (j : ℕ) × (j < a + 1 + n) × (p j ≡ true)) → (j : ℕ) × (j < a + suc n) × (p j ≡ true)
here p a n true is e rest = (a, omega arith, is)
here p a n false is e rest = let found = rest e in (found.0, omega (arith, found.1), found.2)

pub any_there : (p : ℕ → Bool) (a n : ℕ) → list_any p (range_with_len a n) ≡ true → (j : ℕ) × (j < a + n) × (p j ≡ true)
any_there p a zero e = absurd (let f : false ≡ true = e in cc)
any_there p a (suc n) e = here p a n (p a) refl e (λ h. any_there p (a + 1) n h)

pub any_of : (p : ℕ → Bool) (n j : ℕ) → j < n → p j ≡ true → list_any p (range_with_len 0 n) ≡ true
any_of p n j l h =
    let whole = length-range_with_len 0 n in
    list_any_at p (range_with_len 0 n) j 0 (omega (arith, l, whole)) (ap p (get_or-range_with_len 0 n j 0 l ∙ (let e : 0 + j ≡ j = omega arith in e)) ∙ h)

pub none_of : (p : ℕ → Bool) (n j : ℕ) → j < n → list_any p (range_with_len 0 n) ≡ false → p j ≡ false
none_of p n j l e = not_true (p j) (λ h. never_both (list_any p (range_with_len 0 n)) (any_of p n j l h) e)

module _ (laws : QuantifierLaws) (spec imp : Netlist) where
  pub least_some : (old p : List Bool) → length old ≡ inputs_and_pins imp → IsLeastPoint (all_always_wrong spec imp) true 0 old p → IsLeastVector imp (AlwaysSomeWrongAt spec imp) (take imp.inputs p)
  least_some old p long =
      least_inputs laws imp.inputs (output_pins imp.boxes) (some_wrong spec imp (length imp.outs)) imp refl (AlwaysSomeWrongAt spec imp)
      (λ x e all z l.
      let found = any_there (λ j. is_wrong spec imp j (x ++ (z ++ []))) 0 (length imp.outs) (all z l) in
      (found.0, omega (arith, found.1), xor_differ (wanted_bit spec x found.0) (out_bit imp (flat imp x z) found.0) (sym (wrong_bit spec imp found.0 x z e) ∙ found.2)))
      (λ x e some z l.
      let w = some z l in
      any_of (λ j. is_wrong spec imp j (x ++ (z ++ []))) (length imp.outs) w.0 w.1 (wrong_bit spec imp w.0 x z e ∙ differ_xor (wanted_bit spec x w.0) (out_bit imp (flat imp x z) w.0) w.2))
      old p long

  pub all_right : IsNowhereTrue (inputs_and_pins imp) (all_always_wrong spec imp) → AllRightTogether spec imp
  all_right none x e =
      let found = one_of_none laws imp.inputs (output_pins imp.boxes) (some_wrong spec imp (length imp.outs)) none x e in (
        found.0,
        found.1,
        λ j there. xor_same (wanted_bit spec x j) (out_bit imp (flat imp x found.0) j)
            (sym (wrong_bit spec imp j x found.0 e) ∙ none_of (λ k. is_wrong spec imp k (x ++ (found.0 ++ []))) (length imp.outs) j there found.2),
      )
