-- rows as least points
use Rattle.std.proofs.Common.{◌≡◌, ◌<◌, ◌≤◌, ℕ, ◌+◌, Bool, true, false, List, length, take, drop, refl, sym, ap, ◌∙◌, subst, subst₂, inl, inr, arith, length-take}
use Rattle.std.proofs.lemmas.Bool.{cases_lt}
use Rattle.bb_bits.specs.Numbers.{number_of, bits_of}
use Rattle.bb_bits.specs.Tables.{TableBits, row_of}
use Rattle.bb_bits.specs.Truth.{Truth}
use Rattle.bb_quant.specs.Inside.LeastPoints.{IsLeastPoint}
use Rattle.bb_input.specs.Inside.Rows.{IsLeastRow, HasLeastRows}

pub yes : (b : Bool) → (b ≡ false → ⊥) → b ≡ true
yes true h = refl
yes false h = absurd (h refl)

pub least_row : (n k m : ℕ) (t : Truth) (old new : List Bool) → length old ≡ n → k ≤ n → IsLeastPoint t false k old new → IsLeastRow n t m (take k old) (take m (drop k new))
least_row n k m t old new e l least =
    let long : length (take k old) ≡ k = omega (arith, length-take k old, e, l) in
    let own : IsLeastPoint t false k new new = record { begins = (refl, refl); bit = least.bit; least = λ q h zero. least.least q (h.0 ∙ least.begins.0, h.1 ∙ least.begins.1) zero } in
    record {
      point = new;
      whole = least.begins.0 ∙ e;
      begins = ap (λ j. take j new) long ∙ least.begins.1;
      least = subst (λ j. IsLeastPoint t false j new new) (sym long) own;
      row = ap (λ j. take m (drop j new)) (sym long);
    }

-- one more row
pub rows_more : ((bits : List Bool) → bits_of (length bits) (number_of bits) ≡ bits) → (n : ℕ) (t : Truth) (old new : TableBits) (row : ℕ) (first : List Bool) → new.inputs ≡ old.inputs → new.outputs ≡ old.outputs → HasLeastRows n t old row →
    length first ≡ new.inputs → number_of first ≡ row → IsLeastRow n t new.outputs first (row_of new row) → ((other : ℕ) → other < row → row_of new other ≡ row_of old other) → HasLeastRows n t new (row + 1)
rows_more spelled n t old new row first inputs outputs so_far long number here others ins width below =
    elim (cases_lt (number_of ins) row) [
      | inl before ↦ subst₂ (λ m outs. IsLeastRow n t m ins outs) (sym outputs) (sym (others (number_of ins) before)) (so_far ins (width ∙ inputs) before)
      | inr after ↦
          let e : number_of ins ≡ row = omega (arith, below, after) in
          let same : ins ≡ first = sym (spelled ins) ∙ (ap (λ k. bits_of k (number_of ins)) (width ∙ sym long) ∙ (ap (bits_of (length first)) (e ∙ sym number) ∙ spelled first)) in
          subst₂ (λ (is : List Bool) k. IsLeastRow n t new.outputs is (row_of new k)) (sym same) (sym e) here
    ]
